use Rattle.std.proofs.Common.{◌≡◌, ◌++◌, refl}
use Rattle.suri_run.proofs.Sending.{item_first, next_text}
use Rattle.suri_run.proofs.summing.tally_texts.Goals as goal

pub loop-text-init : goal.loop-text-init
loop-text-init c = λ text h. (text, h, refl)

pub loop-text-preserved : goal.loop-text-preserved
loop-text-preserved c = λ text h.
    let piece = c.text-item.result.items in
    let d = c.loop-text.invariant text h in
    let same : c.deref.result.now ≡ piece = c.deref.ensures.value in (
      d.0 ++ piece,
      rw same at c.add.ensures d.0 d.1,
      next_text d.0 piece _ _ _ (item_first (λ t. t.items) c.args.texts.now c.loop-text.text-index c.text-item.result c.loop-text-test.true c.text-item.is) d.2,
    )
