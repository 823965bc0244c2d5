use Rattle.std.proofs.Common.{◌≡◌, ◌*◌, ◌<◌, ◌∙◌, Vec, Global, ℕ, List, ap, length, refl, arith}
use Rattle.suri_base.specs.declared.seen.Seen.{Seen}
use Rattle.capture_index.specs.Batches.{taken_among}
use Rattle.capture_index.proofs.Batching.{begins_within, taken_less, taken_more}
use Rattle.capture_index.proofs.Parts.{piece_is}
use Rattle.capture_index.proofs.dealing.taken.Goals.{then-is_taken+in_ok-push, else-is_taken}
use Rattle.capture_index.proofs.dealing.taken.Goals as goal

pub overflow_mul-from : goal.overflow_mul-from
overflow_mul-from c =
    record { fits = omega (arith, begins_within (length c.args.capture.now.frames) c.args.layout.now.round c.args.round c.requires.round, c.count-count.ensures.count, c.count-count.ensures.few) }

pub loop-place-preserved : goal.loop-place-preserved
loop-place-preserved c =
    let from = c.args.round * c.args.layout.now.round in
    let within : c.loop-place.place < length c.args.capture.now.seen = omega (arith, c.loop-place-test.true, c.min-to.ensures, c.count-count.ensures.same) in (
      omega (arith, c.loop-place.invariant.0),
      elim c.if-is_taken.branch [
        | then-is_taken+in_ok-push w ↦
            taken_more c.args.layout.now c.args.worker c.args.capture.now.seen from c.loop-place.place c.is_taken.result c.loop-place.numbers.items c.if-is_taken.numbers.items c.loop-place.invariant.0 within
            c.loop-place.invariant.1 c.is_taken.ensures w.if-is_taken.true (ap (λ (v : Vec ℕ Global). v.items) w.numbers-is ∙ w.in_ok-push.ensures.items)
        | else-is_taken w ↦
            taken_less c.args.layout.now c.args.worker c.args.capture.now.seen from c.loop-place.place c.is_taken.result c.loop-place.numbers.items c.if-is_taken.numbers.items c.loop-place.invariant.0 within
            c.loop-place.invariant.1 c.is_taken.ensures w.if-is_taken.false (ap (λ (v : Vec ℕ Global). v.items) w.numbers-is)
      ],
    )

pub returns : goal.returns
returns c =
    let from = c.args.round * c.args.layout.now.round in
    let begins : from < length c.args.capture.now.seen =
    omega (arith, begins_within (length c.args.capture.now.frames) c.args.layout.now.round c.args.round c.requires.round, c.count-count.ensures.count, c.count-count.ensures.same) in
    let last : c.loop-place.place ≡ c.min-to.result = omega (arith, c.loop-place.auto.place-end, c.loop-place-test.false, begins, c.min-to.ensures, c.saturating_add.ensures, c.count-count.ensures.same) in
    c.loop-place.invariant.1 ∙ ap (λ (l : List Seen). taken_among c.args.layout.now c.args.worker l)
    (piece_is c.args.capture.now.seen c.args.layout.now.round from from c.loop-place.place (λ h. refl) (λ h. absurd (omega (arith, h, begins)))
    (λ h. omega (arith, h, last, c.saturating_add.ensures, c.min-to.ensures, c.count-count.ensures.same, c.count-count.ensures.few)) (λ h. omega (arith, h, last, c.saturating_add.ensures, c.min-to.ensures, c.count-count.ensures.same, c.count-count.ensures.few)))
