use Rattle.std.proofs.Common.{◌≡◌, ◌++◌, ◌∙◌, [], refl, subst}
use Rattle.std.proofs.KnownBytes.{Appends-nil}
use Rattle.std.proofs.lemmas.Result.{err_from_is_err_and}
use Rattle.suri_outside.specs.Bytes.{TakesAllBut, TakesFront}
use Rattle.suri_outside.proofs.Fronts.{sent_more}
use Rattle.suri_run.proofs.Sending.{front_of_all, item_first, next_text}
use Rattle.suri_run.proofs.writing.send_texts.Goals as goal

pub returns-in_err-add-clause-front : goal.returns-in_err-add-clause-front
returns-in_err-add-clause-front g c =
    let p = err_from_is_err_and c.from_residual.result c.from_residual.ensures.1 in
    let piece = c.text-item.result.items in
    let same : c.deref.result.now ≡ piece = c.deref.ensures.value in
    rw p.1
    (front_of_all (g.K.Sink.taken c.args.sink.now) (g.K.Sink.taken c.loop-text.sink) (g.K.Sink.taken c.add.new.sink) c.loop-text.gathered c.loop-text.invariant.bytes piece _ _ _
    c.loop-text.invariant.sent (item_first (λ t. t.items) c.args.texts.now c.loop-text.text-index c.text-item.result c.loop-text-test.true c.text-item.is) c.loop-text.invariant.rest
    (subst (λ t. TakesFront (g.K.Sink.taken c.loop-text.sink) (g.K.Sink.taken c.add.new.sink) (c.loop-text.gathered ++ t)) same c.in_err-add.ensures.front))

pub loop-text-init : goal.loop-text-init
loop-text-init g c = record {
  bytes = c.args.gathered.now;
  sent = ([], Appends-nil (g.K.Sink.taken c.args.sink.now), refl);
  rest = refl;
  quiet = refl;
}

pub loop-text-preserved : goal.loop-text-preserved
loop-text-preserved g c =
    let piece = c.text-item.result.items in
    let same : c.deref.result.now ≡ piece = c.deref.ensures.value in
    record {
      bytes = c.loop-text.invariant.bytes ++ piece;
      sent = sent_more (g.K.Sink.taken c.args.sink.now) (g.K.Sink.taken c.loop-text.sink) (g.K.Sink.taken c.add.new.sink) c.loop-text.gathered c.loop-text.invariant.bytes piece _
          c.loop-text.invariant.sent (subst (λ t. TakesAllBut (g.K.Sink.taken c.loop-text.sink) (g.K.Sink.taken c.add.new.sink) c.add.new.self (c.loop-text.gathered ++ t)) same c.in_ok-add.ensures.ok);
      rest = next_text c.loop-text.invariant.bytes piece _ _ _ (item_first (λ t. t.items) c.args.texts.now c.loop-text.text-index c.text-item.result c.loop-text-test.true c.text-item.is) c.loop-text.invariant.rest;
      quiet = c.in_ok-add.ensures.quiet (λ e. cc) ∙ c.loop-text.invariant.quiet;
    }
