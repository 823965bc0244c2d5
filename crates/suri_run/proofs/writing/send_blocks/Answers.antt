use Rattle.std.proofs.Common.{◌++◌, ◌∙◌, [], refl, rules}
use Rattle.std.proofs.KnownBytes.{Appends-nil}
use Rattle.std.proofs.lemmas.Result.{err_from_is_err_and}
use Rattle.std.specs.Slice.Iter.{chunks_rest}
use Rattle.suri_outside.proofs.Fronts.{sent_more}
use Rattle.suri_run.proofs.Sending.{front_of_all, next_text}
use Rattle.suri_run.proofs.writing.send_blocks.Goals as goal

pub loop-block-init : goal.loop-block-init
loop-block-init g c = record {
  next = search rules;
  finite = tt;
  bytes = c.args.gathered.now;
  sent = ([], Appends-nil (g.K.Sink.taken c.args.sink.now), refl);
  rest = search rules;
  quiet = refl;
}

pub loop-block-preserved : goal.loop-block-preserved
loop-block-preserved g c =
    let block = c.in-Some.block.now in
    let before = chunks_rest c.loop-block.block-iterator in
    let behind = chunks_rest c.next.new.self in
    let steps = c.in-Some.ensures.steps in
    record {
      next = search rules;
      finite = tt;
      bytes = c.loop-block.invariant.bytes ++ block;
      sent = sent_more (g.K.Sink.taken c.args.sink.now) (g.K.Sink.taken c.loop-block.sink) (g.K.Sink.taken c.add.new.sink) c.loop-block.gathered c.loop-block.invariant.bytes block c.add.new.self
          c.loop-block.invariant.sent c.in_ok-add.ensures.ok;
      rest = next_text c.loop-block.invariant.bytes block behind before (c.args.gathered.now ++ c.args.text.now) steps.1.0 c.loop-block.invariant.rest;
      quiet = c.in_ok-add.ensures.quiet (λ e. cc) ∙ c.loop-block.invariant.quiet;
    }

pub returns-in_err-add-clause-front : goal.returns-in_err-add-clause-front
returns-in_err-add-clause-front g c =
    let block = c.in-Some.block.now in
    let before = chunks_rest c.loop-block.block-iterator in
    let behind = chunks_rest c.next.new.self in
    let p = err_from_is_err_and c.from_residual.result c.from_residual.ensures.1 in
    rw p.1
    (front_of_all (g.K.Sink.taken c.args.sink.now) (g.K.Sink.taken c.loop-block.sink) (g.K.Sink.taken c.add.new.sink) c.loop-block.gathered c.loop-block.invariant.bytes block behind before
    (c.args.gathered.now ++ c.args.text.now) c.loop-block.invariant.sent c.in-Some.ensures.steps.1.0 c.loop-block.invariant.rest c.in_err-add.ensures.front)
