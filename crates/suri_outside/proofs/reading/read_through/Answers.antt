use Rattle.std.proofs.Common.{length, arith, ◌∙◌}
use Rattle.std.proofs.KnownBytes.{Consumes-trans}
use Rattle.std.proofs.lemmas.Grind.{common_steps}
use Rattle.std.specs.Io.KnownBytes.{Consumes}
use Rattle.suri_outside.proofs.Streams.{all_came, gave_more, more_than_came}
use Rattle.suri_outside.proofs.reading.read_through.Goals as goal

pub returns-then-count-eq0-clause-whole : goal.returns-then-count-eq0-clause-whole
returns-then-count-eq0-clause-whole g c =
    all_came _ _ _ c.loop-count.bytes.items c.read.new.into c.in-Ok.count c.loop-count.invariant.came c.in-Ok.ensures.bytes c.if-count-eq0.true (grind (arith, common_steps))

pub returns-then-len-limit-clause-above : goal.returns-then-len-limit-clause-above
returns-then-len-limit-clause-above g c = λ _.
    let came : Consumes (g.S.Source.left c.args.source.now) (g.S.Source.left c.read.new.self) c.extend_from_slice.new.self.items =
    rw c.in_ok-extend_from_slice.ensures.items (Consumes-trans _ _ _ _ _ c.loop-count.invariant.came c.in-Ok.ensures.bytes.0) in
    more_than_came _ (g.S.Source.left c.read.new.self) c.extend_from_slice.new.self.items c.args.limit came (grind (arith, common_steps))

pub loop-count-preserved : goal.loop-count-preserved
loop-count-preserved g c = record {
  fits = grind (arith, common_steps);
  came = rw c.in_ok-extend_from_slice.ensures.items (Consumes-trans _ _ _ _ _ c.loop-count.invariant.came c.in-Ok.ensures.bytes.0);
  quiet = c.in-Ok.ensures.cause.quiet ∙ c.loop-count.invariant.quiet;
}

pub returns-in_err-extend_from_slice-clause-stops : goal.returns-in_err-extend_from_slice-clause-stops
returns-in_err-extend_from_slice-clause-stops g c =
    gave_more _ _ _ c.loop-count.bytes.items c.read.new.into c.in-Ok.count c.args.limit (length c.args.buffer.now) c.loop-count.invariant.came c.in-Ok.ensures.bytes.0
    (grind (arith, common_steps)) (grind (arith, common_steps))
