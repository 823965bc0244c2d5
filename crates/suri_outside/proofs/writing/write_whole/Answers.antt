use Rattle.std.proofs.Common.{arith, inl, subst, ◌∙◌}
use Rattle.std.proofs.KnownBytes.{Appends-trans}
use Rattle.std.proofs.lemmas.Grind.{common_steps}
use Rattle.std.specs.Io.KnownBytes.{Appends}
use Rattle.suri_outside.proofs.Pieces.{take_joined}
use Rattle.suri_outside.proofs.writing.write_whole.Goals as goal

pub loop-written-preserved : goal.loop-written-preserved
loop-written-preserved g c =
    let old = c.loop-written.written in
    let moved = c.in_ok-count.count in
    record {
      within = grind (arith, common_steps);
      taken = subst (Appends (g.K.Sink.taken c.args.sink.now) (g.K.Sink.taken c.write.new.self)) (take_joined c.args.bytes.now old moved)
          (Appends-trans _ _ _ _ _ c.loop-written.invariant.taken c.in_ok-count.ensures.bytes);
      quiet = c.in_ok-count.ensures.cause.quiet (inl (grind (arith, common_steps))) ∙ c.loop-written.invariant.quiet;
    }
