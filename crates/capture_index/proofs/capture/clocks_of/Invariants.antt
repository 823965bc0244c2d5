use Rattle.capture_index.proofs.Indexed.{Clocked}
use Rattle.capture_index.proofs.capture.clocks_of.Given as goal

abbrev pub invariant-loop-frame : goal.invariant-loop-frame
invariant-loop-frame l = Clocked l.frames l.frame-index l.clock l.clocks.items
