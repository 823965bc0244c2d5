use Rattle.round_laws.specs.Between.{Between}
use Rattle.run_round.proofs.rounds.run_rounds.Given as goal

abbrev pub invariant-loop-number : goal.invariant-loop-number
invariant-loop-number g l = Between l.shared l.number l.roles l.ender
