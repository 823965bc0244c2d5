use Rattle.std.proofs.Common.{◌≡◌, ℕ, ◌<◌, false, get_or}
use Rattle.role_meets.specs.declared.roles.Role.{Role}
use Rattle.run_round.proofs.play.all_well.Given as goal

abbrev pub invariant-loop-role : goal.invariant-loop-role
invariant-loop-role l = (k : ℕ) (d : Role) → k < l.role-index → (get_or l.roles k d).failed ≡ false
