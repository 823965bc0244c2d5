use Rattle.std.proofs.Common.{◌≡◌, ℕ, ◌<◌, ◌≤◌, length, take, get_or}
use Rattle.role_meets.specs.declared.roles.Role.{Role}
use Rattle.round_laws.specs.Playing.{hands_in}
use Rattle.run_round.specs.Handing.{IsEmptied}
use Rattle.run_round.proofs.hands.gather.Given as goal

abbrev pub invariant-loop-role : goal.invariant-loop-role
invariant-loop-role l =
    (length l.roles ≡ length l.initial.roles)
    × ((k : ℕ) (d : Role) → l.role-index ≤ k → k < length l.initial.roles → get_or l.roles k d ≡ get_or l.initial.roles k d)
    × ((k : ℕ) (d : Role) → k < l.role-index → IsEmptied (get_or l.initial.roles k d) (get_or l.roles k d))
    × (l.queue.items ≡ hands_in (take l.role-index l.initial.roles))
