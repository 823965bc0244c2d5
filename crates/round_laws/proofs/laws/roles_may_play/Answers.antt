use Rattle.std.proofs.Common.{ℕ, get_or, sym, subst, arith}
use Rattle.role_meets.specs.Parts.{waiting_of}
use Rattle.role_steps.specs.Items.{Items}
use Rattle.role_steps.specs.Roles.{setup_of}
use Rattle.round_laws.proofs.Resting.{may_play, rests_part}
use Rattle.run_laws.specs.RoundEnd.{next_queue}
use Rattle.round_laws.proofs.laws.roles_may_play.Goals as goal

pub returns : goal.returns
returns c = λ s round all e b low k d real.
    may_play s b.laid b.t round b.at low b.puts k (get_or all k d).part (omega (arith, real, b.count))
    (rests_part s b.t k (b.at.acts k) (get_or all k d) (b.rests k d real))
    (λ is. subst (λ (n : ℕ). Items (setup_of s) b.t (next_queue (setup_of s) b.at.hands) (waiting_of (get_or all n d).part)) (sym is) (b.waiting d))
