use Rattle.std.proofs.Common.{subst, IsTrue}
use Rattle.role_steps.proofs.Finishing.{gave_done, not_true}
use Rattle.role_steps.proofs.finish.give_back.Goals as goal

pub returns : goal.returns
returns g c =
    gave_done c.args.shared.now c.args.passes.now c.call_segments.new.passes c.args.nodes _ (λ e. not_true (subst IsTrue c.if-is_empty.false (c.is_empty.ensures.1 e)))
    c.in_ok-call_segments.ensures
