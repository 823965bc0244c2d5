use Rattle.std.proofs.Common.{subst}
use Rattle.flow_pool.specs.declared.calls.PoolCall.TheVariants as poolcall
use Rattle.flow_pool.specs.declared.calls.PoolReply.{PoolReply}
use Rattle.flow_manager.proofs.Sweeping.{mode_read}
use Rattle.role_steps.specs.Calls.{CalledPool}
use Rattle.flow_manager.proofs.calls.read_mode.Goals as goal

pub returns : goal.returns
returns g c =
    mode_read c.args.shared.now c.args.passes.now c.call_pool.new.passes c.in-On.on c.seen.result
    (subst (λ (r : PoolReply). CalledPool c.args.shared.now c.args.passes.now c.call_pool.new.passes poolcall.Mode r) c.in-On.is c.in_ok-on.ensures) c.seen.ensures
