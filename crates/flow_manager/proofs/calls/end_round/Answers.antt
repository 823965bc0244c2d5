use Rattle.flow_manager.proofs.Sweeping.{round_told}
use Rattle.flow_manager.proofs.calls.end_round.Goals as goal

pub returns : goal.returns
returns g c = round_told c.args.shared.now c.args.passes.now c.call_pool.new.passes c.args.round _ c.in_ok-call_pool.ensures
