use Rattle.std.proofs.Common.{ap}
use Rattle.flow_object.specs.Ending.{EndedFlow}
use Rattle.role_steps.proofs.Finishing.{put_done}
use Rattle.role_steps.proofs.finish.finish_one.Goals as goal

pub returns-clause-finished : goal.returns-clause-finished
returns-clause-finished g c =
    put_done c.args.shared.now c.args.passes.now c.close_out.new.passes c.call_pool.new.passes c.args.ended c.ended.inside.run c.in_ok-obj.obj _
    (ap (λ (f : EndedFlow). f.run) c.ended.view_is) c.in_ok-obj.ensures.acted c.in_ok-call_pool.ensures
