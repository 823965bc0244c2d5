use Rattle.std.proofs.Common.{refl}
use Rattle.role_steps.proofs.Stepping.{on_pool_done}
use Rattle.role_steps.proofs.steps.call_pool.Goals as goal

pub returns-in-Ok : goal.returns-in-Ok
returns-in-Ok g c =
    let e = c.in-Ok.ensures in
    on_pool_done c.args.shared.now c.args.passes.now _ c.args.call c.in-Ok.reply c.requires.fits refl refl refl e.lock e.same e.ok
