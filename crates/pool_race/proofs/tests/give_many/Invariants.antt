use Rattle.std.proofs.Common.{◌≡◌, ◌<◌}
use Rattle.std.specs.List.{All}
use Rattle.hist_lock.specs.Locks.{IsPassOf, made_of, role_of}
use Rattle.segment_pool.specs.Pool.{limit_of}
use Rattle.pool_race.proofs.tests.give_many.Given as goal

abbrev pub invariant-loop-step : goal.invariant-loop-step
invariant-loop-step g l = IsPassOf limit_of l.lock l.pass × (role_of l.pass ≡ role_of l.initial.pass) × All (λ e. e.step < l.step) (made_of l.pass)
