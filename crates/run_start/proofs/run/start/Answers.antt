use Rattle.std.proofs.Common.{◌+◌, sym, ◌∙◌, arith}
use Rattle.flow_pool.specs.Pool.{FlowPoolMay, FlowPoolAnswers, setting_of}
use Rattle.hist_lock.proofs.Seats.{as_many}
use Rattle.lock_rows.proofs.Goods.{good_new}
use Rattle.segment_pool.specs.Pool.{PoolMay as SegPoolMay, PoolAnswers as SegPoolAnswers, limit_of}
use Rattle.run_start.proofs.run.start.Goals as goal

pub deal-requires-clause-many : goal.deal-requires-clause-many
deal-requires-clause-many c = as_many (λ p. p.role) 0 (c.args.layout.workers + 3) c.in_ok-pool.pool_passes.items c.in_ok-pool.ensures.roles

pub deal-requires-clause-even : goal.deal-requires-clause-even
deal-requires-clause-even c =
    let roles = c.args.layout.workers + 3 in
    let pools = as_many (λ p. p.role) 0 roles c.in_ok-pool.pool_passes.items c.in_ok-pool.ensures.roles in
    let nodes = as_many (λ p. p.role) 0 roles c.in_ok-segments.segment_passes.items c.in_ok-segments.ensures.roles in
    (nodes ∙ sym pools, c.in_ok-buckets.ensures.seats ∙ sym pools)

pub deal-requires-clause-pools : goal.deal-requires-clause-pools
deal-requires-clause-pools c k d below =
    let roles = c.args.layout.workers + 3 in
    let e = c.in_ok-pool.ensures in
    let ps = c.in_ok-pool.pool_passes.items in
    let many = as_many (λ p. p.role) 0 roles ps e.roles in
    good_new setting_of FlowPoolMay FlowPoolAnswers c.in_ok-pool.pool roles k d ps e.roles (omega (arith, many, below)) (e.passes k d below)

pub deal-requires-clause-segments : goal.deal-requires-clause-segments
deal-requires-clause-segments c k d below =
    let roles = c.args.layout.workers + 3 in
    let e = c.in_ok-segments.ensures in
    let ps = c.in_ok-segments.segment_passes.items in
    let many = as_many (λ p. p.role) 0 roles ps e.roles in
    good_new limit_of SegPoolMay SegPoolAnswers c.in_ok-segments.segments roles k d ps e.roles (omega (arith, many, below)) (e.passes k d below)
