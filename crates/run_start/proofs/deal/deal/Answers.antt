use Rattle.std.proofs.Common.{◌≡◌, ℕ, ◌+◌, [], ◌∷◌, length, refl, ap, ◌∙◌, subst, arith, length-append}
use Rattle.flow_bucket.specs.Bucket.{fixed_of}
use Rattle.flow_bucket.specs.Stands.{BucketMay, BucketAnswers}
use Rattle.flow_pool.specs.Pool.{FlowPoolMay, FlowPoolAnswers, setting_of}
use Rattle.lock_rows.specs.Rows.{Pairs, IsFresh, IsGood}
use Rattle.role_steps.specs.declared.roles.Passes.{Passes}
use Rattle.run_start.specs.Starting.{IsNew}
use Rattle.run_start.proofs.Beginning.{of_front, of_last, of_more, new_role}
use Rattle.segment_pool.specs.Pool.{PoolMay as SegPoolMay, PoolAnswers as SegPoolAnswers, limit_of}
use Rattle.run_start.proofs.deal.deal.Goals as goal

pub loop-pool-preserved : goal.loop-pool-preserved
loop-pool-preserved c =
    let inv = c.loop-pool.invariant in
    let s = c.args.shared.now in
    let pools = c.pop.new.self.items in
    let nodes = c.pop-in-Some.new.self.items in
    let rows = c.pop-in-Some-2.new.self.items in
    let p : Passes = record { pool = c.in-Some.pool; segments = c.in-Some-pop.nodes; buckets = c.in-Some-pop-2.buckets; step = 0 } in
    let pools_is = c.in-Some.ensures.items in
    let nodes_is = c.in-Some-pop.ensures.items in
    let rows_is = c.in-Some-pop-2.ensures.items in
    let new = c.push_reserved.ensures in
    let less : length c.loop-pool.pools.items ≡ length pools + 1 = ap length pools_is ∙ length-append pools (p.pool ∷ []) in
    let less_nodes : length c.loop-pool.segments.items ≡ length nodes + 1 = ap length nodes_is ∙ length-append nodes (p.segments ∷ []) in
    let less_rows : length c.loop-pool.rows.items ≡ length rows + 1 = ap length rows_is ∙ length-append rows (p.buckets ∷ []) in
    let even_nodes : length nodes ≡ length pools = omega (arith, less, less_nodes, inv.0) in
    let even_rows : length rows ≡ length pools = omega (arith, less, less_rows, inv.1) in
    let last_nodes = of_last (λ k q. IsGood limit_of SegPoolMay SegPoolAnswers k s.segments q × IsFresh q) c.loop-pool.segments.items nodes p.segments nodes_is inv.5 in
    let last_row = of_last (λ k r. Pairs (λ l q. IsGood fixed_of BucketMay BucketAnswers k l q × IsFresh q) s.buckets.items r.items) c.loop-pool.rows.items rows p.buckets rows_is inv.6 in
    let one : IsNew s (length pools) p = new_role s (length pools) p
    (of_last (λ k q. IsGood setting_of FlowPoolMay FlowPoolAnswers k s.pool q × IsFresh q) c.loop-pool.pools.items pools p.pool pools_is inv.4)
    (subst (λ (k : ℕ). IsGood limit_of SegPoolMay SegPoolAnswers k s.segments p.segments × IsFresh p.segments) even_nodes last_nodes)
    (subst (λ (k : ℕ). Pairs (λ l q. IsGood fixed_of BucketMay BucketAnswers k l q × IsFresh q) s.buckets.items p.buckets.items) even_rows last_row) refl in (
      even_nodes,
      even_rows,
      omega (arith, less, inv.2, ap length new.items, length-append c.loop-pool.all.items (p ∷ [])),
      omega (arith, new.capacity, inv.3),
      of_front (λ k q. IsGood setting_of FlowPoolMay FlowPoolAnswers k s.pool q × IsFresh q) c.loop-pool.pools.items pools p.pool pools_is inv.4,
      of_front (λ k q. IsGood limit_of SegPoolMay SegPoolAnswers k s.segments q × IsFresh q) c.loop-pool.segments.items nodes p.segments nodes_is inv.5,
      of_front (λ k r. Pairs (λ l q. IsGood fixed_of BucketMay BucketAnswers k l q × IsFresh q) s.buckets.items r.items) c.loop-pool.rows.items rows p.buckets rows_is inv.6,
      of_more (λ k q. (role : ℕ) → k + role + 1 ≡ s.layout.workers + 3 → IsNew s role q) c.loop-pool.all.items c.push_reserved.new.self.items p new.items inv.7
          (λ role at. let same : length pools ≡ role = omega (arith, at, less, inv.2) in subst (λ (r : ℕ). IsNew s r p) same one),
    )
