use Rattle.std.proofs.Common.{◌≡◌, ℕ, get_or, sym, ◌∙◌, subst, arith}
use Rattle.bucket_rules.specs.declared.fixed.Fixed.{Fixed}
use Rattle.flow_bucket.specs.Bucket.{fixed_of}
use Rattle.flow_bucket.specs.Stands.{BucketMay, BucketAnswers}
use Rattle.hist_lock.specs.Locks.{made_with, roles_of}
use Rattle.hist_lock.proofs.Seats.{pushed_length, pushed_all}
use Rattle.lock_rows.specs.Rows.{IsGood, IsFresh}
use Rattle.lock_rows.proofs.Placed.{pairs_length}
use Rattle.run_start.proofs.Beginning.{of_more}
use Rattle.run_start.proofs.buckets.make_buckets.Goals as goal

pub add_lock-requires-clause-rooms : goal.add_lock-requires-clause-rooms
add_lock-requires-clause-rooms c k d below =
    let inv = c.loop-number.invariant in
    let even = pairs_length (λ l q. IsGood fixed_of BucketMay BucketAnswers k l q × IsFresh q) c.loop-number.locks.items _ (inv.3 k d below) in
    let room = inv.5 k d (omega (arith, inv.2, below)) in
    let row = get_or c.loop-number.rows.items k d in
    omega (arith, even, room, row.ok.0, inv.0, c.loop-number-test.true)

pub loop-number-preserved : goal.loop-number-preserved
loop-number-preserved c =
    let inv = c.loop-number.invariant in
    let e = c.in_ok-add_lock.ensures in
    let fixed : ℕ → Fixed = λ b. record { capture = c.args.capture.now; layout = c.args.layout; number = b } in (
      pushed_length _ _ _ _ e.lock.1 inv.0,
      omega (arith, e.room, inv.1),
      e.count,
      e.rows,
      pushed_all (λ m. roles_of m ≡ c.args.roles) _ _ _ e.lock.1 inv.4 e.lock.3,
      λ k d below. let r = e.rooms k d below in let o = inv.5 k d below in omega (arith, r, o),
      of_more (λ b l. fixed_of (made_with l) ≡ fixed b) _ _ _ e.lock.1 inv.6
          (subst (λ (b : ℕ). fixed_of (made_with e.lock.0) ≡ fixed b) (sym inv.0) (e.lock.2 ∙ c.new-bucket.ensures.fixed)),
    )
