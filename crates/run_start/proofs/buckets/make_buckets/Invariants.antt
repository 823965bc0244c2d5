use Rattle.std.proofs.Common.{◌≡◌, ℕ, ◌<◌, ◌≤◌, length, get_or, vec_capacity}
use Rattle.std.specs.List.{All}
use Rattle.flow_bucket.specs.Bucket.{fixed_of}
use Rattle.flow_bucket.specs.Stands.{BucketMay, BucketAnswers}
use Rattle.hist_lock.specs.Locks.{made_with, roles_of}
use Rattle.lock_rows.specs.Rows.{AreNewRows}
use Rattle.run_start.proofs.buckets.make_buckets.Given as goal

-- so many buckets are made, each with its number, and each role has a pass of each; there is room for the others
abbrev pub invariant-loop-number : goal.invariant-loop-number
invariant-loop-number l =
    (length l.locks.items ≡ l.number)
    × (l.layout.rows ≤ vec_capacity l.locks)
    × (length l.rows.items ≡ l.roles)
    × AreNewRows fixed_of BucketMay BucketAnswers l.locks.items l.rows.items
    × All (λ m. roles_of m ≡ l.roles) l.locks.items
    × ((k : ℕ) (d : _) → k < l.roles → l.layout.rows ≤ vec_capacity (get_or l.rows.items k d))
    × ((b : ℕ) (d : _) → b < length l.locks.items → fixed_of (made_with (get_or l.locks.items b d)) ≡ record { capture = l.capture; layout = l.layout; number = b })
