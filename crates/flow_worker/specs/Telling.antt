-- Which packets were refused.
use Rattle.std.specs.Prelude.{◌≡◌, ℕ, Bool, true, false, List, [], ◌∷◌}
use Rattle.bucket_rules.specs.Own.{awaits, is_fresh, is_refused}
use Rattle.role_steps.specs.Roles.{number_of, seen, setup_of}
use Rattle.role_steps.specs.declared.roles.Shared.{Shared}
use Rattle.role_steps.specs.declared.roles.Worker.{Worker}
use Rattle.run_rules.specs.Histories.{bucket_at}
use Rattle.run_rules.specs.Setup.{bucket_for}
use Rattle.suri_base.specs.declared.entry.BucketNote.{BucketNote}
use Rattle.suri_base.specs.declared.entry.Entry.{Entry}

-- what a history tells of a packet that its role is done with: it was refused; or it wasn't, and will not be, since the role looked it up
-- and waits for it no more
abbrev pub Tells : ℕ → ℕ → List (Entry BucketNote) → Bool → Type 0
Tells role f past true = is_refused f past ≡ true
Tells role f past false = (is_refused f past ≡ false) × (awaits role f past ≡ false) × (is_fresh role f past ≡ false)

-- the same, in what the worker has seen of the packet's bucket
abbrev pub IsTold : Shared → Worker → ℕ → Bool → Type 0
IsTold s k f refused = Tells (number_of k.passes) f (bucket_at (bucket_for (setup_of s) f) (seen k.passes).buckets) refused

-- of the first of these packets, one after another
abbrev pub AreTold : Shared → Worker → List ℕ → List Bool → Type 0
AreTold s k fs [] = Unit {0}
AreTold s k [] (t ∷ ts) = ⊥
AreTold s k (f ∷ fs) (t ∷ ts) = IsTold s k f t × AreTold s k fs ts
