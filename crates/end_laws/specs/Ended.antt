-- A run whose locks have ended: the whole histories, and what each role made of them.
use Rattle.std.specs.Prelude.{◌≡◌, ℕ, zero, suc, ◌<◌, List, [], ◌∷◌, ◌++◌, length, reverse, slice_index_or}
use Rattle.flow_bucket.specs.Bucket.{fixed_of}
use Rattle.flow_bucket.specs.Stands.{BucketMay, BucketAnswers}
use Rattle.flow_object.specs.declared.outcome.FlowLine.{FlowLine}
use Rattle.flow_pool.specs.Pool.{FlowPoolMay, FlowPoolAnswers, setting_of}
use Rattle.lock_rows.specs.Rows.{Pairs, IsWhole, IsOwned}
use Rattle.role_meets.specs.Parts.{lines_of, passes_of, waiting_of}
use Rattle.role_meets.specs.declared.roles.Role.{Role}
use Rattle.role_steps.specs.Items.{LinesOf}
use Rattle.role_steps.specs.Roles.{setup_of}
use Rattle.role_steps.specs.declared.roles.Passes.{Passes}
use Rattle.role_steps.specs.declared.roles.Recycler.{Recycler}
use Rattle.role_steps.specs.declared.roles.Shared.{Shared}
use Rattle.round_laws.specs.Cuts.{IsInRounds}
use Rattle.run_rules.specs.Histories.{Histories}
use Rattle.run_rules.specs.Acts.{Act}
use Rattle.run_rules.specs.Lawful.{AreLawful}
use Rattle.run_rules.specs.Serving.{finished}
use Rattle.run_rules.specs.Setup.{Setup, recycler, roles}
use Rattle.segment_pool.specs.Pool.{PoolMay as SegPoolMay, PoolAnswers as SegPoolAnswers, limit_of}

-- the histories are whole, legal and of known roles alone
pub record AreWhole (s : Shared) (t : Histories) : Type 0 where
  pub pool : IsWhole setting_of FlowPoolMay FlowPoolAnswers s.pool t.pool
  pub segments : IsWhole limit_of SegPoolMay SegPoolAnswers s.segments t.segments
  pub buckets : Pairs (λ l h. IsWhole fixed_of BucketMay BucketAnswers l h) s.buckets.items t.buckets

-- a role's passes have seen a beginning of each, and made all of its entries
pub record AreOwned (role : ℕ) (p : Passes) (t : Histories) : Type 0 where
  pub pool : IsOwned role p.pool t.pool
  pub segments : IsOwned role p.segments t.segments
  pub buckets : Pairs (λ q h. IsOwned role q h) p.buckets.items t.buckets

-- the locks of these roles ended with these histories
pub record HaveAllEnded (s : Shared) (all : List Role) (last : Recycler) (t : Histories) : Type 0 where
  pub whole : AreWhole s t
  pub roles : (k : ℕ) (d : Role) → k < length all → AreOwned k (passes_of (slice_index_or all k d)) t
  pub ender : AreOwned (length all) last.passes t

-- the end role took over what waited for the recycler, and nothing else changed
pub record TookOver (s : Shared) (all : List Role) (old new : Recycler) : Type 0 where
  pub passes : new.passes ≡ old.passes
  pub waiting : (d : Role) → new.waiting.items ≡ waiting_of (slice_index_or all (recycler (setup_of s)) d).part
  pub lines : new.lines.items ≡ old.lines.items

-- all lines: of the roles of the rounds in their order, and then those of the end role
abbrev pub lines_in : List Role → List FlowLine
lines_in [] = []
lines_in (r ∷ rs) = lines_of r.part ++ lines_in rs

-- the runs that the roles below n finished, role by role, each role's in the order of its acts
abbrev pub all_finished : (ℕ → List Act) → ℕ → List ℕ
all_finished acts zero = []
all_finished acts (suc n) = all_finished acts n ++ reverse (finished (acts n))

-- the histories are those of a lawful trail, round after round, and the lines are those of the runs that its roles finished
pub record IsRunEnd (w : Setup) (t : Histories) (lines : List FlowLine) : Type 0 where
  pub lawful : AreLawful w t
  pub rounds : IsInRounds w t lawful.scripted.acts
  pub told : LinesOf w t (all_finished lawful.scripted.acts (roles w)) lines
