-- Which trails are lawful.
use Rattle.std.specs.Prelude.{◌≡◌, ℕ, zero, suc, ◌+◌, ◌-◌, ◌<◌, ◌≤◌, List, [], ◌∷◌, ◌++◌, length, Some, All}
use Rattle.suri_base.specs.Trail.{Trailed}
use Rattle.suri_base.specs.declared.entry.Entry.{Entry}
use Rattle.suri_base.specs.declared.entry.PoolNote.{PoolNote}
use Rattle.suri_base.specs.declared.entry.PoolNote.TheVariants.{Put}
use Rattle.segment_pool.specs.Counting.{KeepsRules}
use Rattle.flow_pool.specs.Counting.{FlowPoolRules, flows_out}
use Rattle.flow_pool.specs.declared.calls.PoolSetting.{PoolSetting}
use Rattle.bucket_rules.specs.Rule.{IsLegal}
use Rattle.bucket_laws.specs.Leaving.{Gone}
use Rattle.run_rules.specs.Acts.{Act, AreActs}
use Rattle.run_rules.specs.Ending.{ending_after}
use Rattle.run_rules.specs.Histories.{Histories, bucket_at, histories_of}
use Rattle.run_rules.specs.Manager.{new_manager, swept_after, manager_ended}
use Rattle.run_rules.specs.Serving.{queue_after}
use Rattle.run_rules.specs.Setup.{Setup, fixed_at, manager, recycler, ender, roles, rounds, work_of}
use Rattle.run_rules.specs.Worker.{fresh, stand_after, ended}

-- the k-th hand, counted back from the newest
abbrev pub nth : ℕ → List (List Gone) → List Gone
nth k [] = []
nth zero (h ∷ hs) = h
nth (suc k) (h ∷ hs) = nth k hs

-- the hands of one round, of roles r - 1 down to 0 in rising order
abbrev pub gathered : ℕ → (ℕ → List (List Gone)) → ℕ → List Gone
gathered zero hands k = []
gathered (suc r) hands k = gathered r hands k ++ nth k (hands r)

-- what came to the recycler: the hands of all rounds but the last, the oldest round first
abbrev pub waited : ℕ → (ℕ → List (List Gone)) → ℕ → List Gone
waited n hands zero = []
waited n hands (suc k) = gathered n hands (suc k) ++ waited n hands k

-- what came to the end role: the hands of the last round
abbrev pub left_over : Setup → (ℕ → List (List Gone)) → List Gone
left_over w hands = gathered (manager w + 1) hands 0

-- what the flow pool of a run is made with
abbrev pub setting_for : Setup → PoolSetting
setting_for w = record { memcap = w.layout.memcap; recovery = w.layout.recovery; depth = w.layout.depth }

-- every history is legal by itself, and only real roles have entries
pub record AreLegal (w : Setup) (t : Histories) : Type 0 where
  pub rows : length t.buckets ≡ w.layout.rows
  pub pool : FlowPoolRules (setting_for w) t.pool
  pub segments : KeepsRules w.layout.segments t.segments
  pub buckets : (b : ℕ) → b < length t.buckets → IsLegal (fixed_at w b) (bucket_at b t.buckets)
  pub pool_roles : All (λ e. e.role < roles w) t.pool
  pub segment_roles : All (λ e. e.role < roles w) t.segments
  pub bucket_roles : (b : ℕ) → b < length t.buckets → All (λ e. e.role < roles w) (bucket_at b t.buckets)

-- each history is legal, and what each role did, over all histories, is a whole run of its script
pub record AreScripted (w : Setup) (t : Histories) : Type 0 where
  pub legal : AreLegal w t
  -- what each role did, the newest first, and what each hand held at the end of each round
  pub acts : ℕ → List Act
  pub hands : ℕ → List (List Gone)
  pub own : (role : ℕ) → role < roles w → AreActs w t role (acts role)
  pub work : (role : ℕ) → role < w.layout.workers → ended (stand_after w (fresh (work_of w role)) (acts role)) ≡ Some (hands role)
  pub manage : manager_ended w (swept_after w new_manager (acts (manager w))) ≡ Some (hands (manager w))
  pub recycle : queue_after (waited (manager w + 1) hands (rounds w - 1)) (acts (recycler w)) ≡ Some []
  pub drain : ending_after w (record { queue = left_over w hands; drained = 0 }) (acts (ender w)) ≡ Some (record { queue = []; drained = w.layout.rows })

-- an object is given back only where one is out
abbrev pub IsDue : ℕ → PoolNote → Type 0
IsDue out (Put run) = 1 ≤ out
IsDue out _ = Unit {0}

abbrev pub PutsAreDue : List (Entry PoolNote) → Type 0
PutsAreDue [] = Unit {0}
PutsAreDue (e ∷ past) = IsDue (flows_out past) e.note × PutsAreDue past

-- the histories are those of a lawful trail. That each look and each sweep names the entry of the pool at which its role last read the
-- mode follows from the scripts, since an act on the pool carries its place
pub record AreLawful (w : Setup) (t : Histories) : Type 0 where
  pub scripted : AreScripted w t
  pub puts : PutsAreDue t.pool

-- a trail is lawful for a capture and a layout
pub record IsLawful (w : Setup) (t : Trailed) : Type 0 where
  pub layout : t.layout ≡ w.layout
  pub histories : AreLawful w (histories_of t)
