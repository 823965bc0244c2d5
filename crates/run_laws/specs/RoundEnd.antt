-- Histories at the end of a round.
use Rattle.std.specs.Prelude.{◌≡◌, ℕ, ◌+◌, ◌-◌, ◌<◌, ◌==◌, All, Bool, List, [], length, Some}
use Rattle.std.specs.List.{list_all}
use Rattle.suri_base.specs.declared.entry.Entry.{Entry}
use Rattle.suri_base.specs.declared.entry.PoolNote.{PoolNote}
use Rattle.suri_base.specs.declared.entry.PoolNote.TheVariants.{Put}
use Rattle.bucket_laws.specs.Leaving.{Gone}
use Rattle.bucket_rules.specs.Rule.{IsLegal}
use Rattle.run_rules.specs.Rounds.{EndedRounds, SweptRounds}
use Rattle.run_rules.specs.Acts.{Act, AreMet}
use Rattle.run_rules.specs.Histories.{Histories, bucket_at}
use Rattle.run_rules.specs.Lawful.{gathered, waited}
use Rattle.run_rules.specs.Serving.{queue_after}
use Rattle.run_rules.specs.Setup.{Setup, ender, fixed_at, manager, recycler, roles}

-- every worker and the manager ended so many rounds, and nothing waits of the rounds before the last of them. Of the segment pool nothing is said
pub record IsRoundEnd (w : Setup) (t : Histories) (r : ℕ) : Type 0 where
  pub pool_roles : All (λ e. e.role < roles w) t.pool
  pub bucket_roles : (b : ℕ) → b < length t.buckets → All (λ e. e.role < roles w) (bucket_at b t.buckets)
  pub buckets : (b : ℕ) → b < length t.buckets → IsLegal (fixed_at w b) (bucket_at b t.buckets)
  pub acts : ℕ → List Act
  pub hands : ℕ → List (List Gone)
  pub own : (role : ℕ) → role < roles w → AreMet w t role (acts role)
  pub work : (role : ℕ) → role < w.layout.workers → EndedRounds w role r (acts role) (hands role)
  pub manage : SweptRounds w r (acts (manager w)) (hands (manager w))
  pub recycle : queue_after (waited (manager w + 1) hands (r - 1)) (acts (recycler w)) ≡ Some []
  pub drain : acts (ender w) ≡ []

-- what waits for the next round: the hands of the one that ended
abbrev pub next_queue : Setup → (ℕ → List (List Gone)) → List Gone
next_queue w hands = gathered (manager w + 1) hands 0

abbrev pub put_in : PoolNote → ℕ
put_in (Put run) = 1
put_in _ = 0

-- entries that are all puts
abbrev pub only_puts : List (Entry PoolNote) → Bool
only_puts h = list_all (λ e. put_in e.note == 1) h
