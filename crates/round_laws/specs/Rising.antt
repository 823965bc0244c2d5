-- In which round an entry of a bucket was made, and how the entries of rounds stand to each other.
use Rattle.std.specs.Prelude.{◌≡◌, ℕ, ◌<◌, ◌≤◌, ◌⊎◌, List, [], ◌∷◌, All, length}
use Rattle.round_laws.specs.Cuts.{IsInRounds}
use Rattle.run_rules.specs.Histories.{Histories, bucket_at}
use Rattle.run_rules.specs.Lawful.{AreScripted}
use Rattle.run_rules.specs.Setup.{Setup, rounds}
use Rattle.suri_base.specs.Dealing.{round_of}
use Rattle.suri_base.specs.declared.entry.BucketNote.{BucketNote}
use Rattle.suri_base.specs.declared.entry.BucketNote.TheVariants.{Found, Missing, Made, Refused, Stored, Stopped, Closed, Idle, Victim, AllInUse, Swept, Drained}
use Rattle.suri_base.specs.declared.entry.Entry.{Entry}

-- the round of an entry: that of its packet, or that which swept; buckets are drained after the last round
abbrev pub round_in : Setup → BucketNote → ℕ
round_in w (Found f emergency seen run offer) = round_of f w.layout.round
round_in w (Missing f emergency seen ended) = round_of f w.layout.round
round_in w (Made f offer) = round_of f w.layout.round
round_in w (Refused f) = round_of f w.layout.round
round_in w (Stored f) = round_of f w.layout.round
round_in w (Stopped f) = round_of f w.layout.round
round_in w (Closed f verdict run freed ended) = round_of f w.layout.round
round_in w (Idle f verdict) = round_of f w.layout.round
round_in w (Victim f run) = round_of f w.layout.round
round_in w (AllInUse f count) = round_of f w.layout.round
round_in w (Swept round emergency seen count) = round
round_in w (Drained count) = rounds w

-- no entry is of an earlier round than an entry before it
abbrev pub RoundsRise : Setup → List (Entry BucketNote) → Type 0
RoundsRise w [] = Unit {0}
RoundsRise w (e ∷ past) = All (λ d. round_in w d.note ≤ round_in w e.note) past × RoundsRise w past

-- this swept in that round
abbrev pub Sweeps : ℕ → BucketNote → Type 0
Sweeps r (Swept round emergency seen count) = round ≡ r
Sweeps r _ = ⊥

-- some entry swept in that round
abbrev pub IsSwept : ℕ → List (Entry BucketNote) → Type 0
IsSwept r [] = ⊥
IsSwept r (e ∷ past) = Sweeps r e.note ⊎ IsSwept r past

-- each entry stands behind the sweeps of all rounds before its own
abbrev pub SweepsLead : Setup → List (Entry BucketNote) → Type 0
SweepsLead w [] = Unit {0}
SweepsLead w (e ∷ past) = ((r : ℕ) → r < round_in w e.note → IsSwept r past) × SweepsLead w past

-- the run went round by round: its histories have the cuts of all rounds, and what was done in each bucket in a round, its sweep too, stands
-- before all that was done there in later ones
pub record WentByRounds (w : Setup) (t : Histories) (l : AreScripted w t) : Type 0 where
  pub in_rounds : IsInRounds w t l.acts
  pub rise : (b : ℕ) → b < length t.buckets → RoundsRise w (bucket_at b t.buckets)
  pub lead : (b : ℕ) → b < length t.buckets → SweepsLead w (bucket_at b t.buckets)
