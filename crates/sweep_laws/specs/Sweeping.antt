-- What the sweep of a round leaves in a bucket: no linked run that had expired at the clock of that round.
use Rattle.std.specs.Prelude.{◌≡◌, ℕ, ◌+◌, Bool, true, false}
use Rattle.bucket_laws.specs.Places.{At, History}
use Rattle.bucket_rules.specs.Packets.{is_expired, round_clock}
use Rattle.bucket_rules.specs.Row.{is_linked, row}
use Rattle.bucket_rules.specs.declared.fixed.Fixed.{Fixed}
use Rattle.suri_base.specs.Dealing.{round_of}
use Rattle.suri_base.specs.History.{entry}
use Rattle.suri_base.specs.declared.entry.BucketNote.{BucketNote}
use Rattle.suri_base.specs.declared.entry.BucketNote.TheVariants.{Found, Missing, Swept}
use Rattle.suri_base.specs.declared.entry.Entry.{Entry}

-- after this history no linked run has expired at the clock of the round's first frame, by the table of an emergency or by the normal one
abbrev pub NoneHasExpired : Fixed → ℕ → Bool → History → Type 0
NoneHasExpired s round emergency past = (a : ℕ) → is_linked (row s a past).place ≡ true → is_expired (row s a past).members (round_clock s round) emergency ≡ false

-- an entry of the history swept in the round, by that table
pub record WasSwept (round : ℕ) (emergency : Bool) (history : History) : Type 0 where
  pub role : ℕ
  pub step : ℕ
  pub seen : ℕ
  pub count : ℕ
  pub past : History
  pub place : At (entry role step (Swept round emergency seen count)) past history

-- the entry looks up a packet of the round
abbrev pub LooksIn : Fixed → ℕ → BucketNote → Type 0
LooksIn s round (Found f emergency seen run said) = round_of f s.layout.round ≡ round
LooksIn s round (Missing f emergency seen ended) = round_of f s.layout.round ≡ round
LooksIn s round _ = ⊥

-- after this history the bucket was swept in the round, and no linked run had expired then, by the table that the sweep used
pub record LeftNoneExpired (s : Fixed) (round : ℕ) (past : History) : Type 0 where
  pub swept : (emergency : Bool) × WasSwept round emergency past
  pub none : (emergency : Bool) → WasSwept round emergency past → NoneHasExpired s round emergency past

-- each look of a round behind the first comes after the sweep of the round before, and meets no run that had expired by then
abbrev pub LooksMeetNoneExpired : Fixed → History → Type 0
LooksMeetNoneExpired s history = (e : Entry BucketNote) (past : History) → At e past history → (round : ℕ) → LooksIn s (round + 1) e.note → LeftNoneExpired s round past
