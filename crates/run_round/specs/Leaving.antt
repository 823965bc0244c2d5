-- How a run leaves its bucket.
use Rattle.std.specs.Prelude.{◌≡◌, ℕ, true, false, [], ◌∷◌, Some}
use Rattle.suri_base.specs.declared.entry.BucketNote.{BucketNote}
use Rattle.suri_base.specs.declared.entry.Entry.{Entry}
use Rattle.suri_base.specs.declared.facts.Facts.{Facts}
use Rattle.bucket_laws.specs.Counts.{times_left}
use Rattle.bucket_laws.specs.Naming.{names}
use Rattle.bucket_laws.specs.Places.{At, History, In}
use Rattle.bucket_rules.specs.Own.{is_closed}
use Rattle.bucket_rules.specs.Packets.{bearing}
use Rattle.bucket_rules.specs.Row.{lets_go, row}
use Rattle.bucket_rules.specs.declared.fixed.Fixed.{Fixed}

-- run a leaves its bucket once, when nothing uses it any more, and is let alone from then on
pub record LeavesOnce (s : Fixed) (history : History) (a : ℕ) : Type 0 where
  pub once : times_left s a history ≡ 1
  -- the entry that lets it go leaves none of its uses open
  pub unused : (e : Entry BucketNote) (past : History) → At e past history → lets_go s past e.note a ≡ true → (row s a (e ∷ past)).uses ≡ []
  -- so each of its packets is closed by then
  pub closed : (e : Entry BucketNote) (past : History) → At e past history → lets_go s past e.note a ≡ true
      → (f : ℕ) (p : Facts) → bearing s.capture f ≡ Some p → In p (row s a history).members → is_closed f (e ∷ past) ≡ true
  -- no later entry names it, or changes anything of it
  pub alone : (e later : Entry BucketNote) (past more : History) → At e past more → At later more history → lets_go s past e.note a ≡ true
      → (names later.note a ≡ false) × (row s a (later ∷ more) ≡ row s a (e ∷ past))
