-- Where the packets of a capture are counted.
use Rattle.std.specs.Prelude.{◌≡◌, ◌<◌, ℕ, false, length, Some}
use Rattle.suri_base.specs.Dealing.{bucket_of}
use Rattle.suri_base.specs.declared.facts.Facts.{Facts}
use Rattle.bucket_laws.specs.Keys.{IsPlaced}
use Rattle.bucket_laws.specs.Places.{In}
use Rattle.bucket_rules.specs.Own.{is_refused}
use Rattle.bucket_rules.specs.Packets.{bearing}
use Rattle.bucket_rules.specs.Row.{row}
use Rattle.run_rules.specs.Histories.{Histories, bucket_at}
use Rattle.run_rules.specs.Setup.{Setup, fixed_at}

-- the packet is a member of run a of bucket b
abbrev pub IsMemberOf : Setup → Histories → ℕ → ℕ → Facts → Type 0
IsMemberOf w t b a p = In p (row (fixed_at w b) a (bucket_at b t.buckets)).members

-- a packet is a member of exactly one run, of all buckets, or was refused; and not both
pub record IsCountedOnce (w : Setup) (t : Histories) (p : Facts) : Type 0 where
  pub placed : IsPlaced (fixed_at w (bucket_of p.key w.layout.rows)) (bucket_at (bucket_of p.key w.layout.rows) t.buckets) p
  pub one : (b c a d : ℕ) → b < length t.buckets → c < length t.buckets → IsMemberOf w t b a p → IsMemberOf w t c d p → (b ≡ c) × (a ≡ d)
  pub unrefused : (b c a f : ℕ) → b < length t.buckets → c < length t.buckets → IsMemberOf w t b a p → bearing w.capture f ≡ Some p → is_refused f (bucket_at c t.buckets) ≡ false
