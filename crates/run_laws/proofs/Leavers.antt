-- The runs that leave a bucket with an entry are listed once each, since they rise; and a run begins in the bucket of its key, since its role
-- awaits it there.
use Rattle.std.proofs.Common.{◌≡◌, ℕ, ◌==◌, ◌+◌, ◌<◌, Bool, true, false, ◌||◌, List, [], ◌∷◌, Some, ⊎_elim, refl, sym, ◌∙◌, ap, subst, arith, All, eqb-true}
use Rattle.std.proofs.lemmas.List.Elements.{All-head, All-tail}
use Rattle.bucket_laws.proofs.Going.{gone_are, gone_rise}
use Rattle.bucket_laws.proofs.Steps.{made_split}
use Rattle.bucket_laws.proofs.Tests.{either, none_of, other}
use Rattle.bucket_laws.specs.Counts.{one_if}
use Rattle.bucket_laws.specs.Leaving.{AreRising, Gone, gone, runs}
use Rattle.bucket_rules.proofs.Rowing.{begins}
use Rattle.bucket_rules.proofs.Soundness.{sound}
use Rattle.bucket_rules.specs.Packets.{bearing}
use Rattle.bucket_rules.specs.Row.{has, lets_go, made}
use Rattle.bucket_rules.specs.Rule.{IsLegal, Rule}
use Rattle.bucket_rules.specs.Sound.{IsSound}
use Rattle.bucket_rules.specs.declared.fixed.Fixed.{Fixed}
use Rattle.run_laws.specs.Measures.{count_run}
use Rattle.suri_base.specs.Dealing.{bucket_of}
use Rattle.suri_base.specs.declared.entry.BucketNote.{BucketNote}
use Rattle.suri_base.specs.declared.entry.BucketNote.TheVariants.{AllInUse, Closed, Drained, Found, Idle, Made, Missing, Refused, Stopped, Stored, Swept, Victim}
use Rattle.suri_base.specs.declared.entry.Entry.{Entry}
use Rattle.suri_base.specs.declared.facts.Facts.{Facts}

-- a number above which all of a list are isn't in it
none_above : (a : ℕ) (xs : List ℕ) → All (λ (y : ℕ). a < y) xs → has xs a ≡ false
none_above a [] h = refl
none_above a (x ∷ xs) h =
    let k : (x == a) ≡ false = other x a (λ e. let l = All-head (λ (y : ℕ). a < y) x xs h in omega (arith, e, l)) in
    none_of (x == a) (has xs a) k (none_above a xs (All-tail (λ (y : ℕ). a < y) x xs h))

-- a run is once among runs that rise, or never
rising_count : (a : ℕ) (gs : List Gone) → AreRising (runs gs) → count_run a gs ≡ one_if (has (runs gs) a)
rising_count a [] r = refl
rising_count a (g ∷ gs) r = by (g.run == a) refl (rising_count a gs r.1)
  where
    by : (t : Bool) → (g.run == a) ≡ t → count_run a gs ≡ one_if (has (runs gs) a) → one_if t + count_run a gs ≡ one_if (t || has (runs gs) a)
    by true e k =
        let z : has (runs gs) a ≡ false = subst (λ (x : ℕ). has (runs gs) x ≡ false) (eqb-true g.run a e) (none_above g.run (runs gs) r.0) in
        let y : one_if (has (runs gs) a) ≡ 0 = ap one_if z in omega (arith, k, y)
    by false e k = omega (arith, k)

-- a run is among those that leave exactly where the entry lets it go
pub count_gone : (s : Fixed) (past : List (Entry BucketNote)) (n : BucketNote) (a : ℕ) → IsLegal s past → count_run a (gone s past n) ≡ one_if (lets_go s past n a)
count_gone s past n a l = rising_count a (gone s past n) (gone_rise s past n l) ∙ ap one_if (gone_are s past n l a)

-- a run bears the key of the bucket in which it begins
pub record IsOfBucket (s : Fixed) (a : ℕ) : Type 0 where
  pub packet : Facts
  pub bears : bearing s.capture a ≡ Some packet
  pub bucket : bucket_of packet.key s.layout.rows ≡ s.number

begins_own : (s : Fixed) (past : List (Entry BucketNote)) (r : ℕ) (n : BucketNote) (a : ℕ) → IsSound s past → Rule s past r n → begins n a ≡ true → IsOfBucket s a
begins_own s past r (Made g said) a snd rule b =
    let own = (snd.waits r g rule.0).own in
    subst (λ (x : ℕ). IsOfBucket s x) (eqb-true g a b) (record { packet = own.packet; bears = own.bears; bucket = own.bucket })
begins_own s past r (Found g emergency seen run said) a snd rule b = cc
begins_own s past r (Missing g emergency seen ended) a snd rule b = cc
begins_own s past r (Refused g) a snd rule b = cc
begins_own s past r (Stored g) a snd rule b = cc
begins_own s past r (Stopped g) a snd rule b = cc
begins_own s past r (Closed g app run freed ended) a snd rule b = cc
begins_own s past r (Idle g app) a snd rule b = cc
begins_own s past r (Victim g run) a snd rule b = cc
begins_own s past r (AllInUse g count) a snd rule b = cc
begins_own s past r (Swept round emergency seen count) a snd rule b = cc
begins_own s past r (Drained count) a snd rule b = cc

pub made_own : (s : Fixed) (past : List (Entry BucketNote)) (a : ℕ) → IsLegal s past → has (made past) a ≡ true → IsOfBucket s a
made_own s [] a l h = cc
made_own s (e ∷ past) a l h = ⊎_elim
    (λ b. begins_own s past e.role e.note a (sound s past l.1) l.0 b)
    (λ k. made_own s past a l.1 k)
    (either (begins e.note a) (has (made past) a) (sym (made_split e.note (made past) a) ∙ h))
