-- Each packet of the capture is a member of one run or was refused. Its bucket is that of its key: there it has its place, since the end
-- role drains it, and in another bucket it is neither a member nor refused, since what a bucket answers bears keys of the bucket.
use Rattle.std.proofs.Common.{◌≡◌, ℕ, ◌<◌, true, false, List, [], ◌∷◌, length, reverse, Some, ⊎_elim, refl, sym, ◌∙◌, ap, subst, eqb-true, mod-lt, ◌/◌}
use Rattle.bucket_laws.proofs.Cutting.{whole_cut}
use Rattle.bucket_laws.proofs.Firsts.{named_by_first}
use Rattle.bucket_laws.proofs.Placing.{all_placed, keyed, one_run, unrefused}
use Rattle.bucket_laws.proofs.Tests.{either, no_false, no_true}
use Rattle.bucket_laws.specs.Keys.{IsCut, pieces}
use Rattle.bucket_laws.specs.Places.{In}
use Rattle.bucket_rules.proofs.Soundness.{sound}
use Rattle.bucket_rules.proofs.Words.{some_is, true_false}
use Rattle.bucket_rules.specs.Own.{is_refused, refuses}
use Rattle.bucket_rules.specs.Packets.{bearing, has_key}
use Rattle.bucket_rules.specs.Row.{Row, has, made, row}
use Rattle.bucket_rules.specs.Rule.{IsLegal, Rule}
use Rattle.bucket_rules.specs.Sound.{IsSound}
use Rattle.bucket_rules.specs.declared.fixed.Fixed.{Fixed}
use Rattle.flow_sum.specs.Run.{first_of}
use Rattle.run_laws.proofs.Drained.{drained}
use Rattle.run_laws.proofs.Leavers.{IsOfBucket, made_own}
use Rattle.run_laws.specs.Placing.{IsCountedOnce, IsMemberOf}
use Rattle.run_laws.specs.Setting.{IsSetup}
use Rattle.run_rules.specs.Histories.{Histories, bucket_at}
use Rattle.run_rules.specs.Lawful.{AreScripted}
use Rattle.run_rules.specs.Setup.{Setup, fixed_at}
use Rattle.suri_base.proofs.SameKeys.{same_key-is}
use Rattle.suri_base.specs.Capture.{packets_in}
use Rattle.suri_base.specs.Dealing.{bucket_of}
use Rattle.suri_base.specs.Hash.{fnv1a, key_bytes}
use Rattle.suri_base.specs.Keys.{key_list}
use Rattle.suri_base.specs.declared.entry.BucketNote.{BucketNote}
use Rattle.suri_base.specs.declared.entry.BucketNote.TheVariants.{AllInUse, Closed, Drained, Found, Idle, Made, Missing, Refused, Stopped, Stored, Swept, Victim}
use Rattle.suri_base.specs.declared.entry.Entry.{Entry}
use Rattle.suri_base.specs.declared.facts.Facts.{Facts}
use Rattle.suri_base.specs.declared.key.Key.{Key}

refuses_own : (s : Fixed) (past : List (Entry BucketNote)) (r : ℕ) (n : BucketNote) (f : ℕ) → IsSound s past → Rule s past r n → refuses f n ≡ true → IsOfBucket s f
refuses_own s past r (Refused g) f snd rule b =
    let own = (snd.waits r g rule).own in
    subst (λ (x : ℕ). IsOfBucket s x) (eqb-true g f b) (record { packet = own.packet; bears = own.bears; bucket = own.bucket })
refuses_own s past r (Found g emergency seen run said) f snd rule b = cc
refuses_own s past r (Missing g emergency seen ended) f snd rule b = cc
refuses_own s past r (Made g said) f snd rule b = cc
refuses_own s past r (Stored g) f snd rule b = cc
refuses_own s past r (Stopped g) f snd rule b = cc
refuses_own s past r (Closed g app run freed ended) f snd rule b = cc
refuses_own s past r (Idle g app) f snd rule b = cc
refuses_own s past r (Victim g run) f snd rule b = cc
refuses_own s past r (AllInUse g count) f snd rule b = cc
refuses_own s past r (Swept round emergency seen count) f snd rule b = cc
refuses_own s past r (Drained count) f snd rule b = cc

refused_own : (s : Fixed) (past : List (Entry BucketNote)) (f : ℕ) → IsLegal s past → is_refused f past ≡ true → IsOfBucket s f
refused_own s [] f l h = cc
refused_own s (e ∷ past) f l h = ⊎_elim
    (λ b. refuses_own s past e.role e.note f (sound s past l.1) l.0 b)
    (λ k. refused_own s past f l.1 k)
    (either (refuses f e.note) (is_refused f past) h)

-- a member bears a key of the bucket
member_own : (s : Fixed) (past : List (Entry BucketNote)) (a : ℕ) (p : Facts) → IsLegal s past → In p (row s a past).members → bucket_of p.key s.layout.rows ≡ s.number
member_own s past a p l i =
    let began : has (made past) a ≡ true = no_false (has (made past) a) (λ x. subst (λ (w : Row). In p w.members) ((sound s past l).begun a x) i) in
    let own = made_own s past a l began in
    let first = named_by_first s past a l began in
    let k : has_key (first.run.newest ∷ first.run.older) p.key ≡ true = subst (λ (ms : List Facts). has_key ms p.key ≡ true) first.members (keyed s past a p l i) in
    let same : (first_of first.run).key ≡ p.key = same_key-is (first_of first.run).key p.key k in
    let one : own.packet ≡ first_of first.run = some_is own.bears first.first in
    ap (λ (x : Key). bucket_of x s.layout.rows) (sym same) ∙ (ap (λ (x : Facts). bucket_of x.key s.layout.rows) (sym one) ∙ own.bucket)

module _ (w : Setup) (d : IsSetup w) (t : Histories) (l : AreScripted w t) where
  -- the bucket of a key is one of those that there are
  home : (k : Key) → bucket_of k w.layout.rows < length t.buckets
  home k = subst (λ (n : ℕ). bucket_of k w.layout.rows < n) (sym l.legal.rows) (mod-lt (fnv1a (key_bytes k) / 256) d.layout.rows.0)

  pub cut_whole : (k : Key) → IsCut (fixed_at w (bucket_of k w.layout.rows)) k (bucket_at (bucket_of k w.layout.rows) t.buckets)
      (reverse (key_list k (packets_in w.capture.seen))) (pieces (fixed_at w (bucket_of k w.layout.rows)) k (bucket_at (bucket_of k w.layout.rows) t.buckets))
  cut_whole k =
      let b = bucket_of k w.layout.rows in
      whole_cut (fixed_at w b) k (bucket_at b t.buckets) (l.legal.buckets b (home k)) (drained w t l b (home k)) refl

  own_bucket : (b a : ℕ) (p : Facts) → b < length t.buckets → IsMemberOf w t b a p → bucket_of p.key w.layout.rows ≡ b
  own_bucket b a p h i = member_own (fixed_at w b) (bucket_at b t.buckets) a p (l.legal.buckets b h) i

  one_place : (p : Facts) (b c a e : ℕ) → b < length t.buckets → c < length t.buckets → IsMemberOf w t b a p → IsMemberOf w t c e p → (b ≡ c) × (a ≡ e)
  one_place p b c a e h g i j =
      let same : b ≡ c = sym (own_bucket b a p h i) ∙ own_bucket c e p g j in
      (same, one_run (fixed_at w b) (bucket_at b t.buckets) a e p d.capture (l.legal.buckets b h) i (subst (λ (x : ℕ). IsMemberOf w t x e p) (sym same) j))

  not_refused : (p : Facts) (b c a f : ℕ) → b < length t.buckets → c < length t.buckets → IsMemberOf w t b a p → bearing w.capture f ≡ Some p
      → is_refused f (bucket_at c t.buckets) ≡ false
  not_refused p b c a f h g i k = no_true (is_refused f (bucket_at c t.buckets)) (λ x.
      let own = refused_own (fixed_at w c) (bucket_at c t.buckets) f (l.legal.buckets c g) x in
      let one : own.packet ≡ p = some_is own.bears k in
      let same : c ≡ b = sym own.bucket ∙ (ap (λ (q : Facts). bucket_of q.key w.layout.rows) one ∙ own_bucket b a p h i) in
      true_false (subst (λ (y : ℕ). is_refused f (bucket_at y t.buckets) ≡ true) same x) (unrefused (fixed_at w b) (bucket_at b t.buckets) a f p d.capture (l.legal.buckets b h) i k))

  pub counted_once : (p : Facts) → In p (packets_in w.capture.seen) → IsCountedOnce w t p
  counted_once p i =
      let b = bucket_of p.key w.layout.rows in
      record {
        placed = all_placed (fixed_at w b) (bucket_at b t.buckets) p (l.legal.buckets b (home p.key)) (drained w t l b (home p.key)) i refl;
        one = one_place p;
        unrefused = not_refused p;
      }
