-- The end role drains every bucket: how many it drained counts up by one with each Drained of the next bucket, and in the end is their number.
use Rattle.std.proofs.Common.{◌≡◌, ℕ, ◌==◌, ◌+◌, ◌<◌, ◌≤◌, nat_lt, Bool, true, false, cond, ◌&&◌, ◌||◌, List, [], ◌∷◌, length, Option, Some, None, refl, sym, ◌∙◌, ap, subst, arith}
use Rattle.std.proofs.lemmas.Bool.Decides.{nat_tests}
use Rattle.bucket_laws.proofs.Tests.{both}
use Rattle.bucket_laws.specs.Counts.{one_if, times}
use Rattle.bucket_laws.specs.Draining.{drains, is_drained}
use Rattle.bucket_laws.specs.Leaving.{Gone}
use Rattle.run_laws.proofs.Parts.{bucket_times}
use Rattle.run_laws.proofs.Sums.{same_number, times_part}
use Rattle.run_laws.proofs.Working.{only_some}
use Rattle.run_laws.specs.Counts.{tally}
use Rattle.run_laws.specs.Measures.{total}
use Rattle.run_rules.specs.Acts.{Act, bucket_acts, on_bucket, on_pool, on_segments, place_of}
use Rattle.run_rules.specs.Ending.{Ending, drain, end_on, ended_on, ending_after, with_queue}
use Rattle.run_rules.specs.Histories.{Histories, bucket_at}
use Rattle.run_rules.specs.Lawful.{AreScripted, left_over}
use Rattle.run_rules.specs.Serving.{serve_pool, serve_segments}
use Rattle.run_rules.specs.Setup.{Setup, ender, roles}
use Rattle.suri_base.specs.History.{entries_of}
use Rattle.suri_base.specs.declared.entry.BucketNote.{BucketNote}
use Rattle.suri_base.specs.declared.entry.BucketNote.TheVariants.{AllInUse, Closed, Drained, Found, Idle, Made, Missing, Refused, Stopped, Stored, Swept, Victim}
use Rattle.suri_base.specs.declared.entry.Entry.{Entry}

times_le : {N : Type 0} (m : N → ℕ) (r : ℕ) (h : List (Entry N)) → tally m (entries_of r h) ≤ tally m h
times_le m r [] = omega arith
times_le m r (e ∷ h) = by_test (e.role == r) (times_le m r h)
  where
    by_test : (t : Bool) → tally m (entries_of r h) ≤ tally m h → tally m (cond t (e ∷ entries_of r h) (entries_of r h)) ≤ m e.note + tally m h
    by_test true k = omega (arith, k)
    by_test false k = omega (arith, k)

abbrev pub drained_by : Act → ℕ
drained_by (on_bucket b n left) = one_if (drains n)
drained_by _ = 0

abbrev drained_at : ℕ → Act → ℕ
drained_at b a = cond (place_of a == b + 2) (drained_by a) 0

drains_next : (b d : ℕ) → cond (d + 2 == b + 2) 1 0 + one_if (nat_lt b d) ≡ one_if (nat_lt b (d + 1))
drains_next b d = grind (arith, nat_tests)

not_drain : (b c : ℕ) (t : Bool) → 0 ≡ c → cond t c 0 ≡ 0
not_drain b c true h = sym h
not_drain b c false h = refl

module _ (w : Setup) (b : ℕ) where
  drain_count : (s : Ending) (k : ℕ) (n : BucketNote) (left : List Gone) (t : Ending) → drain w s k n left ≡ Some t
      → drained_at b (on_bucket k n left) + one_if (nat_lt b s.drained) ≡ one_if (nat_lt b t.drained)
  drain_count s k (Found g e n run o) left t h = cc
  drain_count s k (Missing g e n ended) left t h = cc
  drain_count s k (Made g o) left t h = cc
  drain_count s k (Refused g) left t h = cc
  drain_count s k (Stored g) left t h = cc
  drain_count s k (Stopped g) left t h = cc
  drain_count s k (Closed g app run freed ended) left t h = cc
  drain_count s k (Idle g app) left t h = cc
  drain_count s k (Victim g run) left t h = cc
  drain_count s k (AllInUse g count) left t h = cc
  drain_count s k (Swept round e n count) left t h = cc
  drain_count s k (Drained count) left t h =
      let z = only_some ((k == s.drained) && nat_lt k w.layout.rows) (record { queue = left; drained = s.drained + 1 }) t h in
      let q = both (k == s.drained) (nat_lt k w.layout.rows) z.0 in
      let e : k ≡ s.drained = same_number k s.drained q.0 in
      subst (λ (x : Ending). cond (k + 2 == b + 2) 1 0 + one_if (nat_lt b s.drained) ≡ one_if (nat_lt b x.drained)) z.1 (rw e (drains_next b s.drained))

  with_drained : (d : ℕ) (o : Option (List Gone)) (t : Ending) → with_queue d o ≡ Some t → d ≡ t.drained
  with_drained d None t h = cc
  with_drained d (Some q) t h = let e : record { queue = q; drained = d } ≡ t = cc in ap (λ (x : Ending). x.drained) e

  idle_act : (x y : ℕ) → x ≡ y → 0 + one_if (nat_lt b x) ≡ one_if (nat_lt b y)
  idle_act x y h = rw h (omega arith)

  finish_count : (q : List Gone) (s : Ending) (act : Act) (t : Ending) → end_on w q s act ≡ Some t → drained_at b act + one_if (nat_lt b s.drained) ≡ one_if (nat_lt b t.drained)
  finish_count [] s (on_pool n i) t h = cc
  finish_count [] s (on_segments n) t h = cc
  finish_count [] s (on_bucket k n left) t h = drain_count s k n left t h
  finish_count (g ∷ q) s (on_pool n i) t h = let z = not_drain b 0 (0 == b + 2) refl in rw z (idle_act s.drained t.drained (with_drained s.drained (serve_pool (g ∷ q) n) t h))
  finish_count (g ∷ q) s (on_segments n) t h = let z = not_drain b 0 (1 == b + 2) refl in rw z (idle_act s.drained t.drained (with_drained s.drained (serve_segments (g ∷ q) n) t h))
  finish_count (g ∷ q) s (on_bucket k n left) t h = cc

  count_more : (o : Option Ending) (t : Ending) (act : Act) (acts : List Act) → ended_on w act o ≡ Some t
      → ((s : Ending) → o ≡ Some s → total (drained_at b) acts ≡ one_if (nat_lt b s.drained)) → total (drained_at b) (act ∷ acts) ≡ one_if (nat_lt b t.drained)
  count_more None t act acts h k = cc
  count_more (Some s) t act acts h k = omega (arith, finish_count s.queue s act t h, k s refl)

  drained_count : (s : Ending) (acts : List Act) (t : Ending) → s.drained ≡ 0 → ending_after w s acts ≡ Some t → total (drained_at b) acts ≡ one_if (nat_lt b t.drained)
  drained_count s [] t z h = let e : s ≡ t = cc in subst (λ (x : Ending). 0 ≡ one_if (nat_lt b x.drained)) e (let y : nat_lt b s.drained ≡ false = grind (arith, nat_tests) in rw y refl)
  drained_count s (act ∷ acts) t z h = count_more (ending_after w s acts) t act acts h (λ x e. drained_count s acts x z e)

drained_some : (h : List (Entry BucketNote)) → 1 ≤ times (λ past n. one_if (drains n)) h → is_drained h ≡ true
drained_some [] l = absurd (omega arith)
drained_some (e ∷ h) l = by_test (drains e.note) (λ k. drained_some h k) l
  where
    by_test : (t : Bool) → (1 ≤ times (λ past n. one_if (drains n)) h → is_drained h ≡ true) → 1 ≤ one_if t + times (λ past n. one_if (drains n)) h → (t || is_drained h) ≡ true
    by_test true k l = refl
    by_test false k l = k (omega (arith, l))

module _ (w : Setup) (t : Histories) (l : AreScripted w t) where
  pub drained : (b : ℕ) → b < length t.buckets → is_drained (bucket_at b t.buckets) ≡ true
  drained b h =
      let e : ender w < roles w = omega arith in
      let n = drained_count w b (record { queue = left_over w l.hands; drained = 0 }) (l.acts (ender w)) (record { queue = []; drained = w.layout.rows }) refl l.drain in
      let y : nat_lt b w.layout.rows ≡ true = lt_yes b w.layout.rows (omega (arith, h, l.legal.rows)) in
      let one : total (drained_at b) (l.acts (ender w)) ≡ 1 = n ∙ rw y refl in
      let z = sym (ap (tally drained_by) ((l.own (ender w) e).buckets b h) ∙ times_part drained_by (ender w) (b + 2) (l.acts (ender w))) in
      let u = bucket_times w b drained_by (λ past n. one_if (drains n)) (λ past n k. refl) (bucket_at b t.buckets) (l.legal.buckets b h) in
      drained_some (bucket_at b t.buckets) (omega (arith, one, z, u, times_le drained_by (ender w) (bucket_acts w b (bucket_at b t.buckets))))
    where
      lt_yes : (x y : ℕ) → x < y → nat_lt x y ≡ true
      lt_yes x y h = grind (arith, nat_tests)
