-- What a bucket hands out stands for the runs that its history says to leave there.
use Rattle.std.proofs.Common.{◌≡◌, ℕ, suc, ◌<◌, ◌==◌, Bool, true, false, ◌||◌, List, [], ◌∷◌, ◌++◌, length, map, filter, get_or, ⊎_elim, refl, sym, ◌∙◌, ap, subst, eq-eqb, arith}
use Rattle.std.specs.Prelude.{All}
use Rattle.std.proofs.Math.Nat.{lt_irrefl, lt_trans}
use Rattle.std.proofs.lemmas.Bool.{cases_eq, cases_order, false≢true, ne_eqb, true≢false}
use Rattle.std.proofs.lemmas.List.{get_or-map}
use Rattle.bucket_laws.specs.Leaving.{AreRising as RunsRise, Gone, gone, rising, runs as runs_gone}
use Rattle.bucket_laws.proofs.Going.{gone_are, gone_rise}
use Rattle.bucket_laws.proofs.Tests.{or_right}
use Rattle.bucket_rules.specs.Row.{after, has, lets_go, made, row}
use Rattle.bucket_rules.specs.Rule.{IsLegal}
use Rattle.bucket_rules.specs.declared.fixed.Fixed.{Fixed}
use Rattle.flow_bucket.specs.Bucket.{fixed_of}
use Rattle.flow_bucket.specs.Fixing.{legal_is}
use Rattle.flow_bucket.specs.LetGo.{AreRising, Below, IsEnded, IsLetGo, runs}
use Rattle.flow_bucket.specs.Stands.{BucketMay, BucketAnswers, ended_in}
use Rattle.flow_bucket.specs.declared.calls.BucketCall.{BucketCall}
use Rattle.flow_bucket.specs.declared.calls.BucketReply.{BucketReply}
use Rattle.flow_object.specs.Ending.{EndedFlow}
use Rattle.hist_lock.specs.Locks.{made_with, seen_by}
use Rattle.lock_rows.specs.Rows.{IsGood}
use Rattle.lock_rows.proofs.Placed.{pairs_at, pairs_length}
use Rattle.role_steps.specs.Calls.{CalledBucket}
use Rattle.role_steps.specs.Items.{Items}
use Rattle.role_steps.specs.Roles.{IsShared, number_of, seen, setup_of}
use Rattle.role_steps.specs.declared.roles.Passes.{Passes}
use Rattle.role_steps.specs.declared.roles.Shared.{Shared}
use Rattle.run_rules.specs.Growing.{HasGrown}
use Rattle.run_rules.specs.Histories.{Histories, bucket_at}
use Rattle.run_rules.specs.Setup.{Setup, fixed_at}
use Rattle.suri_base.specs.History.{entry, Begins, Legal}
use Rattle.suri_base.specs.declared.entry.BucketNote.{BucketNote}
use Rattle.suri_base.specs.declared.entry.Entry.{Entry}
use Rattle.suri_base.proofs.Histories.{begins_itself, begins_through}

-- two rising lists with the same numbers are one

first_there : (x : ℕ) (xs : List ℕ) → has (x ∷ xs) x ≡ true
first_there x xs = ap (λ (v : Bool). v || has xs x) (eq-eqb x x refl)

first_not : (x y : ℕ) (ys : List ℕ) → x < y → Below y ys → AreRising ys → has (y ∷ ys) x ≡ false
first_not x y [] less below rises = ap (λ (v : Bool). v || false) (ne_eqb y x (λ e. lt_irrefl x (subst (λ (v : ℕ). x < v) e less)))
first_not x y (z ∷ zs) less below rises =
    ap (λ (v : Bool). v || has (z ∷ zs) x) (ne_eqb y x (λ e. lt_irrefl x (subst (λ (v : ℕ). x < v) e less))) ∙ first_not x z zs (lt_trans less below) rises.0 rises.1

absent : (x : ℕ) (xs : List ℕ) → Below x xs → AreRising xs → has xs x ≡ false
absent x [] below rises = refl
absent x (z ∷ zs) below rises = first_not x z zs below rises.0 rises.1

rest_same : (x y : ℕ) (xs ys : List ℕ) → x ≡ y → AreRising (x ∷ xs) → AreRising (y ∷ ys) → ((a : ℕ) → has (x ∷ xs) a ≡ has (y ∷ ys) a)
    → (a : ℕ) → has xs a ≡ has ys a
rest_same x y xs ys e r q h a = ⊎_elim
    (λ m. ap (λ (v : ℕ). has xs v) (sym m) ∙ absent x xs r.0 r.1 ∙ sym (ap (λ (v : ℕ). has ys v) (sym m ∙ e) ∙ absent y ys q.0 q.1))
    (λ n. sym (ap (λ (v : Bool). v || has xs a) (ne_eqb x a n)) ∙ h a ∙ ap (λ (v : Bool). v || has ys a) (ne_eqb y a (λ m. n (e ∙ m))))
    (cases_eq x a)

same_rising : (xs ys : List ℕ) → AreRising xs → AreRising ys → ((a : ℕ) → has xs a ≡ has ys a) → xs ≡ ys
same_rising [] [] r q h = refl
same_rising [] (y ∷ ys) r q h = absurd (false≢true (h y ∙ first_there y ys))
same_rising (x ∷ xs) [] r q h = absurd (false≢true (sym (h x) ∙ first_there x xs))
same_rising (x ∷ xs) (y ∷ ys) r q h = ⊎_elim
    (λ e. ap (λ (v : ℕ). v ∷ xs) e ∙ ap (λ (l : List ℕ). y ∷ l) (same_rising xs ys r.1 q.1 (rest_same x y xs ys e r q h)))
    (λ m. ⊎_elim
    (λ less. absurd (true≢false (sym (first_there x xs) ∙ h x ∙ first_not x y ys less q.0 q.1)))
    (λ less. absurd (true≢false (sym (first_there y ys) ∙ sym (h y) ∙ first_not y x xs less r.0 r.1)))
    m)
    (cases_order x y)

-- each is below all that come after, so below the next

below_of : (x : ℕ) (xs : List ℕ) → All (λ (y : ℕ). x < y) xs → Below x xs
below_of x [] a = tt
below_of x (y ∷ ys) a = a 0 y (omega arith)

rising_of : (xs : List ℕ) → RunsRise xs → AreRising xs
rising_of [] r = tt
rising_of (x ∷ xs) r = (below_of x xs r.0, rising_of xs r.1)

-- what leaves a bucket

runs_are : (k : ℕ → ℕ) (xs : List ℕ) → runs_gone (map (λ a. record { run = a; nodes = k a }) xs) ≡ xs
runs_are k [] = refl
runs_are k (x ∷ xs) = ap (λ l. x ∷ l) (runs_are k xs)

-- the runs that the history says to leave are those that are handed out, in the same order
pub gone_runs : (s : Fixed) (past : List (Entry BucketNote)) (n : BucketNote) (es : List EndedFlow) → IsLegal s past → IsLetGo s past n es
    → filter (λ a. lets_go s past n a) (rising (made past)) ≡ runs es
gone_runs s past n es l go =
    let are = runs_are (λ a. (after s a n (row s a past)).held) (filter (λ a. lets_go s past n a) (rising (made past))) in
    sym are ∙ same_rising (runs_gone (gone s past n)) (runs es) (rising_of (runs_gone (gone s past n)) (gone_rise s past n l)) go.rise
    (λ a. gone_are s past n l a ∙ sym (go.whole a))

module _ (w : Setup) (t : Histories) where
  items_each : (b : ℕ) (e : Entry BucketNote) (past : List (Entry BucketNote)) (es : List EndedFlow) → b < length t.buckets
      → Begins (e ∷ past) (bucket_at b t.buckets)
      → All (λ (x : EndedFlow). IsEnded (fixed_at w b) (after (fixed_at w b) x.run e.note (row (fixed_at w b) x.run past)) x) es
      → ((a : ℕ) → has (runs es) a ≡ true → lets_go (fixed_at w b) past e.note a ≡ true)
      → Items w t (map (λ (a : ℕ). record { run = a; nodes = (after (fixed_at w b) a e.note (row (fixed_at w b) a past)).held }) (runs es)) es
  items_each b e past [] real stands all left = tt
  items_each b e past (x ∷ es) real stands all left = (
    record {
      leaving = record { bucket = b; real = real; at = e; past = past; stands = stands; left = left x.run (first_there x.run (runs es)) };
      run = refl;
      nodes = refl;
      ended = all 0 x (omega arith);
    },
    items_each b e past es real stands (λ k d low. all (suc k) d (omega (arith, low))) (λ a h. left a (or_right (x.run == a) (has (runs es) a) h)),
  )

  -- what an entry lets go stands for the runs that its history says to leave there
  pub items_left : (b : ℕ) (e : Entry BucketNote) (past : List (Entry BucketNote)) (es : List EndedFlow) → b < length t.buckets
      → Begins (e ∷ past) (bucket_at b t.buckets) → IsLegal (fixed_at w b) past
      → IsLetGo (fixed_at w b) past e.note es → Items w t (gone (fixed_at w b) past e.note) es
  items_left b e past es real stands legal go =
      subst (λ (l : List ℕ). Items w t (map (λ (a : ℕ). record { run = a; nodes = (after (fixed_at w b) a e.note (row (fixed_at w b) a past)).held }) l) es)
      (sym (gone_runs (fixed_at w b) past e.note es legal go))
      (items_each b e past es real stands go.each (λ a h. sym (go.whole a) ∙ h))

-- a longer hand, and longer histories

pub items_append : (w : Setup) (t : Histories) (gs hs : List Gone) (es fs : List EndedFlow) → Items w t gs es → Items w t hs fs → Items w t (gs ++ hs) (es ++ fs)
items_append w t [] hs [] fs i k = k
items_append w t (g ∷ gs) hs (e ∷ es) fs i k = (i.0, items_append w t gs hs es fs i.1 k)
items_append w t [] hs (e ∷ es) fs i k = absurd i
items_append w t (g ∷ gs) hs [] fs i k = absurd i

pub items_grow : (w : Setup) (t u : Histories) → HasGrown t u → (gs : List Gone) (es : List EndedFlow) → Items w t gs es → Items w u gs es
items_grow w t u h [] [] i = tt
items_grow w t u h (g ∷ gs) (e ∷ es) i = let l = i.0.leaving in (
  record {
    leaving = record { bucket = l.bucket; real = subst (λ (n : ℕ). l.bucket < n) (sym h.rows) l.real; at = l.at; past = l.past; stands = begins_through (l.at ∷ l.past) (bucket_at l.bucket t.buckets) (bucket_at l.bucket u.buckets) l.stands (h.buckets l.bucket l.real); left = l.left };
    run = i.0.run;
    nodes = i.0.nodes;
    ended = i.0.ended;
  },
  items_grow w t u h gs es i.1,
)
items_grow w t u h [] (e ∷ es) i = absurd i
items_grow w t u h (g ∷ gs) [] i = absurd i

-- a call on a bucket

some_of : {A : Type 0} (xs : List A) (i : ℕ) → i < length xs → A
some_of [] i low = absurd (omega arith)
some_of (x ∷ xs) i low = x

pub called_items : (s : Shared) (old new : Passes) (b : ℕ) (call : BucketCall) (reply : BucketReply) → IsShared s → b < length s.buckets.items → (c : CalledBucket s old new b call reply)
    → Items (setup_of s) (seen new) (gone (fixed_at (setup_of s) b) c.stepped.before c.note) (ended_in reply)
called_items s old new b call reply sh real c =
    let count : length new.buckets.items ≡ length s.buckets.items = pairs_length (λ l q. IsGood fixed_of BucketMay BucketAnswers (number_of new) l q) s.buckets.items new.buckets.items c.fits.buckets in
    let inside : b < length new.buckets.items = omega (arith, count, real) in
    let l = some_of s.buckets.items b real in
    let q = some_of new.buckets.items b inside in
    let good = pairs_at (λ l q. IsGood fixed_of BucketMay BucketAnswers (number_of new) l q) s.buckets.items new.buckets.items b l q c.fits.buckets real in
    let fix : fixed_of (made_with (get_or s.buckets.items b l)) ≡ fixed_at (setup_of s) b = sh.buckets b l real in
    let seen_is : seen_by (get_or new.buckets.items b q) ≡ entry (number_of old) old.step c.note ∷ c.stepped.before = sym (get_or-map (λ p. seen_by p) new.buckets.items b q [] inside) ∙ c.stepped.bucket in
    let legal : Legal (BucketMay (fixed_at (setup_of s) b)) (BucketAnswers (fixed_at (setup_of s) b)) (entry (number_of old) old.step c.note ∷ c.stepped.before) =
    subst (λ (h : List (Entry BucketNote)). Legal (BucketMay (fixed_at (setup_of s) b)) (BucketAnswers (fixed_at (setup_of s) b)) h) seen_is
    (subst (λ (f : Fixed). Legal (BucketMay f) (BucketAnswers f) (seen_by (get_or new.buckets.items b q))) fix good.legal) in
    items_left (setup_of s) (seen new) b (entry (number_of old) old.step c.note) c.stepped.before (ended_in reply)
    (subst (λ (n : ℕ). b < n) (sym c.stepped.rows) c.stepped.real)
    (subst (λ (h : List (Entry BucketNote)). Begins (entry (number_of old) old.step c.note ∷ c.stepped.before) h) (sym c.stepped.bucket) (begins_itself (entry (number_of old) old.step c.note ∷ c.stepped.before)))
    (legal_is (fixed_at (setup_of s) b) c.stepped.before legal.1)
    c.answer.gone
