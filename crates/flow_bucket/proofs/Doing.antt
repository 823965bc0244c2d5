-- What a call makes of the flows, against its entry, whatever the entry is.
use Rattle.std.proofs.Common.{◌≡◌, ℕ, suc, ◌==◌, ◌≤◌, Bool, true, false, not, cond, ◌&&◌, ◌||◌, List, [], ◌∷◌, length, map, filter, slice_get, slice_set, insert, remove, Option, Some, None, ⊎_elim, refl, sym, ◌∙◌, ap, subst, arith, eqb-true, All}
use Rattle.std.specs.Option.{is_some}
use Rattle.std.proofs.lemmas.Bool.Decides.{eqb_tells}
use Rattle.std.proofs.lemmas.List.{length-map}
use Rattle.std.proofs.lemmas.List.Elements.{All-cons}
use Rattle.std.proofs.lemmas.List.Sorted.{All-permutation}
use Rattle.std.specs.List.Sorted.{IsPermutation, IsNonDecreasingBy}
use Rattle.suri_base.specs.declared.entry.Entry.{Entry}
use Rattle.suri_base.specs.History.{entry}
use Rattle.flow_object.specs.Ending.{EndedFlow}
use Rattle.flow_uses.specs.Uses.{IsNumberSet}
use Rattle.flow_uses.proofs.Sets.{same_length}
use Rattle.bucket_rules.specs.declared.fixed.Fixed.{Fixed}
use Rattle.suri_base.specs.declared.entry.BucketNote.{BucketNote}
use Rattle.bucket_rules.specs.Row.{Row, blank, row, after, has, is_here, lets_go, made}
use Rattle.bucket_rules.specs.Rule.{Rule, count_of}
use Rattle.bucket_rules.specs.Sound.{IsSound}
use Rattle.bucket_rules.proofs.Soundness.{sound}
use Rattle.bucket_rules.proofs.Words.{cond_other, cond_this}
use Rattle.bucket_flow.specs.Held.{Held, leaves, ended_of}
use Rattle.bucket_flow.specs.Flows.{find_in, IsDistinct, stays}
use Rattle.flow_bucket.specs.LetGo.{IsEnded, IsLetGo, runs}
use Rattle.flow_bucket.specs.Stands.{IsFlow, IsHeld, Stands, Did}
use Rattle.bucket_flow.proofs.FlowMap.{find_at, place_of_run, find_set, find_remove, find_insert, distinct_set, distinct_remove, distinct_insert, changed, find_changed, distinct_changed}
use Rattle.flow_bucket.proofs.Sorting.{has_same, set_same, rising_from, set_from}

pub stands_after : (s : Fixed) (past : List (Entry BucketNote)) (role step : ℕ) (n : BucketNote) (flows next : List Held) (es : List EndedFlow)
    → Stands s past flows → Rule s past role n → Did s past n next es → Stands s (entry role step n ∷ past) next
stands_after s past role step n flows next es st rule did = record { workers = st.workers; legal = (rule, st.legal); held = did.held; distinct = did.distinct }

-- what is in the bucket before and after

here_kept : (b : Bool) → (b && not b) ≡ false
here_kept true = refl
here_kept false = refl

here_now : (p q : Bool) → q ≡ true → (p && not q) ≡ false
here_now true q e = ap not e
here_now false q e = refl

here_lost : (p q : Bool) → p ≡ true → q ≡ false → (p && not q) ≡ true
here_lost true q e k = ap not k
here_lost false q e k = e

same_stays : (s : Fixed) (past : List (Entry BucketNote)) (n : BucketNote) (a : ℕ) → after s a n (row s a past) ≡ row s a past
    → lets_go s past n a ≡ false
same_stays s past n a e = ap (λ (w : Row). is_here (row s a past) && not (is_here w)) e ∙ here_kept (is_here (row s a past))

none_gone : (s : Fixed) (past : List (Entry BucketNote)) (n : BucketNote) → ((a : ℕ) → lets_go s past n a ≡ false) → IsLetGo s past n []
none_gone s past n h = record { rise = tt; whole = λ a. sym (h a); each = λ k d l. absurd (omega arith) }

-- no row changes
pub did_same : (s : Fixed) (past : List (Entry BucketNote)) (n : BucketNote) (flows : List Held) → Stands s past flows
    → ((a : ℕ) → after s a n (row s a past) ≡ row s a past) → Did s past n flows []
did_same s past n flows st same = record {
  held = λ a. subst (λ (w : Row). IsHeld s w (find_in flows a)) (sym (same a)) (st.held a);
  distinct = st.distinct;
  gone = none_gone s past n (λ a. same_stays s past n a (same a));
}

-- the flow at a place
pub flow_at : (s : Fixed) (past : List (Entry BucketNote)) (flows : List Held) (i : ℕ) (g : Held) → Stands s past flows
    → slice_get flows i ≡ Some g → IsFlow s (row s g.run past) g
flow_at s past flows i g st e = subst (λ (o : Option Held). IsHeld s (row s g.run past) o) (find_at flows i g st.distinct e) (st.held g.run)

-- a run that isn't here has no flow
pub away_none : (s : Fixed) (past : List (Entry BucketNote)) (flows : List Held) (a : ℕ) → Stands s past flows → is_here (row s a past) ≡ false → find_in flows a ≡ None
away_none s past flows a st away = by (find_in flows a) (st.held a)
  where
    by : (o : Option Held) → IsHeld s (row s a past) o → o ≡ None
    by None k = refl
    by (Some f) k = let m = k.here in let l = away in cc

-- one run's flow changes, and its row
module _ (s : Fixed) (past : List (Entry BucketNote)) (n : BucketNote) (flows next : List Held) (r : ℕ) (x : Option Held) (st : Stands s past flows)
    (look : (a : ℕ) → find_in next a ≡ cond (r == a) x (find_in flows a)) (this : IsHeld s (after s r n (row s r past)) x) (others : (a : ℕ) → (r ≡ a → ⊥) → after s a n (row s a past) ≡ row s a past) where
  edit_held : (a : ℕ) → IsHeld s (after s a n (row s a past)) (find_in next a)
  edit_held a = ⊎_elim
      (λ e. subst (λ (v : ℕ). IsHeld s (after s v n (row s v past)) (find_in next v)) e.1 (rw (look r) (rw (cond_this r x (find_in flows r)) this)))
      (λ e. rw (look a) (rw (others a e.1) (rw (cond_other r a x (find_in flows a) e.1) (st.held a))))
      (eqb_tells r a)

-- it stays
pub did_set : (s : Fixed) (past : List (Entry BucketNote)) (n : BucketNote) (flows : List Held) (i : ℕ) (g h : Held) → Stands s past flows
    → slice_get flows i ≡ Some g → h.run ≡ g.run
    → IsFlow s (after s g.run n (row s g.run past)) h → ((a : ℕ) → (g.run ≡ a → ⊥) → after s a n (row s a past) ≡ row s a past)
    → Did s past n (slice_set flows i h) []
did_set s past n flows i g h st e same this others = record {
  held = edit_held s past n flows (slice_set flows i h) g.run (Some h) st (find_set flows i g h st.distinct e same) this others;
  distinct = distinct_set flows i g h st.distinct e same;
  gone = none_gone s past n (λ a. ⊎_elim
      (λ m. subst (λ (v : ℕ). lets_go s past n v ≡ false) m.1 (here_now (is_here (row s g.run past)) (is_here (after s g.run n (row s g.run past))) this.here))
      (λ m. same_stays s past n a (others a m.1))
      (eqb_tells g.run a));
}

-- it leaves
pub did_remove : (s : Fixed) (past : List (Entry BucketNote)) (n : BucketNote) (flows : List Held) (i : ℕ) (g : Held) (e : EndedFlow)
    → Stands s past flows → slice_get flows i ≡ Some g → e.run ≡ g.run
    → is_here (after s g.run n (row s g.run past)) ≡ false → IsEnded s (after s g.run n (row s g.run past)) e
    → ((a : ℕ) → (g.run ≡ a → ⊥) → after s a n (row s a past) ≡ row s a past) → Did s past n (remove flows i) (e ∷ [])
did_remove s past n flows i g e st at same away ended others = record {
  held = edit_held s past n flows (remove flows i) g.run None st (find_remove flows i g st.distinct at) away others;
  distinct = distinct_remove flows i g st.distinct at;
  gone = record {
    rise = (tt, tt);
    whole = λ a. ap (λ (v : ℕ). (v == a) || false) same ∙ ⊎_elim
        (λ m. rw (m.0) (subst (λ (v : ℕ). true ≡ lets_go s past n v) m.1 (sym (here_lost (is_here (row s g.run past)) (is_here (after s g.run n (row s g.run past))) (flow_at s past flows i g st at).here away))))
        (λ m. rw (m.0) (sym (same_stays s past n a (others a m.1))))
        (eqb_tells g.run a);
    each = All-cons (λ (x : EndedFlow). IsEnded s (after s x.run n (row s x.run past)) x) e [] (subst (λ (v : ℕ). IsEnded s (after s v n (row s v past)) e) (sym same) ended) (λ k d l. absurd (omega arith));
  };
}

-- it begins
pub did_insert : (s : Fixed) (past : List (Entry BucketNote)) (n : BucketNote) (flows : List Held) (i : ℕ) (h : Held) → Stands s past flows → i ≤ length flows
    → is_here (row s h.run past) ≡ false
    → IsFlow s (after s h.run n (row s h.run past)) h → ((a : ℕ) → (h.run ≡ a → ⊥) → after s a n (row s a past) ≡ row s a past)
    → Did s past n (insert flows i h) []
did_insert s past n flows i h st within away this others = record {
  held = edit_held s past n flows (insert flows i h) h.run (Some h) st (find_insert flows i h none within) this others;
  distinct = distinct_insert flows i h st.distinct none within;
  gone = none_gone s past n (λ a. ⊎_elim
      (λ m. subst (λ (v : ℕ). lets_go s past n v ≡ false) m.1 (here_now (is_here (row s h.run past)) (is_here (after s h.run n (row s h.run past))) this.here))
      (λ m. same_stays s past n a (others a m.1))
      (eqb_tells h.run a));
}
  where
    none : find_in flows h.run ≡ None
    none = away_none s past flows h.run st away

-- all flows may change, and leave

-- what becomes of a flow and of its row
pub record Parted (s : Fixed) (w : Row) (g : Held) : Type 0 where
  pub held : IsHeld s w (cond (stays g) (Some g) None)
  pub ended : leaves g ≡ true → IsEnded s w (ended_of g)
  pub here : is_here w ≡ stays g

runs_ended : (fs : List Held) → runs (map ended_of fs) ≡ map (λ (f : Held). f.run) fs
runs_ended [] = refl
runs_ended (f ∷ fs) = ap (λ (l : List ℕ). f.run ∷ l) (runs_ended fs)

pub has_find : (fs : List Held) (a : ℕ) → has (map (λ (f : Held). f.run) fs) a ≡ is_some (find_in fs a)
has_find [] a = refl
has_find (f ∷ fs) a = step (f.run == a) (has_find fs a)
  where
    step : (b : Bool) → has (map (λ (g : Held). g.run) fs) a ≡ is_some (find_in fs a)
        → (b || has (map (λ (g : Held). g.run) fs) a) ≡ is_some (cond b (Some f) (find_in fs a))
    step true h = refl
    step false h = h

pub set_of_distinct : (fs : List Held) → IsDistinct fs → IsNumberSet (map (λ (f : Held). f.run) fs)
set_of_distinct [] d = tt
set_of_distinct (f ∷ fs) d = (has_find fs f.run ∙ ap is_some d.0, set_of_distinct fs d.1)

module _ (s : Fixed) (past : List (Entry BucketNote)) (n : BucketNote) (flows : List Held) (h : Held → Held) (same : (f : Held) → (h f).run ≡ f.run) (st : Stands s past flows)
    (each : (f : Held) → IsFlow s (row s f.run past) f → Parted s (after s f.run n (row s f.run past)) (h f)) (none : (a : ℕ) → is_here (row s a past) ≡ false → is_here (after s a n (row s a past)) ≡ false) where
  parted : (a : ℕ) (f : Held) → find_in flows a ≡ Some f → (f.run ≡ a) × Parted s (after s a n (row s a past)) (h f)
  parted a f e =
      let p = place_of_run flows a f e in
      let k : IsFlow s (row s f.run past) f = flow_at s past flows p.0 f st p.1 in
      (p.2, subst (λ (v : ℕ). Parted s (after s v n (row s v past)) (h f)) p.2 (each f k))

  held_by : (a : ℕ) (o : Option Held) → find_in flows a ≡ o → IsHeld s (row s a past) o
      → IsHeld s (after s a n (row s a past)) (changed h same stays o)
  held_by a None e k = none a k
  held_by a (Some f) e k = (parted a f e).1.held

  left_by : (a : ℕ) (o : Option Held) → find_in flows a ≡ o → IsHeld s (row s a past) o → is_some (changed h same leaves o) ≡ lets_go s past n a
  left_by a None e k = sym (ap (λ (b : Bool). b && not (is_here (after s a n (row s a past)))) k)
  left_by a (Some f) e k = sym (ap (λ (b : Bool). b && not (is_here (after s a n (row s a past)))) k.here ∙ ap not (parted a f e).1.here ∙ twice (leaves (h f)))
    where
      twice : (b : Bool) → not (not b) ≡ is_some (cond b (Some (h f)) None)
      twice true = refl
      twice false = refl

  left : List EndedFlow
  left = map ended_of (filter leaves (map h flows))

  left_runs : (a : ℕ) → has (runs (map ended_of (filter leaves (map h flows)))) a ≡ lets_go s past n a
  left_runs a = ap (λ (l : List ℕ). has l a) (runs_ended (filter leaves (map h flows))) ∙ has_find (filter leaves (map h flows)) a ∙ ap is_some (find_changed h same leaves flows a st.distinct) ∙ left_by a (find_in flows a) refl (st.held a)

  left_set : IsNumberSet (runs (map ended_of (filter leaves (map h flows))))
  left_set = subst IsNumberSet (sym (runs_ended (filter leaves (map h flows)))) (set_of_distinct (filter leaves (map h flows)) (distinct_changed h same leaves flows st.distinct))

  IsGone : EndedFlow → Type 0
  IsGone e = IsEnded s (after s e.run n (row s e.run past)) e

  left_each : (fs : List Held) → ((i : ℕ) (f : Held) → slice_get fs i ≡ Some f → IsFlow s (row s f.run past) f)
      → All (λ (e : EndedFlow). IsEnded s (after s e.run n (row s e.run past)) e) (map ended_of (filter leaves (map h fs)))
  left_each [] k = λ i d l. absurd (omega arith)
  left_each (f ∷ fs) k = step (leaves (h f)) refl (left_each fs (λ i g e. k (suc i) g e))
    where
      step : (b : Bool) → leaves (h f) ≡ b
          → All (λ (e : EndedFlow). IsEnded s (after s e.run n (row s e.run past)) e) (map ended_of (filter leaves (map h fs)))
          → All (λ (e : EndedFlow). IsEnded s (after s e.run n (row s e.run past)) e) (map ended_of (cond b (h f ∷ filter leaves (map h fs)) (filter leaves (map h fs))))
      step true e rest = All-cons (λ (e : EndedFlow). IsEnded s (after s e.run n (row s e.run past)) e) (ended_of (h f)) (map ended_of (filter leaves (map h fs)))
          (subst (λ (v : ℕ). IsEnded s (after s v n (row s v past)) (ended_of (h f))) (sym (same f)) ((each f (k 0 f refl)).ended e)) rest
      step false e rest = rest

  pub did_all : (es : List EndedFlow) → IsPermutation (map ended_of (filter leaves (map h flows))) es
      → IsNonDecreasingBy (λ (e : EndedFlow). e.run) es → Did s past n (filter stays (map h flows)) es
  did_all es p sorted = record {
    held = λ a. subst (λ (o : Option Held). IsHeld s (after s a n (row s a past)) o) (sym (find_changed h same stays flows a st.distinct)) (held_by a (find_in flows a) refl (st.held a));
    distinct = distinct_changed h same stays flows st.distinct;
    gone = record {
      rise = rising_from es sorted (set_same (map ended_of (filter leaves (map h flows))) es p left_set);
      whole = λ a. has_same a (map ended_of (filter leaves (map h flows))) es p ∙ left_runs a;
      each = All-permutation (λ (e : EndedFlow). IsEnded s (after s e.run n (row s e.run past)) e) (map ended_of (filter leaves (map h flows))) es p (left_each flows (λ i f e. flow_at s past flows i f st e));
    };
  }

-- counts

has_filter : (t : ℕ → Bool) (xs : List ℕ) (a : ℕ) → has (filter t xs) a ≡ (has xs a && t a)
has_filter t [] a = refl
has_filter t (x ∷ xs) a = step (t x) (x == a) refl refl (has_filter t xs a)
  where
    and_true : (b : Bool) → b ≡ true → b ≡ (true && b)
    and_true b e = refl

    step : (b c : Bool) → t x ≡ b → (x == a) ≡ c → has (filter t xs) a ≡ (has xs a && t a)
        → has (cond b (x ∷ filter t xs) (filter t xs)) a ≡ ((c || has xs a) && t a)
    step true true e m h = ap (λ (v : Bool). v || has (filter t xs) a) m ∙ sym (ap t (sym (eqb-true x a m)) ∙ e)
    step true false e m h = ap (λ (v : Bool). v || has (filter t xs) a) m ∙ h
    step false true e m h = h ∙ ap (λ (v : Bool). has xs a && v) k ∙ off (has xs a) ∙ sym k
      where
        k : t a ≡ false
        k = ap t (sym (eqb-true x a m)) ∙ e

        off : (b : Bool) → (b && false) ≡ false
        off true = refl
        off false = refl
    step false false e m h = h

set_filter : (t : ℕ → Bool) (xs : List ℕ) → IsNumberSet xs → IsNumberSet (filter t xs)
set_filter t [] s = tt
set_filter t (x ∷ xs) s = step (t x) (set_filter t xs s.1)
  where
    step : (b : Bool) → IsNumberSet (filter t xs) → IsNumberSet (cond b (x ∷ filter t xs) (filter t xs))
    step true k = (has_filter t xs x ∙ ap (λ (v : Bool). v && t x) s.0, k)
    step false k = k

-- a test that only begun runs pass
count_by : (s : Fixed) (past : List (Entry BucketNote)) (t : ℕ → Bool) (xs : List ℕ) → IsSound s past → IsNumberSet xs
    → ((a : ℕ) → row s a past ≡ blank → t a ≡ false) → ((a : ℕ) → has xs a ≡ t a) → length xs ≡ count_of past t
count_by s past t xs snd set only same = same_length xs (filter t (made past)) set (set_filter t (made past) snd.once)
    (λ a. same a ∙ by a (has (made past) a) refl ∙ sym (has_filter t (made past) a))
  where
    by : (a : ℕ) (b : Bool) → has (made past) a ≡ b → t a ≡ (has (made past) a && t a)
    by a true e = sym (ap (λ (v : Bool). v && t a) e)
    by a false e = only a (snd.begun a e) ∙ sym (ap (λ (v : Bool). v && t a) e)

-- as many leave as are handed out
pub count_gone : (s : Fixed) (past : List (Entry BucketNote)) (n : BucketNote) (es : List EndedFlow) → IsSound s past → IsLetGo s past n es
    → length es ≡ count_of past (λ a. lets_go s past n a)
count_gone s past n es snd gone = sym (length-map es (λ (e : EndedFlow). e.run)) ∙ count_by s past (λ a. lets_go s past n a) (runs es) snd (set_from (runs es) gone.rise)
    (λ a e. ap (λ (w : Row). is_here w && not (is_here (after s a n (row s a past)))) e) gone.whole

pub find_here : (s : Fixed) (past : List (Entry BucketNote)) (flows : List Held) → Stands s past flows → (a : ℕ)
    → is_some (find_in flows a) ≡ is_here (row s a past)
find_here s past flows st a = by (find_in flows a) (st.held a)
  where
    by : (o : Option Held) → IsHeld s (row s a past) o → is_some o ≡ is_here (row s a past)
    by None k = sym k
    by (Some f) k = sym k.here

-- as many flows as runs are in the bucket
pub count_here : (s : Fixed) (past : List (Entry BucketNote)) (flows : List Held) → Stands s past flows
    → length flows ≡ count_of past (λ a. is_here (row s a past))
count_here s past flows st = sym (length-map flows (λ (f : Held). f.run)) ∙ count_by s past (λ a. is_here (row s a past)) (map (λ (f : Held). f.run) flows) (sound s past st.legal) (set_of_distinct flows st.distinct)
    (λ a e. ap is_here e) (λ a. has_find flows a ∙ find_here s past flows st a)
