-- A role that has just been made is new. Its passes have seen nothing of any lock and made nothing, so what it has seen is the empty history of
-- each lock, its step is above all that it made, and it did no act. Passes and roles are told by their places in a list: a fact of each place
-- stays where the last is taken away, holds of that last one, and holds on where one that has it is added behind.
use Rattle.std.proofs.Common.{◌≡◌, ◌≢◌, ℕ, zero, suc, ◌+◌, ◌<◌, false, List, [], ◌∷◌, ◌++◌, length, map, get_or, refl, sym, ap, ◌∙◌, subst, arith, length-append}
use Rattle.std.specs.List.{All}
use Rattle.std.proofs.Math.ListN.{get_or-append}
use Rattle.std.proofs.Math.Seq.{get_or-append_seam}
use Rattle.std.proofs.lemmas.List.Elements.{All-nil}
use Rattle.flow_bucket.specs.Bucket.{fixed_of}
use Rattle.flow_bucket.specs.Stands.{BucketMay, BucketAnswers}
use Rattle.flow_pool.specs.Pool.{FlowPoolMay, FlowPoolAnswers, setting_of}
use Rattle.hist_lock.specs.Locks.{seen_by, made_of}
use Rattle.hist_lock.specs.declared.pass.Pass.{Pass}
use Rattle.hist_lock.specs.declared.table.HistLock.{HistLock}
use Rattle.lock_rows.specs.Rows.{Pairs, IsGood, IsFresh}
use Rattle.role_meets.specs.Parts.{kind_at, kind_of, passes_of, hand_of, waiting_of, lines_of}
use Rattle.role_meets.specs.declared.roles.Role.{Role}
use Rattle.role_steps.specs.Roles.{number_of, seen, setup_of}
use Rattle.role_steps.specs.declared.roles.Passes.{Passes}
use Rattle.role_steps.specs.declared.roles.Shared.{Shared}
use Rattle.run_rules.specs.Acts.{AreActs, bucket_acts}
use Rattle.run_rules.specs.Histories.{Histories}
use Rattle.run_start.specs.Starting.{IsNew, IsNewRole, blank}
use Rattle.segment_pool.specs.Pool.{PoolMay as SegPoolMay, PoolAnswers as SegPoolAnswers, limit_of}
use Rattle.suri_base.specs.History.{entries_of}
use Rattle.suri_base.specs.declared.entry.BucketNote.{BucketNote}
use Rattle.suri_base.specs.declared.entry.Entry.{Entry}
use mathlib.Core.Logic.{dite}
use native.Mathlib.Decide.{ℕ_discrete}

-- places in a list

module _ {X : Type 0} (P : ℕ → X → Type 0) (xs ys : List X) (y : X) where
  -- what holds of each of a list holds of each of its front, and of its last
  pub of_front : xs ≡ ys ++ y ∷ [] → ((k : ℕ) (d : X) → k < length xs → P k (get_or xs k d)) → (k : ℕ) (d : X) → k < length ys → P k (get_or ys k d)
  of_front is h k d below = subst (λ (x : X). P k x) (ap (λ (l : List X). get_or l k d) is ∙ get_or-append ys (y ∷ []) d k below)
      (h k d (omega (arith, ap length is, length-append ys (y ∷ []), below)))

  pub of_last : xs ≡ ys ++ y ∷ [] → ((k : ℕ) (d : X) → k < length xs → P k (get_or xs k d)) → P (length ys) y
  of_last is h = subst (λ (x : X). P (length ys) x) (ap (λ (l : List X). get_or l (length ys) y) is ∙ get_or-append_seam ys y [] y)
      (h (length ys) y (omega (arith, ap length is, length-append ys (y ∷ []))))

  -- it holds of each once one more that has it stands behind
  pub of_more : ys ≡ xs ++ y ∷ [] → ((k : ℕ) (d : X) → k < length xs → P k (get_or xs k d)) → P (length xs) y → (k : ℕ) (d : X) → k < length ys → P k (get_or ys k d)
  of_more is h here k d below = dite (ℕ_discrete k (length xs))
      (λ same. subst (λ (n : ℕ). P n (get_or ys n d)) (sym same)
      (subst (λ (x : X). P (length xs) x) (sym (ap (λ (l : List X). get_or l (length xs) d) is ∙ get_or-append_seam xs y [] d)) here))
      (λ apart. let low = before k apart below (ap length is ∙ length-append xs (y ∷ [])) in
      subst (λ (x : X). P k x) (sym (ap (λ (l : List X). get_or l k d) is ∙ get_or-append xs (y ∷ []) d k low)) (h k d low))
    where
      before : (k : ℕ) → k ≢ length xs → k < length ys → length ys ≡ length xs + 1 → k < length xs
      before k apart below long = omega arith

-- empty histories

module _ {X E : Type 0} where
  blank_at : (xs : List X) (b : ℕ) → ◌≡◌ {A = List E} (get_or (map (λ x. []) xs) b []) []
  blank_at [] b = refl
  blank_at (x ∷ xs) zero = refl
  blank_at (x ∷ xs) (suc b) = blank_at xs b

  blank_all : (P : List E → Type 0) → P [] → (xs : List X) → All P (map (λ x. []) xs)
  blank_all P none [] k d below = absurd (omega (arith, below))
  blank_all P none (x ∷ xs) zero d below = none
  blank_all P none (x ∷ xs) (suc k) d below = blank_all P none xs k d (omega (arith, below))

module _ {A C R N F : Type 0} {g : _} (fixed : A → F) (may : F → ℕ → List (Entry N) → C → Type 0) (answers : F → List (Entry N) → ℕ → C → R → N → Type 0) (role : ℕ) where
  goods : (ls : List (HistLock A C R N F)) (ps : List (Pass A C R N F g)) → Pairs (λ l q. IsGood fixed may answers role l q × IsFresh q) ls ps
      → Pairs (λ l q. IsGood fixed may answers role l q) ls ps
  goods [] [] h = tt
  goods (l ∷ ls) (p ∷ ps) h = (h.0.0, goods ls ps h.1)
  goods [] (p ∷ ps) h = absurd h
  goods (l ∷ ls) [] h = absurd h

  none_seen : (ls : List (HistLock A C R N F)) (ps : List (Pass A C R N F g)) → Pairs (λ l q. IsGood fixed may answers role l q × IsFresh q) ls ps
      → map (λ q. seen_by q) ps ≡ map (λ (l : HistLock A C R N F). []) ls
  none_seen [] [] h = refl
  none_seen (l ∷ ls) (p ∷ ps) h = λ i. h.0.1.0 i ∷ none_seen ls ps h.1 i
  none_seen [] (p ∷ ps) h = absurd h
  none_seen (l ∷ ls) [] h = absurd h

  none_made : (ls : List (HistLock A C R N F)) (ps : List (Pass A C R N F g)) → Pairs (λ l q. IsGood fixed may answers role l q × IsFresh q) ls ps
      → map (λ q. made_of q) ps ≡ map (λ (l : HistLock A C R N F). []) ls
  none_made [] [] h = refl
  none_made (l ∷ ls) (p ∷ ps) h = λ i. h.0.1.1 i ∷ none_made ls ps h.1 i
  none_made [] (p ∷ ps) h = absurd h
  none_made (l ∷ ls) [] h = absurd h

-- a new role

no_acts : (s : Shared) (role : ℕ) → AreActs (setup_of s) (blank s) role []
no_acts s role = record {
  pool = refl;
  segments = refl;
  buckets = λ b low. ap (λ (h : List (Entry BucketNote)). entries_of role (bucket_acts (setup_of s) b h)) (blank_at s.buckets.items b);
  within = refl;
}

pub new_role : (s : Shared) (role : ℕ) (p : Passes) → IsGood setting_of FlowPoolMay FlowPoolAnswers role s.pool p.pool × IsFresh p.pool
    → IsGood limit_of SegPoolMay SegPoolAnswers role s.segments p.segments × IsFresh p.segments
    → Pairs (λ l q. IsGood fixed_of BucketMay BucketAnswers role l q × IsFresh q) s.buckets.items p.buckets.items → p.step ≡ 0 → IsNew s role p
new_role s role p pool segments rows step =
    let mine : role ≡ number_of p = sym pool.0.role_is in
    let nothing : seen p ≡ blank s = λ i. record {
      pool = pool.1.0 i;
      segments = segments.1.0 i;
      buckets = none_seen fixed_of BucketMay BucketAnswers role s.buckets.items p.buckets.items rows i;
    } in record {
      fits = record {
        pool = subst (λ (n : ℕ). IsGood setting_of FlowPoolMay FlowPoolAnswers n s.pool p.pool) mine pool.0;
        segments = subst (λ (n : ℕ). IsGood limit_of SegPoolMay SegPoolAnswers n s.segments p.segments) mine segments.0;
        buckets = subst (λ (n : ℕ). Pairs (λ l q. IsGood fixed_of BucketMay BucketAnswers n l q) s.buckets.items p.buckets.items) mine
            (goods fixed_of BucketMay BucketAnswers role s.buckets.items p.buckets.items rows);
        below = record {
          pool = subst (λ h. All (λ e. e.step < p.step) h) (sym pool.1.1) (All-nil _);
          segments = subst (λ h. All (λ e. e.step < p.step) h) (sym segments.1.1) (All-nil _);
          buckets = subst (λ (hs : List (List (Entry BucketNote))). All (λ h. All (λ e. e.step < p.step) h) hs)
              (sym (none_made fixed_of BucketMay BucketAnswers role s.buckets.items p.buckets.items rows))
              (blank_all (λ (h : List (Entry BucketNote)). All (λ e. e.step < p.step) h) (All-nil _) s.buckets.items);
        };
      };
      number = pool.0.role_is;
      step = step;
      nothing = nothing;
      own = subst (λ (t : Histories). AreActs (setup_of s) t role []) (sym nothing) (no_acts s role);
    }

-- a role of the rounds that was made of what a new role holds
pub cast_role : (s : Shared) (k : ℕ) (p : Passes) (r : Role) → IsNew s k p → passes_of r ≡ p → kind_of r.part ≡ kind_at s.layout.workers k
    → hand_of r.part ≡ [] → waiting_of r.part ≡ [] → lines_of r.part ≡ [] → r.failed ≡ false → IsNewRole s k r
cast_role s k p r new is kind hand waiting lines well = record {
  passes = subst (λ (q : Passes). IsNew s k q) (sym is) new;
  kind = kind;
  hand = hand;
  waiting = waiting;
  lines = lines;
  well = well;
}
