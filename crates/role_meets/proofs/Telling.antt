-- What two roles know once one has told the other what it has seen. At each lock the two had seen beginnings of one history, and the listener has
-- then seen the longer one, which begins with both. A role made just those entries of its own that it has seen, before and after; so, if it made
-- nothing, none of what came since is its own, and its acts stay its acts.
use Rattle.std.proofs.Common.{◌≡◌, ℕ, zero, suc, ◌<◌, List, [], ◌∷◌, length, map, get_or, refl, sym, ap, ◌∙◌, subst, arith, length-append, nat_lt, cond, Bool, true, false}
use Rattle.std.proofs.lemmas.List.{length-map}
use Rattle.std.proofs.lemmas.Bool.Decides.{nat_tests}
use Rattle.flow_bucket.specs.Bucket.{fixed_of}
use Rattle.flow_bucket.specs.Stands.{BucketMay, BucketAnswers}
use Rattle.flow_pool.specs.Pool.{FlowPoolMay, FlowPoolAnswers, setting_of}
use Rattle.hist_lock.specs.Locks.{made_with, role_of, IsPassOf, IsSamePass, seen_by, made_of}
use Rattle.hist_lock.specs.Rule.{longer}
use Rattle.hist_lock.specs.declared.pass.Pass.{Pass}
use Rattle.hist_lock.specs.declared.table.HistLock.{HistLock}
use Rattle.lock_rows.proofs.Goods.{good_same, good_heard}
use Rattle.lock_rows.proofs.Placed.{pairs_at, pairs_length}
use Rattle.lock_rows.specs.Rows.{Pairs, IsGood, IsMet, Mets}
use Rattle.role_meets.specs.Meets.{Told, Heard, Grown, ActsStay}
use Rattle.role_steps.specs.Roles.{Fits, AreBelow, number_of, seen, made, setup_of}
use Rattle.role_steps.specs.declared.roles.Passes.{Passes}
use Rattle.role_steps.specs.declared.roles.Shared.{Shared}
use Rattle.run_rules.proofs.Carrying.{carried}
use Rattle.run_rules.specs.Growing.{Grew, GrewFor, HasGrown}
use Rattle.run_rules.specs.Histories.{Histories, bucket_at}
use Rattle.segment_pool.specs.Pool.{PoolMay as SegPoolMay, PoolAnswers as SegPoolAnswers, limit_of}
use Rattle.suri_base.proofs.Histories.{entries_since}
use Rattle.suri_base.specs.History.{entries_of, Begins, Legal}
use Rattle.suri_base.specs.declared.entry.BucketNote.{BucketNote}
use Rattle.suri_base.specs.declared.entry.Entry.{Entry}
use Rattle.suri_base.specs.declared.entry.PoolNote.{PoolNote}
use Rattle.suri_base.specs.declared.entry.SegNote.{SegNote}

module _ {N : Type 0} where
  -- of two histories of which the first begins the second, the second is the longer one
  longer_is : (xs ys : List (Entry N)) → Begins xs ys → longer xs ys ≡ ys
  longer_is xs ys ([], e) = by_test (nat_lt (length xs) (length ys))
    where
      by_test : (b : Bool) → cond b ys xs ≡ ys
      by_test true = refl
      by_test false = sym e
  longer_is xs ys (z ∷ since, e) =
      let more : length xs < length ys = subst (λ (l : List (Entry N)). length xs < length l) (sym e) (omega (arith, length-append (z ∷ since) xs)) in
      ap (λ (b : Bool). cond b ys xs) (let t : nat_lt (length xs) (length ys) ≡ true = grind (arith, nat_tests) in t)

  -- what begins by the numbers of the histories begins side by side
  begins_pairs : (xs ys : List (List (Entry N))) → length ys ≡ length xs → ((b : ℕ) → b < length xs → Begins (get_or xs b []) (get_or ys b [])) → Pairs Begins xs ys
  begins_pairs [] [] e h = tt
  begins_pairs (x ∷ xs) (y ∷ ys) e h = (h 0 (omega arith), begins_pairs xs ys (omega (arith, e)) (λ b low. h (suc b) (omega arith)))
  begins_pairs [] (y ∷ ys) e h = absurd (omega (arith, e))
  begins_pairs (x ∷ xs) [] e h = absurd (omega (arith, e))

  mets_from : (n : ℕ) (xs ys zs : List (List (Entry N))) → length xs ≡ n → Mets n xs ys zs → Pairs Begins xs zs
  mets_from n [] [] [] e h = tt
  mets_from zero (x ∷ xs) ys zs e h = absurd (omega (arith, e))
  mets_from (suc n) (x ∷ xs) (y ∷ ys) (z ∷ zs) e h = (h.0.1, mets_from n xs ys zs (omega (arith, e)) h.1)
  mets_from zero [] (y ∷ ys) zs e h = absurd h
  mets_from (suc n) [] (y ∷ ys) zs e h = absurd h
  mets_from zero [] [] (z ∷ zs) e h = absurd h
  mets_from (suc n) [] [] (z ∷ zs) e h = absurd h
  mets_from (suc n) (x ∷ xs) [] zs e h = absurd h
  mets_from (suc n) (x ∷ xs) (y ∷ ys) [] e h = absurd h

  mets_old : (n : ℕ) (xs ys zs : List (List (Entry N))) → length xs ≡ n → Mets n xs ys zs → Pairs Begins ys zs
  mets_old n [] [] [] e h = tt
  mets_old zero (x ∷ xs) ys zs e h = absurd (omega (arith, e))
  mets_old (suc n) (x ∷ xs) (y ∷ ys) (z ∷ zs) e h = (h.0.2, mets_old n xs ys zs (omega (arith, e)) h.1)
  mets_old zero [] (y ∷ ys) zs e h = absurd h
  mets_old (suc n) [] (y ∷ ys) zs e h = absurd h
  mets_old zero [] [] (z ∷ zs) e h = absurd h
  mets_old (suc n) [] [] (z ∷ zs) e h = absurd h
  mets_old (suc n) (x ∷ xs) [] zs e h = absurd h
  mets_old (suc n) (x ∷ xs) (y ∷ ys) [] e h = absurd h

  -- who had seen no more has then seen the same
  mets_same : (n : ℕ) (xs ys zs : List (List (Entry N))) → length xs ≡ n → Mets n xs ys zs → Pairs Begins ys xs → zs ≡ xs
  mets_same n [] [] [] e h b = refl
  mets_same zero (x ∷ xs) ys zs e h b = absurd (omega (arith, e))
  mets_same (suc n) (x ∷ xs) (y ∷ ys) (z ∷ zs) e h b =
      ap (λ (l : List (Entry N)). l ∷ zs) (h.0.0 ∙ longer_is y x b.0) ∙ ap (λ (l : List (List (Entry N))). x ∷ l) (mets_same n xs ys zs (omega (arith, e)) h.1 b.1)
  mets_same zero [] (y ∷ ys) zs e h b = absurd h
  mets_same (suc n) [] (y ∷ ys) zs e h b = absurd h
  mets_same zero [] [] (z ∷ zs) e h b = absurd h
  mets_same (suc n) [] [] (z ∷ zs) e h b = absurd h
  mets_same (suc n) (x ∷ xs) [] zs e h b = absurd h
  mets_same (suc n) (x ∷ xs) (y ∷ ys) [] e h b = absurd h

  -- a history that has the same entries of the role grew by entries of other roles alone
  grew_for : (role : ℕ) (old new mine : List (Entry N)) → Begins old new → entries_of role old ≡ mine → entries_of role new ≡ mine → GrewFor role old new
  grew_for role old new mine b low high = (b.0, b.1, entries_since role b.0 old (sym (ap (entries_of role) b.1) ∙ (high ∙ sym low)))

module _ {A C R N F : Type 0} {g : _} (fixed : A → F) (may : F → ℕ → List (Entry N) → C → Type 0) (answers : F → List (Entry N) → ℕ → C → R → N → Type 0) where
  -- of each history the role has seen just the entries that it made
  rows_own : (role : ℕ) (ls : List (HistLock A C R N F)) (ps : List (Pass A C R N F g)) → Pairs (λ l p. IsGood fixed may answers role l p) ls ps
      → (b : ℕ) → entries_of role (get_or (map (λ p. seen_by p) ps) b []) ≡ get_or (map (λ p. made_of p) ps) b []
  rows_own role [] [] h b = refl
  rows_own role (l ∷ ls) (p ∷ ps) h zero = h.0.own
  rows_own role (l ∷ ls) (p ∷ ps) h (suc b) = rows_own role ls ps h.1 b
  rows_own role [] (p ∷ ps) h b = absurd h
  rows_own role (l ∷ ls) [] h b = absurd h

  -- what is known of a pass of the lock once it heard another one
  pub record HasHeard (lock : HistLock A C R N F) (from old new : Pass A C R N F g) : Type 0 where
    pub pass_of : IsPassOf fixed lock new
    pub same : (role_of new ≡ role_of old) × (made_of new ≡ made_of old)
    pub met : IsMet (seen_by from) (seen_by old) (seen_by new)
    pub legal : Legal (may (fixed (made_with lock))) (answers (fixed (made_with lock))) (seen_by new)
    pub own : entries_of (role_of new) (seen_by new) ≡ made_of new

  good_then : (role : ℕ) (l : HistLock A C R N F) (from old new : Pass A C R N F g) → IsGood fixed may answers role l old → HasHeard l from old new → IsGood fixed may answers role l new
  good_then role l from old new good h = good_heard fixed may answers role l old new good h.pass_of h.same h.legal h.own

histories_are : (u v : Histories) → u.pool ≡ v.pool → u.segments ≡ v.segments → u.buckets ≡ v.buckets → u ≡ v
histories_are u v p q r =
    ap (λ (l : List (Entry PoolNote)). record { pool = l; segments = u.segments; buckets = u.buckets }) p
    ∙ (ap (λ (l : List (Entry SegNote)). record { pool = v.pool; segments = l; buckets = u.buckets }) q
    ∙ ap (λ (l : List (List (Entry BucketNote))). record { pool = v.pool; segments = v.segments; buckets = l }) r)

grown_by : (old new : Histories) → Begins old.pool new.pool → Begins old.segments new.segments → Pairs Begins old.buckets new.buckets → HasGrown old new
grown_by old new p q r = record {
  pool = p;
  segments = q;
  rows = pairs_length Begins old.buckets new.buckets r;
  buckets = λ b low. pairs_at Begins old.buckets new.buckets b [] [] r low;
}

-- the passes are one role's, told by another word for its number
fits_by : (s : Shared) (p : Passes) (n : ℕ) (xs : _) → n ≡ number_of p → p.buckets.items ≡ xs → IsGood setting_of FlowPoolMay FlowPoolAnswers n s.pool p.pool
    → IsGood limit_of SegPoolMay SegPoolAnswers n s.segments p.segments → Pairs (λ l q. IsGood fixed_of BucketMay BucketAnswers n l q) s.buckets.items xs → AreBelow p.step (made p) → Fits s p
fits_by s p n xs is back pool segments buckets below = record {
  pool = subst (λ (r : ℕ). IsGood setting_of FlowPoolMay FlowPoolAnswers r s.pool p.pool) is pool;
  segments = subst (λ (r : ℕ). IsGood limit_of SegPoolMay SegPoolAnswers r s.segments p.segments) is segments;
  buckets = subst (λ (z : _). Pairs (λ l q. IsGood fixed_of BucketMay BucketAnswers (number_of p) l q) s.buckets.items z) (sym back)
      (subst (λ (r : ℕ). Pairs (λ l q. IsGood fixed_of BucketMay BucketAnswers r l q) s.buckets.items xs) is buckets);
  below = below;
}

below_by : (old new : Passes) → AreBelow old.step (made old) → new.step ≡ old.step → made new ≡ made old → AreBelow new.step (made new)
below_by old new below step same =
    subst (λ (n : ℕ). AreBelow n (made new)) (sym step) (subst (λ (t : Histories). AreBelow old.step t) (sym same) below)

-- where the role made nothing, what came since is of other roles
grew : (s : Shared) (old new : Passes) → Fits s old → Fits s new → number_of new ≡ number_of old → made new ≡ made old → HasGrown (seen old) (seen new)
    → Grew (number_of old) (seen old) (seen new)
grew s old new f k number same h = record {
  pool = grew_for (number_of old) (seen old).pool (seen new).pool (made old).pool h.pool f.pool.own
      (subst (λ (r : ℕ). entries_of r (seen new).pool ≡ (made new).pool) number k.pool.own ∙ ap (λ (t : Histories). t.pool) same);
  segments = grew_for (number_of old) (seen old).segments (seen new).segments (made old).segments h.segments f.segments.own
      (subst (λ (r : ℕ). entries_of r (seen new).segments ≡ (made new).segments) number k.segments.own ∙ ap (λ (t : Histories). t.segments) same);
  rows = h.rows;
  buckets = λ b low. grew_for (number_of old) (bucket_at b (seen old).buckets) (bucket_at b (seen new).buckets) (bucket_at b (made old).buckets) (h.buckets b low)
      (rows_own fixed_of BucketMay BucketAnswers (number_of old) s.buckets.items old.buckets.items f.buckets b)
      (subst (λ (r : ℕ). entries_of r (bucket_at b (seen new).buckets) ≡ bucket_at b (made new).buckets) number
      (rows_own fixed_of BucketMay BucketAnswers (number_of new) s.buckets.items new.buckets.items k.buckets b) ∙ ap (λ (t : Histories). bucket_at b t.buckets) same);
}

acts_stay : (s : Shared) (old new : Passes) → Fits s old → Fits s new → number_of new ≡ number_of old → made new ≡ made old → HasGrown (seen old) (seen new) → ActsStay s old new
acts_stay s old new f k number same h acts a =
    carried (setup_of s) (number_of old) (seen old) (seen new) acts (grew s old new f k number same h) a

-- so who has seen more, and made nothing, has grown
pub grown_with : (s : Shared) (old new : Passes) → Fits s old → Fits s new → number_of new ≡ number_of old → new.step ≡ old.step → made new ≡ made old
    → HasGrown (seen old) (seen new) → Grown s old new
grown_with s old new f k number step same h = record {
  fits = k;
  number = number;
  step = step;
  made_same = same;
  grown = h;
  acts = acts_stay s old new f k number same h;
}

-- who told another role, from what happened at each lock
pub told_by : (s : Shared) (old new : Passes) (n : ℕ) (xs : _) → Fits s old → IsPassOf setting_of s.pool new.pool → IsSamePass old.pool new.pool
    → IsPassOf limit_of s.segments new.segments → IsSamePass old.segments new.segments → new.step ≡ old.step → n ≡ number_of old → new.buckets.items ≡ xs
    → Pairs (λ l q. IsGood fixed_of BucketMay BucketAnswers n l q) s.buckets.items xs → map (λ q. seen_by q) xs ≡ map (λ q. seen_by q) old.buckets.items
    → map (λ q. made_of q) xs ≡ map (λ q. made_of q) old.buckets.items → Told s old new
told_by s old new n xs f pool_of pool segments_of segments step is back good seens mades =
    let number : number_of new ≡ number_of old = pool.0 in
    let same : made new ≡ made old = histories_are (made new) (made old) pool.2 segments.2 (ap (λ z. map (λ q. made_of q) z) back ∙ mades) in record {
      fits = fits_by s new (number_of old) xs (sym number) back (good_same setting_of FlowPoolMay FlowPoolAnswers (number_of old) s.pool old.pool new.pool f.pool pool_of pool)
          (good_same limit_of SegPoolMay SegPoolAnswers (number_of old) s.segments old.segments new.segments f.segments segments_of segments)
          (subst (λ (r : ℕ). Pairs (λ l q. IsGood fixed_of BucketMay BucketAnswers r l q) s.buckets.items xs) is good) (below_by old new f.below step same);
      number = number;
      step = step;
      seen_same = histories_are (seen new) (seen old) pool.1 segments.1 (ap (λ z. map (λ q. seen_by q) z) back ∙ seens);
      made_same = same;
    }

-- who heard another role
pub heard_by : (s : Shared) (from old new : Passes) (n : ℕ) (xs : _) → Fits s from → Fits s old → HasHeard setting_of FlowPoolMay FlowPoolAnswers s.pool from.pool old.pool new.pool
    → HasHeard limit_of SegPoolMay SegPoolAnswers s.segments from.segments old.segments new.segments → new.step ≡ old.step → n ≡ number_of old → new.buckets.items ≡ xs
    → Pairs (λ l q. IsGood fixed_of BucketMay BucketAnswers n l q) s.buckets.items xs → map (λ q. made_of q) xs ≡ map (λ q. made_of q) old.buckets.items
    → Mets (length s.buckets.items) (map (λ q. seen_by q) from.buckets.items) (map (λ q. seen_by q) old.buckets.items) (map (λ q. seen_by q) xs) → Heard s from old new
heard_by s from old new n xs f o pool segments step is back good mades mets =
    let number : number_of new ≡ number_of old = pool.same.0 in
    let same : made new ≡ made old = histories_are (made new) (made old) pool.same.1 segments.same.1 (ap (λ z. map (λ q. made_of q) z) back ∙ mades) in
    let rows = length s.buckets.items in
    let count : length (seen from).buckets ≡ rows =
    length-map from.buckets.items (λ q. seen_by q) ∙ pairs_length (λ l q. IsGood fixed_of BucketMay BucketAnswers (number_of from) l q) s.buckets.items from.buckets.items f.buckets in
    let seens : (seen new).buckets ≡ map (λ q. seen_by q) xs = ap (λ z. map (λ q. seen_by q) z) back in
    let met = subst (λ (z : List (List (Entry BucketNote))). Mets rows (seen from).buckets (seen old).buckets z) (sym seens) mets in record {
      fits = fits_by s new (number_of old) xs (sym number) back (good_then setting_of FlowPoolMay FlowPoolAnswers (number_of old) s.pool from.pool old.pool new.pool o.pool pool)
          (good_then limit_of SegPoolMay SegPoolAnswers (number_of old) s.segments from.segments old.segments new.segments o.segments segments)
          (subst (λ (r : ℕ). Pairs (λ l q. IsGood fixed_of BucketMay BucketAnswers r l q) s.buckets.items xs) is good) (below_by old new o.below step same);
      number = number;
      step = step;
      made_same = same;
      grown_from = grown_by (seen from) (seen new) pool.met.1 segments.met.1 (mets_from rows (seen from).buckets (seen old).buckets (seen new).buckets count met);
      grown = grown_by (seen old) (seen new) pool.met.2 segments.met.2 (mets_old rows (seen from).buckets (seen old).buckets (seen new).buckets count met);
      no_more = λ b. histories_are (seen new) (seen from) (pool.met.0 ∙ longer_is (seen old).pool (seen from).pool b.pool)
          (segments.met.0 ∙ longer_is (seen old).segments (seen from).segments b.segments)
          (mets_same rows (seen from).buckets (seen old).buckets (seen new).buckets count met (begins_pairs (seen old).buckets (seen from).buckets b.rows b.buckets));
    }

-- it has grown
pub grown_heard : (s : Shared) (from old new : Passes) → Fits s old → Heard s from old new → Grown s old new
grown_heard s from old new f h = grown_with s old new f h.fits h.number h.step h.made_same h.grown
