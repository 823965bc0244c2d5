-- One call on one lock, as a step of the role over all its locks.
use Rattle.std.proofs.Common.{◌≡◌, ℕ, ◌+◌, ◌<◌, List, [], ◌∷◌, ◌++◌, length, map, get_or, set, refl, sym, ap, ◌∙◌, subst, arith, get_or-set_same, get_or-set_other, length-set, length-append, append_assoc}
use Rattle.std.specs.List.{All}
use Rattle.std.proofs.lemmas.List.{length-map, map-set, get_or-map}
use Rattle.std.proofs.lemmas.List.Elements.{All-set}
use mathlib.Core.Logic.{dite}
use native.Mathlib.Decide.{ℕ_discrete}
use Rattle.bucket_laws.specs.Leaving.{gone}
use Rattle.bucket_rules.specs.declared.fixed.Fixed.{Fixed}
use Rattle.flow_bucket.specs.Bucket.{fixed_of}
use Rattle.flow_bucket.specs.Stands.{BucketMay, BucketAnswers}
use Rattle.flow_bucket.specs.declared.calls.BucketCall.{BucketCall}
use Rattle.flow_bucket.specs.declared.calls.BucketReply.{BucketReply}
use Rattle.flow_pool.specs.Pool.{FlowPoolMay, FlowPoolAnswers, setting_of}
use Rattle.flow_pool.specs.declared.calls.PoolCall.{PoolCall}
use Rattle.flow_pool.specs.declared.calls.PoolReply.{PoolReply}
use Rattle.hist_lock.specs.Locks.{made_with, roles_of, role_of, IsPassOf, seen_by, made_of}
use Rattle.hist_lock.specs.Passes.{IsCall}
use Rattle.lock_rows.specs.Rows.{Pairs, IsGood}
use Rattle.lock_rows.proofs.Goods.{good_at, goods_set}
use Rattle.lock_rows.proofs.Placed.{pairs_length}
use Rattle.role_steps.specs.Calls.{CalledPool, CalledSegments, CalledBucket}
use Rattle.role_steps.specs.Roles.{IsShared, MayOnBucket, Fits, AreBelow, number_of, seen, made, setup_of, Acted}
use Rattle.role_steps.specs.declared.roles.Passes.{Passes}
use Rattle.role_steps.specs.declared.roles.Shared.{Shared}
use Rattle.run_rules.proofs.Carrying.{stepped_on_pool, stepped_on_segments, stepped_on_bucket}
use Rattle.run_rules.specs.Acts.{Act, on_pool, on_segments, on_bucket, AreActs}
use Rattle.run_rules.specs.Growing.{GrewFor, HasGrown, SteppedOnPool, SteppedOnSegments, SteppedOnBucket}
use Rattle.run_rules.specs.Histories.{Histories, bucket_at}
use Rattle.run_rules.specs.Setup.{fixed_at}
use Rattle.segment_pool.specs.Pool.{PoolMay as SegPoolMay, PoolAnswers as SegPoolAnswers, limit_of}
use Rattle.segment_pool.specs.declared.calls.SegCall.{SegCall}
use Rattle.segment_pool.specs.declared.calls.SegReply.{SegReply}
use Rattle.suri_base.specs.History.{entry, entries_of, Begins}
use Rattle.suri_base.specs.declared.entry.BucketNote.{BucketNote}
use Rattle.suri_base.specs.declared.entry.Entry.{Entry}
use Rattle.suri_base.specs.declared.entry.PoolNote.{PoolNote}
use Rattle.suri_base.specs.declared.entry.SegNote.{SegNote}
use Rattle.suri_base.proofs.Histories.{begins_itself, begins_through, steps_below, steps_below_next}

below_all : {N : Type 0} (n : ℕ) (hs : List (List (Entry N))) → All (λ h. All (λ x. x.step < n) h) hs → All (λ h. All (λ x. x.step < n + 1) h) hs
below_all n hs h k d below i e inside = omega (arith, h k d below i e inside)

pub on_pool_done : (s : Shared) (old new : Passes) (call : PoolCall) (reply : PoolReply) → Fits s old → new.segments ≡ old.segments → new.buckets ≡ old.buckets → new.step ≡ old.step + 1 → IsPassOf setting_of s.pool new.pool → role_of new.pool ≡ role_of old.pool
    → IsCall FlowPoolMay FlowPoolAnswers (setting_of (made_with s.pool)) (roles_of s.pool) (role_of old.pool) old.step call reply (seen_by old.pool) (made_of old.pool) (seen_by new.pool) (made_of new.pool) → CalledPool s old new call reply
on_pool_done s old new call reply f segments buckets step of same c = record {
  fits = record {
    pool = record { pass_of = of; role_is = refl; legal = c.legal; own = subst (λ (r : ℕ). entries_of r (seen_by new.pool) ≡ made_of new.pool) (sym same) c.own };
    segments = subst (λ (r : ℕ). IsGood limit_of SegPoolMay SegPoolAnswers r s.segments new.segments) (sym same)
        (subst (λ q. IsGood limit_of SegPoolMay SegPoolAnswers (number_of old) s.segments q) (sym segments) f.segments);
    buckets = subst (λ (r : ℕ). Pairs (λ l q. IsGood fixed_of BucketMay BucketAnswers r l q) s.buckets.items new.buckets.items) (sym same)
        (subst (λ v. Pairs (λ l q. IsGood fixed_of BucketMay BucketAnswers (number_of old) l q) s.buckets.items v.items) (sym buckets) f.buckets);
    below = subst (λ (n : ℕ). AreBelow n (made new)) (sym step) (record {
      pool = subst (λ (l : List (Entry PoolNote)). All (λ x. x.step < old.step + 1) l) (sym c.one_more) (steps_below_next (made_of old.pool) (role_of old.pool) old.step c.note f.below.pool);
      segments = subst (λ q. All (λ x. x.step < old.step + 1) (made_of q)) (sym segments) (steps_below (made_of old.segments) old.step f.below.segments);
      buckets = subst (λ v. All (λ h. All (λ x. x.step < old.step + 1) h) (map (λ q. made_of q) v.items)) (sym buckets) (below_all old.step (made old).buckets f.below.buckets);
    });
  };
  number = same;
  step = step;
  note = c.note;
  act = on_pool c.note (length c.before + 1);
  stepped = record {
    before = c.before;
    grew = (c.begins.0, c.begins.1, c.between);
    pool = c.ends;
    is = refl;
    segments = ap (λ q. seen_by q) segments;
    buckets = ap (λ v. map (λ q. seen_by q) v.items) buckets;
  };
  answer = c.answer;
}

pub on_segments_done : (s : Shared) (old new : Passes) (call : SegCall) (reply : SegReply) → Fits s old → new.pool ≡ old.pool → new.buckets ≡ old.buckets → new.step ≡ old.step + 1 → IsPassOf limit_of s.segments new.segments → role_of new.segments ≡ role_of old.segments
    → IsCall SegPoolMay SegPoolAnswers (limit_of (made_with s.segments)) (roles_of s.segments) (role_of old.segments) old.step call reply (seen_by old.segments) (made_of old.segments) (seen_by new.segments) (made_of new.segments) → CalledSegments s old new call reply
on_segments_done s old new call reply f pool buckets step of same call_done =
    let number : number_of new ≡ number_of old = ap (λ q. role_of q) pool in
    let mine : role_of old.segments ≡ number_of old = f.segments.role_is in
    let c = subst (λ (r : ℕ). IsCall SegPoolMay SegPoolAnswers (limit_of (made_with s.segments)) (roles_of s.segments) r old.step call reply (seen_by old.segments) (made_of old.segments) (seen_by new.segments) (made_of new.segments)) mine call_done in record {
      fits = record {
        pool = subst (λ q. IsGood setting_of FlowPoolMay FlowPoolAnswers (role_of q) s.pool q) (sym pool) f.pool;
        segments = subst (λ (r : ℕ). IsGood limit_of SegPoolMay SegPoolAnswers r s.segments new.segments) (sym number) (record { pass_of = of; role_is = same ∙ mine; legal = c.legal; own = c.own });
        buckets = subst (λ (r : ℕ). Pairs (λ l q. IsGood fixed_of BucketMay BucketAnswers r l q) s.buckets.items new.buckets.items) (sym number)
            (subst (λ v. Pairs (λ l q. IsGood fixed_of BucketMay BucketAnswers (number_of old) l q) s.buckets.items v.items) (sym buckets) f.buckets);
        below = subst (λ (n : ℕ). AreBelow n (made new)) (sym step) (record {
          pool = subst (λ q. All (λ x. x.step < old.step + 1) (made_of q)) (sym pool) (steps_below (made_of old.pool) old.step f.below.pool);
          segments = subst (λ (l : List (Entry SegNote)). All (λ x. x.step < old.step + 1) l) (sym c.one_more) (steps_below_next (made_of old.segments) (number_of old) old.step c.note f.below.segments);
          buckets = subst (λ v. All (λ h. All (λ x. x.step < old.step + 1) h) (map (λ q. made_of q) v.items)) (sym buckets) (below_all old.step (made old).buckets f.below.buckets);
        });
      };
      number = number;
      step = step;
      note = c.note;
      act = on_segments c.note;
      stepped = record {
        before = c.before;
        grew = (c.begins.0, c.begins.1, c.between);
        segments = c.ends;
        is = refl;
        pool = ap (λ q. seen_by q) pool;
        buckets = ap (λ v. map (λ q. seen_by q) v.items) buckets;
      };
      answer = c.answer;
    }

pub on_bucket_done : (s : Shared) (old new : Passes) (b : ℕ) (call : BucketCall) (reply : BucketReply) (l : _) (d q : _) → IsShared s → Fits s old → b < length s.buckets.items → new.pool ≡ old.pool → new.segments ≡ old.segments → new.step ≡ old.step + 1
    → new.buckets.items ≡ set old.buckets.items b q → l ≡ get_or s.buckets.items b l → IsPassOf fixed_of l q → role_of q ≡ role_of (get_or old.buckets.items b d)
    → IsCall BucketMay BucketAnswers (fixed_of (made_with l)) (roles_of l) (role_of (get_or old.buckets.items b d)) old.step call reply (seen_by (get_or old.buckets.items b d)) (made_of (get_or old.buckets.items b d)) (seen_by q) (made_of q) → CalledBucket s old new b call reply
on_bucket_done s old new b call reply l d q sh f real pool segments step items here of same call_done =
    let count : length old.buckets.items ≡ length s.buckets.items = pairs_length (λ l q. IsGood fixed_of BucketMay BucketAnswers (number_of old) l q) s.buckets.items old.buckets.items f.buckets in
    let inside : b < length old.buckets.items = omega (arith, count, real) in
    let old_one = good_at fixed_of BucketMay BucketAnswers (number_of old) s.buckets.items old.buckets.items b l d real f.buckets here in
    let number : number_of new ≡ number_of old = ap (λ p. role_of p) pool in
    let mine : role_of (get_or old.buckets.items b d) ≡ number_of old = old_one.role_is in
    let c = subst (λ (r : ℕ). IsCall BucketMay BucketAnswers (fixed_of (made_with l)) (roles_of l) r old.step call reply (seen_by (get_or old.buckets.items b d)) (made_of (get_or old.buckets.items b d)) (seen_by q) (made_of q)) mine call_done in
    let new_one : IsGood fixed_of BucketMay BucketAnswers (number_of old) l q = record { pass_of = of; role_is = same ∙ mine; legal = c.legal; own = c.own } in
    let mades : (made new).buckets ≡ set (made old).buckets b (made_of q) = ap (λ z. map (λ p. made_of p) z) items ∙ map-set (λ p. made_of p) old.buckets.items b q in
    let seens : (seen new).buckets ≡ set (seen old).buckets b (seen_by q) = ap (λ z. map (λ p. seen_by p) z) items ∙ map-set (λ p. seen_by p) old.buckets.items b q in
    let in_made : b < length (made old).buckets = omega (arith, length-map old.buckets.items (λ p. made_of p), inside) in
    let in_seen : b < length (seen old).buckets = omega (arith, length-map old.buckets.items (λ p. seen_by p), inside) in
    let was_made : get_or (made old).buckets b [] ≡ made_of (get_or old.buckets.items b d) = get_or-map (λ p. made_of p) old.buckets.items b d [] inside in
    let was_seen : get_or (seen old).buckets b [] ≡ seen_by (get_or old.buckets.items b d) = get_or-map (λ p. seen_by p) old.buckets.items b d [] inside in
    record {
      fits = record {
        pool = subst (λ p. IsGood setting_of FlowPoolMay FlowPoolAnswers (role_of p) s.pool p) (sym pool) f.pool;
        segments = subst (λ (r : ℕ). IsGood limit_of SegPoolMay SegPoolAnswers r s.segments new.segments) (sym number)
            (subst (λ p. IsGood limit_of SegPoolMay SegPoolAnswers (number_of old) s.segments p) (sym segments) f.segments);
        buckets = subst (λ (r : ℕ). Pairs (λ l q. IsGood fixed_of BucketMay BucketAnswers r l q) s.buckets.items new.buckets.items) (sym number)
            (subst (λ z. Pairs (λ l q. IsGood fixed_of BucketMay BucketAnswers (number_of old) l q) s.buckets.items z) (sym items) (goods_set fixed_of BucketMay BucketAnswers (number_of old) s.buckets.items old.buckets.items b l q real f.buckets here new_one));
        below = subst (λ (n : ℕ). AreBelow n (made new)) (sym step) (record {
          pool = subst (λ p. All (λ x. x.step < old.step + 1) (made_of p)) (sym pool) (steps_below (made_of old.pool) old.step f.below.pool);
          segments = subst (λ p. All (λ x. x.step < old.step + 1) (made_of p)) (sym segments) (steps_below (made_of old.segments) old.step f.below.segments);
          buckets = subst (λ (z : List (List (Entry BucketNote))). All (λ h. All (λ x. x.step < old.step + 1) h) z) (sym mades)
              (All-set (λ h. All (λ x. x.step < old.step + 1) h) (made old).buckets b (made_of q)
              (subst (λ (h : List (Entry BucketNote)). All (λ x. x.step < old.step + 1) h) (sym c.one_more)
              (steps_below_next (made_of (get_or old.buckets.items b d)) (number_of old) old.step c.note
              (subst (λ (h : List (Entry BucketNote)). All (λ x. x.step < old.step) h) was_made (f.below.buckets b [] in_made)))) (below_all old.step (made old).buckets f.below.buckets));
        });
      };
      number = number;
      step = step;
      note = c.note;
      act = on_bucket b c.note (gone (fixed_at (setup_of s) b) c.before c.note);
      stepped = record {
        real = in_seen;
        before = c.before;
        grew = subst (λ (h : List (Entry BucketNote)). GrewFor (number_of old) h c.before) (sym was_seen)
            (c.begins.0, c.begins.1, c.between);
        bucket = ap (λ (z : List (List (Entry BucketNote))). get_or z b []) seens ∙ (get_or-set_same (seen old).buckets b (seen_by q) [] in_seen ∙ c.ends);
        is = refl;
        rows = ap length seens ∙ length-set (seen old).buckets b (seen_by q);
        others = λ k apart. ap (λ (z : List (List (Entry BucketNote))). get_or z k []) seens ∙ get_or-set_other (seen old).buckets b k (seen_by q) [] apart;
        pool = ap (λ p. seen_by p) pool;
        segments = ap (λ p. seen_by p) segments;
      };
      answer = subst (λ (x : Fixed). BucketAnswers x c.before (number_of old) call reply c.note) (sh.buckets b l real)
          (subst (λ m. BucketAnswers (fixed_of (made_with m)) c.before (number_of old) call reply c.note) here c.answer);
    }

-- what a role did, one call after another

begins_rows : (old new : List (List (Entry BucketNote))) → old ≡ new → (b : ℕ) → Begins (bucket_at b old) (bucket_at b new)
begins_rows old new e b = subst (λ (z : List (List (Entry BucketNote))). Begins (bucket_at b old) (bucket_at b z)) e (begins_itself (bucket_at b old))

begins_same : {N : Type 0} (old new : List (Entry N)) → new ≡ old → Begins old new
begins_same old new e = ([], e)

begins_grew : {N : Type 0} (role step : ℕ) (n : N) (old before new : List (Entry N)) → GrewFor role old before → new ≡ entry role step n ∷ before → Begins old new
begins_grew role step n old before new g e = (entry role step n ∷ g.0, e ∙ ap (λ l. entry role step n ∷ l) g.1)

pub grown_through : (a b c : Histories) → HasGrown a b → HasGrown b c → HasGrown a c
grown_through a b c h k = record {
  pool = begins_through a.pool b.pool c.pool h.pool k.pool;
  segments = begins_through a.segments b.segments c.segments h.segments k.segments;
  rows = k.rows ∙ h.rows;
  buckets = λ i low. begins_through (bucket_at i a.buckets) (bucket_at i b.buckets) (bucket_at i c.buckets) (h.buckets i low) (k.buckets i (subst (λ (n : ℕ). i < n) (sym h.rows) low));
}

pub acted_none : (s : Shared) (p : Passes) → Fits s p → Acted s p p []
acted_none s p f = record {
  fits = f;
  number = refl;
  step = omega arith;
  grown = record { pool = begins_itself (seen p).pool; segments = begins_itself (seen p).segments; rows = refl; buckets = λ b low. begins_itself (bucket_at b (seen p).buckets) };
  own = λ before is a. a;
}

pub acted_through : (s : Shared) (a b c : Passes) (xs ys : List Act) → Acted s a b xs → Acted s b c ys → Acted s a c (ys ++ xs)
acted_through s a b c xs ys h k = record {
  fits = k.fits;
  number = k.number ∙ h.number;
  step = omega (arith, h.step, k.step, length-append ys xs);
  grown = grown_through (seen a) (seen b) (seen c) h.grown k.grown;
  own = λ before is acts. subst (λ (z : List Act). AreActs (setup_of s) (seen c) (number_of a) z) (sym (append_assoc ys xs before))
      (subst (λ (r : ℕ). AreActs (setup_of s) (seen c) r (ys ++ (xs ++ before))) h.number
      (k.own (xs ++ before) (omega (arith, length-append xs before, is, h.step)) (subst (λ (r : ℕ). AreActs (setup_of s) (seen b) r (xs ++ before)) (sym h.number) (h.own before is acts))));
}

pub acted_pool : (s : Shared) (old new : Passes) (call : PoolCall) (reply : PoolReply) → (c : CalledPool s old new call reply) → Acted s old new (c.act ∷ [])
acted_pool s old new call reply c = record {
  fits = c.fits;
  number = c.number;
  step = c.step;
  grown = let t = c.stepped in record {
    pool = begins_grew (number_of old) old.step c.note (seen old).pool t.before (seen new).pool t.grew t.pool;
    segments = begins_same (seen old).segments (seen new).segments t.segments;
    rows = ap length t.buckets;
    buckets = λ b low. begins_rows (seen old).buckets (seen new).buckets (sym t.buckets) b;
  };
  own = λ before is acts. stepped_on_pool (setup_of s) (number_of old) (seen old) (seen new) c.note c.act before acts (subst (λ (n : ℕ). SteppedOnPool (number_of old) (seen old) (seen new) n c.note c.act) (sym is) c.stepped);
}

pub acted_segments : (s : Shared) (old new : Passes) (call : SegCall) (reply : SegReply) → (c : CalledSegments s old new call reply) → Acted s old new (c.act ∷ [])
acted_segments s old new call reply c = record {
  fits = c.fits;
  number = c.number;
  step = c.step;
  grown = let t = c.stepped in record {
    pool = begins_same (seen old).pool (seen new).pool t.pool;
    segments = begins_grew (number_of old) old.step c.note (seen old).segments t.before (seen new).segments t.grew t.segments;
    rows = ap length t.buckets;
    buckets = λ b low. begins_rows (seen old).buckets (seen new).buckets (sym t.buckets) b;
  };
  own = λ before is acts. stepped_on_segments (setup_of s) (number_of old) (seen old) (seen new) c.note c.act before acts (subst (λ (n : ℕ). SteppedOnSegments (number_of old) (seen old) (seen new) n c.note c.act) (sym is) c.stepped);
}

pub acted_bucket : (s : Shared) (old new : Passes) (b : ℕ) (call : BucketCall) (reply : BucketReply) → (c : CalledBucket s old new b call reply) → Acted s old new (c.act ∷ [])
acted_bucket s old new b call reply c = record {
  fits = c.fits;
  number = c.number;
  step = c.step;
  grown = let t = c.stepped in record {
    pool = begins_same (seen old).pool (seen new).pool t.pool;
    segments = begins_same (seen old).segments (seen new).segments t.segments;
    rows = t.rows;
    buckets = λ k low. dite (ℕ_discrete k b)
        (λ same. subst (λ (m : ℕ). Begins (bucket_at m (seen old).buckets) (bucket_at m (seen new).buckets)) (sym same) (begins_grew (number_of old) old.step c.note (bucket_at b (seen old).buckets) t.before (bucket_at b (seen new).buckets) t.grew t.bucket))
        (λ apart. begins_same (bucket_at k (seen old).buckets) (bucket_at k (seen new).buckets) (t.others k apart));
  };
  own = λ before is acts. stepped_on_bucket (setup_of s) (number_of old) (seen old) (seen new) b c.note c.act before acts (subst (λ (n : ℕ). SteppedOnBucket (setup_of s) (number_of old) (seen old) (seen new) n b c.note c.act) (sym is) c.stepped);
}

-- what a role may call, told of the lock and the pass that lie there
pub may_here : (s : Shared) (p : Passes) (b : ℕ) (call : BucketCall) (l d q : _) → IsShared s → Fits s p → b < length s.buckets.items → l ≡ get_or s.buckets.items b l → q ≡ get_or p.buckets.items b d → MayOnBucket s p b call → BucketMay (fixed_of (made_with l)) (role_of q) (seen_by q) call
may_here s p b call l d q sh f real here there may =
    let good = good_at fixed_of BucketMay BucketAnswers (number_of p) s.buckets.items p.buckets.items b l d real f.buckets here in
    let count : length p.buckets.items ≡ length s.buckets.items = pairs_length (λ l q. IsGood fixed_of BucketMay BucketAnswers (number_of p) l q) s.buckets.items p.buckets.items f.buckets in
    let was : bucket_at b (seen p).buckets ≡ seen_by (get_or p.buckets.items b d) = get_or-map (λ p. seen_by p) p.buckets.items b d [] (omega (arith, count, real)) in
    subst (λ m. BucketMay (fixed_of (made_with m)) (role_of q) (seen_by q) call) (sym here)
    (subst (λ x. BucketMay (fixed_of (made_with (get_or s.buckets.items b l))) (role_of x) (seen_by x) call) (sym there)
    (subst (λ (r : ℕ). BucketMay (fixed_of (made_with (get_or s.buckets.items b l))) r (seen_by (get_or p.buckets.items b d)) call) (sym good.role_is)
    (subst (λ (h : List (Entry BucketNote)). BucketMay (fixed_of (made_with (get_or s.buckets.items b l))) (number_of p) h call) was
    (subst (λ (x : Fixed). BucketMay x (number_of p) (bucket_at b (seen p).buckets) call) (sym (sh.buckets b l real)) may))))
