-- One move after another, and the move that one call is.
use Rattle.std.proofs.Common.{◌≡◌, ℕ, ◌+◌, ◌<◌, List, [], ◌∷◌, ◌++◌, length, reverse, Some, refl, sym, ◌∙◌, ap, subst, arith, append_assoc, length-append}
use Rattle.std.proofs.lemmas.List.{reverse-append}
use Rattle.bucket_laws.specs.Leaving.{Gone, gone}
use Rattle.flow_bucket.specs.Stands.{ended_in}
use Rattle.flow_bucket.specs.declared.calls.BucketCall.{BucketCall}
use Rattle.flow_bucket.specs.declared.calls.BucketReply.{BucketReply}
use Rattle.flow_object.specs.declared.outcome.FlowLine.{FlowLine}
use Rattle.flow_pool.specs.declared.calls.PoolCall.{PoolCall}
use Rattle.flow_pool.specs.declared.calls.PoolReply.{PoolReply}
use Rattle.flow_worker.specs.Standing.{IsAt, Moves, refused_in}
use Rattle.flow_worker.proofs.Words.{finished_append, nil_end, pairs_append, refused_append}
use Rattle.role_steps.specs.Calls.{CalledPool, CalledSegments, CalledBucket}
use Rattle.role_steps.specs.Items.{IsLine, Items, LinesOf}
use Rattle.role_steps.specs.Roles.{Acted, IsShared, number_of, seen, setup_of}
use Rattle.role_steps.specs.declared.roles.Shared.{Shared}
use Rattle.role_steps.specs.declared.roles.Worker.{Worker}
use Rattle.role_steps.proofs.LettingGo.{called_items, items_append, items_grow}
use Rattle.role_steps.proofs.Stepping.{acted_none, acted_through, acted_pool, acted_segments, acted_bucket}
use Rattle.run_rules.specs.Acts.{Act, AreActs, on_pool, on_segments, on_bucket}
use Rattle.run_rules.specs.Growing.{HasGrown}
use Rattle.run_rules.specs.Histories.{Histories, bucket_at}
use Rattle.run_rules.specs.Serving.{finished}
use Rattle.run_rules.specs.Setup.{Setup, fixed_at, work_of}
use Rattle.run_rules.specs.Worker.{Stage, Stand, at, bucket_step, fresh, held_at, moved, pool_step, segments_step, stand_after}
use Rattle.segment_pool.specs.declared.calls.SegCall.{SegCall}
use Rattle.segment_pool.specs.declared.calls.SegReply.{SegReply}
use Rattle.suri_base.proofs.Histories.{begins_through}
use Rattle.suri_base.specs.declared.entry.BucketNote.{BucketNote}
use Rattle.suri_base.specs.declared.entry.PoolNote.{PoolNote}
use Rattle.suri_base.specs.declared.entry.SegNote.{SegNote}

-- a line that is read in some histories is read so in longer ones

line_grow : (w : Setup) (t u : Histories) → HasGrown t u → (a : ℕ) (l : FlowLine) → IsLine w t a l → IsLine w u a l
line_grow w t u h a l i = let k = i.leaving in record {
  leaving = record {
    bucket = k.bucket;
    real = subst (λ (n : ℕ). k.bucket < n) (sym h.rows) k.real;
    at = k.at;
    past = k.past;
    stands = begins_through (k.at ∷ k.past) (bucket_at k.bucket t.buckets) (bucket_at k.bucket u.buckets) k.stands (h.buckets k.bucket k.real);
    left = k.left;
  };
  reason = i.reason;
  emergency = i.emergency;
  place = i.place;
  packets = i.packets;
  members = i.members;
  is = i.is;
}

pub lines_grow : (w : Setup) (t u : Histories) → HasGrown t u → (runs : List ℕ) (ls : List FlowLine) → LinesOf w t runs ls → LinesOf w u runs ls
lines_grow w t u h [] [] i = tt
lines_grow w t u h (a ∷ runs) (l ∷ ls) i = (line_grow w t u h a l i.0, lines_grow w t u h runs ls i.1)
lines_grow w t u h [] (l ∷ ls) i = absurd i
lines_grow w t u h (a ∷ runs) [] i = absurd i

-- a move is known by its acts, its stand, its hand and its lines
pub moved_on : (s : Shared) (old new : Worker) (before : List Act) (st : Stand) (now : List Act) (to : Stage) (hand : List Gone) (lines : List FlowLine) (rs : List ℕ) → IsAt s old before st
    → Acted s old.passes new.passes now
    → new.lines.items ≡ old.lines.items ++ lines → LinesOf (setup_of s) (seen new.passes) (reverse (finished now)) lines → refused_in now ≡ rs
    → stand_after (setup_of s) (fresh (work_of (setup_of s) (number_of old.passes))) (now ++ before) ≡ Some (held_at to hand st) → Items (setup_of s) (seen new.passes) hand new.hand.items
    → Moves s old new before st to rs
moved_on s old new before st now to hand lines rs is a grew told refuses stood items = record {
  now = now;
  acted = a;
  lines = lines;
  grew = grew;
  told = told;
  refuses = refuses;
  hand = hand;
  is = record {
    setup = is.setup;
    fits = a.fits;
    worker = subst (λ (r : ℕ). r < s.layout.workers) (sym a.number) is.worker;
    step = omega (arith, is.step, a.step, length-append now before);
    own = subst (λ (r : ℕ). AreActs (setup_of s) (seen new.passes) r (now ++ before)) (sym a.number) (a.own before is.step is.own);
    stood = subst (λ (r : ℕ). stand_after (setup_of s) (fresh (work_of (setup_of s) r)) (now ++ before) ≡ Some (held_at to hand st)) (sym a.number) stood;
    hand = items;
  };
}

-- one move after another
pub moves_through : (s : Shared) (a b c : Worker) (before : List Act) (st : Stand) (p q : Stage) (rs us : List ℕ) → (m : Moves s a b before st p rs)
    → Moves s b c (m.now ++ before) (held_at p m.hand st) q us → Moves s a c before st q (us ++ rs)
moves_through s a b c before st p q rs us m n = record {
  now = n.now ++ m.now;
  acted = acted_through s a.passes b.passes c.passes m.now n.now m.acted n.acted;
  lines = m.lines ++ n.lines;
  grew = n.grew ∙ (ap (λ (l : List FlowLine). l ++ n.lines) m.grew ∙ append_assoc a.lines.items m.lines n.lines);
  told = subst (λ (l : List ℕ). LinesOf (setup_of s) (seen c.passes) l (m.lines ++ n.lines)) (sym (ap reverse (finished_append n.now m.now) ∙ reverse-append (finished n.now) (finished m.now)))
      (pairs_append (λ x l. IsLine (setup_of s) (seen c.passes) x l) (reverse (finished m.now)) (reverse (finished n.now)) m.lines n.lines
      (lines_grow (setup_of s) (seen b.passes) (seen c.passes) n.acted.grown (reverse (finished m.now)) m.lines m.told) n.told);
  refuses = refused_append n.now m.now ∙ (ap (λ (l : List ℕ). l ++ refused_in m.now) n.refuses ∙ ap (λ (l : List ℕ). us ++ l) m.refuses);
  hand = n.hand;
  is = subst (λ (l : List Act). IsAt s c l (held_at q n.hand st)) (sym (append_assoc n.now m.now before)) n.is;
}

-- no move
pub moves_none : (s : Shared) (k : Worker) (before : List Act) (st : Stand) → IsAt s k before st → Moves s k k before st st.stage []
moves_none s k before st is = moved_on s k k before st [] st.stage st.hand [] [] is (acted_none s k.passes is.fits) (sym (nil_end k.lines.items)) tt refl is.stood is.hand

-- a call on the flow pool that finishes nothing
pub moved_pool : (s : Shared) (old new : Worker) (call : PoolCall) (reply : PoolReply) (c : CalledPool s old.passes new.passes call reply) (n : PoolNote) → c.note ≡ n → new.hand ≡ old.hand
    → new.lines ≡ old.lines
    → (before : List Act) (st : Stand) (to : Stage) → IsAt s old before st → ((i : ℕ) → finished (on_pool n i ∷ []) ≡ []) → ((i : ℕ) → pool_step (setup_of s) st.stage st n i ≡ Some (at to st))
    → Moves s old new before st to []
moved_pool s old new call reply c n noted hand lines before st to is none step =
    let i = length c.stepped.before + 1 in
    let act : c.act ≡ on_pool n i = c.stepped.is ∙ ap (λ (x : PoolNote). on_pool x i) noted in
    let a = subst (λ (x : Act). Acted s old.passes new.passes (x ∷ [])) act (acted_pool s old.passes new.passes call reply c) in
    moved_on s old new before st (on_pool n i ∷ []) to st.hand [] [] is a (ap (λ l. l.items) lines ∙ sym (nil_end old.lines.items))
    (subst (λ (l : List ℕ). LinesOf (setup_of s) (seen new.passes) (reverse l) []) (sym (none i)) tt) refl (ap (moved (setup_of s) (on_pool n i)) is.stood ∙ step i)
    (subst (λ h. Items (setup_of s) (seen new.passes) st.hand h.items) (sym hand) (items_grow (setup_of s) (seen old.passes) (seen new.passes) a.grown st.hand old.hand.items is.hand))

-- a call on the segment pool
pub moved_segments : (s : Shared) (old new : Worker) (call : SegCall) (reply : SegReply) (c : CalledSegments s old.passes new.passes call reply) (n : SegNote) → c.note ≡ n → new.hand ≡ old.hand
    → new.lines ≡ old.lines
    → (before : List Act) (st : Stand) (to : Stage) → IsAt s old before st → segments_step (setup_of s) st.stage st n ≡ Some (at to st) → Moves s old new before st to []
moved_segments s old new call reply c n noted hand lines before st to is step =
    let act : c.act ≡ on_segments n = c.stepped.is ∙ ap (λ (x : SegNote). on_segments x) noted in
    let a = subst (λ (x : Act). Acted s old.passes new.passes (x ∷ [])) act (acted_segments s old.passes new.passes call reply c) in
    moved_on s old new before st (on_segments n ∷ []) to st.hand [] [] is a (ap (λ l. l.items) lines ∙ sym (nil_end old.lines.items)) tt refl (ap (moved (setup_of s) (on_segments n)) is.stood ∙ step)
    (subst (λ h. Items (setup_of s) (seen new.passes) st.hand h.items) (sym hand) (items_grow (setup_of s) (seen old.passes) (seen new.passes) a.grown st.hand old.hand.items is.hand))

-- a call on a bucket: what left goes to the back of the hand
pub moved_bucket : (s : Shared) (old new : Worker) (b : ℕ) (call : BucketCall) (reply : BucketReply) → IsShared s → b < length s.buckets.items
    → (c : CalledBucket s old.passes new.passes b call reply) (n : BucketNote) → c.note ≡ n
    → new.hand.items ≡ old.hand.items ++ ended_in reply → new.lines ≡ old.lines → (before : List Act) (st : Stand) (to : Stage) (rs : List ℕ) → IsAt s old before st
    → ((left : List Gone) → refused_in (on_bucket b n left ∷ []) ≡ rs)
    → ((left : List Gone) → Items (setup_of s) (seen new.passes) left (ended_in reply) → bucket_step (setup_of s) st.stage st b n left ≡ Some (held_at to (st.hand ++ left) st))
    → Moves s old new before st to rs
moved_bucket s old new b call reply sh real c n noted hand lines before st to rs is refuses step =
    let left = gone (fixed_at (setup_of s) b) c.stepped.before c.note in
    let act : c.act ≡ on_bucket b n left = c.stepped.is ∙ ap (λ (x : BucketNote). on_bucket b x left) noted in
    let a = subst (λ (x : Act). Acted s old.passes new.passes (x ∷ [])) act (acted_bucket s old.passes new.passes b call reply c) in
    let more = called_items s old.passes new.passes b call reply sh real c in
    moved_on s old new before st (on_bucket b n left ∷ []) to (st.hand ++ left) [] rs is a (ap (λ l. l.items) lines ∙ sym (nil_end old.lines.items)) tt (refuses left) (ap (moved (setup_of s) (on_bucket b n left)) is.stood ∙ step left more)
    (subst (λ h. Items (setup_of s) (seen new.passes) (st.hand ++ left) h) (sym hand)
    (items_append (setup_of s) (seen new.passes) st.hand left old.hand.items (ended_in reply) (items_grow (setup_of s) (seen old.passes) (seen new.passes) a.grown st.hand old.hand.items is.hand) more))
