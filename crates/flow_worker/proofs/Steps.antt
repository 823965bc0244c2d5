-- The moves of the script, one call each.
use Rattle.std.proofs.Common.{◌≡◌, ℕ, ◌+◌, ◌%◌, ◌==◌, ◌<◌, Bool, true, false, ◌&&◌, List, [], ◌∷◌, ◌++◌, length, map, Option, Some, None, refl, sym, ◌∙◌, ap, subst, arith, if◌then◌else◌}
use Rattle.std.specs.Option.{option_to_list}
use Rattle.std.proofs.lemmas.Bool.Decides.{nat_tests}
use Rattle.bucket_laws.specs.Leaving.{Gone}
use Rattle.bucket_rules.specs.Own.{is_needing}
use Rattle.flow_bucket.specs.Stands.{run_of}
use Rattle.flow_bucket.specs.declared.calls.BucketCall.TheVariants as call
use Rattle.flow_bucket.specs.declared.calls.BucketReply.TheVariants as reply
use Rattle.flow_object.specs.Ending.{EndedFlow}
use Rattle.flow_pool.specs.Pool.{setting_of}
use Rattle.flow_pool.specs.declared.calls.PoolCall.TheVariants as poolcall
use Rattle.flow_pool.specs.declared.calls.PoolReply.TheVariants as poolreply
use Rattle.flow_worker.specs.Places.{evict_on, is_asking, is_denied, is_evicting, is_granted, is_looking, is_missed, is_settling, to_evicting, to_granted, to_missed, to_next, to_settling, to_taken, to_turning}
use Rattle.flow_worker.specs.Standing.{Goes, IsAt, MayGo, Moves}
use Rattle.flow_worker.proofs.Moving.{moved_bucket, moved_pool, moved_segments, moves_none, moves_through}
use Rattle.flow_worker.proofs.Words.{and_true, is_same, only_true, same_yes, truth_yes}
use Rattle.hist_lock.specs.Locks.{made_with}
use Rattle.role_steps.specs.Calls.{CalledPool, CalledSegments, CalledBucket}
use Rattle.role_steps.specs.Items.{gone_of}
use Rattle.role_steps.specs.Roles.{IsShared, seen, setup_of}
use Rattle.role_steps.specs.declared.roles.Shared.{Shared}
use Rattle.role_steps.specs.declared.roles.Worker.{Worker}
use Rattle.role_steps.proofs.Items.{items_gone}
use Rattle.run_rules.specs.Acts.{Act}
use Rattle.run_rules.specs.Setup.{bucket_for}
use Rattle.run_rules.specs.Worker.{Stage, Stand, at, bucket_step, denied, evicting, granted, held_at, is_for, is_read, look_on, missed, pool_step, segments_step, settle_on, settling, takes_on, turning}
use Rattle.segment_pool.specs.Pool.{limit_of}
use Rattle.segment_pool.specs.declared.calls.SegCall.TheVariants as segcall
use Rattle.segment_pool.specs.declared.calls.SegReply.TheVariants as segreply
use Rattle.suri_base.specs.Keys.{same_truth}
use Rattle.suri_base.specs.declared.entry.BucketNote.TheVariants.{AllInUse, Found, Made, Missing, Refused, Stored, Stopped, Victim}
use Rattle.suri_base.specs.declared.entry.PoolNote.TheVariants.{Full, Took}
use Rattle.suri_base.specs.declared.entry.SegNote.TheVariants as seg
use Rattle.suri_base.specs.declared.stream.Offer.{Offer}

-- one move after another, from every place

pub goes_on : (s : Shared) (a b c : Worker) (from from' : Stand → List ℕ → Type 0) (to to' : Stand → List ℕ → Stage) (rs us : List ℕ) → Goes s a b from to rs → Goes s b c from' to' us
    → ((before : List Act) (st : Stand) (todo : List ℕ) (hand : List Gone) → IsAt s a before st → from st todo → from' (held_at (to st todo) hand st) todo)
    → ((st : Stand) (todo : List ℕ) (p : Stage) (hand : List Gone) → to' (held_at p hand st) todo ≡ to' st todo) → Goes s a c from to' (us ++ rs)
goes_on s a b c from from' to to' rs us g h link same = λ before st todo is there.
    let m = g before st todo is there in
    let n = h (m.now ++ before) (held_at (to st todo) m.hand st) todo m.is (link before st todo m.hand is there) in
    moves_through s a b c before st (to st todo) (to' st todo) rs us m
    (subst (λ (p : Stage). Moves s b c (m.now ++ before) (held_at (to st todo) m.hand st) p us) (same st todo (to st todo) m.hand) n)

pub may_on : (s : Shared) (a b : Worker) (from from' : Stand → List ℕ → Type 0) (to : Stand → List ℕ → Stage) (rs : List ℕ) → MayGo s a from → Goes s a b from to rs
    → ((before : List Act) (st : Stand) (todo : List ℕ) (hand : List Gone) → IsAt s a before st → from st todo → from' (held_at (to st todo) hand st) todo) → MayGo s b from'
may_on s a b from from' to rs may g link = let m = g may.before may.stand may.todo may.is may.there in record {
  before = m.now ++ may.before;
  stand = held_at (to may.stand may.todo) m.hand may.stand;
  todo = may.todo;
  is = m.is;
  there = link may.before may.stand may.todo m.hand may.is may.there;
}

tried_here : (rows k : ℕ) → k < rows → (k == rows) ≡ false
tried_here rows k low = grind (arith, nat_tests, low)

pub evicting_at : (rows k f : ℕ) (todo : List ℕ) → k < rows → evict_on rows k f todo ≡ evicting f k todo
evicting_at rows k f todo low = ap (λ (t : Bool). if t then denied f todo else evicting f k todo) (tried_here rows k low)

pub denied_at : (rows f : ℕ) (todo : List ℕ) → evict_on rows rows f todo ≡ denied f todo
denied_at rows f todo = ap (λ (t : Bool). if t then denied f todo else evicting f rows todo) (same_yes rows)

-- the same stage in other words
pub goes_as : (s : Shared) (a b : Worker) (from : Stand → List ℕ → Type 0) (to to' : Stand → List ℕ → Stage) (rs : List ℕ) → Goes s a b from to rs
    → ((st : Stand) (todo : List ℕ) → from st todo → to st todo ≡ to' st todo) → Goes s a b from to' rs
goes_as s a b from to to' rs g same = λ before st todo is there. subst (λ (p : Stage). Moves s a b before st p rs) (same st todo there) (g before st todo is there)

pub goes_nowhere : (s : Shared) (k : Worker) (from : Stand → List ℕ → Type 0) (to : Stand → List ℕ → Stage) → ((st : Stand) (todo : List ℕ) → from st todo → st.stage ≡ to st todo)
    → Goes s k k from to []
goes_nowhere s k from to same = λ before st todo is there. subst (λ (p : Stage). Moves s k k before st p []) (same st todo there) (moves_none s k before st is)

module _ (s : Shared) (old new : Worker) where
  pub took_object : (f : ℕ) (obj : _) → CalledPool s old.passes new.passes (poolcall.Take f) (poolreply.Obj obj) → new.hand ≡ old.hand → new.lines ≡ old.lines
      → Goes s old new (is_missed f) (to_granted f) []
  took_object f obj c hand lines = λ before st todo is stage.
      moved_pool s old new (poolcall.Take f) (poolreply.Obj obj) c (Took f) c.answer.2 hand lines before st (granted f todo) is (λ i. refl)
      (λ i. ap (λ (p : Stage). pool_step (setup_of s) p st (Took f) i) stage ∙ only_true (f == f) (at (granted f todo) st) (same_yes f))

  pub took_none : (f out limit : ℕ) → CalledPool s old.passes new.passes (poolcall.Take f) (poolreply.Full out limit) → new.hand ≡ old.hand → new.lines ≡ old.lines
      → Goes s old new (is_missed f) (to_taken old.hand.items f) []
  took_none f out limit c hand lines = λ before st todo is stage.
      let most = (setting_of (made_with s.pool)).memcap in
      moved_pool s old new (poolcall.Take f) (poolreply.Full out limit) c (Full f most most) c.answer.3 hand lines before st (takes_on (map gone_of old.hand.items) f todo) is (λ i. refl)
      (λ i. ap (λ (p : Stage). pool_step (setup_of s) p st (Full f most most) i) stage ∙ (only_true (f == f) (at (takes_on st.hand f todo) st) (same_yes f)
      ∙ ap (λ (h : List Gone). Some (at (takes_on h f todo) st)) (items_gone (setup_of s) (seen old.passes) st.hand old.hand.items is.hand)))

  pub had_node : (f : ℕ) (node : _) → CalledSegments s old.passes new.passes (segcall.Take f) (segreply.Node node) → new.hand ≡ old.hand → new.lines ≡ old.lines
      → Goes s old new (is_asking f) (λ st todo. settling f true todo) []
  had_node f node c hand lines = λ before st todo is stage.
      moved_segments s old new (segcall.Take f) (segreply.Node node) c (seg.Took f) c.answer.2 hand lines before st (settling f true todo) is
      (ap (λ (p : Stage). segments_step (setup_of s) p st (seg.Took f)) stage ∙ only_true (f == f) (at (settling f true todo) st) (same_yes f))

  pub had_none : (f out limit : ℕ) → CalledSegments s old.passes new.passes (segcall.Take f) (segreply.Full out limit) → new.hand ≡ old.hand → new.lines ≡ old.lines
      → Goes s old new (is_asking f) (λ st todo. settling f false todo) []
  had_none f out limit c hand lines = λ before st todo is stage.
      moved_segments s old new (segcall.Take f) (segreply.Full out limit) c (seg.Full f (limit_of (made_with s.segments)) (limit_of (made_with s.segments))) c.answer.3 hand lines before st (settling f false todo) is
      (ap (λ (p : Stage). segments_step (setup_of s) p st (seg.Full f (limit_of (made_with s.segments)) (limit_of (made_with s.segments)))) stage ∙ only_true (f == f) (at (settling f false todo) st) (same_yes f))

  module _ (sh : IsShared s) (b f : ℕ) (real : b < length s.buckets.items) where
    for_it : b ≡ bucket_for (setup_of s) f → is_for (setup_of s) f b f ≡ true
    for_it home = and_true (f == f) (b == bucket_for (setup_of s) f) (same_yes f) (is_same b (bucket_for (setup_of s) f) home)

    read_it : (st : Stand) (e : Bool) (n : ℕ) → st.emergency ≡ e → st.seen ≡ n → is_read (setup_of s) st e n ≡ true
    read_it st e n p q = and_true (same_truth e st.emergency) (n == st.seen) (subst (λ (x : Bool). same_truth e x ≡ true) (sym p) (truth_yes e)) (is_same n st.seen (sym q))

    pub found : (e : Bool) (n run : ℕ) (said : Offer) → b ≡ bucket_for (setup_of s) f → CalledBucket s old.passes new.passes b (call.Look f e n) (reply.Found run said)
        → new.hand.items ≡ old.hand.items ++ [] → new.lines ≡ old.lines
        → Goes s old new (is_looking f e n) (to_settling (is_needing said) f) []
    found e n run said home c hand lines = λ before st todo is there.
        moved_bucket s old new b (call.Look f e n) (reply.Found run said) sh real c (Found f e n run said) c.answer.noted hand lines before st (settle_on (is_needing said) f st.batch todo) [] is (λ left. refl)
        (λ left items. ap (λ (p : Stage). bucket_step (setup_of s) p st b (Found f e n run said) left) there.stage
        ∙ only_true (is_for (setup_of s) f b f && is_read (setup_of s) st e n) (held_at (settle_on (is_needing said) f st.batch todo) (st.hand ++ left) st)
        (and_true (is_for (setup_of s) f b f) (is_read (setup_of s) st e n) (for_it home) (read_it st e n there.mode there.read)))

    pub missing : (e : Bool) (n : ℕ) (ended : Option EndedFlow) → b ≡ bucket_for (setup_of s) f → CalledBucket s old.passes new.passes b (call.Look f e n) (reply.Missing ended)
        → new.hand.items ≡ old.hand.items ++ option_to_list ended → new.lines ≡ old.lines
        → Goes s old new (is_looking f e n) (to_missed f) []
    missing e n ended home c hand lines = λ before st todo is there.
        moved_bucket s old new b (call.Look f e n) (reply.Missing ended) sh real c (Missing f e n (run_of ended)) c.answer.noted hand lines before st (missed f todo) [] is (λ left. refl)
        (λ left items. ap (λ (p : Stage). bucket_step (setup_of s) p st b (Missing f e n (run_of ended)) left) there.stage
        ∙ only_true (is_for (setup_of s) f b f && is_read (setup_of s) st e n) (held_at (missed f todo) (st.hand ++ left) st)
        (and_true (is_for (setup_of s) f b f) (is_read (setup_of s) st e n) (for_it home) (read_it st e n there.mode there.read)))

    pub begun : (obj : _) (said : Offer) → b ≡ bucket_for (setup_of s) f → CalledBucket s old.passes new.passes b (call.Make f obj) (reply.Made said) → new.hand.items ≡ old.hand.items ++ []
        → new.lines ≡ old.lines → Goes s old new (is_granted f) (to_settling (is_needing said) f) []
    begun obj said home c hand lines = λ before st todo is stage.
        moved_bucket s old new b (call.Make f obj) (reply.Made said) sh real c (Made f said) c.answer.noted hand lines before st (settle_on (is_needing said) f st.batch todo) [] is (λ left. refl)
        (λ left items. ap (λ (p : Stage). bucket_step (setup_of s) p st b (Made f said) left) stage ∙ only_true (is_for (setup_of s) f b f) (held_at (settle_on (is_needing said) f st.batch todo) (st.hand ++ left) st) (for_it home))

    pub refused : b ≡ bucket_for (setup_of s) f → CalledBucket s old.passes new.passes b (call.Refuse f) reply.Refused → new.hand.items ≡ old.hand.items ++ [] → new.lines ≡ old.lines
        → Goes s old new (is_denied f) to_next (f ∷ [])
    refused home c hand lines = λ before st todo is stage.
        moved_bucket s old new b (call.Refuse f) reply.Refused sh real c (Refused f) c.answer.noted hand lines before st (look_on st.batch todo) (f ∷ []) is (λ left. refl)
        (λ left items. ap (λ (p : Stage). bucket_step (setup_of s) p st b (Refused f) left) stage ∙ only_true (is_for (setup_of s) f b f) (held_at (look_on st.batch todo) (st.hand ++ left) st) (for_it home))

    pub stored : (node : _) → b ≡ bucket_for (setup_of s) f → CalledBucket s old.passes new.passes b (call.Segment f (Some node)) reply.Stored → new.hand.items ≡ old.hand.items ++ []
        → new.lines ≡ old.lines → Goes s old new (is_settling true f) to_next []
    stored node home c hand lines = λ before st todo is stage.
        moved_bucket s old new b (call.Segment f (Some node)) reply.Stored sh real c (Stored f) c.answer.noted hand lines before st (look_on st.batch todo) [] is (λ left. refl)
        (λ left items. ap (λ (p : Stage). bucket_step (setup_of s) p st b (Stored f) left) stage ∙ only_true (is_for (setup_of s) f b f) (held_at (look_on st.batch todo) (st.hand ++ left) st) (for_it home))

    pub stopped : b ≡ bucket_for (setup_of s) f → CalledBucket s old.passes new.passes b (call.Segment f None) reply.Stopped → new.hand.items ≡ old.hand.items ++ [] → new.lines ≡ old.lines
        → Goes s old new (is_settling false f) to_next []
    stopped home c hand lines = λ before st todo is stage.
        moved_bucket s old new b (call.Segment f None) reply.Stopped sh real c (Stopped f) c.answer.noted hand lines before st (look_on st.batch todo) [] is (λ left. refl)
        (λ left items. ap (λ (p : Stage). bucket_step (setup_of s) p st b (Stopped f) left) stage ∙ only_true (is_for (setup_of s) f b f) (held_at (look_on st.batch todo) (st.hand ++ left) st) (for_it home))

    asked_it : (k : ℕ) → b ≡ (bucket_for (setup_of s) f + k) % s.layout.rows → ((f == f) && (b == (bucket_for (setup_of s) f + k) % s.layout.rows)) ≡ true
    asked_it k home = and_true (f == f) (b == (bucket_for (setup_of s) f + k) % s.layout.rows) (same_yes f) (is_same b ((bucket_for (setup_of s) f + k) % s.layout.rows) home)

    pub victim : (k : ℕ) (e : EndedFlow) → k < s.layout.rows → b ≡ (bucket_for (setup_of s) f + k) % s.layout.rows → CalledBucket s old.passes new.passes b (call.Evict f) (reply.Victim e)
        → new.hand.items ≡ old.hand.items ++ e ∷ [] → new.lines ≡ old.lines
        → Goes s old new (is_evicting s.layout.rows k f) (to_turning f) []
    victim k e low home c hand lines = λ before st todo is stage.
        moved_bucket s old new b (call.Evict f) (reply.Victim e) sh real c (Victim f e.run) c.answer.noted hand lines before st (turning f todo) [] is (λ left. refl)
        (λ left items. ap (λ (p : Stage). bucket_step (setup_of s) p st b (Victim f e.run) left) (stage ∙ evicting_at s.layout.rows k f todo low)
        ∙ only_true ((f == f) && (b == (bucket_for (setup_of s) f + k) % s.layout.rows)) (held_at (turning f todo) (st.hand ++ left) st) (asked_it k home))

    pub all_in_use : (k count : ℕ) → k < s.layout.rows → b ≡ (bucket_for (setup_of s) f + k) % s.layout.rows → CalledBucket s old.passes new.passes b (call.Evict f) (reply.AllInUse count)
        → new.hand.items ≡ old.hand.items ++ [] → new.lines ≡ old.lines
        → Goes s old new (is_evicting s.layout.rows k f) (to_evicting s.layout.rows (k + 1) f) []
    all_in_use k count low home c hand lines = λ before st todo is stage.
        moved_bucket s old new b (call.Evict f) (reply.AllInUse count) sh real c (AllInUse f count) c.answer.noted hand lines before st (evict_on s.layout.rows (k + 1) f todo) [] is (λ left. refl)
        (λ left items. ap (λ (p : Stage). bucket_step (setup_of s) p st b (AllInUse f count) left) (stage ∙ evicting_at s.layout.rows k f todo low)
        ∙ only_true ((f == f) && (b == (bucket_for (setup_of s) f + k) % s.layout.rows)) (held_at (evict_on s.layout.rows (k + 1) f todo) (st.hand ++ left) st) (asked_it k home))
