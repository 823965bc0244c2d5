-- The buckets are drained, one after another.
use Rattle.std.proofs.Common.{◌≡◌, ℕ, suc, ◌+◌, ◌<◌, ◌≤◌, ◌==◌, nat_lt, Bool, true, false, ◌&&◌, List, [], ◌∷◌, ◌++◌, length, map, reverse, Some, refl, sym, ◌∙◌, ap, subst, arith, append_assoc, append-nil, length-append, get_or}
use Rattle.std.specs.Prelude.{All}
use Rattle.std.proofs.lemmas.Bool.Decides.{nat_tests}
use Rattle.std.proofs.lemmas.List.{get_or-map, length-map, reverse-append}
use Rattle.bucket_laws.specs.Leaving.{Gone, gone, runs}
use Rattle.bucket_laws.proofs.Listing.{bearing_within}
use Rattle.bucket_laws.proofs.Steps.{here_made}
use Rattle.bucket_laws.proofs.Tests.{both, or_left, or_right}
use Rattle.bucket_rules.specs.Own.{is_closed, closes}
use Rattle.bucket_rules.specs.Row.{has, is_here, row}
use Rattle.bucket_rules.specs.Rule.{IsLegal}
use Rattle.bucket_rules.specs.declared.fixed.Fixed.{Fixed}
use Rattle.bucket_rules.proofs.Soundness.{sound}
use Rattle.flow_bucket.specs.Bucket.{fixed_of}
use Rattle.flow_bucket.specs.Fixing.{legal_is}
use Rattle.flow_bucket.specs.LetGo.{AreRising, Below, IsLetGo}
use Rattle.flow_bucket.specs.LetGo as letgo
use Rattle.flow_bucket.specs.Stands.{BucketMay, BucketAnswers}
use Rattle.flow_bucket.specs.declared.calls.BucketCall.TheVariants.{Drain}
use Rattle.flow_bucket.specs.declared.calls.BucketReply.TheVariants.{Drained}
use Rattle.flow_object.specs.Ending.{EndedFlow}
use Rattle.flow_object.specs.declared.outcome.FlowLine.{FlowLine}
use Rattle.hist_lock.specs.Locks.{made_with, seen_by}
use Rattle.lock_rows.specs.Rows.{IsGood, Pairs}
use Rattle.lock_rows.proofs.Placed.{pairs_at, pairs_length}
use Rattle.recycler.specs.Draining.{DrainedAll, DrainedOne, Draining, MayDrainAll, ending}
use Rattle.recycler.specs.Serving.{Served}
use Rattle.recycler.proofs.Serving.{runs_of}
use Rattle.role_steps.specs.Calls.{CalledBucket}
use Rattle.role_steps.specs.Finishing.{IsLineFor, MayFinish}
use Rattle.role_steps.specs.Items.{IsLine, Items, LinesOf, gone_of}
use Rattle.role_steps.specs.Roles.{Fits, IsShared, MayOnBucket, number_of, seen, setup_of}
use Rattle.role_steps.specs.declared.roles.Passes.{Passes}
use Rattle.role_steps.specs.declared.roles.Recycler.{Recycler}
use Rattle.role_steps.specs.declared.roles.Shared.{Shared}
use Rattle.role_steps.proofs.Items.{items_finish, items_gone, items_lines}
use Rattle.role_steps.proofs.LettingGo.{called_items}
use Rattle.role_steps.proofs.Stepping.{acted_bucket, acted_through}
use Rattle.run_rules.specs.Acts.{Act, AreActs, on_pool, on_segments, on_bucket}
use Rattle.run_rules.specs.Ending.{Ending, ended_on, ending_after}
use Rattle.run_rules.specs.Growing.{HasGrown}
use Rattle.run_rules.specs.Histories.{Histories, bucket_at}
use Rattle.run_rules.specs.Serving.{finished, finished_on, only}
use Rattle.run_rules.specs.Setup.{Setup, fixed_at}
use Rattle.suri_base.specs.Capture.{IsCapture}
use Rattle.suri_base.specs.History.{entry}
use Rattle.suri_base.specs.declared.entry.BucketNote.{BucketNote}
use Rattle.suri_base.specs.declared.entry.BucketNote.TheVariants as note
use Rattle.suri_base.specs.declared.entry.Entry.{Entry}
use Rattle.suri_base.specs.declared.entry.PoolNote.TheVariants.{Took, Full, Put, Turn, Mode, Over}
use Rattle.suri_base.proofs.Captures.{as_many_seen}
use Rattle.suri_base.proofs.Histories.{begins_through}

-- what was seen of each bucket is legal

some_of : {A : Type 0} (xs : List A) (i : ℕ) → i < length xs → A
some_of [] i low = absurd (omega arith)
some_of (x ∷ xs) i low = x

pub seen_legal : (s : Shared) (p : Passes) → IsShared s → Fits s p → (b : ℕ) → b < length (seen p).buckets → IsLegal (fixed_at (setup_of s) b) (bucket_at b (seen p).buckets)
seen_legal s p sh f b low =
    let count : length p.buckets.items ≡ length s.buckets.items
    = pairs_length (λ l q. IsGood fixed_of BucketMay BucketAnswers (number_of p) l q) s.buckets.items p.buckets.items f.buckets in
    let inside : b < length p.buckets.items = omega (arith, low, length-map p.buckets.items (λ q. seen_by q)) in
    let real : b < length s.buckets.items = omega (arith, inside, count) in
    let l = some_of s.buckets.items b real in
    let q = some_of p.buckets.items b inside in
    let good = pairs_at (λ l q. IsGood fixed_of BucketMay BucketAnswers (number_of p) l q) s.buckets.items p.buckets.items b l q f.buckets real in
    subst (λ (h : List (Entry BucketNote)). IsLegal (fixed_at (setup_of s) b) h) (sym (get_or-map (λ p. seen_by p) p.buckets.items b q [] inside))
    (subst (λ (x : Fixed). IsLegal x (seen_by (get_or p.buckets.items b q))) (sh.buckets b l real)
    (legal_is (fixed_of (made_with (get_or s.buckets.items b l))) (seen_by (get_or p.buckets.items b q)) good.legal))

pub seen_finish : (s : Shared) (p : Passes) (queue : List Gone) (es : List EndedFlow) → IsShared s → Fits s p → Items (setup_of s) (seen p) queue es
    → All (λ (e : EndedFlow). MayFinish (setup_of s) e) es
seen_finish s p queue es sh f items = items_finish (setup_of s) (seen p) sh.capture (λ b low. seen_legal s p sh f b low) queue es items

-- lines over longer histories

line_grow : (w : Setup) (t u : Histories) (a : ℕ) (l : FlowLine) → HasGrown t u → IsLine w t a l → IsLine w u a l
line_grow w t u a l h i = let at = i.leaving in record {
  leaving = record {
    bucket = at.bucket;
    real = subst (λ (n : ℕ). at.bucket < n) (sym h.rows) at.real;
    at = at.at;
    past = at.past;
    stands = begins_through (at.at ∷ at.past) (bucket_at at.bucket t.buckets) (bucket_at at.bucket u.buckets) at.stands (h.buckets at.bucket at.real);
    left = at.left;
  };
  reason = i.reason;
  emergency = i.emergency;
  place = i.place;
  packets = i.packets;
  members = i.members;
  is = i.is;
}

pub lines_grow : (w : Setup) (t u : Histories) → HasGrown t u → (xs : List ℕ) (ls : List FlowLine) → LinesOf w t xs ls → LinesOf w u xs ls
lines_grow w t u h [] [] i = tt
lines_grow w t u h (a ∷ xs) (l ∷ ls) i = (line_grow w t u a l h i.0, lines_grow w t u h xs ls i.1)
lines_grow w t u h [] (l ∷ ls) i = absurd i
lines_grow w t u h (a ∷ xs) [] i = absurd i

pub pairs_append : {A B : Type 0} (P : A → B → Type 0) (xs more : List A) (ys rest : List B) → Pairs P xs ys → Pairs P more rest → Pairs P (xs ++ more) (ys ++ rest)
pairs_append P [] more [] rest h k = k
pairs_append P (x ∷ xs) more (y ∷ ys) rest h k = (h.0, pairs_append P xs more ys rest h.1 k)
pairs_append P [] more (y ∷ ys) rest h k = absurd h
pairs_append P (x ∷ xs) more [] rest h k = absurd h

-- what acts finished, one after another

finished_step : (a : Act) (xs ys : List ℕ) → finished_on a (xs ++ ys) ≡ finished_on a xs ++ ys
finished_step (on_pool (Took f) i) xs ys = refl
finished_step (on_pool (Full f n l) i) xs ys = refl
finished_step (on_pool (Put run) i) xs ys = refl
finished_step (on_pool (Turn run f) i) xs ys = refl
finished_step (on_pool (Mode e) i) xs ys = refl
finished_step (on_pool (Over round e) i) xs ys = refl
finished_step (on_segments n) xs ys = refl
finished_step (on_bucket b n left) xs ys = refl

pub finished_append : (xs ys : List Act) → finished (xs ++ ys) ≡ finished xs ++ finished ys
finished_append [] ys = refl
finished_append (a ∷ xs) ys = ap (finished_on a) (finished_append xs ys) ∙ finished_step a (finished xs) (finished ys)

pub told_append : (xs ys : List Act) → reverse (finished (xs ++ ys)) ≡ reverse (finished ys) ++ reverse (finished xs)
told_append xs ys = ap reverse (finished_append xs ys) ∙ reverse-append (finished xs) (finished ys)

-- no more flows leave a bucket than there are frames

first_there : (x : ℕ) (xs : List ℕ) → has (x ∷ xs) x ≡ true
first_there x xs = or_left (x == x) (has xs x) (same_yes x)
  where
    same_yes : (r : ℕ) → (r == r) ≡ true
    same_yes r = grind (arith, nat_tests)

rising_few : (n x : ℕ) (xs : List ℕ) → AreRising (x ∷ xs) → ((a : ℕ) → has (x ∷ xs) a ≡ true → a ≤ n) → length xs + x ≤ n
rising_few n x [] r low = omega (arith, low x (first_there x []))
rising_few n x (y ∷ ys) r low = omega (arith, rising_few n y ys r.1 (λ a h. low a (or_right (x == a) (has (y ∷ ys) a) h)), r.0)

runs_few : (n : ℕ) (xs : List ℕ) → AreRising xs → ((a : ℕ) → has xs a ≡ true → a ≤ n) → length xs ≤ n + 1
runs_few n [] r low = omega arith
runs_few n (x ∷ xs) r low = omega (arith, rising_few n x xs r low)

length_runs : (es : List EndedFlow) → length (letgo.runs es) ≡ length es
length_runs [] = refl
length_runs (e ∷ es) = ap suc (length_runs es)

pub few_leave : (s : Fixed) (past : List (Entry BucketNote)) (n : BucketNote) (es : List EndedFlow) → IsCapture s.capture → IsLegal s past → IsLetGo s past n es
    → length es ≤ 4194305
few_leave s past n es is l go =
    let low : (a : ℕ) → has (letgo.runs es) a ≡ true → a ≤ 4194304
    = λ a h.
    let here = both (is_here (row s a past)) _ (sym (go.whole a) ∙ h) in
    let borne = (sound s past l).borne a (here_made s past a (sound s past l) here.0) in
    omega (arith, (bearing_within s.capture a borne.0 borne.1).1, as_many_seen s.capture is, is.few) in
    omega (arith, runs_few 4194304 (letgo.runs es) go.rise low, length_runs es)

-- the drain of one bucket

test_yes : {A : Type 0} (t : Bool) (x : A) → t ≡ true → only t x ≡ Some x
test_yes true x h = refl
test_yes false x h = cc

may_step : (b rows : ℕ) → b < rows → ((b == b) && nat_lt b rows) ≡ true
may_step b rows low = grind (arith, nat_tests)

drain_step : (w : Setup) (start : Ending) (before : List Act) (b count : ℕ) (left : List Gone) → b < w.layout.rows
    → ending_after w start before ≡ Some (ending [] b) → ending_after w start (on_bucket b (note.Drained count) left ∷ before) ≡ Some (ending left (b + 1))
drain_step w start before b count left low h =
    ap (ended_on w (on_bucket b (note.Drained count) left)) h ∙ test_yes ((b == b) && nat_lt b w.layout.rows) (ending left (b + 1)) (may_step b w.layout.rows low)

pub drained_one : (s : Shared) (old mid new : Recycler) (b : ℕ) (es : _) → IsShared s → b < length s.buckets.items
    → (c : CalledBucket s old.passes mid.passes b Drain (Drained es)) → mid.lines.items ≡ old.lines.items → mid.waiting.items ≡ es.items
    → Served s mid new → DrainedOne s old new b
drained_one s old mid new b es sh real c lines waiting sv =
    let w = setup_of s in
    let left = gone (fixed_at w b) c.stepped.before c.note in
    let items : Items w (seen mid.passes) left es.items = called_items s old.passes mid.passes b Drain (Drained es) sh real c in
    let is : left ≡ map gone_of es.items = items_gone w (seen mid.passes) left es.items items in
    let act : c.act ≡ on_bucket b (note.Drained (length es.items)) left = c.stepped.is ∙ ap (λ (n : BucketNote). on_bucket b n left) c.answer.noted in
    let legal = seen_legal s mid.passes sh c.fits b (subst (λ (n : ℕ). b < n) (sym c.stepped.rows) c.stepped.real) in
    let past : IsLegal (fixed_at w b) c.stepped.before = tail (fixed_at w b) (entry (number_of old.passes) old.passes.step c.note) c.stepped.before
    (subst (λ (h : List (Entry BucketNote)). IsLegal (fixed_at w b) h) c.stepped.bucket legal) in
    let count = few_leave (fixed_at w b) c.stepped.before c.note es.items sh.capture past c.answer.gone in
    record {
      now = sv.now ++ c.act ∷ [];
      acted = acted_through s old.passes mid.passes new.passes (c.act ∷ []) sv.now (acted_bucket s old.passes mid.passes b Drain (Drained es) c) sv.acted;
      left = left;
      stands = λ start before h.
          subst (λ (l : List Act). ending_after w start l ≡ Some (ending [] (b + 1))) (sym (append_assoc sv.now (c.act ∷ []) before))
          (sv.serves.ending start (b + 1) [] (c.act ∷ before)
          (subst (λ (x : Act). ending_after w start (x ∷ before) ≡ Some (ending (map gone_of mid.waiting.items ++ []) (b + 1))) (sym act)
          (subst (λ (q : List Gone). ending_after w start (on_bucket b (note.Drained (length es.items)) left ∷ before) ≡ Some (ending q (b + 1)))
          (is ∙ (ap (map gone_of) (sym waiting) ∙ sym (append-nil (map gone_of mid.waiting.items))))
          (drain_step w start before b (length es.items) left (subst (λ (n : ℕ). b < n) sh.rows real) h))));
      finished = told_append sv.now (c.act ∷ []) ∙ (ap (λ (l : List ℕ). l ++ reverse (finished sv.now)) (none c.act act)
          ∙ (sv.serves.finished ∙ (ap (map (λ (e : EndedFlow). e.run)) waiting ∙ (sym (runs_of es.items) ∙ ap runs (sym is)))));
      few = omega (arith, sv.serves.few, length-append sv.now (c.act ∷ []), ap length waiting, count);
      lines = sv.lines;
      grew = sv.grew ∙ ap (λ (l : List FlowLine). l ++ sv.lines) lines;
      told = lines_grow w (seen mid.passes) (seen new.passes) sv.acted.grown (runs left) sv.lines
          (items_lines w (seen mid.passes) left es.items sv.lines items (subst (λ (l : List EndedFlow). Pairs (λ e x. IsLineFor e x) l sv.lines) waiting sv.told));
      waiting = sv.waiting;
    }
  where
    tail : (f : Fixed) (e : Entry BucketNote) (past : List (Entry BucketNote)) → IsLegal f (e ∷ past) → IsLegal f past
    tail f e past l = l.1

    none : (a : Act) {n : BucketNote} {left : List Gone} → a ≡ on_bucket b n left → reverse (finished (a ∷ [])) ≡ []
    none a e = ap (λ (x : Act). reverse (finished (x ∷ []))) e

-- its flows can be finished
pub drained_finish : (s : Shared) (old new : Passes) (b : ℕ) (es : _) (waiting : List EndedFlow) → IsShared s → b < length s.buckets.items
    → CalledBucket s old new b Drain (Drained es) → waiting ≡ es.items → All (λ (e : EndedFlow). MayFinish (setup_of s) e) waiting
drained_finish s old new b es waiting sh real c is =
    subst (λ (l : List EndedFlow). All (λ (e : EndedFlow). MayFinish (setup_of s) e) l) (sym is)
    (seen_finish s new (gone (fixed_at (setup_of s) b) c.stepped.before c.note) es.items sh c.fits (called_items s old new b Drain (Drained es) sh real c))

-- all of them

pub draining_start : (s : Shared) (old mid : Recycler) → MayDrainAll s old → Served s old mid → Draining s old mid 0
draining_start s old mid m sv = record {
  now = sv.now;
  acted = sv.acted;
  stands = subst (λ (l : List Act). ending_after (setup_of s) (ending (map gone_of old.waiting.items) 0) l ≡ Some (ending [] 0)) (append-nil sv.now)
      (sv.serves.ending (ending (map gone_of old.waiting.items) 0) 0 [] []
      (ap (λ (q : List Gone). Some (ending q 0)) (sym (append-nil (map gone_of old.waiting.items)))));
  few = omega (arith, sv.serves.few);
  lines = sv.lines;
  grew = sv.grew;
  told = subst (λ (l : List ℕ). LinesOf (setup_of s) (seen mid.passes) l sv.lines)
      (ap runs (items_gone (setup_of s) (seen old.passes) m.queue old.waiting.items m.items) ∙ (runs_of old.waiting.items ∙ sym sv.serves.finished))
      (lines_grow (setup_of s) (seen old.passes) (seen mid.passes) sv.acted.grown (runs m.queue) sv.lines
      (items_lines (setup_of s) (seen old.passes) m.queue old.waiting.items sv.lines m.items sv.told));
  waiting = sv.waiting;
}

pub draining_next : (s : Shared) (old mid new : Recycler) (k : ℕ) → Draining s old mid k → DrainedOne s mid new k → Draining s old new (k + 1)
draining_next s old mid new k d o =
    let w = setup_of s in record {
      now = o.now ++ d.now;
      acted = acted_through s old.passes mid.passes new.passes d.now o.now d.acted o.acted;
      stands = o.stands (ending (map gone_of old.waiting.items) 0) d.now d.stands;
      few = omega (arith, d.few, o.few, length-append o.now d.now);
      lines = d.lines ++ o.lines;
      grew = o.grew ∙ (ap (λ (l : List FlowLine). l ++ o.lines) d.grew ∙ append_assoc old.lines.items d.lines o.lines);
      told = subst (λ (l : List ℕ). LinesOf w (seen new.passes) l (d.lines ++ o.lines))
          (ap (λ (l : List ℕ). reverse (finished d.now) ++ l) (sym o.finished) ∙ sym (told_append o.now d.now))
          (pairs_append (λ a l. IsLine w (seen new.passes) a l) (reverse (finished d.now)) (runs o.left) d.lines o.lines
          (lines_grow w (seen mid.passes) (seen new.passes) o.acted.grown (reverse (finished d.now)) d.lines d.told) o.told);
      waiting = o.waiting;
    }

pub drained_all : (s : Shared) (old new : Recycler) (k : ℕ) → MayDrainAll s old → Draining s old new k → k ≡ length s.buckets.items → DrainedAll s old new
drained_all s old new k m d all =
    let w = setup_of s in
    let rows : k ≡ s.layout.rows = all ∙ m.shared.rows in record {
      fits = d.acted.fits;
      number = d.acted.number;
      grown = d.acted.grown;
      now = d.now;
      step = omega (arith, d.acted.step, m.step);
      few = omega (arith, d.acted.step, m.step, d.few, m.steps, m.rows, rows);
      own = subst (λ (l : List Act). AreActs (setup_of s) (seen new.passes) (number_of old.passes) l) (append-nil d.now) (d.acted.own [] (sym m.step) m.own);
      emptied = λ queue items.
          subst (λ (q : List Gone). ending_after w (ending q 0) d.now ≡ Some (ending [] s.layout.rows))
          (sym (items_gone w (seen old.passes) queue old.waiting.items items))
          (d.stands ∙ ap (λ (n : ℕ). Some (ending [] n)) rows);
      lines = d.lines;
      grew = d.grew;
      told = d.told;
    }

-- the end role may drain each bucket

closed_more : (f : ℕ) (since past : List (Entry BucketNote)) → is_closed f past ≡ true → is_closed f (since ++ past) ≡ true
closed_more f [] past h = h
closed_more f (e ∷ since) past h = or_right (closes f e.note) (is_closed f (since ++ past)) (closed_more f since past h)

pub may_drain : (s : Shared) (old mid : Recycler) (k : ℕ) → MayDrainAll s old → Draining s old mid k → (b : ℕ) → b < length s.buckets.items → MayOnBucket s mid.passes b Drain
may_drain s old mid k m d b real = record {
  end = d.acted.number ∙ m.number;
  done = λ f t bears home.
      let low : b < s.layout.rows = subst (λ (n : ℕ). b < n) m.shared.rows real in
      let inside : b < length (seen old.passes).buckets = omega (
        arith,
        real,
        length-map old.passes.buckets.items (λ q. seen_by q),
        pairs_length (λ l q. IsGood fixed_of BucketMay BucketAnswers (number_of old.passes) l q) s.buckets.items old.passes.buckets.items m.fits.buckets,
      ) in
      let grew = d.acted.grown.buckets b inside in
      subst (λ (h : List (Entry BucketNote)). is_closed f h ≡ true) (sym grew.1)
      (closed_more f grew.0 (bucket_at b (seen old.passes).buckets) (m.done b f t low bears home));
}
