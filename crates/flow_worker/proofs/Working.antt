-- The batches of a round follow one another, and then the round has ended.
use Rattle.std.proofs.Common.{Vec, Global, ◌≡◌, ℕ, zero, suc, ◌+◌, ◌-◌, ◌*◌, ◌==◌, ◌<◌, ◌≤◌, Bool, true, false, List, [], ◌∷◌, ◌++◌, drop, take, length, map, reverse, get_or, Option, Some, None, refl, sym, ◌∙◌, ap, subst, arith, append_assoc, if◌then◌else◌}
use Rattle.std.proofs.Math.Seq.{drop-append_seam, drop-cons, drop-length}
use Rattle.std.proofs.lemmas.Bool.Decides.{nat_tests}
use Rattle.std.proofs.lemmas.Grind.{div_ceil_times}
use Rattle.std.proofs.lemmas.List.{get_or-map, length-append, length-drop, length-map, reverse-append}
use Rattle.std.proofs.Math.Nat.{mul-le-mul_right}
use Rattle.std.proofs.lemmas.List.FromFn.{get_or-map-range_with_len, length-map-range_with_len}
use Rattle.std.specs.Fork.{slice_chunk}
use Rattle.std.specs.Int.{div_ceil}
use Rattle.bucket_laws.specs.Leaving.{Gone}
use Rattle.capture_index.specs.Batches.{batches_of, cut_into, taken_in}
use Rattle.flow_worker.specs.Batching.{DidBatch, IsBetween, MayBegin}
use Rattle.flow_worker.specs.Working.{DidSome, HasWorked, MayWork, Worked}
use Rattle.flow_worker.proofs.Moving.{lines_grow}
use Rattle.flow_worker.proofs.Rounding.{few_between}
use Rattle.flow_worker.proofs.Short.{after_first, begins_behind, rounds_left}
use Rattle.flow_worker.proofs.Words.{finished_append, nil_end, pairs_append, same_yes}
use Rattle.role_steps.specs.Items.{IsLine, Items, LinesOf}
use Rattle.role_steps.specs.Roles.{Fits, IsShared, number_of, seen, setup_of}
use Rattle.role_steps.specs.declared.roles.Shared.{Shared}
use Rattle.role_steps.specs.declared.roles.Worker.{Worker}
use Rattle.role_steps.proofs.Stepping.{acted_none, acted_through}
use Rattle.run_laws.specs.Setting.{IsLayout, IsSetup}
use Rattle.run_rules.specs.Acts.{Act}
use Rattle.run_rules.specs.Rounds.{ended_between, ended_with, hands_of}
use Rattle.run_rules.specs.Serving.{finished}
use Rattle.run_rules.specs.Setup.{Setup, rounds, work_of}
use Rattle.run_rules.specs.Worker.{Stage, Stand, asking, between, closing, denied, evicting, freeing, fresh, granted, looking, missed, next_batch, settling, stand_after, turning}
use Rattle.suri_base.specs.History.{Begins}

-- the work of a round, and of those after it
work_drop : (w : Setup) (role r : ℕ) → r < rounds w → drop r (work_of w role) ≡ batches_of w.layout w.capture.seen role r ∷ drop (suc r) (work_of w role)
work_drop w role r low =
    let long : length (work_of w role) ≡ rounds w = length-map-range_with_len (λ r. batches_of w.layout w.capture.seen role r) 0 (rounds w) in
    drop-cons (work_of w role) r [] (omega (arith, low, long))
    ∙ ap (λ (b : List (List ℕ)). b ∷ drop (suc r) (work_of w role)) (get_or-map-range_with_len (λ r. batches_of w.layout w.capture.seen role r) 0 (rounds w) r r [] low (omega arith))

-- no batch is empty
inside : (i pieces size n : ℕ) → i < pieces → pieces * size < n + size → i * size < n
inside i pieces size n low total =
    let one : suc i * size ≤ pieces * size = mul-le-mul_right size low in
    let split : suc i * size ≡ size + i * size = grind arith in
    omega (arith, one, split, total)

some_taken : (size : ℕ) (xs : List ℕ) → 1 ≤ size → 0 < length xs → 0 < length (take size xs)
some_taken zero xs some h = absurd (omega (arith, some))
some_taken (suc size) [] some h = absurd (omega (arith, h))
some_taken (suc size) (x ∷ xs) some h = omega arith

some_in : (size : ℕ) (xs : List ℕ) (i : ℕ) → 1 ≤ size → i < length (cut_into size xs) → 0 < length (get_or (cut_into size xs) i [])
some_in size xs i some low =
    let pieces = div_ceil (length xs) size in
    let count : length (cut_into size xs) ≡ pieces = length-map-range_with_len (λ i. slice_chunk xs size i) 0 pieces in
    let real : i < pieces = omega (arith, low, count) in
    let here : get_or (cut_into size xs) i [] ≡ slice_chunk xs size i = get_or-map-range_with_len (λ i. slice_chunk xs size i) 0 pieces i i [] real (omega arith) in
    let left : i * size < length xs = inside i pieces size (length xs) real (div_ceil_times (length xs) size some).1 in
    subst (λ (l : List ℕ). 0 < length l) (sym here) (some_taken size (drop (i * size) xs) some (omega (arith, left, length-drop (i * size) xs)))

-- where the last of so many rounds ended

record Split (n : ℕ) (rounds : List (List (List ℕ))) (hand : List Gone) (hs hands : List (List Gone)) : Type 0 where
  later : List (List (List ℕ))
  count : length later ≡ n
  long : n < length rounds
  next : (e : Bool) (i : ℕ) → next_batch e i rounds hand hs ≡ next_batch e i later [] hands
  over : (m : ℕ) → m < n → ended_with m rounds hand hs ≡ ended_with m later [] hands
  tail : (all : List (List (List ℕ))) → Begins (after_first rounds) all → Begins later all

other_count : (l m n : ℕ) → n ≤ l → m < n → (l == m) ≡ false
other_count l m n h k = grind (arith, nat_tests, h, k)

is_count : (l n : ℕ) → (l == n) ≡ true → l ≡ n
is_count l n h = grind (arith, nat_tests, h)

same_hands : (x y : List (List Gone)) → Some x ≡ Some y → x ≡ y
same_hands x y h = cc

ended_split : (n : ℕ) (rounds : List (List (List ℕ))) (hand : List Gone) (hs hands : List (List Gone)) → ended_with n rounds hand hs ≡ Some hands → Split n rounds hand hs hands
ended_split n [] hand hs hands h = cc
ended_split n ([] ∷ l) hand hs hands h = by (length l == n) refl h (λ k. ended_split n l [] (hand ∷ hs) hands k)
  where
    by : (t : Bool) → (length l == n) ≡ t → (if t then Some (hand ∷ hs) else ended_with n l [] (hand ∷ hs)) ≡ Some hands → (ended_with n l [] (hand ∷ hs) ≡ Some hands → Split n l [] (hand ∷ hs) hands)
        → Split n ([] ∷ l) hand hs hands
    by true i h more =
        let e = same_hands (hand ∷ hs) hands h in
        let c = is_count (length l) n i in
        record {
          later = l;
          count = c;
          long = omega (arith, c);
          next = λ m j. ap (next_batch m j l []) e;
          over = λ m low. ap (λ (t : Bool). if t then Some (hand ∷ hs) else ended_with m l [] (hand ∷ hs)) (other_count (length l) m n (omega (arith, c)) low) ∙ ap (ended_with m l []) e;
          tail = λ all b. b;
        }
    by false i h more =
        let r = more h in
        let long = r.long in
        record {
          later = r.later;
          count = r.count;
          long = omega (arith, long);
          next = r.next;
          over = λ m low. ap (λ (t : Bool). if t then Some (hand ∷ hs) else ended_with m l [] (hand ∷ hs)) (other_count (length l) m n (omega (arith, long)) low) ∙ r.over m low;
          tail = λ all b. r.tail all (begins_behind l all b);
        }
ended_split n ((b ∷ bs) ∷ l) hand hs hands h = cc

stage_between : (p : Stage) (n : ℕ) (s : Stand) (hands : List (List Gone)) → ended_between n p s ≡ Some hands → (p ≡ between) × (ended_with n s.rounds s.hand s.hands ≡ Some hands)
stage_between between n s hands h = (refl, h)
stage_between (looking todo) n s hands h = cc
stage_between (missed f todo) n s hands h = cc
stage_between (evicting f k todo) n s hands h = cc
stage_between (turning f todo) n s hands h = cc
stage_between (granted f todo) n s hands h = cc
stage_between (denied f todo) n s hands h = cc
stage_between (asking f todo) n s hands h = cc
stage_between (settling f had todo) n s hands h = cc
stage_between (closing todo) n s hands h = cc
stage_between (freeing m todo) n s hands h = cc

module _ (s : Shared) (sh : IsShared s) (layout : IsLayout s.layout) (k : Worker) (fits : Fits s k.passes) (worker : number_of k.passes < s.layout.workers) (empty : k.hand.items ≡ []) where
  w : Setup
  w = setup_of s

  -- a round begins where those before it ended
  start : (round : ℕ) (before : List Act) (hands : List (List Gone)) → round < rounds (setup_of s) → HasWorked s k round before hands
      → IsBetween s k before (batches_of s.layout s.capture.now.seen (number_of k.passes) round) (drop (suc round) (work_of (setup_of s) (number_of k.passes))) [] hands
  start zero before hands low h =
      let work = work_of (setup_of s) (number_of k.passes) in
      let wd : work ≡ batches_of s.layout s.capture.now.seen (number_of k.passes) 0 ∷ drop 1 work = work_drop (setup_of s) (number_of k.passes) 0 low in
      let bs = batches_of s.layout s.capture.now.seen (number_of k.passes) 0 in
      record {
        setup = record { capture = sh.capture; layout = layout };
        fits = fits;
        worker = worker;
        step = h.step;
        own = h.own;
        stand = fresh work;
        stood = subst (λ (b : List Act). stand_after (setup_of s) (fresh work) b ≡ Some (fresh work)) (sym h.ended.0) refl;
        stage = refl;
        next = λ e n. ap (λ (l : List (List (List ℕ))). next_batch e n l [] []) wd ∙ ap (next_batch e n (bs ∷ drop 1 work) []) (sym h.ended.1);
        over = ap (λ (l : List (List (List ℕ))). ended_with (length (drop 1 work)) l [] []) wd ∙ ap (ended_with (length (drop 1 work)) (bs ∷ drop 1 work) []) (sym h.ended.1);
        items = subst (λ (es : List _). Items (setup_of s) (seen k.passes) [] es) (sym empty) tt;
      }
  start (suc q) before hands low h = found (stand_after (setup_of s) (fresh (work_of (setup_of s) (number_of k.passes))) before) refl h.ended
    where
      found : (o : Option Stand) → stand_after (setup_of s) (fresh (work_of (setup_of s) (number_of k.passes))) before ≡ o → hands_of (rounds (setup_of s) - suc q) o ≡ Some hands
          → IsBetween s k before (batches_of s.layout s.capture.now.seen (number_of k.passes) (suc q)) (drop (suc (suc q)) (work_of (setup_of s) (number_of k.passes))) [] hands
      found None stood e = cc
      found (Some st) stood e =
          let setup : IsSetup (setup_of s) = record { capture = sh.capture; layout = layout } in
          let work = work_of (setup_of s) (number_of k.passes) in
          let n = rounds (setup_of s) - suc q in
          let sb = stage_between st.stage n st hands e in
          let sp = ended_split n st.rounds st.hand st.hands hands sb.1 in
          let b = sp.tail work (rounds_left (setup_of s) (number_of k.passes) setup before st stood) in
          let long : length work ≡ rounds (setup_of s) = length-map-range_with_len (λ r. batches_of s.layout s.capture.now.seen (number_of k.passes) r) 0 (rounds (setup_of s)) in
          let count = sp.count in
          let both : length work ≡ length b.0 + length sp.later = ap length b.1 ∙ length-append b.0 sp.later in
          let front : length b.0 ≡ suc q = omega (arith, long, count, both, low) in
          let there : drop (suc q) work ≡ sp.later = ap (drop (suc q)) b.1 ∙ (ap (λ (i : ℕ). drop i (b.0 ++ sp.later)) (sym front) ∙ drop-append_seam b.0 sp.later) in
          let eq : sp.later ≡ batches_of s.layout s.capture.now.seen (number_of k.passes) (suc q) ∷ drop (suc (suc q)) work = sym there ∙ work_drop (setup_of s) (number_of k.passes) (suc q) low in
          let one : length sp.later ≡ suc (length (drop (suc (suc q)) work)) = ap length eq in
          record {
            setup = setup;
            fits = fits;
            worker = worker;
            step = h.step;
            own = h.own;
            stand = st;
            stood = stood;
            stage = sb.0;
            next = λ e i. sp.next e i ∙ ap (λ (l : List (List (List ℕ))). next_batch e i l [] hands) eq;
            over = sp.over (length (drop (suc (suc q)) work)) (omega (arith, one, count)) ∙ ap (λ (l : List (List (List ℕ))). ended_with (length (drop (suc (suc q)) work)) l [] hands) eq;
            items = subst (λ (es : List _). Items (setup_of s) (seen k.passes) [] es) (sym empty) tt;
          }

module _ (s : Shared) (old : Worker) (round : ℕ) (m : MayWork s old round) where
  abbrev lists : List (List ℕ)
  lists = batches_of s.layout s.capture.now.seen (number_of old.passes) round

  abbrev later : List (List (List ℕ))
  later = drop (suc round) (work_of (setup_of s) (number_of old.passes))

  pub did_none : DidSome s old old round 0
  did_none = λ before hands h. record {
    now = [];
    acted = acted_none s old.passes m.fits;
    lines = [];
    grew = sym (nil_end old.lines.items);
    told = tt;
    hand = [];
    is = start s m.shared m.layout old m.fits m.worker m.hand round before hands m.within h;
  }

  next_of : (i : ℕ) → i < length lists → drop i lists ≡ get_or lists i [] ∷ drop (suc i) lists
  next_of i low = drop-cons lists i [] low

  pub may_begin : (now : Worker) (i : ℕ) → i < length lists → DidSome s old now round i → MayBegin s now (get_or lists i [])
  may_begin now i low d = let r = d m.before m.hands m.worked in record {
    some = some_in s.layout.batch (taken_in s.layout s.capture.now.seen (number_of old.passes) round) i m.layout.batch.0 low;
    before = r.now ++ m.before;
    batches = drop (suc i) lists;
    later = later;
    hand = r.hand;
    hands = m.hands;
    is = subst (λ (bs : List (List ℕ)). IsBetween s now (r.now ++ m.before) bs later r.hand m.hands) (next_of i low) r.is;
  }

  pub did_more : (now next : Worker) (i : ℕ) → i < length lists → DidSome s old now round i → DidBatch s now next (get_or lists i []) → DidSome s old next round (i + 1)
  did_more now next i low d b = λ before hands h.
      let r = d before hands h in
      let q = b (r.now ++ before) (drop (suc i) lists) later r.hand hands (subst (λ (bs : List (List ℕ)). IsBetween s now (r.now ++ before) bs later r.hand hands) (next_of i low) r.is) in
      let one : suc i ≡ i + 1 = omega arith in
      record {
        now = q.now ++ r.now;
        acted = acted_through s old.passes now.passes next.passes r.now q.now r.acted q.acted;
        lines = r.lines ++ q.lines;
        grew = q.grew ∙ (ap (λ (l : List _). l ++ q.lines) r.grew ∙ append_assoc old.lines.items r.lines q.lines);
        told = subst (λ (l : List ℕ). LinesOf (setup_of s) (seen next.passes) l (r.lines ++ q.lines)) (sym (ap reverse (finished_append q.now r.now) ∙ reverse-append (finished q.now) (finished r.now)))
            (pairs_append (λ x l. IsLine (setup_of s) (seen next.passes) x l) (reverse (finished r.now)) (reverse (finished q.now)) r.lines q.lines
            (lines_grow (setup_of s) (seen now.passes) (seen next.passes) q.acted.grown (reverse (finished r.now)) r.lines r.told) q.told);
        hand = q.hand;
        is = subst (λ (j : ℕ). IsBetween s next ((q.now ++ r.now) ++ before) (drop j lists) later q.hand hands) one
            (subst (λ (l : List Act). IsBetween s next l (drop (suc i) lists) later q.hand hands) (sym (append_assoc q.now r.now before)) q.is);
      }

  -- the round ended
  pub worked : (new : Worker) (i : ℕ) → i ≡ length lists → DidSome s old new round i → Worked s old new round
  worked new i all d = λ before hands h.
      let r = d before hands h in
      let w = setup_of s in
      let none : drop i lists ≡ [] = ap (λ (j : ℕ). drop j lists) all ∙ drop-length lists in
      let is = subst (λ (bs : List (List ℕ)). IsBetween s new (r.now ++ before) bs later r.hand hands) none r.is in
      let st = is.stand in
      let stood = subst (λ (q : ℕ). stand_after w (fresh (work_of w q)) (r.now ++ before) ≡ Some st) r.acted.number is.stood in
      let end : ended_with (length later) st.rounds st.hand st.hands ≡ Some (r.hand ∷ hands) =
      is.over ∙ ap (λ (t : Bool). if t then Some (r.hand ∷ hands) else ended_with (length later) later [] (r.hand ∷ hands)) (same_yes (length later)) in
      let long : length (work_of w (number_of old.passes)) ≡ rounds w = length-map-range_with_len (λ r. batches_of s.layout s.capture.now.seen (number_of old.passes) r) 0 (rounds w) in
      let count : length later ≡ rounds w - suc round = length-drop (suc round) (work_of w (number_of old.passes)) ∙ ap (λ (n : ℕ). n - suc round) long in
      record {
        now = r.now;
        acted = r.acted;
        few = omega (arith, few_between s new (r.now ++ before) [] later r.hand hands is);
        left = r.hand;
        ended = subst (λ (n : ℕ). hands_of n (stand_after w (fresh (work_of w (number_of old.passes))) (r.now ++ before)) ≡ Some (r.hand ∷ hands)) count
            (ap (hands_of (length later)) stood ∙ (ap (λ (p : Stage). ended_between (length later) p st) is.stage ∙ end));
        items = is.items;
        lines = r.lines;
        grew = r.grew;
        told = r.told;
      }

-- the lists that the batches are kept in
pub at_list : (ls : List (Vec ℕ Global)) (bs : List (List ℕ)) (i : ℕ) (v : Vec ℕ Global) → map (λ (l : Vec ℕ Global). l.items) ls ≡ bs → v ≡ get_or ls i v → i < length ls → get_or bs i [] ≡ v.items
at_list ls bs i v same here low =
    subst (λ (x : List (List ℕ)). get_or x i [] ≡ v.items) same (get_or-map (λ (l : Vec ℕ Global). l.items) ls i v [] low ∙ ap (λ (l : Vec ℕ Global). l.items) (sym here))

pub list_count : (ls : List (Vec ℕ Global)) (bs : List (List ℕ)) → map (λ (l : Vec ℕ Global). l.items) ls ≡ bs → length bs ≡ length ls
list_count ls bs same = sym (ap length same) ∙ length-map ls (λ (l : Vec ℕ Global). l.items)
