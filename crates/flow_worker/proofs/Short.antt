-- A worker's script is short: what it did and what it has still to do stays within so many steps a frame.
use Rattle.std.proofs.Common.{◌≡◌, ℕ, suc, ◌==◌, ◌+◌, ◌*◌, ◌%◌, ◌<◌, ◌≤◌, nat_le, Bool, true, false, cond, ◌&&◌, if◌then◌else◌, List, [], ◌∷◌, ◌++◌, length, map, filter, Option, Some, None, refl, sym, ◌∙◌, ap, subst, arith, append_assoc}
use Rattle.std.proofs.lemmas.Bool.Decides.{nat_tests}
use Rattle.bucket_laws.proofs.Tests.{both}
use Rattle.bucket_laws.specs.Leaving.{Gone}
use Rattle.bucket_rules.specs.Own.{is_needing}
use Rattle.capture_index.specs.Batches.{taken_among}
use Rattle.run_laws.proofs.Dealt.{all_taken, flat, joined}
use Rattle.run_laws.proofs.Working.{one_step, only_some, step_at}
use Rattle.run_laws.specs.Setting.{IsSetup}
use Rattle.run_rules.specs.Acts.{Act, on_bucket, on_pool, on_segments}
use Rattle.run_rules.specs.Serving.{behind, emptied, front_holds, front_is}
use Rattle.run_rules.specs.Setup.{Setup, bucket_for, verdict_for, work_of}
use Rattle.run_rules.specs.Worker.{Stage, Stand, ask, asking, at, begin, between, close, close_on, closing, denied, evict, evicting, free, free_on, freeing, fresh, give, granted, held_at, is_for, is_read, look, look_on, looking, make, missed, moved, next_batch, refuse, same_app, settle, settle_on, settling, stand_after, take, takes_on, turn, turning}
use Rattle.suri_base.specs.Capture.{AreSeenOf, packets_in}
use Rattle.suri_base.specs.Dealing.{worker_of}
use Rattle.suri_base.specs.History.{Begins}
use Rattle.suri_base.specs.declared.facts.Facts.{Facts}
use Rattle.suri_base.specs.declared.entry.BucketNote.{BucketNote}
use Rattle.suri_base.specs.declared.entry.BucketNote.TheVariants.{AllInUse, Closed, Drained, Found, Idle, Made, Missing, Refused, Stopped, Stored, Swept, Victim}
use Rattle.suri_base.specs.declared.entry.PoolNote.{PoolNote}
use Rattle.suri_base.specs.declared.entry.PoolNote.TheVariants.{Full, Mode, Over, Put, Took, Turn}
use Rattle.suri_base.specs.declared.entry.SegNote.{SegNote}
use Rattle.suri_base.specs.declared.frame.Frame.{Frame}
use Rattle.suri_base.specs.declared.layout.Layout.{Layout}
use Rattle.suri_base.specs.declared.seen.Seen.{Seen}
use Rattle.suri_base.specs.declared.seen.Seen.TheVariants.{Bears, Counted}
use Rattle.suri_base.specs.declared.entry.SegNote.TheVariants as seg
use Rattle.suri_base.specs.declared.app.App.TheVariants as app

-- so many steps for each frame
abbrev spend : ℕ → List ℕ → ℕ
spend each [] = 0
spend each (f ∷ fs) = each + spend each fs

spend_append : (each : ℕ) (xs ys : List ℕ) → spend each (xs ++ ys) ≡ spend each xs + spend each ys
spend_append each [] ys = omega arith
spend_append each (x ∷ xs) ys = omega (arith, spend_append each xs ys)

-- a look and a close, of a frame of a batch
spend_both : (rows : ℕ) (xs : List ℕ) → spend (rows + 7) xs + spend 2 xs ≤ spend (rows + 10) xs
spend_both rows [] = omega arith
spend_both rows (x ∷ xs) = omega (arith, spend_both rows xs)

spend_within : (each : ℕ) (xs : List ℕ) → each ≤ 4106 → spend each xs ≤ 4106 * length xs
spend_within each [] h = omega arith
spend_within each (x ∷ xs) h = omega (arith, h, spend_within each xs h)

abbrev light : Bool → ℕ
light true = 0
light false = 1

-- the front of the hand has nodes to give back
abbrev loaded : List Gone → ℕ
loaded [] = 0
loaded (g ∷ hand) = light (g.nodes == 0)

light_few : (t : Bool) → light t ≤ 1
light_few true = omega arith
light_few false = omega arith

loaded_few : (hand : List Gone) → loaded hand ≤ 1
loaded_few [] = omega arith
loaded_few (g ∷ hand) = light_few (g.nodes == 0)

loaded_now : (hand : List Gone) (n : ℕ) → nat_le 1 n ≡ true → front_holds n hand ≡ true → loaded hand ≡ 1
loaded_now [] n h k = cc
loaded_now (g ∷ hand) n h k = ap light (full g.nodes n h k)
  where
    full : (x n : ℕ) → nat_le 1 n ≡ true → (x == n) ≡ true → (x == 0) ≡ false
    full x n h k = grind (arith, nat_tests)

loaded_then : (hand : List Gone) → loaded (emptied hand) ≡ 0
loaded_then [] = refl
loaded_then (g ∷ hand) = refl

abbrev pub after_first : {A : Type 0} → List A → List A
after_first [] = []
after_first (x ∷ xs) = xs

pub begins_behind : {A : Type 0} (xs all : List A) → Begins xs all → Begins (after_first xs) all
begins_behind [] all b = b
begins_behind (x ∷ xs) all b = (b.0 ++ x ∷ [], b.1 ∙ sym (append_assoc b.0 (x ∷ []) xs))

left_next : (all : List (List (List ℕ))) (e : Bool) (i : ℕ) (rounds : List (List (List ℕ))) (hand : List Gone) (hands : List (List Gone)) (t : Stand) → next_batch e i rounds hand hands ≡ Some t
    → Begins (after_first rounds) all → Begins (after_first t.rounds) all
left_next all e i [] hand hands t h b = cc
left_next all e i ([] ∷ later) hand hands t h b = left_next all e i later [] (hand ∷ hands) t h (begins_behind later all b)
left_next all e i ((c ∷ cs) ∷ later) hand hands t h b =
    let z : record { stage = look_on c c; batch = c; emergency = e; seen = i; rounds = cs ∷ later; hand = hand; hands = hands } ≡ t = cc in
    subst (λ (v : Stand). Begins (after_first v.rounds) all) z b

module _ (w : Setup) (total : ℕ) where
  -- what a batch and the rounds to come still take, where these frames are to be looked up
  abbrev rest : List ℕ → List ℕ → List (List (List ℕ)) → ℕ
  rest todo batch rounds = spend (w.layout.rows + 7) todo + spend 2 batch + spend (w.layout.rows + 10) (flat rounds)

  -- after so many steps
  abbrev Within : Stage → List ℕ → List (List (List ℕ)) → List Gone → ℕ → Type 0
  Within between batch rounds hand n = n + spend (w.layout.rows + 10) (flat rounds) ≤ total
  Within (looking todo) batch rounds hand n = n + rest todo batch rounds ≤ total
  Within (missed f todo) batch rounds hand n = n + w.layout.rows + 6 + rest todo batch rounds ≤ total
  Within (evicting f k todo) batch rounds hand n = (k < w.layout.rows) × (n + w.layout.rows + 5 + rest todo batch rounds ≤ total + k)
  Within (turning f todo) batch rounds hand n = n + 4 + loaded hand + rest todo batch rounds ≤ total
  Within (granted f todo) batch rounds hand n = n + 3 + rest todo batch rounds ≤ total
  Within (denied f todo) batch rounds hand n = n + 1 + rest todo batch rounds ≤ total
  Within (asking f todo) batch rounds hand n = n + 2 + rest todo batch rounds ≤ total
  Within (settling f had todo) batch rounds hand n = n + 1 + rest todo batch rounds ≤ total
  Within (closing []) batch rounds hand n = n ≤ total + 1
  Within (closing (f ∷ todo)) batch rounds hand n = n + spend 2 (f ∷ todo) + spend (w.layout.rows + 10) (flat rounds) ≤ total
  Within (freeing m todo) batch rounds hand n = n + 1 + spend 2 todo + spend (w.layout.rows + 10) (flat rounds) ≤ total

  look_within : (todo batch : List ℕ) (rounds : List (List (List ℕ))) (hand : List Gone) (n : ℕ) → n + rest todo batch rounds ≤ total → Within (look_on batch todo) batch rounds hand n
  look_within [] [] rounds hand n h = omega (arith, h)
  look_within [] (g ∷ batch) rounds hand n h = omega (arith, h)
  look_within (f ∷ todo) batch rounds hand n h = h

  settle_within : (needs : Bool) (f : ℕ) (todo batch : List ℕ) (rounds : List (List (List ℕ))) (hand : List Gone) (n : ℕ) → n + 2 + rest todo batch rounds ≤ total
      → Within (settle_on needs f batch todo) batch rounds hand n
  settle_within true f todo batch rounds hand n h = h
  settle_within false f todo batch rounds hand n h = look_within todo batch rounds hand n (omega (arith, h))

  close_within : (todo batch : List ℕ) (rounds : List (List (List ℕ))) (hand : List Gone) (n : ℕ) → n + spend 2 todo + spend (w.layout.rows + 10) (flat rounds) ≤ total
      → Within (close_on todo) batch rounds hand n
  close_within [] batch rounds hand n h = omega (arith, h)
  close_within (f ∷ todo) batch rounds hand n h = h

  free_within : (t : Bool) (m : ℕ) (todo batch : List ℕ) (rounds : List (List (List ℕ))) (hand : List Gone) (n : ℕ) → n + 1 + spend 2 todo + spend (w.layout.rows + 10) (flat rounds) ≤ total
      → Within (if t then close_on todo else freeing m todo) batch rounds hand n
  free_within true m todo batch rounds hand n h = close_within todo batch rounds hand n (omega (arith, h))
  free_within false m todo batch rounds hand n h = h

  takes_within : (hand : List Gone) (f : ℕ) (todo batch : List ℕ) (rounds : List (List (List ℕ))) (n : ℕ) → 1 ≤ w.layout.rows → n + w.layout.rows + 5 + rest todo batch rounds ≤ total
      → Within (takes_on hand f todo) batch rounds hand n
  takes_within [] f todo batch rounds n r h = (omega (arith, r), omega (arith, h))
  takes_within (g ∷ hand) f todo batch rounds n r h = omega (arith, h, loaded_few (g ∷ hand))

  evict_within : (t : Bool) (f k : ℕ) (todo batch : List ℕ) (rounds : List (List (List ℕ))) (hand : List Gone) (n : ℕ) → (k + 1 == w.layout.rows) ≡ t → k < w.layout.rows
      → n + w.layout.rows + 5 + rest todo batch rounds ≤ total + (k + 1) → Within (if t then denied f todo else evicting f (k + 1) todo) batch rounds hand n
  evict_within true f k todo batch rounds hand n e l h = omega (arith, l, h)
  evict_within false f k todo batch rounds hand n e l h = (next (k + 1) w.layout.rows e (omega (arith, l)), h)
    where
      next : (x y : ℕ) → (x == y) ≡ false → x ≤ y → x < y
      next x y e h = grind (arith, nat_tests)

  next_within : (e : Bool) (i : ℕ) (rounds : List (List (List ℕ))) (hand : List Gone) (hands : List (List Gone)) (t : Stand) (n : ℕ) → next_batch e i rounds hand hands ≡ Some t
      → n + spend (w.layout.rows + 10) (flat rounds) ≤ total → Within t.stage t.batch t.rounds t.hand (suc n)
  next_within e i [] hand hands t n h k = cc
  next_within e i ([] ∷ later) hand hands t n h k = next_within e i later [] (hand ∷ hands) t n h k
  next_within e i (([] ∷ bs) ∷ later) hand hands t n h k =
      let z : record { stage = closing []; batch = []; emergency = e; seen = i; rounds = bs ∷ later; hand = hand; hands = hands } ≡ t = cc in
      subst (λ (v : Stand). Within v.stage v.batch v.rounds v.hand (suc n)) z (omega (arith, k))
  next_within e i (((f ∷ b) ∷ bs) ∷ later) hand hands t n h k =
      let z : record { stage = looking (f ∷ b); batch = f ∷ b; emergency = e; seen = i; rounds = bs ∷ later; hand = hand; hands = hands } ≡ t = cc in
      let same : (b ++ joined bs) ++ flat later ≡ b ++ (joined bs ++ flat later) = append_assoc b (joined bs) (flat later) in
      let sum : spend (w.layout.rows + 10) ((b ++ joined bs) ++ flat later) ≡ spend (w.layout.rows + 10) b + spend (w.layout.rows + 10) (joined bs ++ flat later) =
      ap (spend (w.layout.rows + 10)) same ∙ spend_append (w.layout.rows + 10) b (joined bs ++ flat later) in
      subst (λ (v : Stand). Within v.stage v.batch v.rounds v.hand (suc n)) z (omega (arith, k, sum, spend_both w.layout.rows b))

  -- and what it knows of the rounds to come stays so
  module _ (Q : List (List (List ℕ)) → Type 0) (q : (e : Bool) (i : ℕ) (rounds : List (List (List ℕ))) (hand : List Gone) (hands : List (List Gone)) (t : Stand) → next_batch e i rounds hand hands ≡ Some t → Q rounds → Q t.rounds) where
    abbrev Goes : Stand → ℕ → Type 0
    Goes t n = Within t.stage t.batch t.rounds t.hand (suc n) × Q t.rounds

    look_short : 1 ≤ w.layout.rows → (f : ℕ) (todo : List ℕ) (s : Stand) (b : ℕ) (x : BucketNote) (left : List Gone) (t : Stand) (m : ℕ) → look w f todo s b x left ≡ Some t
        → Within (looking (f ∷ todo)) s.batch s.rounds s.hand m × Q s.rounds → Goes t m
    look_short r f todo s b (Found g e n run o) left t m h kk =
        let k = kk.0 in
        let z = only_some (is_for w f b g && is_read w s e n) (held_at (settle_on (is_needing o) f s.batch todo) (s.hand ++ left) s) t h in
        subst (λ (v : Stand). Goes v m) z.1 ((settle_within (is_needing o) f todo s.batch s.rounds (s.hand ++ left) (suc m) (omega (arith, k))), kk.1)
    look_short r f todo s b (Missing g e n ended) left t m h kk =
        let k = kk.0 in
        let z = only_some (is_for w f b g && is_read w s e n) (held_at (missed f todo) (s.hand ++ left) s) t h in
        subst (λ (v : Stand). Goes v m) z.1 ((omega (arith, k)), kk.1)
    look_short r f todo s b (Made g o) left t m h kk = cc
    look_short r f todo s b (Refused g) left t m h kk = cc
    look_short r f todo s b (Stored g) left t m h kk = cc
    look_short r f todo s b (Stopped g) left t m h kk = cc
    look_short r f todo s b (Closed g app' run freed ended) left t m h kk = cc
    look_short r f todo s b (Idle g app') left t m h kk = cc
    look_short r f todo s b (Victim g run) left t m h kk = cc
    look_short r f todo s b (AllInUse g count) left t m h kk = cc
    look_short r f todo s b (Swept round e n count) left t m h kk = cc
    look_short r f todo s b (Drained count) left t m h kk = cc

    evict_short : 1 ≤ w.layout.rows → (f j : ℕ) (todo : List ℕ) (s : Stand) (b : ℕ) (x : BucketNote) (left : List Gone) (t : Stand) (m : ℕ) → evict w f j todo s b x left ≡ Some t
        → Within (evicting f j todo) s.batch s.rounds s.hand m × Q s.rounds → Goes t m
    evict_short r f j todo s b (Found g e n run o) left t m h kk = cc
    evict_short r f j todo s b (Missing g e n ended) left t m h kk = cc
    evict_short r f j todo s b (Made g o) left t m h kk = cc
    evict_short r f j todo s b (Refused g) left t m h kk = cc
    evict_short r f j todo s b (Stored g) left t m h kk = cc
    evict_short r f j todo s b (Stopped g) left t m h kk = cc
    evict_short r f j todo s b (Closed g app' run freed ended) left t m h kk = cc
    evict_short r f j todo s b (Idle g app') left t m h kk = cc
    evict_short r f j todo s b (Victim g run) left t m h kk =
        let k = kk.0 in
        let z = only_some ((g == f) && (b == (bucket_for w f + j) % w.layout.rows)) (held_at (turning f todo) (s.hand ++ left) s) t h in
        subst (λ (v : Stand). Goes v m) z.1 ((omega (arith, k.0, k.1, loaded_few (s.hand ++ left))), kk.1)
    evict_short r f j todo s b (AllInUse g count) left t m h kk =
        let k = kk.0 in
        let z = only_some ((g == f) && (b == (bucket_for w f + j) % w.layout.rows)) (held_at (if j + 1 == w.layout.rows then denied f todo else evicting f (j + 1) todo) (s.hand ++ left) s) t h in
        subst (λ (v : Stand). Goes v m) z.1 ((evict_within (j + 1 == w.layout.rows) f j todo s.batch s.rounds (s.hand ++ left) (suc m) refl k.0 (let l = k.1 in omega (arith, l))), kk.1)
    evict_short r f j todo s b (Swept round e n count) left t m h kk = cc
    evict_short r f j todo s b (Drained count) left t m h kk = cc

    make_short : 1 ≤ w.layout.rows → (f : ℕ) (todo : List ℕ) (s : Stand) (b : ℕ) (x : BucketNote) (left : List Gone) (t : Stand) (m : ℕ) → make w f todo s b x left ≡ Some t
        → Within (granted f todo) s.batch s.rounds s.hand m × Q s.rounds → Goes t m
    make_short r f todo s b (Found g e n run o) left t m h kk = cc
    make_short r f todo s b (Missing g e n ended) left t m h kk = cc
    make_short r f todo s b (Made g o) left t m h kk =
        let k = kk.0 in
        let z = only_some (is_for w f b g) (held_at (settle_on (is_needing o) f s.batch todo) (s.hand ++ left) s) t h in
        subst (λ (v : Stand). Goes v m) z.1 ((settle_within (is_needing o) f todo s.batch s.rounds (s.hand ++ left) (suc m) (omega (arith, k))), kk.1)
    make_short r f todo s b (Refused g) left t m h kk = cc
    make_short r f todo s b (Stored g) left t m h kk = cc
    make_short r f todo s b (Stopped g) left t m h kk = cc
    make_short r f todo s b (Closed g app' run freed ended) left t m h kk = cc
    make_short r f todo s b (Idle g app') left t m h kk = cc
    make_short r f todo s b (Victim g run) left t m h kk = cc
    make_short r f todo s b (AllInUse g count) left t m h kk = cc
    make_short r f todo s b (Swept round e n count) left t m h kk = cc
    make_short r f todo s b (Drained count) left t m h kk = cc

    refuse_short : 1 ≤ w.layout.rows → (f : ℕ) (todo : List ℕ) (s : Stand) (b : ℕ) (x : BucketNote) (left : List Gone) (t : Stand) (m : ℕ) → refuse w f todo s b x left ≡ Some t
        → Within (denied f todo) s.batch s.rounds s.hand m × Q s.rounds → Goes t m
    refuse_short r f todo s b (Found g e n run o) left t m h kk = cc
    refuse_short r f todo s b (Missing g e n ended) left t m h kk = cc
    refuse_short r f todo s b (Made g o) left t m h kk = cc
    refuse_short r f todo s b (Refused g) left t m h kk =
        let k = kk.0 in
        let z = only_some (is_for w f b g) (held_at (look_on s.batch todo) (s.hand ++ left) s) t h in
        subst (λ (v : Stand). Goes v m) z.1 ((look_within todo s.batch s.rounds (s.hand ++ left) (suc m) (omega (arith, k))), kk.1)
    refuse_short r f todo s b (Stored g) left t m h kk = cc
    refuse_short r f todo s b (Stopped g) left t m h kk = cc
    refuse_short r f todo s b (Closed g app' run freed ended) left t m h kk = cc
    refuse_short r f todo s b (Idle g app') left t m h kk = cc
    refuse_short r f todo s b (Victim g run) left t m h kk = cc
    refuse_short r f todo s b (AllInUse g count) left t m h kk = cc
    refuse_short r f todo s b (Swept round e n count) left t m h kk = cc
    refuse_short r f todo s b (Drained count) left t m h kk = cc

    settle_had : 1 ≤ w.layout.rows → (f : ℕ) (todo : List ℕ) (s : Stand) (b : ℕ) (x : BucketNote) (left : List Gone) (t : Stand) (m : ℕ) → settle w f true todo s b x left ≡ Some t
        → Within (settling f true todo) s.batch s.rounds s.hand m × Q s.rounds → Goes t m
    settle_had r f todo s b (Found g e n run o) left t m h kk = cc
    settle_had r f todo s b (Missing g e n ended) left t m h kk = cc
    settle_had r f todo s b (Made g o) left t m h kk = cc
    settle_had r f todo s b (Refused g) left t m h kk = cc
    settle_had r f todo s b (Stored g) left t m h kk =
        let k = kk.0 in
        let z = only_some (is_for w f b g) (held_at (look_on s.batch todo) (s.hand ++ left) s) t h in
        subst (λ (v : Stand). Goes v m) z.1 ((look_within todo s.batch s.rounds (s.hand ++ left) (suc m) (omega (arith, k))), kk.1)
    settle_had r f todo s b (Stopped g) left t m h kk = cc
    settle_had r f todo s b (Closed g app' run freed ended) left t m h kk = cc
    settle_had r f todo s b (Idle g app') left t m h kk = cc
    settle_had r f todo s b (Victim g run) left t m h kk = cc
    settle_had r f todo s b (AllInUse g count) left t m h kk = cc
    settle_had r f todo s b (Swept round e n count) left t m h kk = cc
    settle_had r f todo s b (Drained count) left t m h kk = cc

    settle_none : 1 ≤ w.layout.rows → (f : ℕ) (todo : List ℕ) (s : Stand) (b : ℕ) (x : BucketNote) (left : List Gone) (t : Stand) (m : ℕ) → settle w f false todo s b x left ≡ Some t
        → Within (settling f false todo) s.batch s.rounds s.hand m × Q s.rounds → Goes t m
    settle_none r f todo s b (Found g e n run o) left t m h kk = cc
    settle_none r f todo s b (Missing g e n ended) left t m h kk = cc
    settle_none r f todo s b (Made g o) left t m h kk = cc
    settle_none r f todo s b (Refused g) left t m h kk = cc
    settle_none r f todo s b (Stored g) left t m h kk = cc
    settle_none r f todo s b (Stopped g) left t m h kk =
        let k = kk.0 in
        let z = only_some (is_for w f b g) (held_at (look_on s.batch todo) (s.hand ++ left) s) t h in
        subst (λ (v : Stand). Goes v m) z.1 ((look_within todo s.batch s.rounds (s.hand ++ left) (suc m) (omega (arith, k))), kk.1)
    settle_none r f todo s b (Closed g app' run freed ended) left t m h kk = cc
    settle_none r f todo s b (Idle g app') left t m h kk = cc
    settle_none r f todo s b (Victim g run) left t m h kk = cc
    settle_none r f todo s b (AllInUse g count) left t m h kk = cc
    settle_none r f todo s b (Swept round e n count) left t m h kk = cc
    settle_none r f todo s b (Drained count) left t m h kk = cc

    close_short : 1 ≤ w.layout.rows → (f : ℕ) (todo : List ℕ) (s : Stand) (b : ℕ) (x : BucketNote) (left : List Gone) (t : Stand) (m : ℕ) → close w f todo s b x left ≡ Some t
        → Within (closing (f ∷ todo)) s.batch s.rounds s.hand m × Q s.rounds → Goes t m
    close_short r f todo s b (Found g e n run o) left t m h kk = cc
    close_short r f todo s b (Missing g e n ended) left t m h kk = cc
    close_short r f todo s b (Made g o) left t m h kk = cc
    close_short r f todo s b (Refused g) left t m h kk = cc
    close_short r f todo s b (Stored g) left t m h kk = cc
    close_short r f todo s b (Stopped g) left t m h kk = cc
    close_short r f todo s b (Closed g app' run freed ended) left t m h kk =
        let k = kk.0 in
        let z = only_some (is_for w f b g && same_app app' (verdict_for w f)) (held_at (free_on freed todo) (s.hand ++ left) s) t h in
        subst (λ (v : Stand). Goes v m) z.1 ((free_within (freed == 0) freed todo s.batch s.rounds (s.hand ++ left) (suc m) (omega (arith, k))), kk.1)
    close_short r f todo s b (Idle g app') left t m h kk =
        let k = kk.0 in
        let z = only_some (is_for w f b g && same_app app' app.None) (held_at (close_on todo) (s.hand ++ left) s) t h in
        subst (λ (v : Stand). Goes v m) z.1 ((close_within todo s.batch s.rounds (s.hand ++ left) (suc m) (omega (arith, k))), kk.1)
    close_short r f todo s b (Victim g run) left t m h kk = cc
    close_short r f todo s b (AllInUse g count) left t m h kk = cc
    close_short r f todo s b (Swept round e n count) left t m h kk = cc
    close_short r f todo s b (Drained count) left t m h kk = cc

    take_short : 1 ≤ w.layout.rows → (f : ℕ) (todo : List ℕ) (s : Stand) (x : PoolNote) (i : ℕ) (t : Stand) (m : ℕ) → take w f todo s x ≡ Some t
        → Within (missed f todo) s.batch s.rounds s.hand m × Q s.rounds → Goes t m
    take_short r f todo s (Took g) i t m h kk =
        let k = kk.0 in
        let z = only_some (g == f) (at (granted f todo) s) t h in
        subst (λ (v : Stand). Goes v m) z.1 ((omega (arith, k)), kk.1)
    take_short r f todo s (Full g n limit) i t m h kk =
        let k = kk.0 in
        let z = only_some (g == f) (at (takes_on s.hand f todo) s) t h in
        subst (λ (v : Stand). Goes v m) z.1 ((takes_within s.hand f todo s.batch s.rounds (suc m) r (omega (arith, k))), kk.1)
    take_short r f todo s (Put run) i t m h kk = cc
    take_short r f todo s (Turn run g) i t m h kk = cc
    take_short r f todo s (Mode e) i t m h kk = cc
    take_short r f todo s (Over round done) i t m h kk = cc

    turn_short : 1 ≤ w.layout.rows → (f : ℕ) (todo : List ℕ) (s : Stand) (x : PoolNote) (i : ℕ) (t : Stand) (m : ℕ) → turn w f todo s x ≡ Some t
        → Within (turning f todo) s.batch s.rounds s.hand m × Q s.rounds → Goes t m
    turn_short r f todo s (Took g) i t m h kk = cc
    turn_short r f todo s (Full g n limit) i t m h kk = cc
    turn_short r f todo s (Put run) i t m h kk = cc
    turn_short r f todo s (Turn run g) i t m h kk =
        let k = kk.0 in
        let z = only_some ((g == f) && front_is run s.hand) (held_at (granted f todo) (behind s.hand) s) t h in
        subst (λ (v : Stand). Goes v m) z.1 ((omega (arith, k)), kk.1)
    turn_short r f todo s (Mode e) i t m h kk = cc
    turn_short r f todo s (Over round done) i t m h kk = cc

    begin_short : 1 ≤ w.layout.rows → (s : Stand) (x : PoolNote) (i : ℕ) (t : Stand) (m : ℕ) → begin w s x i ≡ Some t → Within (between) s.batch s.rounds s.hand m × Q s.rounds → Goes t m
    begin_short r s (Took g) i t m h kk = cc
    begin_short r s (Full g n limit) i t m h kk = cc
    begin_short r s (Put run) i t m h kk = cc
    begin_short r s (Turn run g) i t m h kk = cc
    begin_short r s (Mode e) i t m h kk = (next_within e i s.rounds s.hand s.hands t m h kk.0, q e i s.rounds s.hand s.hands t h kk.1)
    begin_short r s (Over round done) i t m h kk = cc

    give_short : 1 ≤ w.layout.rows → (f : ℕ) (todo : List ℕ) (s : Stand) (x : SegNote) (t : Stand) (m : ℕ) → give w f todo s x ≡ Some t
        → Within (turning f todo) s.batch s.rounds s.hand m × Q s.rounds → Goes t m
    give_short r f todo s (seg.Took g) t m h kk = cc
    give_short r f todo s (seg.Full g n limit) t m h kk = cc
    give_short r f todo s (seg.Gave n) t m h kk =
        let k = kk.0 in
        let z = only_some (nat_le 1 n && front_holds n s.hand) (held_at (turning f todo) (emptied s.hand) s) t h in
        subst (λ (v : Stand). Goes v m) z.1 ((let q = both (nat_le 1 n) (front_holds n s.hand) z.0 in omega (arith, k, loaded_now s.hand n q.0 q.1, loaded_then s.hand)), kk.1)

    ask_short : 1 ≤ w.layout.rows → (f : ℕ) (todo : List ℕ) (s : Stand) (x : SegNote) (t : Stand) (m : ℕ) → ask w f todo s x ≡ Some t
        → Within (asking f todo) s.batch s.rounds s.hand m × Q s.rounds → Goes t m
    ask_short r f todo s (seg.Took g) t m h kk =
        let k = kk.0 in
        let z = only_some (g == f) (at (settling f true todo) s) t h in
        subst (λ (v : Stand). Goes v m) z.1 ((omega (arith, k)), kk.1)
    ask_short r f todo s (seg.Full g n limit) t m h kk =
        let k = kk.0 in
        let z = only_some (g == f) (at (settling f false todo) s) t h in
        subst (λ (v : Stand). Goes v m) z.1 ((omega (arith, k)), kk.1)
    ask_short r f todo s (seg.Gave n) t m h kk = cc

    free_short : 1 ≤ w.layout.rows → (j : ℕ) (todo : List ℕ) (s : Stand) (x : SegNote) (t : Stand) (m : ℕ) → free w j todo s x ≡ Some t
        → Within (freeing j todo) s.batch s.rounds s.hand m × Q s.rounds → Goes t m
    free_short r j todo s (seg.Took g) t m h kk = cc
    free_short r j todo s (seg.Full g n limit) t m h kk = cc
    free_short r j todo s (seg.Gave n) t m h kk =
        let k = kk.0 in
        let z = only_some (n == j) (at (close_on todo) s) t h in
        subst (λ (v : Stand). Goes v m) z.1 ((close_within todo s.batch s.rounds s.hand (suc m) (omega (arith, k))), kk.1)

    act_short : 1 ≤ w.layout.rows → (p : Stage) (s t : Stand) (a : Act) (m : ℕ) → step_at w 0 p s a ≡ Some t → Within p s.batch s.rounds s.hand m × Q s.rounds → Goes t m
    act_short r between s t (on_pool n i) m h k = begin_short r s n i t m h k
    act_short r between s t (on_segments n) m h k = cc
    act_short r between s t (on_bucket b n left) m h k = cc
    act_short r (looking []) s t (on_pool n i) m h k = cc
    act_short r (looking []) s t (on_segments n) m h k = cc
    act_short r (looking []) s t (on_bucket b n left) m h k = cc
    act_short r (looking (f ∷ todo)) s t (on_pool n i) m h k = cc
    act_short r (looking (f ∷ todo)) s t (on_segments n) m h k = cc
    act_short r (looking (f ∷ todo)) s t (on_bucket b n left) m h k = look_short r f todo s b n left t m h k
    act_short r (missed f todo) s t (on_pool n i) m h k = take_short r f todo s n i t m h k
    act_short r (missed f todo) s t (on_segments n) m h k = cc
    act_short r (missed f todo) s t (on_bucket b n left) m h k = cc
    act_short r (evicting f j todo) s t (on_pool n i) m h k = cc
    act_short r (evicting f j todo) s t (on_segments n) m h k = cc
    act_short r (evicting f j todo) s t (on_bucket b n left) m h k = evict_short r f j todo s b n left t m h k
    act_short r (turning f todo) s t (on_pool n i) m h k = turn_short r f todo s n i t m h k
    act_short r (turning f todo) s t (on_segments n) m h k = give_short r f todo s n t m h k
    act_short r (turning f todo) s t (on_bucket b n left) m h k = cc
    act_short r (granted f todo) s t (on_pool n i) m h k = cc
    act_short r (granted f todo) s t (on_segments n) m h k = cc
    act_short r (granted f todo) s t (on_bucket b n left) m h k = make_short r f todo s b n left t m h k
    act_short r (denied f todo) s t (on_pool n i) m h k = cc
    act_short r (denied f todo) s t (on_segments n) m h k = cc
    act_short r (denied f todo) s t (on_bucket b n left) m h k = refuse_short r f todo s b n left t m h k
    act_short r (asking f todo) s t (on_pool n i) m h k = cc
    act_short r (asking f todo) s t (on_segments n) m h k = ask_short r f todo s n t m h k
    act_short r (asking f todo) s t (on_bucket b n left) m h k = cc
    act_short r (settling f true todo) s t (on_pool n i) m h k = cc
    act_short r (settling f true todo) s t (on_segments n) m h k = cc
    act_short r (settling f true todo) s t (on_bucket b n left) m h k = settle_had r f todo s b n left t m h k
    act_short r (settling f false todo) s t (on_pool n i) m h k = cc
    act_short r (settling f false todo) s t (on_segments n) m h k = cc
    act_short r (settling f false todo) s t (on_bucket b n left) m h k = settle_none r f todo s b n left t m h k
    act_short r (closing []) s t (on_pool n i) m h k = cc
    act_short r (closing []) s t (on_segments n) m h k = cc
    act_short r (closing []) s t (on_bucket b n left) m h k = cc
    act_short r (closing (f ∷ todo)) s t (on_pool n i) m h k = cc
    act_short r (closing (f ∷ todo)) s t (on_segments n) m h k = cc
    act_short r (closing (f ∷ todo)) s t (on_bucket b n left) m h k = close_short r f todo s b n left t m h k
    act_short r (freeing j todo) s t (on_pool n i) m h k = cc
    act_short r (freeing j todo) s t (on_segments n) m h k = free_short r j todo s n t m h k
    act_short r (freeing j todo) s t (on_bucket b n left) m h k = cc

    more_short : 1 ≤ w.layout.rows → (o : Option Stand) (t : Stand) (a : Act) (m : ℕ) → moved w a o ≡ Some t → ((s : Stand) → o ≡ Some s → Within s.stage s.batch s.rounds s.hand m × Q s.rounds)
        → Goes t m
    more_short r None t a m h k = cc
    more_short r (Some s) t a m h k = act_short r s.stage s t a m (one_step w 0 s t a h) (k s refl)

    stays_short : 1 ≤ w.layout.rows → (rounds : List (List (List ℕ))) (acts : List Act) (t : Stand) → spend (w.layout.rows + 10) (flat rounds) ≤ total → Q rounds
        → stand_after w (fresh rounds) acts ≡ Some t
        → Within t.stage t.batch t.rounds t.hand (length acts) × Q t.rounds
    stays_short r rounds [] t l i h = let e : fresh rounds ≡ t = cc in subst (λ (v : Stand). Within v.stage v.batch v.rounds v.hand 0 × Q v.rounds) e (omega (arith, l), i)
    stays_short r rounds (a ∷ acts) t l i h = more_short r (stand_after w (fresh rounds) acts) t a (length acts) h (λ s e. stays_short r rounds acts s l i e)

  is_short : (p : Stage) (batch : List ℕ) (rounds : List (List (List ℕ))) (hand : List Gone) (n : ℕ) → Within p batch rounds hand n → n ≤ total + 1
  is_short between batch rounds hand n h = omega (arith, h)
  is_short (looking todo) batch rounds hand n h = omega (arith, h)
  is_short (missed f todo) batch rounds hand n h = omega (arith, h)
  is_short (evicting f k todo) batch rounds hand n h = let l = h.0 in let m = h.1 in omega (arith, l, m)
  is_short (turning f todo) batch rounds hand n h = omega (arith, h)
  is_short (granted f todo) batch rounds hand n h = omega (arith, h)
  is_short (denied f todo) batch rounds hand n h = omega (arith, h)
  is_short (asking f todo) batch rounds hand n h = omega (arith, h)
  is_short (settling f had todo) batch rounds hand n h = omega (arith, h)
  is_short (closing []) batch rounds hand n h = h
  is_short (closing (f ∷ todo)) batch rounds hand n h = omega (arith, h)
  is_short (freeing m todo) batch rounds hand n h = omega (arith, h)

-- how many frames a worker takes

kept_few : (p : Facts → Bool) (fs : List Facts) → length (map (λ (f : Facts). f.no) (filter p fs)) ≤ length fs
kept_few p [] = omega arith
kept_few p (f ∷ fs) = by (p f) (kept_few p fs)
  where
    by : (t : Bool) → length (map (λ (f : Facts). f.no) (filter p fs)) ≤ length fs → length (map (λ (f : Facts). f.no) (cond t (f ∷ filter p fs) (filter p fs))) ≤ suc (length fs)
    by true k = omega (arith, k)
    by false k = omega (arith, k)

packets_few : (seen : List Seen) → length (packets_in seen) ≤ length seen
packets_few [] = omega arith
packets_few (Counted c ∷ seen) = let k = packets_few seen in omega (arith, k)
packets_few (Bears f ∷ seen) = let k = packets_few seen in omega (arith, k)

taken_few : (l : Layout) (worker : ℕ) (seen : List Seen) → length (taken_among l worker seen) ≤ length seen
taken_few l worker seen = omega (arith, kept_few (λ f. worker_of f.key l.workers == worker) (packets_in seen), packets_few seen)

pub seen_many : (size : ℕ) (frames : List Frame) (clocks : List ℕ) (seen : List Seen) → AreSeenOf size frames clocks seen → length seen ≡ length frames
seen_many size [] [] [] h = refl
seen_many size (f ∷ frames) (c ∷ clocks) (s ∷ seen) h = omega (arith, seen_many size frames clocks seen h.1)
seen_many size [] [] (s ∷ seen) h = absurd h
seen_many size [] (c ∷ clocks) seen h = absurd h
seen_many size (f ∷ frames) [] seen h = absurd h
seen_many size (f ∷ frames) (c ∷ clocks) [] h = absurd h

module _ (w : Setup) (role : ℕ) (d : IsSetup w) (acts : List Act) (t : Stand) (h : stand_after w (fresh (work_of w role)) acts ≡ Some t) where
  all_few : spend (w.layout.rows + 10) (flat (work_of w role)) ≤ 4106 * 4194304
  all_few =
      let rows = d.layout.rows.1 in
      let count = seen_many (length w.capture.bytes) w.capture.frames w.capture.clocks w.capture.seen d.capture.seen in
      let most : length (flat (work_of w role)) ≤ 4194304 = subst (λ (l : List ℕ). length l ≤ 4194304) (sym (all_taken w role d)) (omega (arith, taken_few w.layout role w.capture.seen, count, d.capture.few)) in
      omega (arith, spend_within (w.layout.rows + 10) (flat (work_of w role)) (omega (arith, rows)), most)

  -- a worker's acts are few
  pub few_acts : length acts ≤ 17221812225
  few_acts =
      let k = stays_short w (4106 * 4194304) (λ r. Unit {0}) (λ e i rounds hand hands s n u. tt) d.layout.rows.0 (work_of w role) acts t all_few tt h in
      omega (arith, is_short w (4106 * 4194304) t.stage t.batch t.rounds t.hand (length acts) k.0)

  -- the rounds after the one at hand are the last ones of the work
  pub rounds_left : Begins (after_first t.rounds) (work_of w role)
  rounds_left =
      (stays_short w (4106 * 4194304) (λ r. Begins (after_first r) (work_of w role)) (λ e i rounds hand hands s n u. left_next (work_of w role) e i rounds hand hands s n u) d.layout.rows.0
      (work_of w role) acts t all_few (begins_behind (work_of w role) (work_of w role) ([], refl)) h).1
