-- The frames that a worker takes, over all rounds and batches: they rise, each bears a flow of the worker, and every such frame is among them.
-- The batches of a round join to what the worker takes there, and the rounds to the whole capture.
use Rattle.std.proofs.Common.{◌≡◌, ℕ, zero, suc, ◌==◌, ◌+◌, ◌-◌, ◌*◌, ◌%◌, ◌<◌, ◌≤◌, Bool, true, false, cond, List, [], ◌∷◌, ◌++◌, length, map, filter, Some, ⊎_elim, inl, inr, refl, sym, ◌∙◌, ap, subst, arith, div-add-mod', drop, mod-lt, slice_get, ◌/◌}
use Rattle.std.proofs.lemmas.Grind.{div_ceil_times}
use Rattle.std.proofs.lemmas.List.{drop-drop, drop_all, take-append-drop}
use Rattle.std.specs.Fork.{slice_chunk}
use Rattle.std.specs.Int.{div_ceil}
use Rattle.std.specs.List.{range_with_len}
use Rattle.bucket_laws.proofs.Listing.{bearing_no, in_key_list}
use Rattle.bucket_laws.proofs.Tests.{same}
use Rattle.bucket_laws.specs.Places.{In}
use Rattle.bucket_rules.proofs.Words.{true_false}
use Rattle.bucket_rules.specs.Packets.{bearing, facts_of_seen}
use Rattle.bucket_rules.specs.Rule.{IsPacketOf}
use Rattle.capture_index.proofs.Batching.{taken_push}
use Rattle.capture_index.specs.Batches.{batches_of, cut_into, rounds_of, taken_among, taken_in}
use Rattle.run_laws.proofs.Sums.{same_number}
use Rattle.run_laws.specs.Setting.{IsSetup}
use Rattle.run_rules.specs.Setup.{Setup, bucket_by, bucket_for, fixed_at, rounds, work_of}
use Rattle.suri_base.specs.Capture.{AreSeenOf, IsCapture, packets_in}
use Rattle.suri_base.specs.Dealing.{worker_of}
use Rattle.suri_base.specs.Frames.{AreNumbered}
use Rattle.suri_base.specs.Keys.{same_key}
use Rattle.suri_base.specs.declared.frame.Frame.{Frame}
use Rattle.suri_base.specs.declared.facts.Facts.{Facts}
use Rattle.suri_base.specs.declared.layout.Layout.{Layout}
use Rattle.suri_base.specs.declared.seen.Seen.{Seen}
use Rattle.suri_base.specs.declared.seen.Seen.TheVariants.{Bears, Counted}

-- numbers that rise, from above a bound on
abbrev pub Rising : ℕ → List ℕ → Type 0
Rising low [] = Unit {0}
Rising low (f ∷ fs) = (low < f) × Rising f fs

abbrev pub joined : {A : Type 0} → List (List A) → List A
joined [] = []
joined (x ∷ xs) = x ++ joined xs

-- all frames of some rounds
abbrev pub flat : List (List (List ℕ)) → List ℕ
flat [] = []
flat (batches ∷ rounds) = joined batches ++ flat rounds

-- a frame of the worker
abbrev pub IsMine : Setup → ℕ → ℕ → Type 0
IsMine w role f = IsPacketOf (fixed_at w (bucket_for w f)) role f

-- pieces join to the whole

chunk_and : {A : Type 0} (size i : ℕ) (xs : List A) → slice_chunk xs size i ++ drop ((i + 1) * size) xs ≡ drop (i * size) xs
chunk_and {A} size i xs =
    let e : (i + 1) * size ≡ i * size + size = grind arith in
    ap (λ (k : ℕ). slice_chunk xs size i ++ drop k xs) e
    ∙ ap (λ (l : List A). slice_chunk xs size i ++ l) (sym (drop-drop size (i * size) xs))
    ∙ take-append-drop size (drop (i * size) xs)

joined_from : {A : Type 0} (size first count : ℕ) (xs : List A) → length xs ≤ (first + count) * size
    → joined (map (λ i. slice_chunk xs size i) (range_with_len first count)) ≡ drop (first * size) xs
joined_from size first zero xs all = sym (drop_all (first * size) xs (grind (arith, all)))
joined_from {A} size first (suc count) xs all =
    let e : first + 1 + count ≡ first + suc count = omega arith in
    ap (λ (l : List A). slice_chunk xs size first ++ l) (joined_from size (first + 1) count xs (subst (λ (n : ℕ). length xs ≤ n * size) (sym e) all))
    ∙ chunk_and size first xs

batches_join : (size : ℕ) (xs : List ℕ) → 0 < size → joined (cut_into size xs) ≡ xs
batches_join size xs some =
    let e : 0 + div_ceil (length xs) size ≡ div_ceil (length xs) size = omega arith in
    let z : 0 * size ≡ 0 = omega arith in
    joined_from size 0 (div_ceil (length xs) size) xs (rw e (div_ceil_times (length xs) size some).0) ∙ ap (λ (k : ℕ). drop k xs) z

rounds_cover : (n size : ℕ) → 1 ≤ size → n ≤ (0 + rounds_of n size) * size
rounds_cover zero size h = omega arith
rounds_cover (suc before) size h =
    let m : suc before - 1 ≡ before = omega arith in
    subst (λ (k : ℕ). suc before ≤ (0 + (k / size + 1)) * size) (sym m) (covers before size h)
  where
    covers : (x n : ℕ) → 1 ≤ n → suc x ≤ (0 + (x / n + 1)) * n
    covers x n h =
        let q : x / n * n + x % n ≡ x = div-add-mod' x n in
        let r : x % n < n = mod-lt x h in
        let s : (0 + (x / n + 1)) * n ≡ x / n * n + n = grind arith in
        omega (arith, q, r, s)

taken_joined : (l : Layout) (worker : ℕ) (pieces : List (List Seen)) → joined (map (λ p. taken_among l worker p) pieces) ≡ taken_among l worker (joined pieces)
taken_joined l worker [] = refl
taken_joined l worker (p ∷ pieces) = ap (λ (x : List ℕ). taken_among l worker p ++ x) (taken_joined l worker pieces) ∙ sym (taken_push l worker p (joined pieces))

flat_rounds : (w : Setup) (role first count : ℕ) → 1 ≤ w.layout.batch
    → flat (map (λ r. batches_of w.layout w.capture.seen role r) (range_with_len first count))
    ≡ joined (map (λ p. taken_among w.layout role p) (map (λ i. slice_chunk w.capture.seen w.layout.round i) (range_with_len first count)))
flat_rounds w role first zero h = refl
flat_rounds w role first (suc count) h =
    ap (λ (x : List ℕ). x ++ flat (map (λ r. batches_of w.layout w.capture.seen role r) (range_with_len (first + 1) count)))
    (batches_join w.layout.batch (taken_in w.layout w.capture.seen role first) h)
    ∙ ap (λ (x : List ℕ). taken_in w.layout w.capture.seen role first ++ x) (flat_rounds w role (first + 1) count h)

seen_count : (size : ℕ) (frames : List Frame) (clocks : List ℕ) (seen : List Seen) → AreSeenOf size frames clocks seen → length seen ≡ length frames
seen_count size [] [] [] h = refl
seen_count size (f ∷ frames) (c ∷ clocks) (s ∷ seen) h = omega (arith, seen_count size frames clocks seen h.1)
seen_count size [] [] (s ∷ seen) h = absurd h
seen_count size [] (c ∷ clocks) seen h = absurd h
seen_count size (f ∷ frames) [] seen h = absurd h
seen_count size (f ∷ frames) (c ∷ clocks) [] h = absurd h

pub all_taken : (w : Setup) (role : ℕ) → IsSetup w → flat (work_of w role) ≡ taken_among w.layout role w.capture.seen
all_taken w role d =
    let n = seen_count (length w.capture.bytes) w.capture.frames w.capture.clocks w.capture.seen d.capture.seen in
    let z : 0 * w.layout.round ≡ 0 = omega arith in
    flat_rounds w role 0 (rounds w) d.layout.batch.0
    ∙ (taken_joined w.layout role (map (λ i. slice_chunk w.capture.seen w.layout.round i) (range_with_len 0 (rounds w)))
    ∙ ap (taken_among w.layout role)
    (joined_from w.layout.round 0 (rounds w) w.capture.seen (subst (λ (k : ℕ). k ≤ (0 + rounds w) * w.layout.round) (sym n) (rounds_cover (length w.capture.frames) w.layout.round d.layout.round.0))
    ∙ ap (λ (k : ℕ). drop k w.capture.seen) z))

-- numbers of packets rise

rising_more : (low high : ℕ) (fs : List ℕ) → low ≤ high → Rising high fs → Rising low fs
rising_more low high [] h r = tt
rising_more low high (f ∷ fs) h r = (omega (arith, h, r.0), r.1)

taken_rise : (l : Layout) (worker size before : ℕ) (frames : List Frame) (clocks : List ℕ) (seen : List Seen) → AreNumbered size before frames → AreSeenOf size frames clocks seen
    → Rising before (taken_among l worker seen)
taken_rise l worker size before [] [] [] n h = tt
taken_rise l worker size before (f ∷ frames) (c ∷ clocks) (Counted x ∷ seen) n h =
    rising_more before (before + 1) (taken_among l worker seen) (omega arith) (taken_rise l worker size (before + 1) frames clocks seen n.3 h.1)
taken_rise l worker size before (f ∷ frames) (c ∷ clocks) (Bears t ∷ seen) n h =
    let no : t.no ≡ before + 1 = h.0.number ∙ n.0 in
    by (worker_of t.key l.workers == worker) no (taken_rise l worker size (before + 1) frames clocks seen n.3 h.1)
  where
    by : (x : Bool) → t.no ≡ before + 1 → Rising (before + 1) (taken_among l worker seen)
        → Rising before
        (map (λ (g : Facts). g.no) (cond x (t ∷ filter (λ g. worker_of g.key l.workers == worker) (packets_in seen)) (filter (λ g. worker_of g.key l.workers == worker) (packets_in seen))))
    by true e r = (omega (arith, e), subst (λ (k : ℕ). Rising k (taken_among l worker seen)) (sym e) r)
    by false e r = rising_more before (before + 1) (taken_among l worker seen) (omega arith) r
taken_rise l worker size before [] [] (s ∷ seen) n h = absurd h
taken_rise l worker size before [] (c ∷ clocks) seen n h = absurd h
taken_rise l worker size before (f ∷ frames) [] seen n h = absurd h
taken_rise l worker size before (f ∷ frames) (c ∷ clocks) [] n h = absurd h

pub work_rises : (w : Setup) (role : ℕ) → IsSetup w → Rising 0 (flat (work_of w role))
work_rises w role d =
    subst (Rising 0) (sym (all_taken w role d)) (taken_rise w.layout role (length w.capture.bytes) 0 w.capture.frames w.capture.clocks w.capture.seen d.capture.numbered d.capture.seen)

-- each frame that is taken is the worker's

taken_mine : (w : Setup) (role : ℕ) → IsCapture w.capture → (seen : List Seen) (before : ℕ) → ((n : ℕ) (s : Seen) → slice_get seen n ≡ Some s → slice_get w.capture.seen (before + n) ≡ Some s)
    → (g : ℕ) → In g (taken_among w.layout role seen) → IsMine w role g
taken_mine w role c [] before at g i = absurd i
taken_mine w role c (Counted x ∷ seen) before at g i =
    taken_mine w role c seen (before + 1) (λ n s e. let k : before + 1 + n ≡ before + suc n = omega arith in subst (λ (m : ℕ). slice_get w.capture.seen m ≡ Some s) (sym k) (at (suc n) s e)) g i
taken_mine w role c (Bears t ∷ seen) before at g i =
    by (worker_of t.key w.layout.workers == role) refl i
    (λ j. taken_mine w role c seen (before + 1) (λ n s e. let k : before + 1 + n ≡ before + suc n = omega arith in subst (λ (m : ℕ). slice_get w.capture.seen m ≡ Some s) (sym k) (at (suc n) s e)) g j)
  where
    one : worker_of t.key w.layout.workers ≡ role → t.no ≡ g → IsMine w role g
    one e q =
        let z : before + 0 ≡ before = omega arith in
        let b : bearing w.capture (suc before) ≡ Some t = ap facts_of_seen (subst (λ (m : ℕ). slice_get w.capture.seen m ≡ Some (Bears t)) z (at 0 (Bears t) refl)) in
        let k : g ≡ suc before = sym q ∙ bearing_no w.capture (suc before) t c b in
        let own : bearing w.capture g ≡ Some t = ap (bearing w.capture) k ∙ b in
        record { packet = t; bears = own; bucket = sym (ap (bucket_by w.layout.rows) own); worker = sym e }

    by : (x : Bool) → (worker_of t.key w.layout.workers == role) ≡ x
        → In g (map (λ (h : Facts). h.no)
        (cond x (t ∷ filter (λ h. worker_of h.key w.layout.workers == role) (packets_in seen)) (filter (λ h. worker_of h.key w.layout.workers == role) (packets_in seen))))
        → (In g (taken_among w.layout role seen) → IsMine w role g) → IsMine w role g
    by true e i more = ⊎_elim (λ q. one (same_number (worker_of t.key w.layout.workers) role e) q) (λ j. more j) i
    by false e i more = more i

pub work_mine : (w : Setup) (role : ℕ) → IsSetup w → (g : ℕ) → In g (flat (work_of w role)) → IsMine w role g
work_mine w role d g i =
    taken_mine w role d.capture w.capture.seen 0 (λ n s e. let k : 0 + n ≡ n = omega arith in subst (λ (m : ℕ). slice_get w.capture.seen m ≡ Some s) (sym k) e) g
    (subst (λ (fs : List ℕ). In g fs) (all_taken w role d) i)

-- and each packet of the worker is taken

packet_taken : (l : Layout) (worker : ℕ) (t : Facts) → worker_of t.key l.workers ≡ worker → (packets : List Facts) → In t packets
    → In t.no (map (λ (g : Facts). g.no) (filter (λ g. worker_of g.key l.workers == worker) packets))
packet_taken l worker t e [] i = absurd i
packet_taken l worker t e (p ∷ packets) i = by (worker_of p.key l.workers == worker) refl i (λ j. packet_taken l worker t e packets j)
  where
    by : (x : Bool) → (worker_of p.key l.workers == worker) ≡ x → In t (p ∷ packets)
        → (In t packets → In t.no (map (λ (g : Facts). g.no) (filter (λ g. worker_of g.key l.workers == worker) packets)))
        → In t.no (map (λ (g : Facts). g.no) (cond x (p ∷ filter (λ g. worker_of g.key l.workers == worker) packets) (filter (λ g. worker_of g.key l.workers == worker) packets)))
    by true q i more = ⊎_elim (λ z. inl (ap (λ (g : Facts). g.no) z)) (λ j. inr (more j)) i
    by false q i more = ⊎_elim
        (λ z. absurd (true_false (same (worker_of p.key l.workers) worker (ap (λ (g : Facts). worker_of g.key l.workers) z ∙ e)) q))
        (λ j. more j) i

in_filtered : (p : Facts → Bool) (t : Facts) (ts : List Facts) → In t (filter p ts) → In t ts
in_filtered p t [] i = absurd i
in_filtered p t (u ∷ ts) i = by (p u) i (λ j. in_filtered p t ts j)
  where
    by : (x : Bool) → In t (cond x (u ∷ filter p ts) (filter p ts)) → (In t (filter p ts) → In t ts) → In t (u ∷ ts)
    by true i more = ⊎_elim (λ e. inl e) (λ j. inr (more j)) i
    by false i more = inr (more i)

pub work_whole : (w : Setup) (role f : ℕ) → IsSetup w → IsMine w role f → In f (flat (work_of w role))
work_whole w role f d m =
    let t = m.packet in
    let i : In t (packets_in w.capture.seen) = in_filtered (λ (p : Facts). same_key p.key t.key) t (packets_in w.capture.seen) (in_key_list w.capture f t t.key m.bears refl) in
    let no : t.no ≡ f = bearing_no w.capture f t d.capture m.bears in
    subst (λ (fs : List ℕ). In f fs) (sym (all_taken w role d)) (subst (λ (x : ℕ). In x (taken_among w.layout role w.capture.seen)) no
    (packet_taken w.layout role t (sym m.worker) (packets_in w.capture.seen) i))
