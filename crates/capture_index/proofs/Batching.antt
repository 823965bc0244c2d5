-- The frames that a worker takes of a round, when one frame more is looked at, and their batches.
use Rattle.std.proofs.Common.{◌≡◌, ℕ, zero, suc, ◌+◌, ◌-◌, ◌*◌, ◌/◌, ◌%◌, ◌<◌, ◌≤◌, Bool, true, false, cond, List, [], ◌∷◌, ◌++◌, refl, ap, sym, ◌∙◌, map, filter, take, drop, length, get_or, append-nil, length-drop, arith}
use Rattle.std.proofs.Math.Nat.{div-mul-le_self, mul-le-mul_right}
use Rattle.std.proofs.lemmas.Grind.{take_at_read}
use Rattle.std.proofs.lemmas.List.{get_or-drop}
use Rattle.std.specs.Prelude.{◌==◌, slice_get, Some}
use Rattle.suri_base.specs.Capture.{counter_in, packets_in}
use Rattle.suri_base.specs.Dealing.{worker_of}
use Rattle.suri_base.specs.Hash.{fnv1a, key_bytes}
use Rattle.suri_base.specs.declared.counter.Counter.{Counter}
use Rattle.suri_base.specs.declared.facts.Facts.{Facts}
use Rattle.suri_base.specs.declared.layout.Layout.{Layout}
use Rattle.suri_base.specs.declared.seen.Seen.{Seen}
use Rattle.suri_base.specs.declared.seen.Seen.TheVariants.{Bears, Counted}
use Rattle.capture_index.specs.Batches.{rounds_of, taken_among}

-- a round that is there begins before the last frame
pub begins_within : (frames size round : ℕ) → round < rounds_of frames size → round * size < frames
begins_within zero size round low = absurd (omega (arith, low))
begins_within (suc n) size round low =
    let at : n / size * size ≤ n = div-mul-le_self n size in
    let whole : suc n - 1 ≡ n = omega arith in
    let same : (suc n - 1) / size ≡ n / size = ap (λ (k : ℕ). k / size) whole in
    let most : round ≤ n / size = omega (arith, low, same) in
    let scaled : round * size ≤ n / size * size = mul-le-mul_right size most in
    omega (arith, at, scaled)

-- the frames that a worker takes among some and others behind them
kept_push : (is : Facts → Bool) (a b : List Facts) → map (λ f. f.no) (filter is (a ++ b)) ≡ map (λ f. f.no) (filter is a) ++ map (λ f. f.no) (filter is b)
kept_push is [] b = refl
kept_push is (f ∷ a) b = by (is f) (kept_push is a b)
  where
    by : (t : Bool) → map (λ f. f.no) (filter is (a ++ b)) ≡ map (λ f. f.no) (filter is a) ++ map (λ f. f.no) (filter is b)
        → map (λ f. f.no) (cond t (f ∷ filter is (a ++ b)) (filter is (a ++ b))) ≡ map (λ f. f.no) (cond t (f ∷ filter is a) (filter is a)) ++ map (λ f. f.no) (filter is b)
    by true h = ap (λ (l : List ℕ). f.no ∷ l) h
    by false h = h

packets_push : (a b : List Seen) → packets_in (a ++ b) ≡ packets_in a ++ packets_in b
packets_push [] b = refl
packets_push (Bears f ∷ a) b = ap (λ (l : List Facts). f ∷ l) (packets_push a b)
packets_push (Counted c ∷ a) b = packets_push a b

pub taken_push : (l : Layout) (worker : ℕ) (a b : List Seen) → taken_among l worker (a ++ b) ≡ taken_among l worker a ++ taken_among l worker b
taken_push l worker a b =
    ap (λ (p : List Facts). map (λ f. f.no) (filter (λ f. worker_of f.key l.workers == worker) p)) (packets_push a b)
    ∙ kept_push (λ f. worker_of f.key l.workers == worker) (packets_in a) (packets_in b)

-- a frame that bears a flow is taken by the worker of its hash alone, and another by none
pub taken_bearing : (l : Layout) (worker number hash : ℕ) (s : Seen) (f : Facts) → s ≡ Bears f → f.no ≡ number → hash ≡ fnv1a (key_bytes f.key)
    → taken_among l worker (s ∷ []) ≡ cond (hash % l.workers == worker) (number ∷ []) []
taken_bearing l worker number hash s f bears own is =
    ap (λ (x : Seen). taken_among l worker (x ∷ [])) bears ∙ by (worker_of f.key l.workers == worker)
    ∙ ap (λ (n : ℕ). cond (worker_of f.key l.workers == worker) (n ∷ []) []) own ∙ ap (λ (h : ℕ). cond (h % l.workers == worker) (number ∷ []) []) (sym is)
  where
    by : (t : Bool) → map (λ (g : Facts). g.no) (cond t (f ∷ []) []) ≡ cond t (f.no ∷ []) []
    by true = refl
    by false = refl

pub taken_counted : (l : Layout) (worker : ℕ) (s : Seen) (c : Counter) → Some c ≡ counter_in s → taken_among l worker (s ∷ []) ≡ []
taken_counted l worker (Bears f) c is = cc
taken_counted l worker (Counted d) c is = refl

-- one frame more is looked at
taken_at : (l : Layout) (worker : ℕ) (seen : List Seen) (from i : ℕ) (d : Seen) → from ≤ i → i < length seen
    → taken_among l worker (take (i + 1 - from) (drop from seen)) ≡ taken_among l worker (take (i - from) (drop from seen)) ++ taken_among l worker (get_or seen i d ∷ [])
taken_at l worker seen from i d after low =
    let at : from + (i - from) ≡ i = omega (arith, after) in
    let more : i - from + 1 ≡ i + 1 - from = omega (arith, after) in
    let room : i - from < length (drop from seen) = simp (length-drop) (omega (arith, after, low)) in
    let read : get_or (drop from seen) (i - from) d ≡ get_or seen i d = get_or-drop from seen (i - from) d ∙ ap (λ (n : ℕ). get_or seen n d) at in
    ap (λ (n : ℕ). taken_among l worker (take n (drop from seen))) (sym more) ∙ ap (λ (s : List Seen). taken_among l worker s) (take_at_read (drop from seen) (i - from) d room).1
    ∙ taken_push l worker (take (i - from) (drop from seen)) (get_or (drop from seen) (i - from) d ∷ []) ∙ ap (λ (s : Seen). taken_among l worker (take (i - from) (drop from seen)) ++ taken_among l worker (s ∷ [])) read

some_seen : (seen : List Seen) (i : ℕ) → i < length seen → (s : Seen) × (slice_get seen i ≡ Some s) × (get_or seen i s ≡ s)
some_seen [] i low = absurd (omega (arith, low))
some_seen (s ∷ seen) zero low = (s, refl, refl)
some_seen (s ∷ seen) (suc i) low = some_seen seen i (omega (arith, low))

module _ (l : Layout) (worker : ℕ) (seen : List Seen) (from i : ℕ) (taken : Bool) (numbers now : List ℕ) (after : from ≤ i) (low : i < length seen)
    (so : numbers ≡ taken_among l worker (take (i - from) (drop from seen)))
    (tells : (s : Seen) → slice_get seen (i + 1 - 1) ≡ Some s → taken_among l worker (s ∷ []) ≡ cond taken ((i + 1) ∷ []) []) where
  next : now ≡ numbers ++ cond taken ((i + 1) ∷ []) [] → now ≡ taken_among l worker (take (i + 1 - from) (drop from seen))
  next is =
      let some = some_seen seen i low in
      let place : i + 1 - 1 ≡ i = omega arith in
      let told : taken_among l worker (some.0 ∷ []) ≡ cond taken ((i + 1) ∷ []) [] = tells some.0 (ap (λ (k : ℕ). slice_get seen k) place ∙ some.1) in
      is ∙ ap (λ (n : List ℕ). n ++ cond taken ((i + 1) ∷ []) []) so ∙ ap (λ (n : List ℕ). taken_among l worker (take (i - from) (drop from seen)) ++ n) (sym told)
      ∙ ap (λ (s : Seen). taken_among l worker (take (i - from) (drop from seen)) ++ taken_among l worker (s ∷ [])) (sym some.2) ∙ sym (taken_at l worker seen from i some.0 after low)

  pub taken_more : taken ≡ true → now ≡ numbers ++ (i + 1) ∷ [] → now ≡ taken_among l worker (take (i + 1 - from) (drop from seen))
  taken_more it is = next (is ∙ ap (λ (b : Bool). numbers ++ cond b ((i + 1) ∷ []) []) (sym it))

  pub taken_less : taken ≡ false → now ≡ numbers → now ≡ taken_among l worker (take (i + 1 - from) (drop from seen))
  taken_less none is = next (is ∙ sym (append-nil numbers) ∙ ap (λ (b : Bool). numbers ++ cond b ((i + 1) ∷ []) []) (sym none))
