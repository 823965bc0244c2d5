-- Where a place in a chunk stands in the whole row, and what an edit of a chunk does to the row.
use Rattle.std.proofs.Common.{◌≡◌, ℕ, zero, suc, ◌<◌, ◌≤◌, ◌+◌, ◌-◌, ◌++◌, true, false, List, [], ◌∷◌, length, get_or, Vec, refl, sym, ap, subst, ◌∙◌, arith, insert, remove, take, drop}
use Rattle.std.specs.List.{All}
use Rattle.std.specs.Global.{Global}
use Rattle.std.specs.Ordering.{is_gt}
use Rattle.std.specs.declared.cmp.Ordering.{Ordering}
use Rattle.std.specs.declared.cmp.Ordering.TheVariants.{Less, Equal, Greater}
use Rattle.std.specs.Result.{IfOk, IfErr}
use Rattle.std.specs.declared.result.Result.{Result}
use Rattle.std.specs.declared.result.Result.TheVariants.{Ok, Err}
use Rattle.std.specs.Cmp.{IsTotalOrder}
use Rattle.std.proofs.Math.ListN.{set}
use Rattle.std.proofs.lemmas.List.{get_or_append_left, get_or-append-add, length-append, append_assoc, length-drop, take_all, take-append-drop}
use Rattle.std.proofs.Math.Seq.{get_or-append_seam}
use Rattle.std.proofs.lemmas.List.Edits.{insert-append_left, insert-append_right, remove-append_left, remove-append_right}
use Rattle.slot_order.specs.Order.{IsBelow, AreSorted, IsAt, IsGap}
use Rattle.slot_order.specs.Rows.{joined, items_at, place_in, begins_above, is_above, IsChunk, IsHome, IsFoundIn, IsMissingIn}
use Rattle.slot_order.proofs.Sorted.{less_back, more_back, tail_gap, below_at, right_same}

after_front : (a b : ℕ) → a + b - a ≡ b
after_front a b = omega arith

module _ {X : Type 0} where
  pub at_items : (cs : List (Vec X Global)) (c : ℕ) (d : Vec X Global) → c < length cs → items_at cs c ≡ (get_or cs c d).items
  at_items [] c d l = absurd (omega (arith, l))
  at_items (v ∷ vs) zero d l = refl
  at_items (v ∷ vs) (suc c) d l = at_items vs c d (omega (arith, l))

  pub get_joined : (cs : List (Vec X Global)) (c i : ℕ) (d : X) → i < length (items_at cs c) → get_or (joined cs) (place_in cs c i) d ≡ get_or (items_at cs c) i d
  get_joined [] c i d l = absurd (omega (arith, l))
  get_joined (v ∷ vs) zero i d l = get_or_append_left v.items (joined vs) d i l
  get_joined (v ∷ vs) (suc c) i d l = get_or-append-add v.items (joined vs) (place_in vs c i) d ∙ get_joined vs c i d l

  pub ends_within : (cs : List (Vec X Global)) (c i : ℕ) → i < length (items_at cs c) → place_in cs c i < length (joined cs)
  ends_within [] c i l = absurd (omega (arith, l))
  ends_within (v ∷ vs) zero i l = let e = length-append v.items (joined vs) in omega (arith, e, l)
  ends_within (v ∷ vs) (suc c) i l = let e = length-append v.items (joined vs) in let m = ends_within vs c i l in omega (arith, e, m)

  -- from what indexing reads
  pub at_read : (cs : List (Vec X Global)) (c : ℕ) (v : Vec X Global) → v ≡ get_or cs c v → c < length cs → items_at cs c ≡ v.items
  at_read cs c v e l = at_items cs c v l ∙ ap (λ (w : Vec X Global). w.items) (sym e)

  -- a chunk before one that leaves stays the same
  pub items_before : (cs : List (Vec X Global)) (c : ℕ) → c + 1 < length cs → items_at (remove cs (c + 1)) c ≡ items_at cs c
  items_before [] c l = absurd (omega (arith, l))
  items_before (v ∷ vs) zero l = refl
  items_before (v ∷ vs) (suc c) l =
      let n : suc c + 1 ≡ suc (c + 1) = omega arith in
      ap (λ (n : ℕ). items_at (remove (v ∷ vs) n) (suc c)) n ∙ items_before vs c (omega (arith, l))

  pub read_before : (cs bs : List (Vec X Global)) (c : ℕ) (v : Vec X Global) → bs ≡ remove cs (c + 1) → v ≡ get_or bs c v → c + 1 < length cs → c < length (remove cs (c + 1)) → items_at cs c ≡ v.items
  read_before cs bs c v b e l m = sym (items_before cs c l) ∙ at_read (remove cs (c + 1)) c v (subst (λ (vs : List (Vec X Global)). v ≡ get_or vs c v) b e) m

  pub pair_read : (cs : List (Vec X Global)) (c i : ℕ) (v : Vec X Global) (e : X) → v ≡ get_or cs c v → e ≡ get_or v.items i e → c < length cs → i < length (items_at cs c) → e ≡ get_or (joined cs) (place_in cs c i) e
  pair_read cs c i v e r q l m = q ∙ ap (λ (es : List X). get_or es i e) (sym (at_read cs c v r l)) ∙ sym (get_joined cs c i e m)

  pub first_place : (cs : List (Vec X Global)) → place_in cs 0 0 ≡ 0
  first_place [] = refl
  first_place (v ∷ vs) = refl

  -- a pair that goes into a chunk goes into the row
  pub insert_joined : (cs : List (Vec X Global)) (c i : ℕ) (e : X) (w : Vec X Global) → c < length cs → i ≤ length (items_at cs c) → w.items ≡ insert (items_at cs c) i e
      → joined (set cs c w) ≡ insert (joined cs) (place_in cs c i) e
  insert_joined [] c i e w m l q = absurd (omega (arith, m))
  insert_joined (v ∷ vs) zero i e w m l q = ap (λ (l : List X). l ++ joined vs) q ∙ sym (insert-append_left v.items (joined vs) i e l)
  insert_joined (v ∷ vs) (suc c) i e w m l q = ap (λ (l : List X). v.items ++ l) (insert_joined vs c i e w (omega (arith, m)) l q)
      ∙ ap (λ (n : ℕ). v.items ++ insert (joined vs) n e) (sym (after_front (length v.items) (place_in vs c i)))
      ∙ sym (insert-append_right v.items (joined vs) (length v.items) (length v.items + place_in vs c i) e refl (omega arith))

  -- a pair that leaves a chunk leaves the row
  pub remove_joined : (cs : List (Vec X Global)) (c i : ℕ) (w : Vec X Global) → c < length cs → i < length (items_at cs c) → w.items ≡ remove (items_at cs c) i
      → joined (set cs c w) ≡ remove (joined cs) (place_in cs c i)
  remove_joined [] c i w m l q = absurd (omega (arith, m))
  remove_joined (v ∷ vs) zero i w m l q = ap (λ (l : List X). l ++ joined vs) q ∙ sym (remove-append_left v.items (joined vs) i l)
  remove_joined (v ∷ vs) (suc c) i w m l q = ap (λ (l : List X). v.items ++ l) (remove_joined vs c i w (omega (arith, m)) l q)
      ∙ ap (λ (n : ℕ). v.items ++ remove (joined vs) n) (sym (after_front (length v.items) (place_in vs c i)))
      ∙ sym (remove-append_right v.items (joined vs) (length v.items) (length v.items + place_in vs c i) refl (omega arith))

  alone : (xs : List X) → length xs ≡ 1 → remove xs 0 ≡ []
  alone [] l = refl
  alone (x ∷ []) l = refl
  alone (x ∷ y ∷ xs) l = absurd (omega (arith, l))

  -- with its only pair a chunk may leave
  pub drop_joined : (cs : List (Vec X Global)) (c : ℕ) → c < length cs → length (items_at cs c) ≡ 1 → joined (remove cs c) ≡ remove (joined cs) (place_in cs c 0)
  drop_joined [] c m l = absurd (omega (arith, m))
  drop_joined (v ∷ vs) zero m l = ap (λ (l : List X). l ++ joined vs) (sym (alone v.items l)) ∙ sym (remove-append_left v.items (joined vs) 0 (omega (arith, l)))
  drop_joined (v ∷ vs) (suc c) m l = ap (λ (l : List X). v.items ++ l) (drop_joined vs c (omega (arith, m)) l)
      ∙ ap (λ (n : ℕ). v.items ++ remove (joined vs) n) (sym (after_front (length v.items) (place_in vs c 0)))
      ∙ sym (remove-append_right v.items (joined vs) (length v.items) (length v.items + place_in vs c 0) refl (omega arith))

  -- a chunk that is split stays the same in the row
  pub split_joined : (cs : List (Vec X Global)) (c : ℕ) (w u : Vec X Global) → c < length cs → items_at cs c ≡ w.items ++ u.items → joined (insert (set cs c w) (c + 1) u) ≡ joined cs
  split_joined [] c w u m q = absurd (omega (arith, m))
  split_joined (v ∷ vs) zero w u m q = sym (append_assoc w.items u.items (joined vs)) ∙ ap (λ (l : List X). l ++ joined vs) (sym q)
  split_joined (v ∷ vs) (suc c) w u m q =
      let n : suc c + 1 ≡ suc (c + 1) = omega arith in
      ap (λ (n : ℕ). joined (insert (v ∷ set vs c w) n u)) n ∙ ap (λ (l : List X). v.items ++ l) (split_joined vs c w u (omega (arith, m)) q)

  -- two neighbours that are joined stay the same in the row
  pub merge_joined : (cs : List (Vec X Global)) (c : ℕ) (w : Vec X Global) → c + 1 < length cs → w.items ≡ items_at cs c ++ items_at cs (c + 1) → joined (set (remove cs (c + 1)) c w) ≡ joined cs
  merge_joined [] c w m q = absurd (omega (arith, m))
  merge_joined (v ∷ []) c w m q = absurd (omega (arith, m))
  merge_joined (v ∷ u ∷ vs) zero w m q = ap (λ (l : List X). l ++ joined vs) q ∙ append_assoc v.items u.items (joined vs)
  merge_joined (v ∷ u ∷ vs) (suc c) w m q =
      let n : suc c + 1 ≡ suc (c + 1) = omega arith in
      ap (λ (n : ℕ). joined (set (remove (v ∷ u ∷ vs) n) (suc c) w)) n
      ∙ ap (λ (l : List X). v.items ++ l) (merge_joined (u ∷ vs) c w (omega (arith, m)) (q ∙ ap (λ (n : ℕ). items_at (u ∷ vs) c ++ items_at (v ∷ u ∷ vs) n) n))

  pub set_twice : (xs : List X) (i : ℕ) (a b : X) → set (set xs i a) i b ≡ set xs i b
  set_twice [] i a b = refl
  set_twice (x ∷ xs) zero a b = refl
  set_twice (x ∷ xs) (suc i) a b = ap (λ (l : List X). x ∷ l) (set_twice xs i a b)

  pub halves : (xs os ds : List X) (n : ℕ) → os ≡ [] → ds ≡ xs → xs ≡ take n xs ++ (os ++ take (length ds - n) (drop n ds))
  halves xs os ds n e d =
      let m : length (drop n xs) ≤ length xs - n = let q = length-drop n xs in omega (arith, q) in
      rw (e, d, take_all (length xs - n) (drop n xs) m) (sym (take-append-drop n xs))

  pub all_front : (P : X → Type 0) (xs ys zs : List X) → zs ≡ xs ++ ys → All P zs → All P xs
  all_front P xs ys zs e a j d l = subst P (get_or_append_left xs ys d j l) (subst (All P) e a j d (let m = length-append xs ys in omega (arith, m, l)))

  pub all_last : (P : X → Type 0) (xs zs : List X) (y : X) → zs ≡ xs ++ y ∷ [] → All P zs → P y
  all_last P xs zs y e a = subst P (get_or-append_seam xs y [] y) (subst (All P) e a (length xs) y (let m = length-append xs (y ∷ []) in omega (arith, m)))

  pub all_at : (P : X → Type 0) (xs : List X) (i : ℕ) (x : X) → All P xs → x ≡ get_or xs i x → i < length xs → P x
  all_at P xs i x a e l = subst P (sym e) (a i x l)

  pub all_insert : (P : X → Type 0) (xs : List X) (i : ℕ) (y : X) → i ≤ length xs → All P xs → P y → All P (insert xs i y)
  all_insert P xs zero y l a p zero d m = p
  all_insert P xs zero y l a p (suc j) d m = a j d (omega (arith, m))
  all_insert P [] (suc i) y l a p j d m = absurd (omega (arith, l))
  all_insert P (x ∷ xs) (suc i) y l a p zero d m = a 0 d (omega arith)
  all_insert P (x ∷ xs) (suc i) y l a p (suc j) d m = all_insert P xs i y (omega (arith, l)) (λ j d l. a (suc j) d (omega (arith, l))) p j d (omega (arith, m))

  pub all_remove : (P : X → Type 0) (xs : List X) (i : ℕ) → All P xs → All P (remove xs i)
  all_remove P [] zero a j d m = absurd (omega (arith, m))
  all_remove P [] (suc i) a j d m = absurd (omega (arith, m))
  all_remove P (x ∷ xs) zero a j d m = a (suc j) d (omega (arith, m))
  all_remove P (x ∷ xs) (suc i) a zero d m = a 0 d (omega arith)
  all_remove P (x ∷ xs) (suc i) a (suc j) d m = all_remove P xs i (λ j d l. a (suc j) d (omega (arith, l))) j d (omega (arith, m))

module _ {K : Type 0} {cmp : K → K → Ordering} (t : IsTotalOrder cmp) where
  cons_gap : (e : K × ℕ) (es : List (K × ℕ)) (k : K) (i : ℕ) → cmp e.0 k ≡ Less → IsGap cmp es k i → IsGap cmp (e ∷ es) k (suc i)
  cons_gap e es k i s g = record { within = omega (arith, g.within); before = before; after = after }
    where
      before : (j : ℕ) (d : K × ℕ) → j < suc i → cmp (get_or (e ∷ es) j d).0 k ≡ Less
      before zero d l = s
      before (suc j) d l = g.before j d (omega (arith, l))

      after : (j : ℕ) (d : K × ℕ) → suc i ≤ j → j < length (e ∷ es) → cmp (get_or (e ∷ es) j d).0 k ≡ Greater
      after zero d l m = absurd (omega (arith, l))
      after (suc j) d l m = g.after j d (omega (arith, l)) (omega (arith, m))

  front_gap : (xs ys : List (K × ℕ)) (k : K) (i : ℕ) → All (λ e. cmp e.0 k ≡ Less) xs → IsGap cmp ys k i → IsGap cmp (xs ++ ys) k (length xs + i)
  front_gap [] ys k i a g = subst (λ (n : ℕ). IsGap cmp ys k n) (omega arith) g
  front_gap (e ∷ xs) ys k i a g =
      let n : suc (length xs + i) ≡ length (e ∷ xs) + i = omega arith in
      subst (λ (n : ℕ). IsGap cmp (e ∷ xs ++ ys) k n) n (cons_gap e (xs ++ ys) k (length xs + i) (a 0 e (omega arith)) (front_gap xs ys k i (λ j d l. a (suc j) d (omega (arith, l))) g))

  back_gap : (xs ys : List (K × ℕ)) (k : K) (i : ℕ) → All (λ e. cmp e.0 k ≡ Greater) ys → IsGap cmp xs k i → IsGap cmp (xs ++ ys) k i
  back_gap [] ys k zero u g = record { within = omega arith; before = λ j d l. absurd (omega (arith, l)); after = λ j d l m. u j d m }
  back_gap [] ys k (suc i) u g = absurd (omega (arith, g.within))
  back_gap (e ∷ xs) ys k zero u g = record { within = omega arith; before = λ j d l. absurd (omega (arith, l)); after = after (back_gap xs ys k 0 u rest) }
    where
      rest : IsGap cmp xs k 0
      rest = record { within = omega arith; before = λ j d l. absurd (omega (arith, l)); after = λ j d l m. g.after (suc j) d (omega arith) (omega (arith, m)) }

      after : IsGap cmp (xs ++ ys) k 0 → (j : ℕ) (d : K × ℕ) → 0 ≤ j → j < length (e ∷ xs ++ ys) → cmp (get_or (e ∷ xs ++ ys) j d).0 k ≡ Greater
      after h zero d l m = g.after 0 e (omega arith) (omega arith)
      after h (suc j) d l m = h.after j d (omega arith) (omega (arith, m))
  back_gap (e ∷ xs) ys k (suc i) u g = cons_gap e (xs ++ ys) k i (g.before 0 e (omega arith)) (back_gap xs ys k i u (tail_gap t e xs k i g))

  below_back : (a : K) (xs ys : List (K × ℕ)) → IsBelow cmp a (xs ++ ys) → IsBelow cmp a ys
  below_back a [] ys b = b
  below_back a (e ∷ xs) ys b = below_back a xs ys b.1

  below_front : (a : K) (xs ys : List (K × ℕ)) → IsBelow cmp a (xs ++ ys) → IsBelow cmp a xs
  below_front a [] ys b = tt
  below_front a (e ∷ xs) ys b = (b.0, below_front a xs ys b.1)

  pub sorted_back : (xs ys : List (K × ℕ)) → AreSorted cmp (xs ++ ys) → AreSorted cmp ys
  sorted_back [] ys o = o
  sorted_back (e ∷ xs) ys o = sorted_back xs ys o.1

  sorted_front : (xs ys : List (K × ℕ)) → AreSorted cmp (xs ++ ys) → AreSorted cmp xs
  sorted_front [] ys o = tt
  sorted_front (e ∷ xs) ys o = (below_front e.0 xs ys o.0, sorted_front xs ys o.1)

  -- the pairs of each chunk are sorted
  pub sorted_items : (cs : List (Vec (K × ℕ) Global)) (c : ℕ) → AreSorted cmp (joined cs) → AreSorted cmp (items_at cs c)
  sorted_items [] c o = tt
  sorted_items (v ∷ vs) zero o = sorted_front v.items (joined vs) o
  sorted_items (v ∷ vs) (suc c) o = sorted_items vs c (sorted_back v.items (joined vs) o)

  above_each : (e : K × ℕ) (es : List (K × ℕ)) (k : K) → AreSorted cmp (e ∷ es) → cmp e.0 k ≡ Greater → All (λ x. cmp x.0 k ≡ Greater) (e ∷ es)
  above_each e es k o g zero d l = g
  above_each e es k o g (suc j) d l =
      let y : K = (get_or es j d).0 in
      more_back t k y (t.trans k e.0 y (less_back t e.0 k g) (below_at t e.0 es j d o.0 (omega (arith, l))))

  gt_is : (o : Ordering) → is_gt o ≡ true → o ≡ Greater
  gt_is Greater h = refl
  gt_is Less h = cc
  gt_is Equal h = cc

  above_rest : (vs : List (Vec (K × ℕ) Global)) (k : K) → AreSorted cmp (joined vs) → is_above cmp k vs 0 ≡ true → All (λ e. cmp e.0 k ≡ Greater) (joined vs)
  above_rest [] k o h = λ j d l. absurd (omega (arith, l))
  above_rest (v ∷ vs) k o h = by v.items o h
    where
      by : (xs : List (K × ℕ)) → AreSorted cmp (xs ++ joined vs) → begins_above cmp k xs ≡ true → All (λ e. cmp e.0 k ≡ Greater) (xs ++ joined vs)
      by [] o h = cc
      by (e ∷ xs) o h = above_each e (xs ++ joined vs) k o (gt_is (cmp e.0 k) h)

  below_home : (vs : List (Vec (K × ℕ) Global)) (c : ℕ) (a k : K) → All IsChunk vs → IsBelow cmp a (joined vs) → is_above cmp k vs c ≡ false → cmp a k ≡ Less
  below_home [] c a k s b h = cc
  below_home (v ∷ vs) (suc c) a k s b h = below_home vs c a k (λ j d l. s (suc j) d (omega (arith, l))) (below_back a v.items (joined vs) b) h
  below_home (v ∷ vs) zero a k s b h = by v.items (s 0 v (omega arith)).some b h
    where
      by : (xs : List (K × ℕ)) → 0 < length xs → IsBelow cmp a (xs ++ joined vs) → begins_above cmp k xs ≡ false → cmp a k ≡ Less
      by [] l b h = absurd (omega (arith, l))
      by (e ∷ xs) l b h = between (cmp e.0 k) refl h
        where
          between : (r : Ordering) → cmp e.0 k ≡ r → is_gt r ≡ false → cmp a k ≡ Less
          between Less q h = t.trans a e.0 k b.0 q
          between Equal q h = sym (right_same t a e.0 k q) ∙ b.0
          between Greater q h = cc

  below_each : (xs : List (K × ℕ)) (vs : List (Vec (K × ℕ) Global)) (c : ℕ) (k : K) → All IsChunk vs → AreSorted cmp (xs ++ joined vs) → is_above cmp k vs c ≡ false → All (λ e. cmp e.0 k ≡ Less) xs
  below_each [] vs c k s o h j d l = absurd (omega (arith, l))
  below_each (e ∷ xs) vs c k s o h zero d l = below_home vs c e.0 k s (below_back e.0 xs (joined vs) o.0) h
  below_each (e ∷ xs) vs c k s o h (suc j) d l = below_each xs vs c k s o.1 h j d (omega (arith, l))

  -- the gap in the home of a key is that in the row
  pub gap_joined : (cs : List (Vec (K × ℕ) Global)) (c i : ℕ) (k : K) → All IsChunk cs → AreSorted cmp (joined cs) → IsHome cmp k cs c → IsGap cmp (items_at cs c) k i
      → IsGap cmp (joined cs) k (place_in cs c i)
  gap_joined [] c i k s o h g = absurd (omega (arith, h.within))
  gap_joined (v ∷ vs) zero i k s o h g = back_gap v.items (joined vs) k i (above_rest vs k (sorted_back v.items (joined vs) o) h.to) g
  gap_joined (v ∷ vs) (suc c) i k s o h g =
      let rest : All IsChunk vs = λ j d l. s (suc j) d (omega (arith, l)) in
      let low : is_above cmp k vs c ≡ false = h.from (omega arith) in
      let home : IsHome cmp k vs c = record { within = omega (arith, h.within); from = λ l. low; to = h.to } in
      front_gap v.items (joined vs) k (place_in vs c i) (below_each v.items vs c k rest o low) (gap_joined vs c i k rest (sorted_back v.items (joined vs) o) home g)

module _ {K : Type 0} {cmp : K → K → Ordering} where
  -- the place of a key in a chunk is that in the row
  pub at_joined : (cs : List (Vec (K × ℕ) Global)) (c i : ℕ) (k : K) → IsAt cmp (items_at cs c) k i → IsAt cmp (joined cs) k (place_in cs c i)
  at_joined cs c i k a = record {
    within = ends_within cs c i a.within;
    same = λ d. ap (λ (e : K × ℕ). cmp e.0 k) (get_joined cs c i d a.within) ∙ a.same d;
  }

module _ {K : Type 0} {cmp : K → K → Ordering} (t : IsTotalOrder cmp) where
  -- what a search of the home of a key says of the row
  pub located : (cs : List (Vec (K × ℕ) Global)) (c : ℕ) (k : K) (es : List (K × ℕ)) (r : Result ℕ ℕ) → items_at cs c ≡ es → All IsChunk cs → AreSorted cmp (joined cs) → IsHome cmp k cs c
      → IfOk r (IsAt cmp es k) → IfErr r (IsGap cmp es k) → record { found : IfOk r (IsFoundIn cmp cs k c); absent : IfErr r (IsMissingIn cmp cs k c) }
  located cs c k es (Ok i) e s o h a g =
      let b : IsAt cmp (items_at cs c) k i = subst (λ (xs : List (K × ℕ)). IsAt cmp xs k i) (sym e) a in
      record { found = record { within = b.within; there = at_joined cs c i k b }; absent = tt }
  located cs c k es (Err i) e s o h a g =
      let b : IsGap cmp (items_at cs c) k i = subst (λ (xs : List (K × ℕ)). IsGap cmp xs k i) (sym e) g in
      record { found = tt; absent = record { within = b.within; between = gap_joined t cs c i k s o h b } }

module _ {K : Type 0} (cmp : K → K → Ordering) where
  pub found_in : (ds cs : List (Vec (K × ℕ) Global)) (c i : ℕ) (k : K) (r : Result ℕ ℕ) → ds ≡ cs → r ≡ Ok i → IfOk r (IsFoundIn cmp ds k c) → IsFoundIn cmp cs k c i
  found_in ds cs c i k r d e h = subst (λ (xs : List (Vec (K × ℕ) Global)). IsFoundIn cmp xs k c i) d (subst (λ (r : Result ℕ ℕ). IfOk r (IsFoundIn cmp ds k c)) e h)

  pub missing_in : (ds cs : List (Vec (K × ℕ) Global)) (c i : ℕ) (k : K) (r : Result ℕ ℕ) → ds ≡ cs → r ≡ Err i → IfErr r (IsMissingIn cmp ds k c) → IsMissingIn cmp cs k c i
  missing_in ds cs c i k r d e h = subst (λ (xs : List (Vec (K × ℕ) Global)). IsMissingIn cmp xs k c i) d (subst (λ (r : Result ℕ ℕ). IfErr r (IsMissingIn cmp ds k c)) e h)

  pub above_at : (cs : List (Vec (K × ℕ) Global)) (c : ℕ) (d : Vec (K × ℕ) Global) (k : K) → c < length cs → is_above cmp k cs c ≡ begins_above cmp k (get_or cs c d).items
  above_at [] c d k l = absurd (omega (arith, l))
  above_at (v ∷ vs) zero d k l = refl
  above_at (v ∷ vs) (suc c) d k l = above_at vs c d k (omega (arith, l))

  pub above_end : (cs : List (Vec (K × ℕ) Global)) (k : K) → is_above cmp k cs (length cs) ≡ true
  above_end [] k = refl
  above_end (v ∷ vs) k = above_end vs k

module _ {K : Type 0} {cmp : K → K → Ordering} (t : IsTotalOrder cmp) where
  begins_below : (es : List (K × ℕ)) (k : K) → 0 < length es → IsGap cmp es k (length es) → begins_above cmp k es ≡ false
  begins_below [] k some g = absurd (omega (arith, some))
  begins_below (e ∷ es) k some g = ap is_gt (g.before 0 e (omega arith))

  -- a key behind all pairs of the last chunk would go there
  pub missing_behind : (cs : List (Vec (K × ℕ) Global)) (v : Vec (K × ℕ) Global) (k : K) → 0 < length cs → v ≡ get_or cs (length cs - 1) v → All IsChunk cs → AreSorted cmp (joined cs)
      → IsGap cmp v.items k (length v.items) → IsMissingIn cmp cs k (length cs - 1) (length v.items)
  missing_behind cs v k some is s o g =
      (located t cs (length cs - 1) k v.items (Err (length v.items)) (at_read cs (length cs - 1) v is within) s o (record { within = within; from = λ l. low; to = high }) tt g).absent
    where
      within : length cs - 1 < length cs
      within = omega (arith, some)

      low : is_above cmp k cs (length cs - 1) ≡ false
      low = above_at cmp cs (length cs - 1) v k within ∙ ap (λ (w : Vec (K × ℕ) Global). begins_above cmp k w.items) (sym is) ∙ begins_below v.items k (subst (IsChunk {X = K × ℕ}) (sym is) (s (length cs - 1) v within)).some g

      high : is_above cmp k cs (suc (length cs - 1)) ≡ true
      high = subst (λ (n : ℕ). is_above cmp k cs n ≡ true) (omega (arith, some)) (above_end cmp cs k)
