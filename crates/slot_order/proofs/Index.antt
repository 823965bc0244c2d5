-- What an order finds in slots, and how it stays just that of the slots when one of them changes.
use Rattle.std.proofs.Common.{◌≤◌, ◌≡◌, ℕ, zero, suc, Bool, true, false, cond, ◌&&◌, List, [], ◌∷◌, ◌++◌, slice_get, slice_set, Option, Some, None, ⊎_elim, refl, sym, ap, subst, ◌∙◌}
use Rattle.std.proofs.lemmas.Bool.Decides.{eqb_tells}
use Rattle.std.specs.declared.cmp.Ordering.{Ordering}
use Rattle.std.specs.Ordering.{is_eq, is_gt}
use Rattle.slot_order.specs.Order.{slot_of, IsFirst, CanReplace, is_key, added}
use Rattle.slot_order.specs.Next.{IsNext}
use Rattle.slot_order.specs.Index.{bears_by, borne, IsIndex, IsFound, IsMended, key_in}

module _ {A : Type 0} where
  get_set : (xs : List A) (i : ℕ) (x y : A) → slice_get xs i ≡ Some x → slice_get (slice_set xs i y) i ≡ Some y
  get_set [] i x y e = cc
  get_set (z ∷ xs) zero x y e = refl
  get_set (z ∷ xs) (suc i) x y e = get_set xs i x y e

  get_other : (xs : List A) (i j : ℕ) (y : A) → (i ≡ j → ⊥) → slice_get (slice_set xs i y) j ≡ slice_get xs j
  get_other [] i j y n = refl
  get_other (z ∷ xs) zero zero y n = absurd (n refl)
  get_other (z ∷ xs) zero (suc j) y n = refl
  get_other (z ∷ xs) (suc i) zero y n = refl
  get_other (z ∷ xs) (suc i) (suc j) y n = get_other xs i j y (λ e. n (ap suc e))

  pub some_same : (o : Option A) (x y : A) → o ≡ Some x → o ≡ Some y → x ≡ y
  some_same o x y e k = cc

  pub no_some : {T : Type 0} (o : Option A) (x : A) → o ≡ None → o ≡ Some x → T
  no_some o x e k = cc

  get_front : (xs : List A) (y : A) (i : ℕ) (x : A) → slice_get xs i ≡ Some x → slice_get (xs ++ y ∷ []) i ≡ Some x
  get_front [] y i x e = cc
  get_front (z ∷ xs) y zero x e = e
  get_front (z ∷ xs) y (suc i) x e = get_front xs y i x e

  get_back : (os : List (Option A)) (i : ℕ) (x : A) → slice_get (os ++ None ∷ []) i ≡ Some (Some x) → slice_get os i ≡ Some (Some x)
  get_back [] zero x e = cc
  get_back [] (suc i) x e = cc
  get_back (o ∷ os) zero x e = e
  get_back (o ∷ os) (suc i) x e = get_back os i x e

module _ {X K : Type 0} (cmp : K → K → Ordering) (bears : X → K → Bool) where
  -- what the order answers is a look-up in the slots
  pub found : (slots : List (Option X)) (ps : List (K × ℕ)) (k : K) → IsIndex cmp bears slots ps → IsFound bears slots k (slot_of cmp ps k)
  found slots ps k h = by (slot_of cmp ps k) refl
    where
      by : (o : Option ℕ) → slot_of cmp ps k ≡ o → IsFound bears slots k o
      by (Some i) e = h.sound k i e
      by None e = λ i x s. none i x s (bears x k) refl
        where
          none : (i : ℕ) (x : X) → slice_get slots i ≡ Some (Some x) → (b : Bool) → bears x k ≡ b → b ≡ false
          none i x s true m = no_some (slot_of cmp ps k) i e (h.whole k i x s m)
          none i x s false m = refl

  -- one slot changes, and the order with it
  pub mended : (slots : List (Option X)) (ps qs : List (K × ℕ)) (i : ℕ) (old new : Option X) → IsIndex cmp bears slots ps → slice_get slots i ≡ Some old
      → ((k : K) (j : ℕ) → borne bears new k ≡ true → slot_of cmp ps k ≡ Some j → j ≡ i)
      → IsMended cmp bears i old new ps qs → IsIndex cmp bears (slice_set slots i new) qs
  mended slots ps qs i old new h at own m = record { sound = sound; whole = whole }
    where
      filled : (o : Option X) (k : K) → borne bears o k ≡ true → slice_get (slice_set slots i new) i ≡ Some o → (x : X) × (slice_get (slice_set slots i new) i ≡ Some (Some x)) × (bears x k ≡ true)
      filled None k b e = cc
      filled (Some x) k b e = (x, e, b)

      stood : (o : Option X) (k : K) (x : X) → o ≡ Some x → bears x k ≡ true → borne bears o k ≡ true
      stood o k x e b = subst (λ (v : Option X). borne bears v k ≡ true) (sym e) b

      sound : (k : K) (j : ℕ) → slot_of cmp qs k ≡ Some j → (x : X) × (slice_get (slice_set slots i new) j ≡ Some (Some x)) × (bears x k ≡ true)
      sound k j e = by (borne bears new k) (borne bears old k) refl refl (sym (m k) ∙ e)
        where
          by : (b c : Bool) → borne bears new k ≡ b → borne bears old k ≡ c → cond b (Some i) (cond c None (slot_of cmp ps k)) ≡ Some j
              → (x : X) × (slice_get (slice_set slots i new) j ≡ Some (Some x)) × (bears x k ≡ true)
          by true c p q r = let s : i ≡ j = some_same (Some i) i j refl r in
              subst (λ (v : ℕ). (x : X) × (slice_get (slice_set slots i new) v ≡ Some (Some x)) × (bears x k ≡ true)) s (filled new k p (get_set slots i old new at))
          by false true p q r = cc
          by false false p q r =
              let f = h.sound k j r in
              let n : i ≡ j → ⊥ = λ s. clash (some_same (slice_get slots i) old (Some f.0) at (subst (λ (v : ℕ). slice_get slots v ≡ Some (Some f.0)) (sym s) f.1)) in
              (f.0, get_other slots i j new n ∙ f.1, f.2)
            where
              clash : old ≡ Some (h.sound k j r).0 → ⊥
              clash s = let u = stood old k (h.sound k j r).0 s (h.sound k j r).2 in cc

      whole : (k : K) (j : ℕ) (x : X) → slice_get (slice_set slots i new) j ≡ Some (Some x) → bears x k ≡ true → slot_of cmp qs k ≡ Some j
      whole k j x e b = ⊎_elim (λ s. here s.1) (λ s. there s.1) (eqb_tells i j)
        where
          here : i ≡ j → slot_of cmp qs k ≡ Some j
          here s =
              let u : new ≡ Some x = some_same (slice_get (slice_set slots i new) i) new (Some x) (get_set slots i old new at) (subst (λ (v : ℕ). slice_get (slice_set slots i new) v ≡ Some (Some x)) (sym s) e) in
              let t = stood new k x u b in
              m k ∙ (rw t (ap Some s))

          there : (i ≡ j → ⊥) → slot_of cmp qs k ≡ Some j
          there n =
              let w = h.whole k j x (sym (get_other slots i j new n) ∙ e) b in
              m k ∙ off (borne bears new k) (borne bears old k) (λ p. n (sym (own k j p w))) (λ q. n (held old q at)) w
            where
              held : (o : Option X) → borne bears o k ≡ true → slice_get slots i ≡ Some o → i ≡ j
              held None q s = cc
              held (Some y) q s = let w = h.whole k j x (sym (get_other slots i j new n) ∙ e) b in let v = h.whole k i y s q in some_same (slot_of cmp ps k) i j v w

              off : (b c : Bool) → (b ≡ true → ⊥) → (c ≡ true → ⊥) → slot_of cmp ps k ≡ Some j → cond b (Some i) (cond c None (slot_of cmp ps k)) ≡ Some j
              off true c p q w = absurd (p refl)
              off false true p q w = absurd (q refl)
              off false false p q w = w

  -- the least pair is that of a slot, whose key is at most each key that a slot bears
  pub first_found : (slots : List (Option X)) (ps : List (K × ℕ)) (e : K × ℕ) → IsIndex cmp bears slots ps → IsFirst cmp ps e
      → record { there : (x : X) × (slice_get slots e.1 ≡ Some (Some x)) × (bears x e.0 ≡ true); least : (j : ℕ) (y : X) (k : K) → slice_get slots j ≡ Some (Some y) → bears y k ≡ true → is_gt (cmp e.0 k) ≡ false }
  first_found slots ps e h f = record { there = h.sound e.0 e.1 f.there; least = λ j y k s b. f.least k j (h.whole k j y s b) }

  -- and so with the least pair above a key, among the keys above it
  pub next_found : (slots : List (Option X)) (ps : List (K × ℕ)) (a : K) (e : K × ℕ) → IsIndex cmp bears slots ps → IsNext cmp ps a e
      → record {
        there : (x : X) × (slice_get slots e.1 ≡ Some (Some x)) × (bears x e.0 ≡ true);
        least : (j : ℕ) (y : X) (k : K) → slice_get slots j ≡ Some (Some y) → bears y k ≡ true → is_gt (cmp k a) ≡ true → is_gt (cmp e.0 k) ≡ false;
      }
  next_found slots ps a e h f = record { there = h.sound e.0 e.1 f.there; least = λ j y k s b g. f.least k j (h.whole k j y s b) g }

  -- a key that has no slot is one that no slot bears
  pub none_found : (slots : List (Option X)) (ps : List (K × ℕ)) (k : K) → IsIndex cmp bears slots ps → slot_of cmp ps k ≡ None → IsFound bears slots k None
  none_found slots ps k h n = subst (λ (o : Option ℕ). IsFound bears slots k o) n (found slots ps k h)

  -- nothing is the order of no slots
  pub index_of_none : (ps : List (K × ℕ)) → ps ≡ [] → IsIndex cmp bears [] ps
  index_of_none ps e = subst (λ (qs : List (K × ℕ)). IsIndex cmp bears [] qs) (sym e) (record { sound = λ k i e. cc; whole = λ k i x e b. cc })

  -- an empty slot more bears nothing
  pub grown : (slots : List (Option X)) (ps : List (K × ℕ)) → IsIndex cmp bears slots ps → IsIndex cmp bears (slots ++ None ∷ []) ps
  grown slots ps h = record { sound = λ k i e. let u = h.sound k i e in (u.0, get_front slots None i (Some u.0) u.1, u.2); whole = λ k i x e b. h.whole k i x (get_back slots i x e) b }

  -- what stands in a slot bears the same keys afterwards
  pub kept : (slots : List (Option X)) (ps : List (K × ℕ)) (i : ℕ) (old new : Option X) → IsIndex cmp bears slots ps → slice_get slots i ≡ Some old
      → ((k : K) → borne bears new k ≡ borne bears old k) → IsIndex cmp bears (slice_set slots i new) ps
  kept slots ps i old new h at same = mended slots ps ps i old new h at (λ k j b s. own old k (sym (same k) ∙ b) at s) (λ k. step k (borne bears new k) (borne bears old k) (same k) refl)
    where
      own : (o : Option X) (k : K) → borne bears o k ≡ true → slice_get slots i ≡ Some o → {j : ℕ} → slot_of cmp ps k ≡ Some j → j ≡ i
      own None k b e s = cc
      own (Some x) k b e {j} s = some_same (slot_of cmp ps k) j i s (h.whole k i x e b)

      held : (o : Option X) (k : K) → borne bears o k ≡ true → slice_get slots i ≡ Some o → slot_of cmp ps k ≡ Some i
      held None k b e = cc
      held (Some x) k b e = h.whole k i x e b

      step : (k : K) (b c : Bool) → b ≡ c → borne bears old k ≡ c → slot_of cmp ps k ≡ cond b (Some i) (cond c None (slot_of cmp ps k))
      step k true true e m = held old k m at
      step k true false e m = cc
      step k false true e m = cc
      step k false false e m = refl

-- `replace` mends an order of those that pass a test, each by its key
module _ {X K : Type 0} (cmp : K → K → Ordering) (same : (k : K) → is_eq (cmp k k) ≡ true) (test : X → Bool) (key : X → K) where
  key_borne : (o : Option X) (q : K) → is_key cmp (key_in test key o) q ≡ borne (bears_by cmp test key) o q
  key_borne None q = refl
  key_borne (Some x) q = by (test x)
    where
      by : (b : Bool) → is_key cmp (cond b (Some (key x)) None) q ≡ (b && is_eq (cmp (key x) q))
      by true = refl
      by false = refl

  pub replaced : (ps qs : List (K × ℕ)) (i : ℕ) (old new : Option X) → ((q : K) → slot_of cmp qs q ≡ cond (is_key cmp (key_in test key new) q) (Some i) (cond (is_key cmp (key_in test key old) q) None (slot_of cmp ps q)))
      → IsMended cmp (bears_by cmp test key) i old new ps qs
  replaced ps qs i old new h q = h q ∙ ap (λ (b : Bool). cond b (Some i) (cond (is_key cmp (key_in test key old) q) None (slot_of cmp ps q))) (key_borne new q)
      ∙ ap (λ (b : Bool). cond (borne (bears_by cmp test key) new q) (Some i) (cond b None (slot_of cmp ps q))) (key_borne old q)

  own_key : (o : Option X) (k : K) → key_in test key o ≡ Some k → borne (bears_by cmp test key) o k ≡ true
  own_key o k e = sym (key_borne o k) ∙ ap (λ (v : Option K). is_key cmp v k) e ∙ same k

  pub can_replace : (slots : List (Option X)) (ps : List (K × ℕ)) (spare i : ℕ) (old new : Option X) → IsIndex cmp (bears_by cmp test key) slots ps → slice_get slots i ≡ Some old
      → ((k : K) (j : ℕ) → borne (bears_by cmp test key) new k ≡ true → slot_of cmp ps k ≡ Some j → j ≡ i)
      → added cmp (key_in test key old) (key_in test key new) ≤ spare → CanReplace cmp ps spare (key_in test key old) (key_in test key new) i
  can_replace slots ps spare i old new h at own room = record {
    was = λ k e. held old k (own_key old k e) at;
    free = λ k r e f. let o = own k r (own_key new k e) f in key_borne old k ∙ free k r f o;
    room = room;
  }
    where
      held : (o : Option X) (k : K) → borne (bears_by cmp test key) o k ≡ true → slice_get slots i ≡ Some o → slot_of cmp ps k ≡ Some i
      held None k b e = cc
      held (Some x) k b e = h.whole k i x e b

      free : (k : K) (r : ℕ) → slot_of cmp ps k ≡ Some r → r ≡ i → borne (bears_by cmp test key) old k ≡ true
      free k r f o =
          let u = h.sound k r f in
          let s : Some u.0 ≡ old = some_same (slice_get slots i) (Some u.0) old (subst (λ (v : ℕ). slice_get slots v ≡ Some (Some u.0)) o u.1) at in
          subst (λ (v : Option X). borne (bears_by cmp test key) v k ≡ true) s u.2

  -- so an order that is replaced in stays that of the slots
  pub replaced_in : (slots : List (Option X)) (ps qs : List (K × ℕ)) (i : ℕ) (old new : Option X) → IsIndex cmp (bears_by cmp test key) slots ps → slice_get slots i ≡ Some old
      → ((k : K) (j : ℕ) → borne (bears_by cmp test key) new k ≡ true → slot_of cmp ps k ≡ Some j → j ≡ i)
      → ((q : K) → slot_of cmp qs q ≡ cond (is_key cmp (key_in test key new) q) (Some i) (cond (is_key cmp (key_in test key old) q) None (slot_of cmp ps q)))
      → IsIndex cmp (bears_by cmp test key) (slice_set slots i new) qs
  replaced_in slots ps qs i old new h at own m = mended cmp (bears_by cmp test key) slots ps qs i old new h at own (replaced ps qs i old new m)
