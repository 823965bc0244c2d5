-- The packets of a key by the numbers of their frames, in a capture.
use Rattle.std.proofs.Common.{◌≡◌, ℕ, zero, suc, ◌-◌, ◌<◌, ◌≤◌, Bool, true, false, cond, List, [], ◌∷◌, ◌++◌, filter, length, reverse, Option, Some, None, ◌⊎◌, inl, inr, refl, sym, ◌∙◌, ap, subst, append_assoc, arith}
use Rattle.std.specs.Option.{option_to_list}
use Rattle.std.specs.Prelude.{get_or, slice_get, take, All}
use Rattle.std.proofs.Math.Seq.{take-length, take-suc}
use Rattle.std.proofs.lemmas.List.{append-nil, reverse-append}
use Rattle.std.proofs.lemmas.List.Elements.{All-cons, All-nil, filter-append}
use Rattle.std.proofs.lemmas.Option.{slice_get_cases, slice_get_within}
use Rattle.suri_base.specs.Capture.{Captured, IsCapture, HasFacts, facts_in, packets_in}
use Rattle.suri_base.specs.Keys.{key_list, same_key}
use Rattle.suri_base.specs.declared.facts.Facts.{Facts}
use Rattle.suri_base.specs.declared.key.Key.{Key}
use Rattle.suri_base.specs.declared.seen.Seen.{Seen}
use Rattle.suri_base.specs.declared.seen.Seen.TheVariants.{Bears, Counted}
use Rattle.suri_base.proofs.Captures.{facts_at}
use Rattle.suri_base.proofs.SameKeys.{same_key-is, same_key-refl}
use Rattle.bucket_rules.specs.Packets.{bearing, facts_of_seen, of_packet}
use Rattle.bucket_rules.specs.Row.{with_packet}
use Rattle.bucket_laws.proofs.Falling.{all_below, NumbersFall, down_from}
use Rattle.bucket_laws.specs.Keys.{Falls}
use Rattle.bucket_laws.specs.Places.{In}
use Rattle.bucket_rules.proofs.Words.{true_false}

-- the frame bears a packet of the key
abbrev pub is_of : Captured → Key → ℕ → Bool
is_of c k f = of_packet (bearing c f) (λ t. same_key t.key k)

pub of_is : (c : Captured) (k : Key) (f : ℕ) → is_of c k f ≡ true → (t : Facts) × (bearing c f ≡ Some t) × (t.key ≡ k)
of_is c k f h = by (bearing c f) refl h
  where
    by : (o : Option Facts) → bearing c f ≡ o → of_packet o (λ t. same_key t.key k) ≡ true → (t : Facts) × (bearing c f ≡ Some t) × (t.key ≡ k)
    by None e h = cc
    by (Some t) e h = (t, e, same_key-is t.key k h)

pub is_of_its : (c : Captured) (f : ℕ) (t : Facts) → bearing c f ≡ Some t → is_of c t.key f ≡ true
is_of_its c f t b = ap (λ (o : Option Facts). of_packet o (λ u. same_key u.key t.key)) b ∙ same_key-refl t.key

-- the packets of some frames
abbrev pub packets_at : Captured → List ℕ → List Facts
packets_at c [] = []
packets_at c (f ∷ fs) = with_packet (bearing c f) (packets_at c fs)

-- numbers

pub bearing_has : (c : Captured) (f : ℕ) (t : Facts) → bearing c f ≡ Some t → HasFacts c f t
bearing_has c zero t h = cc
bearing_has c (suc n) t h = (omega arith, by (slice_get c.seen n) refl h)
  where
    by : (o : Option Seen) → slice_get c.seen n ≡ o → facts_of_seen o ≡ Some t → slice_get c.seen (suc n - 1) ≡ Some (Bears t)
    by None e h = cc
    by (Some (Bears u)) e h =
        let q : u ≡ t = cc in
        let m : suc n - 1 ≡ n = omega arith in
        ap (λ i. slice_get c.seen i) m ∙ (e ∙ ap (λ (v : Facts). Some (Bears v)) q)
    by (Some (Counted x)) e h = cc

pub bearing_no : (c : Captured) (f : ℕ) (t : Facts) → IsCapture c → bearing c f ≡ Some t → t.no ≡ f
bearing_no c f t is h = (facts_at c is f t (bearing_has c f t h)).0

pub bearing_within : (c : Captured) (f : ℕ) (t : Facts) → bearing c f ≡ Some t → (1 ≤ f) × (f ≤ length c.seen)
bearing_within c zero t h = cc
bearing_within c (suc n) t h = by (slice_get c.seen n) refl h
  where
    by : (o : Option Seen) → slice_get c.seen n ≡ o → facts_of_seen o ≡ Some t → (1 ≤ suc n) × (suc n ≤ length c.seen)
    by None e h = cc
    by (Some x) e h = (omega arith, omega (arith, slice_get_within c.seen n x e))

packets_below : (c : Captured) (is : IsCapture c) (f : ℕ) (fs : List ℕ) → all_below f fs → All (λ (u : Facts). u.no < f) (packets_at c fs)
packets_below c is f [] h = All-nil (λ (u : Facts). u.no < f)
packets_below c is f (g ∷ fs) h = by (bearing c g) refl (packets_below c is f fs h.1)
  where
    by : (o : Option Facts) → bearing c g ≡ o → All (λ (u : Facts). u.no < f) (packets_at c fs)
        → All (λ (u : Facts). u.no < f) (with_packet o (packets_at c fs))
    by None e a = a
    by (Some t) e a = All-cons (λ (u : Facts). u.no < f) t (packets_at c fs) (omega (arith, bearing_no c g t is e, h.0)) a

-- frames that fall have packets that fall
pub packets_fall : (c : Captured) (is : IsCapture c) (fs : List ℕ) → NumbersFall fs → Falls (packets_at c fs)
packets_fall c is [] h = tt
packets_fall c is (f ∷ fs) h = by (bearing c f) refl (packets_fall c is fs h.1)
  where
    by : (o : Option Facts) → bearing c f ≡ o → Falls (packets_at c fs) → Falls (with_packet o (packets_at c fs))
    by None e a = a
    by (Some t) e a = (subst (λ m. All (λ (u : Facts). u.no < m) (packets_at c fs)) (sym (bearing_no c f t is e)) (packets_below c is f fs h.0), a)

-- the key list, from its frames

packets-append : (past todo : List Seen) → packets_in (past ++ todo) ≡ packets_in past ++ packets_in todo
packets-append [] todo = refl
packets-append (s ∷ past) todo =
    ap (λ l. option_to_list (facts_in s) ++ l) (packets-append past todo) ∙ sym (append_assoc (option_to_list (facts_in s)) (packets_in past) (packets_in todo))

-- the list read from behind, with one frame more
listed_more : (k : Key) (seen : List Seen) (x : Seen)
    → reverse (key_list k (packets_in (seen ++ x ∷ []))) ≡ reverse (key_list k (option_to_list (facts_in x))) ++ reverse (key_list k (packets_in seen))
listed_more k seen x =
    ap (λ l. reverse (key_list k l)) (packets-append seen (x ∷ []) ∙ ap (λ l. packets_in seen ++ l) (append-nil (option_to_list (facts_in x))))
    ∙ (ap reverse (filter-append (λ (p : Facts). same_key p.key k) (packets_in seen) (option_to_list (facts_in x)))
    ∙ reverse-append (key_list k (packets_in seen)) (key_list k (option_to_list (facts_in x))))

listed_step : (c : Captured) (k : Key) (f : ℕ) (o : Option Facts) (fs : List ℕ) (ts : List Facts) → bearing c f ≡ o → packets_at c fs ≡ ts
    → packets_at c (cond (of_packet o (λ t. same_key t.key k)) (f ∷ fs) fs) ≡ reverse (key_list k (option_to_list o)) ++ ts
listed_step c k f None fs ts e h = h
listed_step c k f (Some t) fs ts e h = by (same_key t.key k)
  where
    by : (b : Bool) → packets_at c (cond b (f ∷ fs) fs) ≡ reverse (cond b (t ∷ []) []) ++ ts
    by true = ap (λ (o : Option Facts). with_packet o (packets_at c fs)) e ∙ ap (λ us. t ∷ us) h
    by false = h

pub listed : (c : Captured) (k : Key) (n : ℕ) → n ≤ length c.seen
    → packets_at c (filter (is_of c k) (down_from n)) ≡ reverse (key_list k (packets_in (take n c.seen)))
listed c k zero h = refl
listed c k (suc n) h = by (slice_get_cases c.seen n).1 (listed c k n (omega (arith, h)))
  where
    by : ((x : Seen) × (n < length c.seen) × (slice_get c.seen n ≡ Some x) × (get_or c.seen n x ≡ x)) ⊎ ((length c.seen ≤ n) × (slice_get c.seen n ≡ None))
        → packets_at c (filter (is_of c k) (down_from n)) ≡ reverse (key_list k (packets_in (take n c.seen)))
        → packets_at c (filter (is_of c k) (down_from (suc n))) ≡ reverse (key_list k (packets_in (take (suc n) c.seen)))
    by (inr x) rest = absurd (omega (arith, x.0, h))
    by (inl x) rest =
        let own : bearing c (suc n) ≡ facts_in x.0 = ap facts_of_seen x.2 in
        listed_step c k (suc n) (bearing c (suc n)) (filter (is_of c k) (down_from n)) (reverse (key_list k (packets_in (take n c.seen)))) refl rest
        ∙ (ap (λ (o : Option Facts). reverse (key_list k (option_to_list o)) ++ reverse (key_list k (packets_in (take n c.seen)))) own
        ∙ (sym (listed_more k (take n c.seen) x.0)
        ∙ ap (λ l. reverse (key_list k (packets_in l))) (ap (λ (y : Seen). take n c.seen ++ y ∷ []) (sym x.3) ∙ sym (take-suc c.seen n x.0 x.1))))

pub all_listed : (c : Captured) (k : Key) → packets_at c (filter (is_of c k) (down_from (length c.seen))) ≡ reverse (key_list k (packets_in c.seen))
all_listed c k = listed c k (length c.seen) (omega arith) ∙ ap (λ l. reverse (key_list k (packets_in l))) (take-length c.seen)

-- a packet that a frame bears is in the capture

pub in_right : {A : Type 0} (x : A) (xs ys : List A) → In x ys → In x (xs ++ ys)
in_right x [] ys i = i
in_right x (y ∷ xs) ys i = inr (in_right x xs ys i)

in_seen : (t : Facts) (seen : List Seen) (n : ℕ) → slice_get seen n ≡ Some (Bears t) → In t (packets_in seen)
in_seen t [] n h = cc
in_seen t (x ∷ seen) zero h = let e : x ≡ Bears t = cc in subst (λ (y : Seen). In t (option_to_list (facts_in y) ++ packets_in seen)) (sym e) (inl refl)
in_seen t (x ∷ seen) (suc n) h = in_right t (option_to_list (facts_in x)) (packets_in seen) (in_seen t seen n h)

pub in_filter : (p : Facts → Bool) (t : Facts) (ts : List Facts) → p t ≡ true → In t ts → In t (filter p ts)
in_filter p t [] h i = i
in_filter p t (u ∷ ts) h i = by (p u) refl i (λ j. in_filter p t ts h j)
  where
    by : (b : Bool) → p u ≡ b → In t (u ∷ ts) → (In t ts → In t (filter p ts)) → In t (cond b (u ∷ filter p ts) (filter p ts))
    by true e (inl q) more = inl q
    by true e (inr j) more = inr (more j)
    by false e (inl q) more = absurd (true_false h (sym (ap p q) ∙ e))
    by false e (inr j) more = more j

pub in_key_list : (c : Captured) (f : ℕ) (t : Facts) (k : Key) → bearing c f ≡ Some t → t.key ≡ k → In t (key_list k (packets_in c.seen))
in_key_list c f t k b e =
    let has = bearing_has c f t b in
    in_filter (λ (p : Facts). same_key p.key k) t (packets_in c.seen) (subst (λ (q : Key). same_key t.key q ≡ true) e (same_key-refl t.key))
    (in_seen t c.seen (f - 1) has.1)
