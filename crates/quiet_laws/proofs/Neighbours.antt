-- In the list of a key's packets, the newest first, each names the one after it as the next of its key.
use Rattle.std.proofs.Common.{◌≡◌, ℕ, zero, suc, ◌<◌, ◌≤◌, Bool, true, false, cond, List, [], ◌∷◌, ◌++◌, filter, length, reverse, Option, Some, None, ◌⊎◌, ⊎_elim, inl, inr, refl, sym, ◌∙◌, ap, subst, arith}
use Rattle.bucket_laws.proofs.Falling.{down_from}
use Rattle.bucket_laws.proofs.Listing.{all_listed, bearing_within, is_of, of_is, packets_at}
use Rattle.bucket_laws.proofs.Next.{IsNext, next_is}
use Rattle.bucket_rules.proofs.Words.{none_some, some_is, true_false}
use Rattle.bucket_rules.specs.Packets.{bearing}
use Rattle.bucket_rules.specs.Row.{with_packet}
use Rattle.flow_sum.specs.Run.{oldest_of}
use Rattle.suri_base.specs.Capture.{Captured, IsCapture, packets_in}
use Rattle.suri_base.specs.Keys.{key_list}
use Rattle.suri_base.specs.declared.facts.Facts.{Facts}
use Rattle.suri_base.specs.declared.key.Key.{Key}

-- each packet is followed by the one before it in the list, and the first by this one
abbrev pub AreNeighbours : Captured → Option Facts → List Facts → Type 0
AreNeighbours c next [] = Unit {0}
AreNeighbours c next (t ∷ ts) = (bearing c t.next ≡ next) × AreNeighbours c (Some t) ts

-- what comes first of the key behind so many frames
data Behind (c : Captured) (k : Key) (n : ℕ) (next : Option Facts) : Type 0 where
  nothing : next ≡ None → ((g : ℕ) → n < g → is_of c k g ≡ false) → Behind c k n next
  something : (x : ℕ) → bearing c x ≡ next → is_of c k x ≡ true → n < x → ((g : ℕ) → n < g → g < x → is_of c k g ≡ false) → Behind c k n next

split : (x y : ℕ) → (x < y) ⊎ (y ≤ x)
split x y = grind arith

equal : (x y : ℕ) → x ≤ y → y ≤ x → x ≡ y
equal x y h k = omega (arith, h, k)

module _ (c : Captured) (is : IsCapture c) (k : Key) where
  -- the next packet of frame f is what comes first behind it
  is_behind : (f : ℕ) (t : Facts) (next : Option Facts) → t.key ≡ k → IsNext c f t → Behind c k f next → bearing c t.next ≡ next
  is_behind f t next e (inl y) (nothing z none) = ap (bearing c) y.0 ∙ sym z
  is_behind f t next e (inl y) (something x b of l none) = absurd (true_false of (subst (λ (q : Key). is_of c q x ≡ false) e (y.1 x l)))
  is_behind f t next e (inr y) (nothing z none) = absurd (true_false (subst (λ (q : Key). is_of c q t.next ≡ true) e y.1) (none t.next y.0))
  is_behind f t next e (inr y) (something x b of l none) =
      let low : t.next ≤ x = ⊎_elim (λ u. absurd (true_false of (subst (λ (q : Key). is_of c q x ≡ false) e (y.2 x l u)))) (λ u. u) (split x t.next) in
      let high : x ≤ t.next = ⊎_elim (λ u. absurd (true_false (subst (λ (q : Key). is_of c q t.next ≡ true) e y.1) (none t.next y.0 u))) (λ u. u) (split t.next x) in
      ap (bearing c) (equal t.next x low high) ∙ b

  -- one frame fewer, which bears no packet of the key
  one_fewer : (n : ℕ) (next : Option Facts) → is_of c k (suc n) ≡ false → Behind c k (suc n) next → Behind c k n next
  one_fewer n next e (nothing z none) = nothing z (λ g l. ⊎_elim (λ u. none g u) (λ u. subst (λ (x : ℕ). is_of c k x ≡ false) (equal (suc n) g (omega (arith, l)) u) e) (split (suc n) g))
  one_fewer n next e (something x b of l none) = something x b of (omega (arith, l))
      (λ g low high. ⊎_elim (λ u. none g u high) (λ u. subst (λ (y : ℕ). is_of c k y ≡ false) (equal (suc n) g (omega (arith, low)) u) e) (split (suc n) g))

  near : (n : ℕ) (next : Option Facts) → Behind c k n next → AreNeighbours c next (packets_at c (filter (is_of c k) (down_from n)))
  near zero next b = tt
  near (suc n) next b = by (is_of c k (suc n)) refl (λ o z. near n o z)
    where
      with_one : (o : Option Facts) → bearing c (suc n) ≡ o → is_of c k (suc n) ≡ true → ((o : Option Facts) → Behind c k n o → AreNeighbours c o (packets_at c (filter (is_of c k) (down_from n))))
          → AreNeighbours c next (with_packet o (packets_at c (filter (is_of c k) (down_from n))))
      with_one None e h more = let z = of_is c k (suc n) h in absurd (none_some e z.1)
      with_one (Some t) e h more =
          let z = of_is c k (suc n) h in
          let one : z.0 ≡ t = some_is z.1 e in
          let key : t.key ≡ k = ap (λ (u : Facts). u.key) (sym one) ∙ z.2 in
          (is_behind (suc n) t next key (next_is c (suc n) t is e) b, more (Some t) (something (suc n) e h (omega arith) (λ g l r. absurd (omega (arith, l, r)))))

      by : (x : Bool) → is_of c k (suc n) ≡ x → ((o : Option Facts) → Behind c k n o → AreNeighbours c o (packets_at c (filter (is_of c k) (down_from n)))) → AreNeighbours c next (packets_at c (cond x (suc n ∷ filter (is_of c k) (down_from n)) (filter (is_of c k) (down_from n))))
      by true e more = with_one (bearing c (suc n)) refl e more
      by false e more = more next (one_fewer n next e b)

  pub neighbours : AreNeighbours c None (reverse (key_list k (packets_in c.seen)))
  neighbours = subst (AreNeighbours c None) (all_listed c k) (near (length c.seen) None (nothing refl beyond))
    where
      beyond : (g : ℕ) → length c.seen < g → is_of c k g ≡ false
      beyond g l = by (is_of c k g) refl
        where
          by : (x : Bool) → is_of c k g ≡ x → x ≡ false
          by true e = let z = of_is c k g e in let w = bearing_within c g z.0 z.1 in absurd (omega (arith, l, w.1))
          by false e = refl

-- through the packets of a run
pub through : (c : Captured) (next : Option Facts) (m : Facts) (ms ys : List Facts) → AreNeighbours c next (m ∷ ms ++ ys) → AreNeighbours c (Some (oldest_of m ms)) ys
through c next m [] ys h = h.1
through c next m (g ∷ older) ys h = through c (Some m) g older ys h.1
