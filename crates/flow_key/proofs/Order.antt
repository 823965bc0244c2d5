-- Two ends in order: the same whichever comes first.
use Rattle.std.proofs.Common.{◌≡◌, ℕ, Bool, true, false, ◌⊎◌, inl, inr, refl, sym, ap, ◌∙◌, arith}
use Rattle.std.specs.Prelude.{if◌then◌else◌}
use Rattle.std.proofs.lemmas.Bool.Decides.{nat_tests}
use Rattle.suri_base.specs.Keys.{is_at_most}
use Rattle.suri_base.specs.declared.key.End.{End}

-- the lesser of two ends, and the greater
abbrev pub lesser : End → End → End
lesser a b = if is_at_most a b then a else b

abbrev pub greater : End → End → End
greater a b = if is_at_most a b then b else a

end_same : (a b : End) → a.addr ≡ b.addr → a.port ≡ b.port → a ≡ b
end_same a b addr port = ap (λ x. made x a.port) addr ∙ ap (made b.addr) port
  where
    made : ℕ → ℕ → End
    made x y = record { addr = x; port = y }

total : (a b : End) → is_at_most a b ≡ false → is_at_most b a ≡ true
total a b e = grind (arith, nat_tests)

addr_same : (a b : End) → is_at_most a b ≡ true → is_at_most b a ≡ true → a.addr ≡ b.addr
addr_same a b e f = grind (arith, nat_tests)

port_same : (a b : End) → is_at_most a b ≡ true → is_at_most b a ≡ true → a.port ≡ b.port
port_same a b e f = grind (arith, nat_tests)

both_same : (a b : End) → is_at_most a b ≡ true → is_at_most b a ≡ true → a ≡ b
both_same a b e f = end_same a b (addr_same a b e f) (port_same a b e f)

-- each of two ends in the other order
pub lesser-swap : (a b : End) → lesser a b ≡ lesser b a
lesser-swap a b = by_tests (is_at_most a b) (is_at_most b a) refl refl
  where
    by_tests : (t u : Bool) → is_at_most a b ≡ t → is_at_most b a ≡ u → (if t then a else b) ≡ (if u then b else a)
    by_tests true true e f = both_same a b e f
    by_tests true false e f = refl
    by_tests false true e f = refl
    by_tests false false e f = absurd (cc (total a b e))

pub greater-swap : (a b : End) → greater a b ≡ greater b a
greater-swap a b = by_tests (is_at_most a b) (is_at_most b a) refl refl
  where
    by_tests : (t u : Bool) → is_at_most a b ≡ t → is_at_most b a ≡ u → (if t then b else a) ≡ (if u then a else b)
    by_tests true true e f = sym (both_same a b e f)
    by_tests true false e f = refl
    by_tests false true e f = refl
    by_tests false false e f = absurd (cc (total a b e))

-- the lesser end is at most the greater
pub in_order : (a b : End) → is_at_most (lesser a b) (greater a b) ≡ true
in_order a b = by_test (is_at_most a b) refl
  where
    by_test : (t : Bool) → is_at_most a b ≡ t → is_at_most (if t then a else b) (if t then b else a) ≡ true
    by_test true e = e
    by_test false e = total a b e

-- two ends are known by the lesser and the greater
pub same_two : (a b c d : End) → lesser a b ≡ lesser c d → greater a b ≡ greater c d → ((a ≡ c) × (b ≡ d)) ⊎ ((a ≡ d) × (b ≡ c))
same_two a b c d = by_tests (is_at_most a b) (is_at_most c d)
  where
    by_tests : (t u : Bool) → (if t then a else b) ≡ (if u then c else d) → (if t then b else a) ≡ (if u then d else c) → ((a ≡ c) × (b ≡ d)) ⊎ ((a ≡ d) × (b ≡ c))
    by_tests true true e f = inl (e, f)
    by_tests true false e f = inr (e, f)
    by_tests false true e f = inr (f, e)
    by_tests false false e f = inl (f, e)
