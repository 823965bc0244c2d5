-- The counterpart of a counterpart is the type itself.
use Rattle.std.proofs.Common.{◌≡◌, ◌≢◌, ne_eqb, ℕ, Bool, true, false, List, [], ◌∷◌, Option, Some, refl, sym, ap, ◌∙◌, eq-eqb}
use Rattle.std.proofs.lemmas.Bool.{eqb-true}
use Rattle.std.specs.Prelude.{◌==◌, if◌then◌else◌}
use Rattle.flow_key.specs.Pairs.{Pair, counterpart_in, counterpart_of, icmp_pairs, icmp_pairs_of_ipv6}

-- in a table, both types of each of these pairs have the other one
abbrev BothWays : List Pair → List Pair → Type 0
BothWays table [] = Unit {0}
BothWays table (p ∷ pairs) = (counterpart_in table p.one ≡ Some p.other) × (counterpart_in table p.other ≡ Some p.one) × BothWays table pairs

some_same : (a b : ℕ) → Some a ≡ Some b → a ≡ b
some_same a b e = cc

-- the first pair, and the rest of the pairs
one_more : (table : List Pair) (p : Pair) (rest : Option ℕ) (a b : ℕ) → counterpart_in table p.one ≡ Some p.other → counterpart_in table p.other ≡ Some p.one
    → (rest ≡ Some b → counterpart_in table b ≡ Some a) → (if a == p.one then Some p.other else (if a == p.other then Some p.one else rest)) ≡ Some b → counterpart_in table b ≡ Some a
one_more table p rest a b one other others found = at_one (a == p.one) refl found
  where
    at_other : (t : Bool) → (a == p.other) ≡ t → (if t then Some p.one else rest) ≡ Some b → counterpart_in table b ≡ Some a
    at_other true is e = ap (counterpart_in table) (sym (some_same p.one b e)) ∙ one ∙ ap Some (sym (eqb-true a p.other is))
    at_other false is e = others e

    at_one : (t : Bool) → (a == p.one) ≡ t → (if t then Some p.other else (if a == p.other then Some p.one else rest)) ≡ Some b → counterpart_in table b ≡ Some a
    at_one true is e = ap (counterpart_in table) (sym (some_same p.other b e)) ∙ other ∙ ap Some (sym (eqb-true a p.one is))
    at_one false is e = at_other (a == p.other) refl e

symmetric : (table pairs : List Pair) → BothWays table pairs → (a b : ℕ) → counterpart_in pairs a ≡ Some b → counterpart_in table b ≡ Some a
symmetric table [] ways a b e = absurd (cc)
symmetric table (p ∷ pairs) ways a b e = one_more table p (counterpart_in pairs a) a b ways.0 ways.1 (symmetric table pairs ways.2 a b) e

pub counterpart_of_symmetric : (version a b : ℕ) → counterpart_of version a ≡ Some b → counterpart_of version b ≡ Some a
unfolding counterpart_of
counterpart_of_symmetric version a b e = over (version == 4) e
  where
    over : (t : Bool) → (if t then counterpart_in icmp_pairs a else counterpart_in icmp_pairs_of_ipv6 a) ≡ Some b
        → (if t then counterpart_in icmp_pairs b else counterpart_in icmp_pairs_of_ipv6 b) ≡ Some a
    over true found = symmetric icmp_pairs icmp_pairs (refl, refl, (refl, refl, (refl, refl, (refl, refl, (refl, refl, tt))))) a b found
    over false found = symmetric icmp_pairs_of_ipv6 icmp_pairs_of_ipv6 (refl, refl, (refl, refl, (refl, refl, (refl, refl, (refl, refl, (refl, refl, tt)))))) a b found

-- the tables of the two versions
pub counterpart_of_ipv4 : (version a : ℕ) → version ≡ 4 → counterpart_of version a ≡ counterpart_in icmp_pairs a
unfolding counterpart_of
counterpart_of_ipv4 version a is = ap (λ t. if t then counterpart_in icmp_pairs a else counterpart_in icmp_pairs_of_ipv6 a) (eq-eqb version 4 is)

pub counterpart_of_ipv6 : (version a : ℕ) → version ≢ 4 → counterpart_of version a ≡ counterpart_in icmp_pairs_of_ipv6 a
unfolding counterpart_of
counterpart_of_ipv6 version a other = ap (λ t. if t then counterpart_in icmp_pairs a else counterpart_in icmp_pairs_of_ipv6 a) (ne_eqb version 4 other)
