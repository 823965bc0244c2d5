-- The plain runs of packets, end to end, are the packets: those of a key in their order, and all in another.
use Rattle.std.proofs.Common.{◌≡◌, ℕ, zero, suc, ◌≤◌, Bool, true, false, cond, List, [], ◌∷◌, ◌++◌, flat_map, length, length-append, reverse, refl, sym, ap, ◌∙◌, subst, append_assoc, arith, inl, inr}
use Rattle.std.specs.Prelude.{filter, not}
use Rattle.std.specs.List.Sorted.{IsPermutation}
use Rattle.std.proofs.lemmas.Grind.{reverse_onto}
use Rattle.std.proofs.lemmas.List.{length-reverse}
use Rattle.std.proofs.lemmas.List.Filters.{length-filter_both}
use Rattle.std.proofs.lemmas.List.Sorted.{IsPermutation-append_comm, IsPermutation-append_left, IsPermutation-append_right, IsPermutation-filter_both, IsPermutation-refl, IsPermutation-sym, IsPermutation-trans}
use Rattle.suri_base.specs.Keys.{key_list, same_key}
use Rattle.suri_base.specs.declared.facts.Facts.{Facts}
use Rattle.suri_base.specs.declared.key.Key.{Key}
use Rattle.flow_sum.specs.Run.{Run, alone, first_of, members, with_one_more}
use Rattle.plain_runs.specs.Plain.{ArePlain, PlainRun, cut_from, cut_run, cuts, has_key, in_file_order, is_cut, with_key}
use Rattle.suri_base.proofs.SameKeys.{bool_is, same_key-is, same_key-refl}

-- one packet more stands behind the others in file order
more_in_order : (r : Run) (f : Facts) → reverse (members (with_one_more f r)) ≡ reverse (members r) ++ f ∷ []
more_in_order r f = reverse_onto (members r) f []

cut_covers : (r : Run) (fs : List Facts) → flat_map in_file_order (cut_from r fs) ≡ reverse (members r) ++ fs
cut_covers r [] = refl
cut_covers r (f ∷ fs) = by (is_cut r f) (cut_covers (alone f) fs) (cut_covers (with_one_more f r) fs)
  where
    by : (is : Bool) → flat_map in_file_order (cut_from (alone f) fs) ≡ f ∷ fs → flat_map in_file_order (cut_from (with_one_more f r) fs) ≡ reverse (members (with_one_more f r)) ++ fs
        → flat_map in_file_order (cond is (cut_run r f ∷ cut_from (alone f) fs) (cut_from (with_one_more f r) fs)) ≡ reverse (members r) ++ f ∷ fs
    by true here there = ap (λ l. reverse (members r) ++ l) here
    by false here there = there ∙ ap (λ l. l ++ fs) (more_in_order r f) ∙ append_assoc (reverse (members r)) (f ∷ []) fs

cuts_cover : (fs : List Facts) → flat_map in_file_order (cuts fs) ≡ fs
cuts_cover [] = refl
cuts_cover (f ∷ fs) = cut_covers (alone f) fs

-- the plain runs of a key, end to end, are all packets of that key
pub covers : (packets : List Facts) (plain_runs : List PlainRun) (k : Key) → ArePlain packets plain_runs → flat_map in_file_order (with_key k plain_runs) ≡ key_list k packets
covers packets plain_runs k plain = ap (λ (l : List PlainRun). flat_map in_file_order l) (plain.each k) ∙ cuts_cover (key_list k packets)

-- what fails a test has nothing that passes it, and all that passes another test which excludes it
none_of_others : {X : Type 0} (p : X → Bool) (xs : List X) → filter p (filter (λ x. not (p x)) xs) ≡ []
none_of_others p [] = refl
none_of_others p (x ∷ xs) = elim (bool_is (p x)) [
  | inl own ↦ rw own (none_of_others p xs)
  | inr other ↦ rw (other, other) (none_of_others p xs)
]

all_of_others : {X : Type 0} (p q : X → Bool) → ((x : X) → q x ≡ true → p x ≡ false) → (xs : List X) → filter q (filter (λ x. not (p x)) xs) ≡ filter q xs
all_of_others p q apart [] = refl
all_of_others p q apart (x ∷ xs) = elim (bool_is (q x)) [
  | inl own ↦ rw (apart x own, own) (ap (λ l. x ∷ l) (all_of_others p q apart xs))
  | inr other ↦ elim (bool_is (p x)) [
    | inl first ↦ rw (first, other) (all_of_others p q apart xs)
    | inr neither ↦ rw (neither, other) (all_of_others p q apart xs)
  ]
]

-- a key that is the same as one key is not the same as another
keys_apart : (j k l : Key) → same_key j k ≡ false → same_key l j ≡ true → same_key l k ≡ false
keys_apart j k l other own = ap (λ (x : Key). same_key x k) (same_key-is l j own) ∙ other

-- those without a key
abbrev other_packets : Key → List Facts → List Facts
other_packets k packets = filter (λ f. not (same_key f.key k)) packets

abbrev other_runs : Key → List PlainRun → List PlainRun
other_runs k plain_runs = filter (λ p. not (has_key k p)) plain_runs

-- where the plain runs of each key are its packets, this is so of those without a key too
abbrev Covers : List Facts → List PlainRun → Type 0
Covers packets plain_runs = (k : Key) → flat_map in_file_order (with_key k plain_runs) ≡ key_list k packets

others_cover : (k : Key) (packets : List Facts) (plain_runs : List PlainRun) → Covers packets plain_runs → Covers (other_packets k packets) (other_runs k plain_runs)
others_cover k packets plain_runs cover j = elim (bool_is (same_key j k)) [
  | inl own ↦
      subst (λ (x : Key). flat_map in_file_order (with_key x (other_runs k plain_runs)) ≡ key_list x (other_packets k packets)) (sym (same_key-is j k own))
      (ap (λ (l : List PlainRun). flat_map in_file_order l) (none_of_others (has_key k) plain_runs) ∙ sym (none_of_others (λ (f : Facts). same_key f.key k) packets))
  | inr other ↦
      ap (λ (l : List PlainRun). flat_map in_file_order l) (all_of_others (has_key k) (has_key j) (λ p. keys_apart j k (first_of p.run).key other) plain_runs)
      ∙ cover j
      ∙ sym (all_of_others (λ (f : Facts). same_key f.key k) (λ (f : Facts). same_key f.key j) (λ f. keys_apart j k f.key other) packets)
]

-- the packets of plain runs are those of the ones that pass a test, and those of the others
split : (p : PlainRun → Bool) (ps : List PlainRun) → IsPermutation (flat_map in_file_order ps) (flat_map in_file_order (filter p ps) ++ flat_map in_file_order (filter (λ q. not (p q)) ps))
split p [] = IsPermutation-refl []
split p (q ∷ ps) =
    let here = in_file_order q in
    let own = flat_map in_file_order (filter p ps) in
    let others = flat_map in_file_order (filter (λ q. not (p q)) ps) in
    let more : IsPermutation (here ++ flat_map in_file_order ps) (here ++ (own ++ others)) = IsPermutation-append_right here (flat_map in_file_order ps) (own ++ others) (split p ps) in
    elim (bool_is (p q)) [
      | inl passes ↦ rw passes (subst (IsPermutation (here ++ flat_map in_file_order ps)) (sym (append_assoc here own others)) more)
      | inr fails ↦
          let swapped : IsPermutation ((here ++ own) ++ others) ((own ++ here) ++ others) = IsPermutation-append_left others (here ++ own) (own ++ here) (IsPermutation-append_comm here own) in
          rw fails (IsPermutation-trans (here ++ flat_map in_file_order ps) ((here ++ own) ++ others) (own ++ (here ++ others))
          (subst (IsPermutation (here ++ flat_map in_file_order ps)) (sym (append_assoc here own others)) more)
          (subst (IsPermutation ((here ++ own) ++ others)) (append_assoc own here others) swapped))
    ]

-- no packets have no plain runs
none_cover : (ps : List PlainRun) → Covers [] ps → flat_map in_file_order ps ≡ []
none_cover [] cover = refl
none_cover (p ∷ ps) cover =
    let own = with_key (first_of p.run).key ps in
    let first : with_key (first_of p.run).key (p ∷ ps) ≡ p ∷ own = rw (same_key-refl (first_of p.run).key) refl in
    let none : in_file_order p ++ flat_map in_file_order own ≡ [] = ap (λ (l : List PlainRun). flat_map in_file_order l) (sym first) ∙ cover (first_of p.run).key in
    absurd (omega (arith, ap (λ (l : List Facts). length l) none, length-append (in_file_order p) (flat_map in_file_order own), length-reverse (members p.run)))

each_once : (n : ℕ) (packets : List Facts) (ps : List PlainRun) → length packets ≤ n → Covers packets ps → IsPermutation packets (flat_map in_file_order ps)
each_once n [] ps few cover = subst (IsPermutation []) (sym (none_cover ps cover)) (IsPermutation-refl [])
each_once zero (f ∷ packets) ps few cover = absurd (omega arith)
each_once (suc n) (f ∷ packets) ps few cover =
    let own = with_key f.key ps in
    let others = other_runs f.key ps in
    let left = other_packets f.key (f ∷ packets) in
    let first : key_list f.key (f ∷ packets) ≡ f ∷ key_list f.key packets = rw (same_key-refl f.key) refl in
    let size = length-filter_both (λ (g : Facts). same_key g.key f.key) (λ g. not (same_key g.key f.key)) (λ g. refl) (f ∷ packets) in
    let fewer : length left ≤ n = omega (arith, few, size, ap (λ (l : List Facts). length l) first) in
    let parts : IsPermutation (f ∷ packets) (key_list f.key (f ∷ packets) ++ left) =
    IsPermutation-filter_both (λ (g : Facts). same_key g.key f.key) (λ g. not (same_key g.key f.key)) (λ g. refl) (f ∷ packets) in
    let rest : IsPermutation left (flat_map in_file_order others) = each_once n left others fewer (others_cover f.key (f ∷ packets) ps cover) in
    let both : IsPermutation (flat_map in_file_order own ++ left) (flat_map in_file_order own ++ flat_map in_file_order others) =
    IsPermutation-append_right (flat_map in_file_order own) left (flat_map in_file_order others) rest in
    IsPermutation-trans (f ∷ packets) (flat_map in_file_order own ++ left) (flat_map in_file_order ps)
    (subst (λ (l : List Facts). IsPermutation (f ∷ packets) (l ++ left)) (sym (cover f.key)) parts)
    (IsPermutation-trans (flat_map in_file_order own ++ left) (flat_map in_file_order own ++ flat_map in_file_order others) (flat_map in_file_order ps) both
    (IsPermutation-sym (flat_map in_file_order ps) (flat_map in_file_order own ++ flat_map in_file_order others) (split (has_key f.key) ps)))

-- all plain runs, end to end, are all packets in another order
pub has_each : (packets : List Facts) (plain_runs : List PlainRun) → ArePlain packets plain_runs → IsPermutation packets (flat_map in_file_order plain_runs)
has_each packets plain_runs plain = each_once (length packets) packets plain_runs (omega arith) (λ k. covers packets plain_runs k plain)
