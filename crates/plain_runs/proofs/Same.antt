-- Packets have one list of plain runs.
use Rattle.std.proofs.Common.{◌≡◌, ℕ, ◌<◌, List, [], ◌∷◌, true, false, refl, sym, ap, ◌∙◌, subst, arith, inl, inr}
use Rattle.suri_base.specs.Keys.{same_key}
use Rattle.suri_base.specs.declared.facts.Facts.{Facts}
use Rattle.suri_base.specs.declared.key.Key.{Key}
use Rattle.flow_sum.specs.Run.{first_of}
use Rattle.plain_runs.specs.Plain.{ArePlain, FirstsRise, PlainRun, has_key, with_key}
use Rattle.suri_base.proofs.SameKeys.{bool_is, same_key-is, same_key-refl}

abbrev pub key_of : PlainRun → Key
key_of p = (first_of p.run).key

abbrev pub number_of : PlainRun → ℕ
number_of p = (first_of p.run).no

-- the first of a list, and those after it
abbrev pub head_of : PlainRun → List PlainRun → PlainRun
head_of d [] = d
head_of d (p ∷ ps) = p

abbrev pub tail_of : List PlainRun → List PlainRun
tail_of [] = []
tail_of (p ∷ ps) = ps

-- a plain run of a list that rises above a number has a greater one
head_above : (above : ℕ) (k : Key) (p : PlainRun) (rest ps : List PlainRun) → FirstsRise above ps → with_key k ps ≡ p ∷ rest → above < number_of p
head_above above k p rest [] rise is = cc
head_above above k p rest (q ∷ ps) rise is = elim (bool_is (has_key k q)) [
  | inl own ↦
      let starts : q ∷ with_key k ps ≡ p ∷ rest = rw own at is in
      subst (λ (x : PlainRun). above < number_of x) (ap (head_of p) starts) rise.0
  | inr other ↦
      let later : with_key k ps ≡ p ∷ rest = rw other at is in
      omega (arith, rise.0, head_above (number_of q) k p rest ps rise.1 later)
]

-- a plain run is the first of its key where it is the first of all
with_key-head : (p : PlainRun) (ps : List PlainRun) → with_key (key_of p) (p ∷ ps) ≡ p ∷ with_key (key_of p) ps
with_key-head p ps = rw (same_key-refl (key_of p)) refl

-- where another plain run begins a list with the same plain runs, this one comes later
comes_later : (p q : PlainRun) (ps qs : List PlainRun) → with_key (key_of p) (p ∷ ps) ≡ with_key (key_of p) (q ∷ qs) → has_key (key_of p) q ≡ false → FirstsRise (number_of q) qs
    → number_of q < number_of p
comes_later p q ps qs same other rise =
    let later : with_key (key_of p) qs ≡ p ∷ with_key (key_of p) ps = rw other at (sym same ∙ with_key-head p ps) in
    head_above (number_of q) (key_of p) p (with_key (key_of p) ps) qs rise later

-- lists that have the same plain runs of each key, and rise, begin with the same plain run
same_head : (p q : PlainRun) (ps qs : List PlainRun) → ((k : Key) → with_key k (p ∷ ps) ≡ with_key k (q ∷ qs)) → FirstsRise (number_of p) ps → FirstsRise (number_of q) qs → p ≡ q
same_head p q ps qs same rise_p rise_q = elim (bool_is (has_key (key_of p) q)) [
  | inl own ↦
      let starts : p ∷ with_key (key_of p) ps ≡ q ∷ with_key (key_of p) qs = rw own at (sym (with_key-head p ps) ∙ same (key_of p)) in
      ap (head_of p) starts
  | inr other ↦
      let before = comes_later p q ps qs (same (key_of p)) other rise_q in
      elim (bool_is (has_key (key_of q) p)) [
        | inl own ↦
            let keys : key_of p ≡ key_of q = same_key-is (key_of p) (key_of q) own in
            let no_own : true ≡ false = sym (same_key-refl (key_of q)) ∙ ap (same_key (key_of q)) (sym keys) ∙ other in
            cc
        | inr not_own ↦
            let after = comes_later q p qs ps (sym (same (key_of q))) not_own rise_p in
            absurd (omega (arith, before, after))
      ]
]

-- and go on with the same ones
same_tail : (p q : PlainRun) (ps qs : List PlainRun) → ((k : Key) → with_key k (p ∷ ps) ≡ with_key k (q ∷ qs)) → p ≡ q → (k : Key) → with_key k ps ≡ with_key k qs
same_tail p q ps qs same is k = elim (bool_is (has_key k p)) [
  | inl own ↦
      let own_too : has_key k q ≡ true = ap (has_key k) (sym is) ∙ own in
      let both : p ∷ with_key k ps ≡ q ∷ with_key k qs = rw (own, own_too) at (same k) in
      ap tail_of both
  | inr other ↦
      let other_too : has_key k q ≡ false = ap (has_key k) (sym is) ∙ other in
      rw (other, other_too) at (same k)
]

-- lists that have the same plain runs of each key, and rise, are the same
same_runs : (a b : ℕ) (ps qs : List PlainRun) → ((k : Key) → with_key k ps ≡ with_key k qs) → FirstsRise a ps → FirstsRise b qs → ps ≡ qs
same_runs a b [] [] same rise_p rise_q = refl
same_runs a b [] (q ∷ qs) same rise_p rise_q =
    let none : [] ≡ q ∷ with_key (key_of q) qs = same (key_of q) ∙ with_key-head q qs in
    cc
same_runs a b (p ∷ ps) [] same rise_p rise_q =
    let none : [] ≡ p ∷ with_key (key_of p) ps = sym (same (key_of p)) ∙ with_key-head p ps in
    cc
same_runs a b (p ∷ ps) (q ∷ qs) same rise_p rise_q =
    let first = same_head p q ps qs same rise_p.1 rise_q.1 in
    let others = same_runs (number_of p) (number_of q) ps qs (same_tail p q ps qs same first) rise_p.1 rise_q.1 in
    λ i. first i ∷ others i

-- plain runs of the same packets are the same
pub plain_once : (facts : List Facts) (ps qs : List PlainRun) → ArePlain facts ps → ArePlain facts qs → ps ≡ qs
plain_once facts ps qs plain again = same_runs 0 0 ps qs (λ k. plain.each k ∙ sym (again.each k)) plain.in_order again.in_order
