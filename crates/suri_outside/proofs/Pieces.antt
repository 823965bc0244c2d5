-- Lists in pieces.
use Rattle.std.proofs.Common.{◌≡◌, ℕ, ◌+◌, ◌-◌, ◌≤◌, List, ◌++◌, length, take, drop, sym, ap, ◌∙◌, arith, take-append-drop, length-take}
use Rattle.std.proofs.lemmas.List.{drop-drop, take_at, take_rest}
use lib.Seq.{take-add}

-- what is left from a place is a piece that was copied out, and what is left behind it
pub given_and_left : (bytes piece rest : List ℕ) (at n : ℕ) → n ≤ length (drop at bytes) → piece ≡ take n (drop at bytes)
    → drop at bytes ≡ take n (piece ++ rest) ++ drop (at + n) bytes
given_and_left bytes piece rest at n fits e =
    let whole : take n (drop at bytes) ++ drop n (drop at bytes) ≡ drop at bytes = take-append-drop n (drop at bytes) in
    let size : length piece ≡ n = ap length e ∙ grind (arith, length-take) in
    rw (take_at piece rest n size, e, ← drop-drop n at bytes) (sym whole)

-- a front, and a front of the rest, are a longer front
pub take_joined : (xs : List ℕ) (at n : ℕ) → take at xs ++ take n (take (length xs - at) (drop at xs)) ≡ take (at + n) xs
take_joined xs at n = rw take_rest (sym (take-add at n xs))
