-- What is written by one piece more, with what is still to be written, is the same whole.
use Rattle.std.proofs.Common.{◌≡◌, ℕ, suc, ◌+◌, ◌%◌, List, [], ◌∷◌, ◌++◌, map, length, length-append, ap, ◌∙◌, arith}
use Rattle.std.specs.List.{range_with_len}
use Rattle.std.proofs.lemmas.List.{append_assoc}
use Rattle.capture_gen.specs.declared.plan.Turn.{Turn}
use Rattle.capture_gen.specs.Capture.{record_header, record_of, records_from}
use Rattle.capture_gen.specs.Frame.{frame}

-- three pieces
pub append_three : (out a b c : List ℕ) → out ++ a ++ b ++ c ≡ out ++ (a ++ b ++ c)
append_three out a b c = ap (λ (s : List ℕ). s ++ c) (append_assoc out a b) ∙ append_assoc out (a ++ b) c

-- a byte that counts
pub next_byte : (out total : List ℕ) (from left rest : ℕ) → left ≡ suc rest → out ++ map (λ j. j % 256) (range_with_len from left) ≡ total
    → out ++ (from % 256 ∷ []) ++ map (λ j. j % 256) (range_with_len (from + 1) rest) ≡ total
next_byte out total from left rest more whole =
    append_assoc out (from % 256 ∷ []) (map (λ j. j % 256) (range_with_len (from + 1) rest))
    ∙ (rw more at whole)

-- the record of a turn
pub next_record : (out total : List ℕ) (place : ℕ) (t : Turn) (turns rest : List Turn) → turns ≡ t ∷ rest → out ++ records_from place turns ≡ total
    → out ++ record_of place t ++ records_from (place + 1) rest ≡ total
next_record out total place t turns rest more whole =
    append_assoc out (record_of place t) (records_from (place + 1) rest)
    ∙ (rw more at whole)

-- the size of a turn's record
pub next_size : (room total place : ℕ) (t : Turn) (turns rest : List Turn) → turns ≡ t ∷ rest → room + length (records_from place turns) ≡ total
    → room + (16 + length (frame (place % 16) t)) + length (records_from (place + 1) rest) ≡ total
next_size room total place t turns rest more whole =
    let body = frame (place % 16) t in
    let after = records_from (place + 1) rest in
    let one : length (record_of place t) ≡ 16 + length body = length-append (record_header place (length body)) body in
    let both : length (record_of place t ++ after) ≡ length (record_of place t) + length after = length-append (record_of place t) after in
    let counted : room + length (record_of place t ++ after) ≡ total = rw more at whole in
    omega (arith, one, both, counted)
