-- A part of the text, read: the line before its entries, and then these.
use Rattle.std.proofs.Common.{◌≡◌, ◌++◌, ◌∷◌, [], List, ℕ, ◌+◌, suc, Result, Ok, Err, MatchResult, add-zero, ap, append-nil, arith, length, refl, replicate, sym, ◌∙◌}
use Rattle.std.proofs.lemmas.List.{length-replicate}
use Rattle.std.proofs.lemmas.List.Elements.{All-replicate}
use Rattle.suri_base.specs.declared.entry.BucketNote.{BucketNote}
use Rattle.suri_base.specs.declared.entry.Entry.{Entry}
use Rattle.trail_text.specs.declared.fault.TrailFault.{TrailFault}
use Rattle.trail_text.specs.declared.fault.TrailFault.TheVariants as fault
use Rattle.trail_text.specs.Bounds.{EntryFits, Fits, HistoryFits}
use Rattle.trail_text.specs.Lines.{bucket_parts, entry_line, entry_lines, part}
use Rattle.trail_text.specs.Reading.{Count, Faulty, Reading, Stops, Took, alone, bucket_part, entry_row, head_line, row}
use Rattle.trail_text.proofs.Stopping.{stops_after}

abbrev Lines : Type 0
Lines = List (List ℕ)

pub row_parts : (number : ℕ) (hs : List (List (Entry BucketNote))) → row bucket_part number hs ≡ bucket_parts number hs
row_parts number [] = refl
row_parts number (h ∷ hs) = ap (λ z. bucket_part number h ++ z) (row_parts (suc number) hs)

module _ {N : Type 0} (name : Lines) (words : N → Lines) (NoteFits : N → Type 0) where
  abbrev head : ℕ → List ℕ
  head n = head_line name n

  abbrev rows : List (Entry N) → Lines
  rows es = entry_row (entry_line words) es

  row_lines : (number : ℕ) (es : List (Entry N)) → row (λ _ e. entry_line words e ∷ []) number es ≡ entry_lines words es
  row_lines number [] = refl
  row_lines number (e ∷ es) = ap (λ z. entry_line words e ∷ z) (row_lines (suc number) es)

  part_is : (count : ℕ) (es : List (Entry N)) → length es ≡ count → part name words es ≡ head count ∷ rows es
  part_is count es long = ap (λ n. head n ∷ entry_lines words es) long ∙ ap (λ z. head count ∷ z) (sym (row_lines 0 es))

  part_took : (old mid new : Reading) (count : ℕ) (es : List (Entry N)) → Took (alone (head_line name)) Fits old mid count
      → Took (entry_row (entry_line words)) (Count (EntryFits NoteFits) count) mid new es → Took (part name words) (HistoryFits NoteFits) old new es
  part_took old mid new count es h e =
      let long : length es ≡ count = e.fit.0 in
      let whole : part name words es ≡ head count ∷ rows es = part_is count es long in
      record {
        fit = (let f = h.fit in omega (arith, f, long), e.fit.1);
        lines = h.lines ∙ ap (λ z. head count ∷ z) e.lines ∙ ap (λ z. z ++ new.lines) (sym whole);
        tail = e.tail ∙ h.tail;
        no =
            let l : length (part name words es) ≡ suc (length (rows es)) = ap (λ z. length z) whole in
            let a : mid.no ≡ old.no + 1 = h.no in
            let b : new.no ≡ mid.no + length (rows es) = e.no in
            omega (arith, l, a, b);
        tells = λ ws fit p q is.
            let first = h.tells (length ws) fit.0 (entry_lines words ws ++ p) (entry_lines words es ++ q) (is ∙ ap (λ n. head n ∷ (entry_lines words es ++ q)) long) in
            e.tells ws (first.0, fit.1) p q (ap (λ z. z ++ p) (row_lines 0 ws) ∙ first.1 ∙ ap (λ z. z ++ q) (sym (row_lines 0 es)));
      }

  part_stops_head : (some : Entry N) → EntryFits NoteFits some → (old : Reading) (at : ℕ) → Stops (alone (head_line name)) Fits old at
      → Stops (part name words) (HistoryFits NoteFits) old at
  part_stops_head some fits old at s =
      stops_after (alone (head_line name)) Fits (part name words) (HistoryFits NoteFits) [] old old at refl (sym (add-zero old.no)) s (
      λ n fit.
      let ws : List (Entry N) = replicate n some in
      let l : length ws ≡ n = length-replicate n some in
      (ws, (omega (arith, l, fit), All-replicate (EntryFits NoteFits) n some fits), (entry_lines words ws, ap (λ k. head k ∷ entry_lines words ws) l))
      ) (λ ws fit p q is. (length ws, fit.0, (entry_lines words ws ++ p, is)))

  part_stops_entries : (old mid : Reading) (count at : ℕ) → Took (alone (head_line name)) Fits old mid count
      → Stops (entry_row (entry_line words)) (Count (EntryFits NoteFits) count) mid at → Stops (part name words) (HistoryFits NoteFits) old at
  part_stops_entries old mid count at h s =
      stops_after (entry_row (entry_line words)) (Count (EntryFits NoteFits) count) (part name words) (HistoryFits NoteFits) (head count ∷ []) old mid at h.lines h.no s (
      λ ws fit.
      let f = h.fit in
      let l = fit.0 in
      (ws, (omega (arith, f, l), fit.1), ([], part_is count ws l ∙ ap (λ z. head count ∷ z) (sym (append-nil (rows ws)))))
      ) (
      λ ws fit p q is.
      let first = h.tells (length ws) fit.0 (entry_lines words ws ++ p) q is in (ws, (first.0, fit.1), (p, ap (λ z. z ++ p) (row_lines 0 ws) ∙ first.1))
      )

  -- where the line before the entries stops, so does the part
  pub part_head : (some : Entry N) → EntryFits NoteFits some → (old : Reading) (f : TrailFault) → Faulty (alone (head_line name)) Fits old f
      → Faulty (part name words) (HistoryFits NoteFits) old f
  part_head some fits old (fault.Line at) s = part_stops_head some fits old at s
  part_head some fits old fault.NoMemory s = tt

  -- where it was read, the part is what the entries are
  pub part_read : {X : Type 0} (items : X → List (Entry N)) (old mid new : Reading) (count : ℕ) (r : Result X TrailFault) → Took (alone (head_line name)) Fits old mid count
      → MatchResult r (λ v. Took (entry_row (entry_line words)) (Count (EntryFits NoteFits) count) mid new (items v))
      (Faulty (entry_row (entry_line words)) (Count (EntryFits NoteFits) count) mid)
      → MatchResult r (λ v. Took (part name words) (HistoryFits NoteFits) old new (items v)) (Faulty (part name words) (HistoryFits NoteFits) old)
  part_read items old mid new count (Ok v) h e = part_took old mid new count (items v) h e
  part_read items old mid new count (Err (fault.Line at)) h s = part_stops_entries old mid count at h s
  part_read items old mid new count (Err fault.NoMemory) h s = tt
