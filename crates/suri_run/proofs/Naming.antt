-- The key of each record can be named: it is that of the run's first packet, which is one of the capture.
use Rattle.std.proofs.Common.{◌≡◌, ℕ, zero, suc, ◌-◌, ◌<◌, ◌≤◌, Bool, true, false, cond, List, [], ◌∷◌, filter, length, map, Option, Some, None, inl, inr, refl, sym, ◌∙◌, ap, subst, arith, mod-lt, ◌/◌}
use Rattle.std.specs.Prelude.{All, slice_index_or}
use Rattle.std.proofs.lemmas.List.Elements.{All-cons}
use Rattle.suri_base.specs.Capture.{packets_in}
use Rattle.suri_base.specs.Dealing.{bucket_of}
use Rattle.suri_base.specs.Hash.{fnv1a, key_bytes}
use Rattle.suri_base.specs.Keys.{IsNameable, key_list, same_key}
use Rattle.suri_base.specs.declared.entry.BucketNote.{BucketNote}
use Rattle.suri_base.specs.declared.entry.Entry.{Entry}
use Rattle.suri_base.specs.declared.facts.Facts.{Facts}
use Rattle.capture_index.specs.Order.{AreInOrder}
use Rattle.flow_sum.specs.Run.{first_of}
use Rattle.flow_object.specs.declared.outcome.FlowLine.{FlowLine}
use Rattle.bucket_rules.specs.Packets.{bearing}
use Rattle.bucket_rules.specs.Row.{Place, Row, blank, detached, has, linked, made, row, unbegun}
use Rattle.bucket_rules.proofs.Soundness.{sound}
use Rattle.bucket_laws.specs.Places.{In}
use Rattle.bucket_laws.proofs.Firsts.{named_by_first}
use Rattle.bucket_laws.proofs.Listing.{in_key_list}
use Rattle.run_rules.specs.Histories.{Histories, bucket_at}
use Rattle.run_rules.specs.Lawful.{AreLegal}
use Rattle.run_rules.specs.Runs.{line_in, line_when}
use Rattle.run_rules.specs.Setup.{Setup, bucket_by, fixed_at}

-- what a filter leaves was there
from_filter : (p : Facts → Bool) (t : Facts) (ts : List Facts) → In t (filter p ts) → In t ts
from_filter p t [] i = i
from_filter p t (u ∷ ts) i = by (p u) i (λ j. from_filter p t ts j)
  where
    by : (b : Bool) → In t (cond b (u ∷ filter p ts) (filter p ts)) → (In t (filter p ts) → In t ts) → In t (u ∷ ts)
    by true (inl e) more = inl e
    by true (inr j) more = inr (more j)
    by false j more = inr (more j)

in_order : (above : ℕ) (ts : List Facts) (t : Facts) → AreInOrder above ts → In t ts → IsNameable t.key
in_order above [] t o i = absurd i
in_order above (u ∷ ts) t o (inl e) = subst (λ (f : Facts). IsNameable f.key) e o.3
in_order above (u ∷ ts) t o (inr i) = in_order u.no ts t o.4 i

-- the record of a run has the key of its first packet
key_told : (w : Setup) (r : Row) (m : Facts) (ms : List Facts) (p : Place) (l : FlowLine) → Some l ≡ line_when w r (m ∷ ms) p
    → l.sums.key ≡ (first_of (record { newest = m; older = ms })).key
key_told w r m ms unbegun l h = cc
key_told w r m ms linked l h = cc
key_told w r m ms (detached o) l h = ap (λ (x : FlowLine). x.sums.key) (some_same h)
  where
    some_same : {x y : FlowLine} → Some x ≡ Some y → x ≡ y
    some_same h = cc

beyond : {A : Type 0} (xs : List (List A)) (b : ℕ) → length xs ≤ b → slice_index_or xs b [] ≡ []
beyond [] b le = refl
beyond (x ∷ xs) zero le = absurd (omega (arith, le))
beyond (x ∷ xs) (suc b) le = beyond xs b (omega (arith, le))

none_told : (w : Setup) (r : Row) (l : FlowLine) → r ≡ blank → Some l ≡ line_when w r r.members r.place → ⊥
none_told w r l e h =
    let none : Some l ≡ None = h ∙ ap (λ (q : Row). line_when w q q.members q.place) e in
    cc

module _ (w : Setup) (t : Histories) (legal : AreLegal w t) (some_rows : 1 ≤ w.layout.rows) (order : AreInOrder 0 (packets_in w.capture.seen)) where
  borne : (f : ℕ) (u : Facts) → bearing w.capture f ≡ Some u → IsNameable u.key
  borne f u h = in_order 0 (packets_in w.capture.seen) u order (from_filter (λ (p : Facts). same_key p.key u.key) u (packets_in w.capture.seen) (in_key_list w.capture f u u.key h refl))

  abbrev row_in_bucket : ℕ → ℕ → Row
  row_in_bucket run b = row (fixed_at w b) run (bucket_at b t.buckets)

  abbrev told_by : Row → Option FlowLine
  told_by r = line_when w r r.members r.place

  -- by the bucket of the run's packet
  told_at : (run : ℕ) (o : Option Facts) → bearing w.capture run ≡ o → line_in w t run ≡ told_by (row_in_bucket run (bucket_by w.layout.rows o))
  told_at run o e = ap (λ (q : Option Facts). told_by (row_in_bucket run (bucket_by w.layout.rows q))) e

  named_there : (run b : ℕ) (l : FlowLine) → b < length t.buckets → Some l ≡ told_by (row_in_bucket run b) → IsNameable l.sums.key
  named_there run b l lt told = by (has (made (bucket_at b t.buckets)) run) refl
    where
      by : (c : Bool) → has (made (bucket_at b t.buckets)) run ≡ c → IsNameable l.sums.key
      by false e = absurd (none_told w (row_in_bucket run b) l ((sound (fixed_at w b) (bucket_at b t.buckets) (legal.buckets b lt)).begun run e) told)
      by true e =
          let n = named_by_first (fixed_at w b) (bucket_at b t.buckets) run (legal.buckets b lt) e in
          let here : Some l ≡ line_when w (row_in_bucket run b) (n.run.newest ∷ n.run.older) (row_in_bucket run b).place =
          told ∙ ap (λ (ms : List Facts). line_when w (row_in_bucket run b) ms (row_in_bucket run b).place) n.members in
          subst IsNameable (sym (key_told w (row_in_bucket run b) n.run.newest n.run.older (row_in_bucket run b).place l here)) (borne run (first_of n.run) n.first)

  named_line : (run : ℕ) (l : FlowLine) → Some l ≡ line_in w t run → IsNameable l.sums.key
  named_line run l h = by (bearing w.capture run) refl
    where
      by : (o : Option Facts) → bearing w.capture run ≡ o → IsNameable l.sums.key
      by None e =
          let none : bucket_at w.layout.rows t.buckets ≡ [] = beyond t.buckets w.layout.rows (omega (arith, legal.rows)) in
          absurd (none_told w (row_in_bucket run w.layout.rows) l (ap (λ (history : List (Entry BucketNote)). row (fixed_at w w.layout.rows) run history) none) (h ∙ told_at run None e))
      by (Some u) e =
          named_there run (bucket_of u.key w.layout.rows) l
          (subst (λ (n : ℕ). bucket_of u.key w.layout.rows < n) (sym legal.rows) (mod-lt (fnv1a (key_bytes u.key) / 256) some_rows)) (h ∙ told_at run (Some u) e)

  -- so has each record of a run
  pub named_lines : (lines : List FlowLine) (runs : List ℕ) → map (λ l. Some l) lines ≡ map (λ run. line_in w t run) runs → All (λ line. IsNameable line.sums.key) lines
  named_lines [] runs h = λ k d lt. absurd (omega arith)
  named_lines (l ∷ lines) [] h = cc
  named_lines (l ∷ lines) (run ∷ runs) h =
      let here : Some l ≡ line_in w t run = cc in
      let rest : map (λ k. Some k) lines ≡ map (λ k. line_in w t k) runs = cc in
      All-cons (λ (x : FlowLine). IsNameable x.sums.key) l lines (named_line run l here) (named_lines lines runs rest)
