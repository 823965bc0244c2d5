-- No line of a trail has a line feed, so a trail's text has just its lines.
use Rattle.std.proofs.Common.{◌≡◌, ◌++◌, ◌∷◌, [], List, ℕ, ◌+◌, ◌<◌, ◌≤◌, ◌^◌, All, suc, ap, append_assoc, arith, codes, decimal, length, refl, ◌∙◌}
use Rattle.std.proofs.lemmas.List.Elements.{All-head, All-tail}
use Rattle.suri_base.specs.Trail.{Trailed}
use Rattle.suri_base.specs.declared.entry.BucketNote.{BucketNote}
use Rattle.suri_base.specs.declared.entry.Entry.{Entry}
use Rattle.suri_base.specs.declared.layout.Layout.{Layout}
use Rattle.trail_text.specs.Bounds.{BucketFits, EntryFits, Fits, HistoryFits, IsLaidOut, IsWithin, PoolFits, SegFits}
use Rattle.trail_text.specs.Faults.{but_last, whole_lines}
use Rattle.trail_text.specs.Lines.{bucket_parts, entry_lines, entry_words, layout_line, layout_numbers, part, text_of_lines, trail_lines}
use Rattle.trail_text.specs.Pieces.{Without, pieces}
use Rattle.trail_text.specs.Reading.{bucket_part, last_piece}
use Rattle.trail_text.specs.Words.{behind, bucket_words, pool_words, seg_words, spaced}
use Rattle.trail_text.proofs.EntryLines.{bucket_free, pool_free, seg_free}
use Rattle.trail_text.proofs.Spacing.{AllWithout, literal_free, number_free, pieces_cut, word_free}

abbrev Lines : Type 0
Lines = List (List ℕ)

append_free : (at : ℕ) (x y : List ℕ) → Without at x → Without at y → Without at (x ++ y)
append_free at [] y fx fy = fy
append_free at (c ∷ cs) y fx fy = (fx.0, append_free at cs y fx.1 fy)

all_append : (at : ℕ) (x y : Lines) → AllWithout at x → AllWithout at y → AllWithout at (x ++ y)
all_append at [] y fx fy = fy
all_append at (l ∷ ls) y fx fy = (fx.0, all_append at ls y fx.1 fy)

behind_free : (ws : Lines) → AllWithout 10 ws → Without 10 (behind ws)
behind_free [] free = tt
behind_free (w ∷ ws) free = (refl, append_free 10 w (behind ws) free.0 (behind_free ws free.1))

spaced_free : (ws : Lines) → AllWithout 10 ws → Without 10 (spaced ws)
spaced_free [] free = tt
spaced_free (w ∷ ws) free = append_free 10 w (behind ws) free.0 (behind_free ws free.1)

feed_low : 10 < 48
feed_low = omega arith

large : (n : ℕ) → n < 2 ^ 64 → Without 10 (decimal n)
large n lt = number_free 10 n feed_low lt

small : (n : ℕ) → Fits n → Without 10 (decimal n)
small n lt = large n (omega (arith, lt))

module _ {N : Type 0} (words : N → Lines) (NoteFits : N → Type 0) (free : (n : N) → NoteFits n → AllWithout 10 (words n)) where
  entries_free : (es : List (Entry N)) → All (EntryFits NoteFits) es → AllWithout 10 (entry_lines words es)
  entries_free [] fit = tt
  entries_free (e ∷ es) fit =
      let f = All-head (EntryFits NoteFits) e es fit in
      (spaced_free (entry_words words e) (small e.role f.0, (large e.step f.1, free e.note f.2)), entries_free es (All-tail (EntryFits NoteFits) e es fit))

  part_free : (name : Lines) (es : List (Entry N)) → AllWithout 10 name → HistoryFits NoteFits es → AllWithout 10 (part name words es)
  part_free name es named fit =
      (spaced_free (name ++ decimal (length es) ∷ []) (all_append 10 name (decimal (length es) ∷ []) named (small (length es) fit.0, tt)), entries_free es fit.1)

buckets_free : (number : ℕ) (hs : List (List (Entry BucketNote))) → number + length hs ≤ 4096 → All (HistoryFits BucketFits) hs → AllWithout 10 (bucket_parts number hs)
buckets_free number [] le fit = tt
buckets_free number (h ∷ hs) le fit =
    all_append 10 (bucket_part number h) (bucket_parts (suc number) hs) (
    part_free bucket_words BucketFits (bucket_free 10 feed_low) (codes "bucket" ∷ decimal number ∷ []) h (word_free 10 feed_low (codes "bucket") refl, (large number (omega (arith, le)), tt))
    (All-head (HistoryFits BucketFits) h hs fit)
    ) (buckets_free (suc number) hs (omega (arith, le)) (All-tail (HistoryFits BucketFits) h hs fit))

bounded : (n most : ℕ) → n ≤ most → most < 2 ^ 64 → Without 10 (decimal n)
bounded n most le lt = large n (omega (arith, le, lt))

layout_free : (l : Layout) → IsLaidOut l → Without 10 (layout_line l)
layout_free l fit =
    spaced_free (codes "layout" ∷ layout_numbers l) (
      word_free 10 feed_low (codes "layout") refl,
      (
        bounded l.workers 64 fit.workers.1 (omega arith),
        (
          bounded l.batch 256 fit.batch.1 (omega arith),
          (
            bounded l.round 65536 fit.round.1 (omega arith),
            (
              bounded l.rows 4096 fit.table_rows.1 (omega arith),
              (
                bounded l.memcap 1048576 fit.memcap.1 (omega arith),
                (
                  bounded l.segments 1048576 fit.segments.1 (omega arith),
                  (bounded l.recovery 100 fit.recovery.1 (omega arith), (bounded l.depth 1073741824 fit.depth.1 (omega arith), tt)),
                ),
              ),
            ),
          ),
        ),
      ),
    )

pub trail_free : (t : Trailed) → IsWithin t → AllWithout 10 (trail_lines t)
trail_free t fit =
    let p = part_free pool_words PoolFits (pool_free 10 feed_low) (codes "pool" ∷ []) t.pool (word_free 10 feed_low (codes "pool") refl, tt) fit.pool in
    let s = part_free seg_words SegFits (seg_free 10 feed_low) (codes "segments" ∷ []) t.segments (word_free 10 feed_low (codes "segments") refl, tt) fit.segments in
    let rows = fit.layout.table_rows.1 in
    let each = fit.one_each in
    let b = buckets_free 0 t.buckets (omega (arith, rows, each)) fit.buckets in
    let pools : Lines = part (codes "pool" ∷ []) pool_words t.pool in
    let segs : Lines = part (codes "segments" ∷ []) seg_words t.segments in (
      literal_free 10 (codes "suri-trail 1") refl,
      (layout_free t.layout fit.layout, all_append 10 pools (segs ++ bucket_parts 0 t.buckets) p (all_append 10 segs (bucket_parts 0 t.buckets) s b)),
    )

feeds_back : (ls : Lines) → AllWithout 10 ls → pieces 10 (text_of_lines ls) ≡ ls ++ [] ∷ []
feeds_back [] free = refl
feeds_back (l ∷ ls) free =
    ap (λ t. pieces 10 t) (append_assoc l (10 ∷ []) (text_of_lines ls)) ∙ pieces_cut 10 l (text_of_lines ls) refl free.0 ∙ ap (λ z. l ∷ z) (feeds_back ls free.1)

lines_push : (ls : Lines) → but_last (ls ++ [] ∷ []) ≡ ls
lines_push [] = refl
lines_push (l ∷ []) = refl
lines_push (l ∷ m ∷ ms) = ap (λ z. l ∷ z) (lines_push (m ∷ ms))

last_push : (ls : Lines) → last_piece (ls ++ [] ∷ []) ≡ []
last_push [] = refl
last_push (l ∷ []) = refl
last_push (l ∷ m ∷ ms) = last_push (m ∷ ms)

-- a text of lines without line feeds has just these lines
pub whole_back : (ls : Lines) → AllWithout 10 ls → (whole_lines (text_of_lines ls) ≡ ls) × (last_piece (pieces 10 (text_of_lines ls)) ≡ [])
whole_back ls free = let e = feeds_back ls free in (ap (λ ps. but_last ps) e ∙ lines_push ls, ap (λ ps. last_piece ps) e ∙ last_push ls)
