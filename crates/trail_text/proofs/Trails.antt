-- A whole trail, read part by part.
use Rattle.std.proofs.Common.{◌≡◌, ◌++◌, ◌∷◌, [], List, ℕ, ◌+◌, add-zero, ap, append_assoc, append-nil, arith, codes, length, length-append, refl, replicate, sym, ◌∙◌}
use Rattle.std.proofs.lemmas.List.{length-replicate}
use Rattle.std.proofs.lemmas.List.Elements.{All-replicate}
use Rattle.suri_base.specs.Trail.{Trailed}
use Rattle.suri_base.specs.declared.entry.BucketNote.{BucketNote}
use Rattle.suri_base.specs.declared.entry.Entry.{Entry}
use Rattle.suri_base.specs.declared.entry.PoolNote.{PoolNote}
use Rattle.suri_base.specs.declared.entry.SegNote.{SegNote}
use Rattle.suri_base.specs.declared.layout.Layout.{Layout}
use Rattle.trail_text.specs.declared.fault.TrailFault.{TrailFault}
use Rattle.trail_text.specs.declared.fault.TrailFault.TheVariants as fault
use Rattle.trail_text.specs.Bounds.{BucketFits, HistoryFits, IsLaidOut, IsWithin, PoolFits, SegFits}
use Rattle.trail_text.specs.Lines.{bucket_parts, layout_line, part, trail_lines}
use Rattle.trail_text.specs.Pieces.{Any}
use Rattle.trail_text.specs.Reading.{Count, Faulty, Reading, Stops, Took, alone, bucket_part, row}
use Rattle.trail_text.specs.Words.{pool_words, seg_words}
use Rattle.trail_text.proofs.Histories.{row_parts}
use Rattle.trail_text.proofs.Stopping.{stops_after}
use Rattle.trail_text.proofs.Some.{layout_fits, nothing_fits, some_layout}

abbrev Lines : Type 0
Lines = List (List ℕ)

abbrev title : Unit {0} → List ℕ
title _ = codes "suri-trail 1"

abbrev pools : List (Entry PoolNote) → Lines
pools p = part (codes "pool" ∷ []) pool_words p

abbrev segs : List (Entry SegNote) → Lines
segs s = part (codes "segments" ∷ []) seg_words s

abbrev Buckets : ℕ → List (List (Entry BucketNote)) → Type 0
Buckets rows bs = Count (HistoryFits BucketFits) rows bs

-- these lines were read between the two
record Came (read : Lines) (old new : Reading) : Type 0 where
  lines : old.lines ≡ read ++ new.lines
  tail : new.tail ≡ old.tail
  no : new.no ≡ old.no + length read

came_none : (old : Reading) → Came [] old old
came_none old = record { lines = refl; tail = refl; no = sym (add-zero old.no) }

came_more : {V : Type 0} (write : V → Lines) (Fit : V → Type 0) (read : Lines) (old mid new : Reading) (v : V) → Came read old mid → Took write Fit mid new v → Came (read ++ write v) old new
came_more write Fit read old mid new v h t = record {
  lines = h.lines ∙ ap (λ z. read ++ z) t.lines ∙ sym (append_assoc read (write v) new.lines);
  tail = t.tail ∙ h.tail;
  no = let l = length-append read (write v) in let a = h.no in let b = t.no in omega (arith, l, a, b);
}

-- the lines behind the first one
abbrev rest_of : Lines → Lines
rest_of [] = []
rest_of (l ∷ ls) = ls

apart : (a b c d : Lines) → (a ++ (b ++ c)) ++ d ≡ a ++ (b ++ (c ++ d))
apart a b c d = append_assoc a (b ++ c) d ∙ ap (λ z. a ++ z) (append_assoc b c d)

-- a trail without an entry in its buckets
abbrev filled : Layout → List (Entry PoolNote) → List (Entry SegNote) → Trailed
filled l p s = record { layout = l; pool = p; segments = s; buckets = replicate l.rows [] }

filled_within : (l : Layout) (p : List (Entry PoolNote)) (s : List (Entry SegNote)) → IsLaidOut l → HistoryFits PoolFits p → HistoryFits SegFits s → IsWithin (filled l p s)
filled_within l p s fl fp fs = record {
  layout = fl;
  pool = fp;
  segments = fs;
  buckets = All-replicate (HistoryFits BucketFits) l.rows [] (nothing_fits BucketFits);
  one_each = length-replicate l.rows [];
}

module _ (start : Reading) where
  title_stops : (at : ℕ) → Stops (alone title) Any start at → Stops trail_lines IsWithin start at
  title_stops at s =
      let w : Trailed = filled some_layout [] [] in
      stops_after (alone title) Any trail_lines IsWithin [] start start at refl (sym (add-zero start.no)) s
      (λ v fit. (w, filled_within some_layout [] [] layout_fits (nothing_fits PoolFits) (nothing_fits SegFits), (rest_of (trail_lines w), refl)))
      (λ w fit p q is. (tt, tt, (rest_of (trail_lines w) ++ p, is)))

  pub title_faulty : (f : TrailFault) → Faulty (alone title) Any start f → Faulty trail_lines IsWithin start f
  title_faulty (fault.Line at) s = title_stops at s
  title_faulty fault.NoMemory s = tt

  module _ (titled : Reading) (unit : Unit {0}) (T : Took (alone title) Any start titled unit) where
    came_title : Came (title tt ∷ []) start titled
    came_title = came_more (alone title) Any [] start start titled unit (came_none start) T

    layout_stops : (at : ℕ) → Stops (alone layout_line) IsLaidOut titled at → Stops trail_lines IsWithin start at
    layout_stops at s =
        stops_after (alone layout_line) IsLaidOut trail_lines IsWithin (title tt ∷ []) start titled at came_title.lines came_title.no s (
        λ v fit.
        let w : Trailed = filled v [] [] in
        (w, filled_within v [] [] fit (nothing_fits PoolFits) (nothing_fits SegFits), (rest_of (rest_of (trail_lines w)), refl))
        ) (λ w fit p q is. (w.layout, fit.layout, (rest_of (rest_of (trail_lines w)) ++ p, ap (λ z. rest_of z) is)))

    pub layout_faulty : (f : TrailFault) → Faulty (alone layout_line) IsLaidOut titled f → Faulty trail_lines IsWithin start f
    layout_faulty (fault.Line at) s = layout_stops at s
    layout_faulty fault.NoMemory s = tt

    module _ (laid : Reading) (l : Layout) (L : Took (alone layout_line) IsLaidOut titled laid l) where
      came_layout : Came (title tt ∷ layout_line l ∷ []) start laid
      came_layout = came_more (alone layout_line) IsLaidOut (title tt ∷ []) start titled laid l came_title L

      pool_stops : (at : ℕ) → Stops pools (HistoryFits PoolFits) laid at → Stops trail_lines IsWithin start at
      pool_stops at s =
          stops_after pools (HistoryFits PoolFits) trail_lines IsWithin (title tt ∷ layout_line l ∷ []) start laid at came_layout.lines came_layout.no s (
          λ v fit.
          let w : Trailed = filled l v [] in (w, filled_within l v [] L.fit fit (nothing_fits SegFits), (segs [] ++ bucket_parts 0 w.buckets, refl))
          ) (
          λ w fit p q is.
          let more : Lines = segs w.segments ++ (bucket_parts 0 w.buckets ++ p) in
          (w.pool, fit.pool, (more, sym (apart (pools w.pool) (segs w.segments) (bucket_parts 0 w.buckets) p) ∙ ap (λ z. rest_of (rest_of z)) is))
          )

      pub pool_faulty : (f : TrailFault) → Faulty pools (HistoryFits PoolFits) laid f → Faulty trail_lines IsWithin start f
      pool_faulty (fault.Line at) s = pool_stops at s
      pool_faulty fault.NoMemory s = tt

      module _ (pooled : Reading) (p : List (Entry PoolNote)) (P : Took pools (HistoryFits PoolFits) laid pooled p) where
        came_pool : Came (title tt ∷ layout_line l ∷ pools p) start pooled
        came_pool = came_more pools (HistoryFits PoolFits) (title tt ∷ layout_line l ∷ []) start laid pooled p came_layout P

        seg_stops : (at : ℕ) → Stops segs (HistoryFits SegFits) pooled at → Stops trail_lines IsWithin start at
        seg_stops at s =
            stops_after segs (HistoryFits SegFits) trail_lines IsWithin (title tt ∷ layout_line l ∷ pools p) start pooled at came_pool.lines came_pool.no s (
            λ v fit. let w : Trailed = filled l p v in (w, filled_within l p v L.fit P.fit fit, (bucket_parts 0 w.buckets, refl))
            ) (
            λ w fit m q is.
            let more : Lines = bucket_parts 0 w.buckets ++ m in
            let e = sym (apart (pools w.pool) (segs w.segments) (bucket_parts 0 w.buckets) m) ∙ ap (λ z. rest_of (rest_of z)) is in
            (w.segments, fit.segments, (more, (P.tells w.pool fit.pool (segs w.segments ++ more) q e).1))
            )

        pub seg_faulty : (f : TrailFault) → Faulty segs (HistoryFits SegFits) pooled f → Faulty trail_lines IsWithin start f
        seg_faulty (fault.Line at) s = seg_stops at s
        seg_faulty fault.NoMemory s = tt

        module _ (noted : Reading) (s : List (Entry SegNote)) (S : Took segs (HistoryFits SegFits) pooled noted s) where
          came_segs : Came (title tt ∷ layout_line l ∷ (pools p ++ segs s)) start noted
          came_segs = came_more segs (HistoryFits SegFits) (title tt ∷ layout_line l ∷ pools p) start pooled noted s came_pool S

          -- what the lines before the buckets tell
          peeled : (w : Trailed) → IsWithin w → (m b : Lines) → trail_lines w ++ m ≡ title tt ∷ layout_line l ∷ (pools p ++ (segs s ++ b))
              → (w.layout ≡ l) × (w.pool ≡ p) × (w.segments ≡ s) × (bucket_parts 0 w.buckets ++ m ≡ b)
          peeled w fit m b is =
              let more : Lines = bucket_parts 0 w.buckets ++ m in
              let first = L.tells w.layout fit.layout (rest_of (rest_of (trail_lines w)) ++ m) (pools p ++ (segs s ++ b)) (ap (λ z. rest_of z) is) in
              let second = P.tells w.pool fit.pool (segs w.segments ++ more) (segs s ++ b) (sym (apart (pools w.pool) (segs w.segments) (bucket_parts 0 w.buckets) m) ∙ first.1) in
              let third = S.tells w.segments fit.segments more b second.1 in
              (first.0, second.0, third.0, third.1)

          abbrev made : List (List (Entry BucketNote)) → Trailed
          made bs = record { layout = l; pool = p; segments = s; buckets = bs }

          made_within : (bs : List (List (Entry BucketNote))) → Buckets l.rows bs → IsWithin (made bs)
          made_within bs fit = record { layout = L.fit; pool = P.fit; segments = S.fit; buckets = fit.1; one_each = fit.0 }

          made_lines : (bs : List (List (Entry BucketNote))) → trail_lines (made bs) ≡ title tt ∷ layout_line l ∷ ((pools p ++ segs s) ++ row bucket_part 0 bs)
          made_lines bs =
              ap (λ z. title tt ∷ layout_line l ∷ z)
              (ap (λ z. pools p ++ (segs s ++ z)) (sym (row_parts 0 bs)) ∙ sym (append_assoc (pools p) (segs s) (row bucket_part 0 bs)))

          buckets_stop : (at : ℕ) → Stops (row bucket_part 0) (Buckets l.rows) noted at → Stops trail_lines IsWithin start at
          buckets_stop at h =
              stops_after (row bucket_part 0) (Buckets l.rows) trail_lines IsWithin (title tt ∷ layout_line l ∷ (pools p ++ segs s)) start noted at came_segs.lines came_segs.no h (
              λ bs fit.
              (made bs, made_within bs fit, ([], made_lines bs ∙ ap (λ z. title tt ∷ layout_line l ∷ ((pools p ++ segs s) ++ z)) (sym (append-nil (row bucket_part 0 bs)))))
              ) (
              λ w fit m q is.
              let k = peeled w fit m q (is ∙ ap (λ z. title tt ∷ layout_line l ∷ z) (append_assoc (pools p) (segs s) q)) in
              (w.buckets, (fit.one_each ∙ ap (λ z. z.rows) k.0, fit.buckets), (m, ap (λ z. z ++ m) (row_parts 0 w.buckets) ∙ k.3))
              )

          pub buckets_faulty : (f : TrailFault) → Faulty (row bucket_part 0) (Buckets l.rows) noted f → Faulty trail_lines IsWithin start f
          buckets_faulty (fault.Line at) h = buckets_stop at h
          buckets_faulty fault.NoMemory h = tt

          -- the trail is what the text tells
          pub trail_took : (end : Reading) (bs : List (List (Entry BucketNote))) → Took (row bucket_part 0) (Buckets l.rows) noted end bs → Took trail_lines IsWithin start end (made bs)
          trail_took end bs B =
              let came = came_more (row bucket_part 0) (Buckets l.rows) (title tt ∷ layout_line l ∷ (pools p ++ segs s)) start noted end bs came_segs B in
              record {
                fit = made_within bs B.fit;
                lines = came.lines ∙ ap (λ z. z ++ end.lines) (sym (made_lines bs));
                tail = came.tail;
                no = came.no ∙ ap (λ z. start.no + length z) (sym (made_lines bs));
                tells = λ w fit m q is.
                    let b : Lines = bucket_parts 0 bs ++ q in
                    let k = peeled w fit m b (is ∙ ap (λ z. title tt ∷ layout_line l ∷ z) (apart (pools p) (segs s) (bucket_parts 0 bs) q)) in
                    let rows : length w.buckets ≡ l.rows = fit.one_each ∙ ap (λ z. z.rows) k.0 in
                    let last = B.tells w.buckets (rows, fit.buckets) m q (ap (λ z. z ++ m) (row_parts 0 w.buckets) ∙ k.3 ∙ ap (λ z. z ++ q) (sym (row_parts 0 bs))) in
                    ((λ i. record { layout = k.0 i; pool = k.1 i; segments = k.2 i; buckets = last.0 i }), last.1);
              }
