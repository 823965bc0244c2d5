-- The lines of the audit text, and the whole text.
use Rattle.std.specs.Prelude.{ℕ, suc, List, [], ◌∷◌, ◌++◌, codes, decimal, flat_map, length, map}
use Rattle.suri_base.specs.Trail.{Trailed}
use Rattle.suri_base.specs.declared.entry.BucketNote.{BucketNote}
use Rattle.suri_base.specs.declared.entry.Entry.{Entry}
use Rattle.suri_base.specs.declared.layout.Layout.{Layout}
use Rattle.trail_text.specs.Words.{Text, bucket_words, pool_words, seg_words, spaced}

-- the words of an entry: the role, its step, and the words of its note
abbrev pub entry_words : {N : Type 0} → (N → List Text) → Entry N → List Text
entry_words words e = decimal e.role ∷ decimal e.step ∷ words e.note

-- the line of an entry
abbrev pub entry_line : {N : Type 0} → (N → List Text) → Entry N → Text
entry_line words e = spaced (entry_words words e)

abbrev pub entry_lines : {N : Type 0} → (N → List Text) → List (Entry N) → List Text
entry_lines words entries = map (entry_line words) entries

-- the numbers of a layout, and its line
abbrev pub layout_numbers : Layout → List Text
layout_numbers l = decimal l.workers ∷ decimal l.batch ∷ decimal l.round ∷ decimal l.rows ∷ decimal l.memcap ∷ decimal l.segments
    ∷ decimal l.recovery ∷ decimal l.depth ∷ []

abbrev pub layout_line : Layout → Text
layout_line l = spaced (codes "layout" ∷ layout_numbers l)

-- a part of the text: its name with the number of its entries, and then the entries
abbrev pub part : {N : Type 0} → List Text → (N → List Text) → List (Entry N) → List Text
part name words entries = spaced (name ++ decimal (length entries) ∷ []) ∷ entry_lines words entries

-- the parts of the buckets from the one with that number on
abbrev pub bucket_parts : ℕ → List (List (Entry BucketNote)) → List Text
bucket_parts number [] = []
bucket_parts number (entries ∷ rest) = part (codes "bucket" ∷ decimal number ∷ []) bucket_words entries ++ bucket_parts (suc number) rest

-- all lines of a trail's text, without their line feeds
abbrev pub trail_lines : Trailed → List Text
trail_lines t =
    codes "suri-trail 1" ∷ layout_line t.layout
    ∷ (part (codes "pool" ∷ []) pool_words t.pool ++ (part (codes "segments" ∷ []) seg_words t.segments ++ bucket_parts 0 t.buckets))

-- a line with its line feed
abbrev pub ended : Text → Text
ended line = line ++ 10 ∷ []

-- the text of these lines
abbrev pub text_of_lines : List Text → Text
text_of_lines lines = flat_map ended lines

-- the audit text of a trail
abbrev pub text_of_trail : Trailed → Text
text_of_trail t = text_of_lines (trail_lines t)
