-- The summary line, which stands in place of a text of lines. Its keys are in order of bytes.
use Rattle.std.specs.Prelude.{◌≡◌, ℕ, ◌+◌, ◌-◌, ◌^◌, ◌==◌, if◌then◌else◌, List, [], ◌∷◌, ◌++◌, codes, Some, min}
use Rattle.hex.specs.Hex.{encode_lower}
use Rattle.sha1.specs.Sha1.{Holds, sha1}
use Rattle.serde_json.specs.Data.{Data, string}
use Rattle.serde_json.specs.Written.{compact_text}
use Rattle.eve_record.specs.Fields.{Field, object_of}
use Rattle.eve_record.specs.StatsLine.{counted, stats_data}
use Rattle.eve_record.specs.declared.tally.Tally.{Tally}
use Rattle.run_stats.specs.declared.stats.Stats.{Stats}

-- how many line feeds stand in a text: the number of its lines, since each ends with one
abbrev pub line_feeds : List ℕ → ℕ
line_feeds [] = 0
line_feeds (b ∷ bs) = (if b == 10 then 1 else 0) + line_feeds bs

-- the number of lines as 64 bits hold it; no text that a machine could write has more
abbrev pub lines_in : List ℕ → ℕ
lines_in text = min (line_feeds text) (2 ^ 64 - 1)

-- the fields before the stats
abbrev pub summary_front : ℕ → ℕ → ℕ → List ℕ → List Field
summary_front seed frames lines digest =
    (codes "event_type", Some (string (codes "summary")))
    ∷ counted (codes "frames") frames
    ∷ counted (codes "lines") lines
    ∷ counted (codes "seed") seed
    ∷ (codes "sha1", Some (string (encode_lower digest))) ∷ []

-- the line of a generated capture with this seed and so many frames: the number of lines of the text and its digest, and the object that the stats
-- line has under the same key
unfoldable pub summary_event : Stats → ℕ → ℕ → ℕ → List ℕ → Data
summary_event s seed frames lines digest =
    object_of (summary_front seed frames lines digest ++ (codes "stats", Some (stats_data s)) ∷ [])

-- compact JSON, and a line feed
unfoldable pub summary_line : Stats → ℕ → ℕ → ℕ → List ℕ → List ℕ
summary_line s seed frames lines digest = compact_text (summary_event s seed frames lines digest) ++ 10 ∷ []

-- the summary of a text and of the stats in it: SHA-1 (FIPS 180-4) of the whole text
abbrev pub summary_of : Stats → ℕ → ℕ → List ℕ → List ℕ
summary_of s seed frames text = summary_line s seed frames (lines_in text) (sha1 text)

-- what was added up piece by piece is this text
pub record Tallies (t : Tally) (text : List ℕ) : Type 0 where
  pub digest : Holds t.hasher text
  pub lines : t.lines ≡ lines_in text
