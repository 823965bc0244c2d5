-- Each packet with the next one of its key.
use Rattle.std.specs.Prelude.{◌≡◌, ℕ, ◌+◌, if◌then◌else◌, List, [], ◌∷◌, ◌++◌, Option, unwrap_or}
use Rattle.std.specs.HashMap.{get}
use Rattle.suri_base.specs.Capture.{linked_to, next_in}
use Rattle.suri_base.specs.declared.key.Key.{Key}
use Rattle.suri_base.specs.declared.seen.Seen.{Seen}
use Rattle.suri_base.specs.declared.seen.Seen.TheVariants.{Bears, Counted}
use Rattle.capture_index.specs.Short.{is_short, same_by_key, same_short, shortened}
use Rattle.capture_index.specs.declared.firsts.Firsts.{Firsts}

-- what became of a frame, which names the next frame of its key among those behind it
abbrev pub linked_one : Seen → List Seen → Seen
linked_one (Bears f) behind = linked_to (next_in f.key behind) (Bears f)
linked_one (Counted c) behind = Counted c

-- what became of each of some frames, each of which names the next frame of its key
abbrev pub linked : List Seen → List Seen
linked [] = []
linked (s ∷ seen) = linked_one s seen ∷ linked seen

-- the same, where other frames stand behind them
abbrev pub linked_before : List Seen → List Seen → List Seen
linked_before behind [] = []
linked_before behind (s ∷ seen) = linked_one s (seen ++ behind) ∷ linked_before behind seen

-- where the frame bears a flow, its facts have this number
abbrev pub IsAt : ℕ → Seen → Type 0
IsAt number (Bears f) = f.no ≡ number
IsAt number (Counted c) = Unit {0}

-- the frames are numbered on from this number
abbrev pub AreAt : ℕ → List Seen → Type 0
AreAt number [] = Unit {0}
AreAt number (s ∷ seen) = IsAt number s × AreAt (number + 1) seen

-- the number that the maps have at a key
abbrev pub number_at : Firsts → Key → Option ℕ
number_at m k = if is_short k then get same_short m.short (shortened k) else get same_by_key m.long (record { key = k })

-- the maps tell of each key its first frame among these
abbrev pub Tells : Firsts → List Seen → Type 0
Tells m seen = (k : Key) → unwrap_or (number_at m k) 0 ≡ next_in k seen
