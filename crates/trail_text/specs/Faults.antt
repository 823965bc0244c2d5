-- Where a text is outside the grammar.
use Rattle.std.specs.Prelude.{◌≡◌, ◌≤◌, ◌<◌, ◌-◌, ℕ, suc, List, [], ◌∷◌, ◌++◌, length, take}
use Rattle.suri_base.specs.Trail.{Trailed}
use Rattle.trail_text.specs.declared.fault.TrailFault.{TrailFault}
use Rattle.trail_text.specs.declared.fault.TrailFault.TheVariants as fault
use Rattle.trail_text.specs.Bounds.{IsWithin}
use Rattle.trail_text.specs.Lines.{text_of_trail, trail_lines}
use Rattle.trail_text.specs.Pieces.{pieces}
use Rattle.trail_text.specs.Words.{Text}

-- all but the last one
abbrev pub but_last : List Text → List Text
but_last [] = []
but_last (p ∷ []) = []
but_last (p ∷ q ∷ qs) = p ∷ but_last (q ∷ qs)

-- the lines of a text that end with a line feed
abbrev pub whole_lines : Text → List Text
whole_lines text = but_last (pieces 10 text)

-- these lines can stand at the beginning of a text: they are the first ones of some trail's
abbrev pub CanStand : List Text → Type 0
CanStand lines = (t : Trailed) × IsWithin t × ((more : List Text) × (trail_lines t ≡ lines ++ more))

-- the first line that can't stand there has that number, from 1: those before it can stand, and with it they can't, or there is no such line, and the text is no trail's
pub record IsFaultAt (text : Text) (no : ℕ) : Type 0 where
  pub from_one : 0 < no
  pub within : no ≤ suc (length (whole_lines text))
  pub before : CanStand (take (no - 1) (whole_lines text))
  pub there : no ≤ length (whole_lines text) → CanStand (take no (whole_lines text)) → ⊥
  pub no_text : (t : Trailed) → IsWithin t → text_of_trail t ≡ text → ⊥

-- what a fault tells of a text
abbrev pub IsFault : Text → TrailFault → Type 0
IsFault text (fault.Line at) = IsFaultAt text at
IsFault text fault.NoMemory = Unit {0}
