-- The frames of a capture, in file order.
use Rattle.std.specs.Prelude.{◌≡◌, ℕ, ◌+◌, ◌^◌, ◌<◌, ◌≤◌, List, [], ◌∷◌}
use Rattle.suri_base.specs.declared.frame.Frame.{Frame}

-- they are numbered on from so many, their times are small, and they lie inside so many bytes
abbrev pub AreNumbered : ℕ → ℕ → List Frame → Type 0
AreNumbered size before [] = Unit {0}
AreNumbered size before (f ∷ frames) = (f.no ≡ before + 1) × (f.time < 2 ^ 63) × (f.at + f.len ≤ size) × AreNumbered size (before + 1) frames
