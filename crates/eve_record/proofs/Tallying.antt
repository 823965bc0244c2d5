-- Line feeds in texts that stand one behind another.
use Rattle.std.proofs.Common.{◌≡◌, ℕ, ◌+◌, List, [], ◌∷◌, ◌++◌, arith}
use Rattle.std.specs.Prelude.{◌==◌, if◌then◌else◌, min}
use Rattle.eve_record.specs.SummaryLine.{line_feeds}

three : (a b c whole : ℕ) → whole ≡ b + c → a + whole ≡ a + b + c
three a b c whole h = omega (arith, h)

pub feeds_append : (xs ys : List ℕ) → line_feeds (xs ++ ys) ≡ line_feeds xs + line_feeds ys
feeds_append [] ys = omega arith
feeds_append (x ∷ xs) ys = three (if x == 10 then 1 else 0) (line_feeds xs) (line_feeds ys) _ (feeds_append xs ys)

-- what stands still at a number stands still there after more too
pub still : (a b most : ℕ) → min (min a most + b) most ≡ min (a + b) most
still a b most = omega arith
