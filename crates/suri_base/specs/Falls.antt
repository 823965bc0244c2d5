-- A node has more nodes below it than each of those behind its links.
use Rattle.std.specs.Prelude.{ℕ, ◌+◌, ◌≤◌, Option, Some, None, Box}
use Rattle.std.proofs.Common.{arith}
use Rattle.std.specs.declared.alloc.Global.{Global}
use Rattle.suri_base.specs.Linked.{Linked, behind, count}
use Rattle.suri_base.specs.declared.segment.Segment.TheInside.{Inside}
use Rattle.suri_base.specs.declared.segment.Segment.TheDeep.{deep-Segment}

-- what is below these links
links_fall : (number first at len reach height : ℕ) (less more : Option (Box Linked Global))
    → deep-Segment (record { no = number; first = first; at = at; len = len; reach = reach; height = height; less = less; more = more })
    ≤ count (behind less) + count (behind more) + 1
links_fall number first at len reach height None None = omega arith
links_fall number first at len reach height None (Some m) = omega arith
links_fall number first at len reach height (Some l) None = omega arith
links_fall number first at len reach height (Some l) (Some m) = omega arith

pub falls : (a : Inside) → deep-Segment a ≤ count (behind a.less) + count (behind a.more) + 1
falls a = links_fall a.no a.first a.at a.len a.reach a.height a.less a.more
