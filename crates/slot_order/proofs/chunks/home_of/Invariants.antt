use Rattle.std.proofs.Common.{◌≡◌, ◌<◌, ◌≤◌, ◌-◌, true, false, length}
use Rattle.slot_order.specs.Rows.{is_above}
use Rattle.slot_order.proofs.chunks.home_of.Given as goal

abbrev pub invariant-loop-high : goal.invariant-loop-high
invariant-loop-high g l = record {
  some : l.low < l.high;
  within : l.high ≤ length l.chunks;
  from : 0 < l.low → is_above g.K.Ord.cmp l.key l.chunks l.low ≡ false;
  to : is_above g.K.Ord.cmp l.key l.chunks l.high ≡ true;
}

abbrev pub decreases-loop-high : goal.decreases-loop-high
decreases-loop-high g l = l.high - l.low
