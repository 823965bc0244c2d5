use Rattle.std.proofs.Common.{rules, refl}
use Rattle.suri_base.specs.Keys.{same_key}
use Rattle.flow_bucket.proofs.tests.answered.Goals as goal

pub of-requires : goal.of-requires
unfolding same_key
of-requires c = record {
  few = search rules;
  numbered = search rules;
  clocks = search rules;
  seen = search rules;
  linked = rw (c.in_ok-seen.ensures.items, c.datagram.ensures, c.answer.ensures, c.datagram-2.ensures) (refl, (refl, (refl, tt)));
}
