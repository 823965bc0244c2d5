use Rattle.std.proofs.Common.{rules, refl}
use Rattle.suri_base.specs.Keys.{same_key}
use Rattle.flow_bucket.proofs.tests.reused.Goals as goal

pub of-requires : goal.of-requires
unfolding same_key
of-requires c = record {
  few = search rules;
  numbered = search rules;
  clocks = search rules;
  seen = search rules;
  linked = rw (c.in_ok-seen.ensures.items, c.tcp.ensures, c.tcp-2.ensures, c.tcp-3.ensures, c.tcp-4.ensures, c.tcp-5.ensures, c.tcp-6.ensures, c.tcp-7.ensures, c.tcp-8.ensures) (refl, (refl, (refl, (refl, (refl, (refl, (refl, (refl, tt))))))));
}
