use Rattle.std.proofs.Common.{rules, ◌≡◌, List, [], ◌∷◌, Some, None, false, true}
use Rattle.suri_base.specs.Keys.{same_key}
use Rattle.suri_base.specs.declared.counter.Counter.TheVariants.{VlanDeep}
use Rattle.suri_base.specs.declared.facts.Facts.{Facts}
use Rattle.suri_base.specs.declared.key.Key.{Key}
use Rattle.suri_base.specs.declared.key.Side.TheVariants.{FromA, FromB}
use Rattle.suri_base.specs.declared.seen.Seen.{Seen}
use Rattle.suri_base.specs.declared.seen.Seen.TheVariants.{Bears, Counted}
use Rattle.suri_base.proofs.tests.five_frames.Goals as goal

abbrev datagrams : Key
datagrams = record {
  vlans = record { count = 0; first = 0; second = 0; third = 0 };
  version = 4;
  proto = 17;
  one_way = false;
  a = record { addr = 0x0a000001; port = 1000 };
  b = record { addr = 0x0a000002; port = 2000 };
}

abbrev asked : Facts
asked = record { no = 1; time = 7000; clock = 7000; key = datagrams; side = FromA; len = 4; ttl = 64; tcp = None; icmp = None; pay_at = 0; pay_len = 1; next = 4 }

abbrev segment : Facts
segment = record {
  no = 2;
  time = 7000;
  clock = 7000;
  key = record {
    vlans = record { count = 2; first = 11; second = 12; third = 0 };
    version = 6;
    proto = 6;
    one_way = false;
    a = record { addr = 0x20010db81112131415161718191a1b1c; port = 13 };
    b = record { addr = 0x21020eb92122232425262728292a2b2c; port = 14 };
  };
  side = FromB;
  len = 15;
  ttl = 16;
  tcp = Some (record { seq = 17; ack = 18; flags = 19 });
  icmp = None;
  pay_at = 1;
  pay_len = 1;
  next = 0;
}

abbrev answered : Facts
answered = record { no = 4; time = 7000; clock = 7000; key = datagrams; side = FromB; len = 4; ttl = 64; tcp = None; icmp = None; pay_at = 3; pay_len = 1; next = 0 }

abbrev message : Facts
message = record {
  no = 5;
  time = 7000;
  clock = 7000;
  key = record {
    vlans = record { count = 3; first = 4095; second = 4094; third = 4093 };
    version = 6;
    proto = 58;
    one_way = true;
    a = record { addr = 0x20010db8000000000000000000000001; port = 3 };
    b = record { addr = 0x20010db8000000000000000000000002; port = 1 };
  };
  side = FromB;
  len = 23;
  ttl = 24;
  tcp = None;
  icmp = Some (record { kind = 25; code = 26 });
  pay_at = 4;
  pay_len = 2;
  next = 0;
}

abbrev five : List Seen
five = Bears asked ∷ Bears segment ∷ Counted VlanDeep ∷ Bears answered ∷ Bears message ∷ []

pub make-requires : goal.make-requires
unfolding same_key
make-requires c = (five, c.in_ok-slots.ensures, search rules)
