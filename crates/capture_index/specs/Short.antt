-- Keys whose addresses have 32 bits, and how maps compare keys.
use Rattle.std.specs.Prelude.{◌^◌, ◌&&◌, nat_lt, Bool}
use Rattle.suri_base.specs.Keys.{same_key}
use Rattle.suri_base.specs.declared.key.Key.{Key}
use Rattle.capture_index.specs.declared.by_key.ByKey.{ByKey}
use Rattle.capture_index.specs.declared.by_key.ShortKey.{ShortKey}

-- both addresses have 32 bits
abbrev pub is_short : Key → Bool
is_short k = nat_lt k.a.addr (2 ^ 32) && nat_lt k.b.addr (2 ^ 32)

-- a key in the fields of a short one
abbrev pub shortened : Key → ShortKey
shortened k = record {
  a_addr = k.a.addr;
  b_addr = k.b.addr;
  a_port = k.a.port;
  b_port = k.b.port;
  vlans = k.vlans;
  version = k.version;
  proto = k.proto;
  one_way = k.one_way;
}

-- the key that a short one stands for
abbrev pub lengthened : ShortKey → Key
lengthened s = record {
  vlans = s.vlans;
  version = s.version;
  proto = s.proto;
  one_way = s.one_way;
  a = record { addr = s.a_addr; port = s.a_port };
  b = record { addr = s.b_addr; port = s.b_port };
}

abbrev pub same_by_key : ByKey → ByKey → Bool
same_by_key a b = same_key a.key b.key

abbrev pub same_short : ShortKey → ShortKey → Bool
same_short a b = same_key (lengthened a) (lengthened b)
