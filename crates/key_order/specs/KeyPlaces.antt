-- The places of keys, in their order.
use Rattle.std.specs.Prelude.{ℕ, ◌/◌, ◌%◌, ◌^◌}
use Rattle.std.specs.Ordering.{bool_cmp, nat_cmp, ordering_then}
use Rattle.std.specs.declared.cmp.Ordering.{Ordering}
use Rattle.suri_base.specs.declared.key.Key.{Key}
use Rattle.key_order.specs.declared.places.Address.{Address}
use Rattle.key_order.specs.declared.places.KeyPlace.{KeyPlace}

-- an address in four parts, from its low end; each but the high one is below 2 ^ 32
abbrev pub address_of : ℕ → Address
address_of n = record { low = n % 2 ^ 32; lower = n / 2 ^ 32 % 2 ^ 32; upper = n / 2 ^ 64 % 2 ^ 32; high = n / 2 ^ 96 }

abbrev pub place_of : Key → KeyPlace
place_of k = record {
  b_port = k.b.port;
  a_port = k.a.port;
  a = address_of k.a.addr;
  b = address_of k.b.addr;
  first = k.vlans.first;
  second = k.vlans.second;
  third = k.vlans.third;
  count = k.vlans.count;
  proto = k.proto;
  version = k.version;
  one_way = k.one_way;
}

abbrev pub address_cmp : Address → Address → Ordering
address_cmp a b = ordering_then (nat_cmp a.low b.low) (ordering_then (nat_cmp a.lower b.lower) (ordering_then (nat_cmp a.upper b.upper) (nat_cmp a.high b.high)))

-- field by field
abbrev pub place_cmp : KeyPlace → KeyPlace → Ordering
place_cmp x y = ordering_then (nat_cmp x.b_port y.b_port) (ordering_then (nat_cmp x.a_port y.a_port) (ordering_then (address_cmp x.a y.a) (ordering_then (address_cmp x.b y.b)
    (ordering_then (nat_cmp x.first y.first) (ordering_then (nat_cmp x.second y.second) (ordering_then (nat_cmp x.third y.third)
    (ordering_then (nat_cmp x.count y.count) (ordering_then (nat_cmp x.proto y.proto) (ordering_then (nat_cmp x.version y.version) (bool_cmp x.one_way y.one_way))))))))))
