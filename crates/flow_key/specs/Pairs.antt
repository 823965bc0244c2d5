-- ICMP messages that answer one another.
use Rattle.std.specs.Prelude.{ℕ, ◌==◌, if◌then◌else◌, List, [], ◌∷◌, Option, Some, None}

-- two types, each the other's counterpart
pub record Pair : Type 0 where
  pub one : ℕ
  pub other : ℕ

abbrev pub pair : ℕ → ℕ → Pair
pair one other = record { one = one; other = other }

-- ICMP over IPv4: echo, timestamp, information, routers and address masks (RFC 792; RFC 950, appendix I; RFC 1256, section 3)
abbrev pub icmp_pairs : List Pair
icmp_pairs = pair 8 0 ∷ pair 13 14 ∷ pair 15 16 ∷ pair 10 9 ∷ pair 17 18 ∷ []

-- ICMP over IPv6: echo, multicast listeners, routers, neighbors, node information and home agents
-- (RFC 4443, section 4; RFC 2710, section 3; RFC 4861, section 4; RFC 4620, section 4; RFC 6275, section 6.5 and 6.6)
abbrev pub icmp_pairs_of_ipv6 : List Pair
icmp_pairs_of_ipv6 = pair 128 129 ∷ pair 130 131 ∷ pair 133 134 ∷ pair 135 136 ∷ pair 139 140 ∷ pair 144 145 ∷ []

-- the other type of the pair that has this one
abbrev pub counterpart_in : List Pair → ℕ → Option ℕ
counterpart_in [] kind = None
counterpart_in (p ∷ pairs) kind = if kind == p.one then Some p.other else (if kind == p.other then Some p.one else counterpart_in pairs kind)

-- the counterpart of an ICMP type over an IP version, 4 or 6
unfoldable pub counterpart_of : ℕ → ℕ → Option ℕ
counterpart_of version kind = if version == 4 then counterpart_in icmp_pairs kind else counterpart_in icmp_pairs_of_ipv6 kind
