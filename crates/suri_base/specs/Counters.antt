-- The frames of a capture that bear no flow, by decoder counter.
use Rattle.std.specs.Prelude.{ℕ, Bool, true, false, List, count_by}
use Rattle.suri_base.specs.declared.counter.Counter.{Counter}
use Rattle.suri_base.specs.declared.counter.Counter.TheVariants.{LinkSmall, VlanSmall, VlanDeep, Ethertype, IpSmall, IpVersion, IpHeader, IpExtensions, Fragment, TcpSmall, TcpHeader, UdpSmall, IcmpSmall, OtherProto}
use Rattle.suri_base.specs.declared.seen.Seen.{Seen}
use Rattle.suri_base.specs.declared.seen.Seen.TheVariants.{Bears, Counted}

abbrev pub same_counter : Counter → Counter → Bool
same_counter LinkSmall LinkSmall = true
same_counter VlanSmall VlanSmall = true
same_counter VlanDeep VlanDeep = true
same_counter Ethertype Ethertype = true
same_counter IpSmall IpSmall = true
same_counter IpVersion IpVersion = true
same_counter IpHeader IpHeader = true
same_counter IpExtensions IpExtensions = true
same_counter Fragment Fragment = true
same_counter TcpSmall TcpSmall = true
same_counter TcpHeader TcpHeader = true
same_counter UdpSmall UdpSmall = true
same_counter IcmpSmall IcmpSmall = true
same_counter OtherProto OtherProto = true
same_counter _ _ = false

-- a frame falls under a counter
abbrev pub is_under : Counter → Seen → Bool
is_under c (Bears f) = false
is_under c (Counted d) = same_counter c d

-- how many frames fall under a counter
abbrev pub counted_under : Counter → List Seen → ℕ
counted_under c seen = count_by (λ s. is_under c s) seen
