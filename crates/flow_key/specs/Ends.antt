-- The two ends of a packet.
use Rattle.std.specs.Prelude.{ℕ, Bool, false, Option, Some, None, is_none, unwrap_or}
use Rattle.suri_base.specs.declared.facts.IcmpFacts.{IcmpFacts}
use Rattle.suri_base.specs.declared.key.End.{End}
use Rattle.packet_decode.specs.declared.whole.View.{View}
use Rattle.flow_key.specs.Pairs.{counterpart_of}

-- at the source end stands the port, or the type of ICMP
abbrev pub source_port : ℕ → Option IcmpFacts → ℕ
source_port port None = port
source_port port (Some icmp) = icmp.kind

-- at the destination end stands the port, or the counterpart of the type of ICMP, or the code where there is no counterpart
abbrev pub destination_port : ℕ → ℕ → Option IcmpFacts → ℕ
destination_port version port None = port
destination_port version port (Some icmp) = unwrap_or (counterpart_of version icmp.kind) icmp.code

-- whether ICMP of this type is answered by no other type
abbrev pub has_no_counterpart : ℕ → Option IcmpFacts → Bool
has_no_counterpart version None = false
has_no_counterpart version (Some icmp) = is_none (counterpart_of version icmp.kind)

abbrev pub source_end : View → End
source_end v = record { addr = v.ip.src; port = source_port v.l4.sport v.l4.icmp }

abbrev pub destination_end : View → End
destination_end v = record { addr = v.ip.dst; port = destination_port v.ip.version v.l4.dport v.l4.icmp }

-- whether the ends are an ordered pair
abbrev pub is_one_way : View → Bool
is_one_way v = has_no_counterpart v.ip.version v.l4.icmp
