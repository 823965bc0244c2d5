-- What the lines of a flow record have in common.
use Rattle.std.specs.Prelude.{ℕ, ◌==◌, bit_or, if◌then◌else◌, List, [], ◌∷◌, codes, None, Some}
use Rattle.std.specs.declared.option.Option.{Option}
use Rattle.serde_json.specs.Data.{Data, array, string}
use Rattle.suri_base.specs.declared.app.App.{App}
use Rattle.suri_base.specs.declared.app.App.TheVariants as app
use Rattle.suri_base.specs.declared.facts.Way.{Way}
use Rattle.suri_base.specs.declared.facts.Way.TheVariants.{ToServer, ToClient}
use Rattle.suri_base.specs.declared.key.End.{End}
use Rattle.suri_base.specs.declared.key.Side.TheVariants.{FromA}
use Rattle.suri_base.specs.declared.key.Vlans.{Vlans}
use Rattle.suri_base.specs.Flags.{has_all}
use Rattle.suri_base.specs.Keys.{is_side}
use Rattle.suri_base.specs.Protocols.{has_ports, is_tcp, is_udp}
use Rattle.suri_base.specs.Vlans.{vlan_list}
use Rattle.flow_object.specs.declared.outcome.FlowLine.{FlowLine}
use Rattle.flow_sum.specs.declared.dir.Dir.{Dir}
use Rattle.flow_sum.specs.declared.sums.Sums.{Sums}
use Rattle.eve_record.specs.Address.{padded_hex}
use Rattle.eve_record.specs.Fields.{Field, count, items_of, where_true}

-- the end of the key that is the client, and the one that is the server
abbrev pub client_end : Sums → End
client_end s = if is_side s.client FromA then s.key.a else s.key.b

abbrev pub server_end : Sums → End
server_end s = if is_side s.client FromA then s.key.b else s.key.a

-- who sends the packets of a direction, and who receives them
abbrev pub sender : Sums → Way → End
sender s ToServer = client_end s
sender s ToClient = server_end s

abbrev pub receiver : Sums → Way → End
receiver s ToServer = server_end s
receiver s ToClient = client_end s

-- what is counted of the packets of a direction
abbrev pub direction_of : Sums → Way → Dir
direction_of s ToServer = s.ts
direction_of s ToClient = s.tc

-- the application protocol, where one was seen
abbrev pub app_data : App → Option Data
app_data app.None = None
app_data app.Http = Some (string (codes "http"))
app_data app.Tls = Some (string (codes "tls"))
app_data app.Ssh = Some (string (codes "ssh"))
app_data app.Dns = Some (string (codes "dns"))

-- the names of the protocols that bear flows: TCP, UDP, ICMP (1; RFC 792), and the ICMP of IPv6 (58; RFC 4443)
abbrev pub proto_text : ℕ → List ℕ
proto_text proto =
    if is_tcp proto then codes "TCP"
    else (if is_udp proto then codes "UDP"
    else (if proto == 1 then codes "ICMP" else codes "IPv6-ICMP"))

-- a port, for TCP and UDP
abbrev pub port_data : ℕ → ℕ → Option Data
port_data proto port = if has_ports proto then Some (count port) else None

-- the ids of the VLAN tags, the outermost first, where there is a tag
abbrev pub vlan_data : Vlans → Option Data
vlan_data v = if v.count == 0 then None else Some (array (items_of (vlan_list v)))

-- a byte of flags: two hexadecimal digits
abbrev pub flags_text : ℕ → List ℕ
flags_text flags = padded_hex 2 flags

-- the flags of both directions
abbrev pub all_flags : Sums → ℕ
all_flags s = bit_or s.ts.flags s.tc.flags

-- a flag that is set
abbrev pub flag_data : ℕ → ℕ → Option Data
flag_data flag flags = where_true (has_all flag flags)

-- the control bits of a TCP header from ACK to RST (RFC 9293, section 3.1), in order of their keys; ECE has the key 'ecn'
abbrev pub flag_fields : ℕ → List Field
flag_fields flags =
    (codes "ack", flag_data 0x10 flags)
    ∷ (codes "cwr", flag_data 0x80 flags)
    ∷ (codes "ecn", flag_data 0x40 flags)
    ∷ (codes "fin", flag_data 0x01 flags)
    ∷ (codes "psh", flag_data 0x08 flags)
    ∷ (codes "rst", flag_data 0x04 flags) ∷ []

-- how a line begins whose event has this name: what is named, and whither its packets go; the Community ID and the
-- address of who receives them have these texts
abbrev pub line_front : FlowLine → Way → List ℕ → List ℕ → List ℕ → List Field
line_front l way community dest event =
    (codes "app_proto", app_data l.app)
    ∷ (codes "community_id", Some (string community))
    ∷ (codes "dest_ip", Some (string dest))
    ∷ (codes "dest_port", port_data l.sums.key.proto (receiver l.sums way).port)
    ∷ (codes "event_type", Some (string event)) ∷ []

-- whence its packets come; the address of who sends them has this text
abbrev pub line_source : FlowLine → Way → List ℕ → List Field
line_source l way source =
    (codes "proto", Some (string (proto_text l.sums.key.proto)))
    ∷ (codes "src_ip", Some (string source))
    ∷ (codes "src_port", port_data l.sums.key.proto (sender l.sums way).port) ∷ []
