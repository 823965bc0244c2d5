-- The flow line of a record. The keys of each object are in order of bytes.
use Rattle.std.specs.Prelude.{ℕ, ◌-◌, ◌/◌, ◌==◌, min, max, false, if◌then◌else◌, List, [], ◌∷◌, ◌++◌, codes, option_map, None, Some}
use Rattle.std.specs.declared.option.Option.{Option}
use Rattle.hex.specs.Hex.{encode_lower}
use Rattle.serde_json.specs.Data.{Data, boolean, string}
use Rattle.serde_json.specs.Written.{compact_text}
use Rattle.community_id.specs.Community.{community_bytes, community_text}
use Rattle.suri_base.specs.declared.facts.Way.TheVariants.{ToServer}
use Rattle.suri_base.specs.declared.reason.Reason.{Reason}
use Rattle.suri_base.specs.declared.reason.Reason.TheVariants.{Timeout, TcpReuse, Forced, Shutdown}
use Rattle.suri_base.specs.declared.stream.StreamLine.{StreamLine}
use Rattle.suri_base.specs.Protocols.{is_tcp}
use Rattle.flow_object.specs.declared.outcome.FlowLine.{FlowLine}
use Rattle.flow_sum.specs.declared.sums.Sums.{Sums}
use Rattle.tcp_session.specs.declared.classes.Class.{Class}
use Rattle.tcp_session.specs.declared.classes.Class.TheVariants as class
use Rattle.tcp_session.specs.declared.state.State.{State}
use Rattle.tcp_session.specs.declared.state.State.TheVariants as state
use Rattle.eve_record.specs.Address.{address_text}
use Rattle.eve_record.specs.Fields.{Field, count, object_of, where_true}
use Rattle.eve_record.specs.Parts.{all_flags, client_end, flag_data, flag_fields, flags_text, line_front, line_source, server_end, vlan_data}
use Rattle.eve_record.specs.Time.{time_text}

-- the least and the greatest time over both directions
abbrev pub start_of : Sums → ℕ
start_of s =
    if s.ts.pkts == 0 then s.tc.start
    else (if s.tc.pkts == 0 then s.ts.start else min s.ts.start s.tc.start)

abbrev pub end_of : Sums → ℕ
end_of s = max s.ts.end s.tc.end

-- whole seconds from the first packet to the last
abbrev pub age_of : Sums → ℕ
age_of s = (end_of s - start_of s) / 1000000000

abbrev pub reason_text : Reason → List ℕ
reason_text Timeout = codes "timeout"
reason_text TcpReuse = codes "tcp_reuse"
reason_text Forced = codes "forced"
reason_text Shutdown = codes "shutdown"

abbrev pub class_text : Class → List ℕ
class_text class.New = codes "new"
class_text class.Established = codes "established"
class_text class.Closed = codes "closed"

-- the states of a TCP session, named after those of RFC 9293, section 3.3.2
abbrev pub state_text : State → List ℕ
state_text state.Nothing = codes "none"
state_text state.SynSent = codes "syn_sent"
state_text state.SynRecv = codes "syn_recv"
state_text state.Established = codes "established"
state_text state.FinWait1 = codes "fin_wait1"
state_text state.FinWait2 = codes "fin_wait2"
state_text state.TimeWait = codes "time_wait"
state_text state.CloseWait = codes "close_wait"
state_text state.LastAck = codes "last_ack"
state_text state.Closed = codes "closed"

-- the object `flow`, where start and end have these texts
abbrev pub totals_front : FlowLine → List ℕ → List Field
totals_front l end =
    (codes "age", Some (count (age_of l.sums)))
    ∷ (codes "alerted", Some (boolean false))
    ∷ (codes "bytes_toclient", Some (count l.sums.tc.bytes))
    ∷ (codes "bytes_toserver", Some (count l.sums.ts.bytes))
    ∷ (codes "emergency", where_true l.emergency)
    ∷ (codes "end", Some (string end)) ∷ []

abbrev pub totals_back : FlowLine → List ℕ → List Field
totals_back l start =
    (codes "pkts_toclient", Some (count l.sums.tc.pkts))
    ∷ (codes "pkts_toserver", Some (count l.sums.ts.pkts))
    ∷ (codes "reason", Some (string (reason_text l.reason)))
    ∷ (codes "start", Some (string start))
    ∷ (codes "state", Some (string (class_text l.class))) ∷ []

unfoldable pub totals_data : FlowLine → List ℕ → List ℕ → Data
totals_data l start end = object_of (totals_front l end ++ totals_back l start)

-- the object `tcp`
abbrev pub session_back : FlowLine → ℕ → List Field
session_back l flags =
    (codes "state", Some (string (state_text l.state)))
    ∷ (codes "syn", flag_data 0x02 flags)
    ∷ (codes "tcp_flags", Some (string (flags_text flags)))
    ∷ (codes "tcp_flags_tc", Some (string (flags_text l.sums.tc.flags)))
    ∷ (codes "tcp_flags_ts", Some (string (flags_text l.sums.ts.flags)))
    ∷ (codes "urg", flag_data 0x20 flags) ∷ []

unfoldable pub session_data : FlowLine → Data
session_data l = object_of (flag_fields (all_flags l.sums) ++ session_back l (all_flags l.sums))

-- for TCP alone
abbrev pub session_part : FlowLine → Option Data
session_part l = if is_tcp l.sums.key.proto then Some (session_data l) else None

-- the stream of one direction: how many bytes it has, their SHA-1 (FIPS 180-4), and the number of the frame at which it was
-- stopped, where it was
abbrev pub stop_data : ℕ → Option Data
stop_data stop = if stop == 0 then None else Some (count stop)

abbrev pub stream_fields : StreamLine → List Field
stream_fields s =
    (codes "bytes", Some (count s.bytes))
    ∷ (codes "sha1", Some (string (encode_lower s.digest)))
    ∷ (codes "stop", stop_data s.stop) ∷ []

unfoldable pub stream_data : StreamLine → Data
stream_data s = object_of (stream_fields s)

-- the object `stream`
unfoldable pub streams_data : FlowLine → Data
streams_data l =
    object_of ((codes "toclient", Some (stream_data l.tc))
    ∷ (codes "toserver", Some (stream_data l.ts)) ∷ [])

-- for TCP alone
abbrev pub streams_part : FlowLine → Option Data
streams_part l = if is_tcp l.sums.key.proto then Some (streams_data l) else None

-- the line, where the Community ID, the addresses, the start and the end have these texts
abbrev pub flow_middle : FlowLine → List ℕ → List ℕ → List Field
flow_middle l start end =
    (codes "flow", Some (totals_data l start end))
    ∷ (codes "flow_id", Some (count l.sums.first_no))
    ∷ (codes "icmp_code", option_map (λ i. count i.code) l.sums.icmp)
    ∷ (codes "icmp_type", option_map (λ i. count i.kind) l.sums.icmp)
    ∷ (codes "pcap_first", Some (count l.sums.first_no))
    ∷ (codes "pcap_last", Some (count l.sums.last_no)) ∷ []

abbrev pub flow_back : FlowLine → List ℕ → List Field
flow_back l end =
    (codes "stream", streams_part l)
    ∷ (codes "tcp", session_part l)
    ∷ (codes "timestamp", Some (string end))
    ∷ (codes "vlan", vlan_data l.sums.key.vlans) ∷ []

unfoldable pub flow_data : FlowLine → List ℕ → List ℕ → List ℕ → List ℕ → List ℕ → Data
flow_data l community source dest start end =
    object_of (line_front l ToServer community dest (codes "flow") ++ (flow_middle l start end ++ (line_source l ToServer source ++ flow_back l end)))

-- the flow line of a record, whose flow is named under a seed: compact JSON, and a line feed
unfoldable pub flow_line : FlowLine → ℕ → List ℕ
flow_line l seed =
    compact_text
    (flow_data l (community_text (community_bytes l.sums.key seed)) (address_text l.sums.key.version (client_end l.sums).addr)
    (address_text l.sums.key.version (server_end l.sums).addr) (time_text (start_of l.sums)) (time_text (end_of l.sums)))
    ++ 10 ∷ []
