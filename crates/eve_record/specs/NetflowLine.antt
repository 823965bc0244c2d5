-- The netflow lines of a record: one for each direction that has a packet. The keys of each object are in order of bytes.
use Rattle.std.specs.Prelude.{ℕ, ◌-◌, ◌/◌, ◌==◌, if◌then◌else◌, List, [], ◌∷◌, ◌++◌, codes, option_map, None, Some}
use Rattle.std.specs.declared.option.Option.{Option}
use Rattle.serde_json.specs.Data.{Data, string}
use Rattle.serde_json.specs.Written.{compact_text}
use Rattle.community_id.specs.Community.{community_bytes, community_text}
use Rattle.suri_base.specs.declared.facts.Way.{Way}
use Rattle.suri_base.specs.declared.facts.Way.TheVariants.{ToServer, ToClient}
use Rattle.suri_base.specs.Protocols.{is_tcp}
use Rattle.flow_object.specs.declared.outcome.FlowLine.{FlowLine}
use Rattle.flow_sum.specs.declared.dir.Dir.{Dir}
use Rattle.eve_record.specs.Address.{address_text}
use Rattle.eve_record.specs.Fields.{Field, count, object_of}
use Rattle.eve_record.specs.Parts.{direction_of, flag_data, flag_fields, flags_text, line_front, line_source, receiver, sender, vlan_data}
use Rattle.eve_record.specs.Time.{time_text}

-- whole seconds from the direction's first packet to its last
abbrev pub dir_age : Dir → ℕ
dir_age d = (d.end - d.start) / 1000000000

-- the object `netflow` of a direction, where its start and end have these texts
abbrev pub dir_front : Dir → List ℕ → List Field
dir_front d end =
    (codes "age", Some (count (dir_age d)))
    ∷ (codes "bytes", Some (count d.bytes))
    ∷ (codes "end", Some (string end))
    ∷ (codes "max_ttl", Some (count d.max_ttl)) ∷ []

abbrev pub dir_back : Dir → List ℕ → List Field
dir_back d start =
    (codes "min_ttl", Some (count d.min_ttl))
    ∷ (codes "pkts", Some (count d.pkts))
    ∷ (codes "start", Some (string start)) ∷ []

unfoldable pub dir_data : Dir → List ℕ → List ℕ → Data
dir_data d start end = object_of (dir_front d end ++ dir_back d start)

-- the object `tcp` of a direction: its flags
abbrev pub flags_back : ℕ → List Field
flags_back flags =
    (codes "syn", flag_data 0x02 flags)
    ∷ (codes "tcp_flags", Some (string (flags_text flags)))
    ∷ (codes "urg", flag_data 0x20 flags) ∷ []

unfoldable pub flags_data : ℕ → Data
flags_data flags = object_of (flag_fields flags ++ flags_back flags)

-- for TCP alone
abbrev pub flags_part : ℕ → ℕ → Option Data
flags_part proto flags = if is_tcp proto then Some (flags_data flags) else None

-- the line of a direction, where the Community ID, the addresses, the start and the end have these texts; what ICMP
-- tells is that of the run's first packet
abbrev pub netflow_middle : FlowLine → Way → List ℕ → List ℕ → List Field
netflow_middle l way start end =
    (codes "flow_id", Some (count l.sums.first_no))
    ∷ (codes "icmp_code", option_map (λ i. count i.code) l.sums.icmp)
    ∷ (codes "icmp_type", option_map (λ i. count i.kind) l.sums.icmp)
    ∷ (codes "netflow", Some (dir_data (direction_of l.sums way) start end)) ∷ []

abbrev pub netflow_back : FlowLine → Way → List ℕ → List Field
netflow_back l way end =
    (codes "tcp", flags_part l.sums.key.proto (direction_of l.sums way).flags)
    ∷ (codes "timestamp", Some (string end))
    ∷ (codes "vlan", vlan_data l.sums.key.vlans) ∷ []

unfoldable pub netflow_data : FlowLine → Way → List ℕ → List ℕ → List ℕ → List ℕ → List ℕ → Data
netflow_data l way community source dest start end =
    object_of (line_front l way community dest (codes "netflow")
    ++ (netflow_middle l way start end ++ (line_source l way source ++ netflow_back l way end)))

-- the line of a direction of a record whose flow has this Community ID: compact JSON, and a line feed
unfoldable pub netflow_line : FlowLine → Way → List ℕ → List ℕ
netflow_line l way community =
    compact_text
    (netflow_data l way community (address_text l.sums.key.version (sender l.sums way).addr) (address_text l.sums.key.version (receiver l.sums way).addr)
    (time_text (direction_of l.sums way).start) (time_text (direction_of l.sums way).end))
    ++ 10 ∷ []

-- nothing where the direction has no packet
abbrev pub line_where_any : FlowLine → Way → List ℕ → List ℕ
line_where_any l way community = if (direction_of l.sums way).pkts == 0 then [] else netflow_line l way community

-- the netflow lines of a record, whose flow is named under a seed: to the server first
unfoldable pub netflow_lines : FlowLine → ℕ → List ℕ
netflow_lines l seed =
    line_where_any l ToServer (community_text (community_bytes l.sums.key seed)) ++ line_where_any l ToClient (community_text (community_bytes l.sums.key seed))
