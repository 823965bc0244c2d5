-- The stats line. The keys of each object are in order of bytes.
use Rattle.std.specs.Prelude.{ℕ, List, [], ◌∷◌, ◌++◌, codes, Some}
use Rattle.serde_json.specs.Data.{Data, string}
use Rattle.serde_json.specs.Written.{compact_text}
use Rattle.eve_record.specs.Fields.{Field, count, object_of}
use Rattle.eve_record.specs.Time.{time_text}
use Rattle.run_stats.specs.declared.stats.Stats.{Stats}

-- a field that counts
abbrev pub counted : List ℕ → ℕ → Field
counted key n = (key, Some (count n))

-- the object `capture`
abbrev pub capture_data : Stats → Data
capture_data s =
    object_of (counted (codes "bytes") s.capture_bytes
    ∷ counted (codes "cut_bytes") s.cut_bytes
    ∷ counted (codes "frames") s.frames ∷ [])

-- the object `decoder`: the frames that bear no flow, by counter
abbrev pub decoder_front : Stats → List Field
decoder_front s =
    counted (codes "ethertype") s.ethertype
    ∷ counted (codes "fragment") s.fragment
    ∷ counted (codes "icmp_small") s.icmp_small
    ∷ counted (codes "ip_extensions") s.ip_extensions
    ∷ counted (codes "ip_header") s.ip_header ∷ []

abbrev pub decoder_middle : Stats → List Field
decoder_middle s =
    counted (codes "ip_small") s.ip_small
    ∷ counted (codes "ip_version") s.ip_version
    ∷ counted (codes "link_small") s.link_small
    ∷ counted (codes "other_proto") s.other_proto ∷ []

abbrev pub decoder_back : Stats → List Field
decoder_back s =
    counted (codes "tcp_header") s.tcp_header
    ∷ counted (codes "tcp_small") s.tcp_small
    ∷ counted (codes "udp_small") s.udp_small
    ∷ counted (codes "vlan_deep") s.vlan_deep
    ∷ counted (codes "vlan_small") s.vlan_small ∷ []

unfoldable pub decoder_data : Stats → Data
decoder_data s = object_of (decoder_front s ++ (decoder_middle s ++ decoder_back s))

-- the object `flow`: the records with their packets and reasons, and what was refused or full
abbrev pub records_front : Stats → List Field
records_front s =
    counted (codes "bytes") s.flow_bytes
    ∷ counted (codes "emergency") s.emergency
    ∷ counted (codes "emergency_entered") s.emergency_entered
    ∷ counted (codes "forced") s.forced
    ∷ counted (codes "memcap_full") s.memcap_full
    ∷ counted (codes "no_flow") s.no_flow ∷ []

abbrev pub records_back : Stats → List Field
records_back s =
    counted (codes "packets") s.packets
    ∷ counted (codes "records") s.records
    ∷ counted (codes "segment_full") s.segment_full
    ∷ counted (codes "shutdown") s.shutdown
    ∷ counted (codes "tcp_reuse") s.tcp_reuse
    ∷ counted (codes "timeout") s.timeout ∷ []

unfoldable pub records_data : Stats → Data
records_data s = object_of (records_front s ++ records_back s)

-- the object `stats`
unfoldable pub stats_data : Stats → Data
stats_data s =
    object_of ((codes "capture", Some (capture_data s))
    ∷ (codes "decoder", Some (decoder_data s))
    ∷ (codes "flow", Some (records_data s)) ∷ [])

-- the line, where its time has this text
unfoldable pub stats_event : List ℕ → Stats → Data
stats_event time s =
    object_of ((codes "event_type", Some (string (codes "stats")))
    ∷ (codes "stats", Some (stats_data s))
    ∷ (codes "timestamp", Some (string time)) ∷ [])

-- the stats line: compact JSON, and a line feed
unfoldable pub stats_line : Stats → List ℕ
stats_line s = compact_text (stats_event (time_text s.clock) s) ++ 10 ∷ []
