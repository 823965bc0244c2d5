-- The packets of a generated capture, in IPv4 (RFC 791, section 3.1). Checksums are 0.
use Rattle.std.specs.Prelude.{ℕ, ◌+◌, ◌==◌, Bool, if◌then◌else◌, List, [], ◌∷◌, ◌++◌, length, replicate}
use Rattle.std.specs.Int.{w16, w32, to_be_bytes}
use Rattle.capture_gen.specs.declared.conversation.Kind.{Kind}
use Rattle.capture_gen.specs.declared.conversation.Kind.TheVariants.{Web, Query, Ping}
use Rattle.capture_gen.specs.declared.conversation.Conversation.{Conversation}
use Rattle.capture_gen.specs.declared.web.Segment.{Segment}
use Rattle.capture_gen.specs.Web.{segment_of, payload_bytes}

-- the addresses of who sends and who receives: the client is 10.0.lane.client, the server 192.0.2.server
abbrev pub addresses : ℕ → Conversation → Bool → List ℕ
addresses lane c from_client =
    if from_client then 10 ∷ 0 ∷ lane ∷ c.client ∷ 192 ∷ 0 ∷ 2 ∷ c.server ∷ []
    else 192 ∷ 0 ∷ 2 ∷ c.server ∷ 10 ∷ 0 ∷ lane ∷ c.client ∷ []

-- the ports of who sends and who receives, where the server has this one
abbrev pub ports : ℕ → Conversation → Bool → List ℕ
ports service c from_client =
    if from_client then to_be_bytes w16 c.port ++ to_be_bytes w16 service
    else to_be_bytes w16 service ++ to_be_bytes w16 c.port

-- a header of 20 bytes before a body of this size: it must not be fragmented, and lives for 64 hops
abbrev pub ip_header : ℕ → Conversation → Bool → ℕ → ℕ → List ℕ
ip_header lane c from_client protocol size =
    (0x45 ∷ 0 ∷ []) ++ to_be_bytes w16 (20 + size) ++ (0 ∷ 0 ∷ 0x40 ∷ 0 ∷ 64 ∷ protocol ∷ 0 ∷ 0 ∷ []) ++ addresses lane c from_client

-- a segment to or from port 80 (RFC 9293, section 3.1): a header of 20 bytes with the window 65,535, and what it bears
abbrev pub web_segment : Conversation → Segment → List ℕ
web_segment c s =
    ports 80 c s.from_client ++ to_be_bytes w32 s.seq ++ to_be_bytes w32 s.ack
    ++ (0x50 ∷ s.flags ∷ 0xff ∷ 0xff ∷ 0 ∷ 0 ∷ 0 ∷ 0 ∷ []) ++ payload_bytes c.size s.payload

-- the flags of a question at step 1, and of its answer at step 2 (RFC 1035, section 4.1.1)
abbrev pub query_flags : ℕ → List ℕ
query_flags step = if step == 1 then 0x01 ∷ 0x00 ∷ [] else 0x81 ∷ 0x80 ∷ []

-- a datagram of 29 bytes to or from port 53 (RFC 768): a question for the host 'www', or the same with the flags of an answer (RFC 1035, section 4.1)
abbrev pub query_datagram : Conversation → ℕ → List ℕ
query_datagram c step =
    ports 53 c (step == 1) ++ (0 ∷ 29 ∷ 0 ∷ 0 ∷ 0x12 ∷ 0x34 ∷ [])
    ++ query_flags step
    ++ (0 ∷ 1 ∷ 0 ∷ 0 ∷ 0 ∷ 0 ∷ 0 ∷ 0 ∷ 0x03 ∷ 0x77 ∷ 0x77 ∷ 0x77 ∷ 0 ∷ 0 ∷ 1 ∷ 0 ∷ 1 ∷ [])

-- the type of an echo at step 1, and of its reply at step 2 (RFC 792)
abbrev pub ping_type : ℕ → ℕ
ping_type step = if step == 1 then 8 else 0

-- an echo, or its reply: identifier 1, number 1, and 56 zero bytes
abbrev pub ping_message : ℕ → List ℕ
ping_message step =
    (ping_type step ∷ 0 ∷ 0 ∷ 0 ∷ 0 ∷ 1 ∷ 0 ∷ 1 ∷ []) ++ replicate 56 0

-- what a packet bears at a step of a conversation
abbrev pub body : Conversation → Kind → ℕ → List ℕ
body c Web step = web_segment c (segment_of c.size step)
body c Query step = query_datagram c step
body c Ping step = ping_message step

-- whether the client sends this step
abbrev pub from_client : Conversation → Kind → ℕ → Bool
from_client c Web step = (segment_of c.size step).from_client
from_client c Query step = step == 1
from_client c Ping step = step == 1

-- the protocol's number: TCP, UDP, ICMP
abbrev pub protocol_of : Kind → ℕ
protocol_of Web = 6
protocol_of Query = 17
protocol_of Ping = 1

-- the packet of a step
abbrev pub packet : ℕ → Conversation → ℕ → List ℕ
packet lane c step =
    ip_header lane c (from_client c c.kind step) (protocol_of c.kind) (length (body c c.kind step)) ++ body c c.kind step
