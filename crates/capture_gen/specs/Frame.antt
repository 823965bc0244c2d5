-- The frames of a generated capture: Ethernet (RFC 894), where every odd lane has a VLAN tag (IEEE 802.1Q).
use Rattle.std.specs.Prelude.{ℕ, ◌+◌, ◌%◌, ◌==◌, if◌then◌else◌, List, [], ◌∷◌, ◌++◌}
use Rattle.std.specs.Int.{w16, to_be_bytes}
use Rattle.capture_gen.specs.declared.plan.Turn.{Turn}
use Rattle.capture_gen.specs.Conversation.{conversation_from}
use Rattle.capture_gen.specs.Packet.{packet}

-- the tag of a lane's frames: EtherType 8100 and the id 100 + lane
abbrev pub tag : ℕ → List ℕ
tag lane = if lane % 2 == 1 then (0x81 ∷ 0x00 ∷ []) ++ to_be_bytes w16 (100 + lane) else []

-- what stands before the packet: the two stations' addresses, the tag, the EtherType of IPv4
abbrev pub link : ℕ → List ℕ
link lane =
    (0x02 ∷ 0 ∷ 0 ∷ 0 ∷ 0 ∷ 0x02 ∷ 0x02 ∷ 0 ∷ 0 ∷ 0 ∷ 0 ∷ 0x01 ∷ []) ++ tag lane ++ (0x08 ∷ 0x00 ∷ [])

-- the frame of a lane's turn
abbrev pub frame : ℕ → Turn → List ℕ
frame lane t = link lane ++ packet lane (conversation_from t.origin) t.step
