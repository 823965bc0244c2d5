-- The control bits of a TCP header (RFC 9293, section 3.1): FIN 0x01, SYN 0x02, RST 0x04, PSH 0x08, ACK 0x10, URG 0x20, ECE 0x40, CWR 0x80.
use Rattle.std.specs.Prelude.{ℕ, ◌==◌, Bool, bit_and}

-- all of these are set
abbrev pub has_all : ℕ → ℕ → Bool
has_all these flags = bit_and flags these == these

-- SYN is set, and neither ACK nor RST: it asks for a connection
abbrev pub asks_syn : ℕ → Bool
asks_syn flags = bit_and flags 0x16 == 0x02

-- SYN and ACK are set, and RST is not: it answers who asked
abbrev pub answers_syn : ℕ → Bool
answers_syn flags = bit_and flags 0x16 == 0x12
