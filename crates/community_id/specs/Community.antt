-- The Community ID of a key (Community ID Flow Hashing, version 1).
use Rattle.std.specs.Prelude.{ℕ, ◌==◌, if◌then◌else◌, List, [], ◌∷◌, ◌++◌, codes}
use Rattle.std.specs.Int.{w16, w32, w128, to_be_bytes}
use Rattle.base64.specs.Engines.{standard}
use Rattle.base64.specs.GeneralPurpose.{encode_of}
use Rattle.sha1.specs.Sha1.{sha1}
use Rattle.suri_base.specs.declared.key.Key.{Key}

-- an address of this IP version: 4 bytes for IPv4, 16 for IPv6
abbrev pub address_bytes : ℕ → ℕ → List ℕ
address_bytes version address = if version == 4 then to_be_bytes w32 address else to_be_bytes w128 address

-- a port in two bytes
abbrev pub port_bytes : ℕ → List ℕ
port_bytes port = to_be_bytes w16 port

-- what the digest is taken of: the seed, the two addresses, the protocol, a zero byte, and the two ports
unfoldable pub community_bytes : Key → ℕ → List ℕ
community_bytes k seed =
    to_be_bytes w16 seed ++ address_bytes k.version k.a.addr ++ address_bytes k.version k.b.addr
    ++ (k.proto ∷ 0 ∷ []) ++ port_bytes k.a.port ++ port_bytes k.b.port

-- the text over these bytes: the mark of version 1, and the digest in base64 (RFC 4648, section 4)
abbrev pub community_text : List ℕ → List ℕ
community_text bytes = codes "1:" ++ encode_of standard (sha1 bytes)
