-- The extension headers of IPv6 (RFC 8200, section 4).
use Rattle.std.specs.Prelude.{ℕ, zero, suc, ◌+◌, ◌*◌, ◌/◌, ◌%◌, ◌&&◌, ◌||◌, ◌==◌, nat_lt, not, Bool, if◌then◌else◌, List, length, drop, slice_index, Result, Ok, Err}
use Rattle.suri_base.specs.declared.counter.Counter.{Counter}
use Rattle.suri_base.specs.declared.counter.Counter.TheVariants.{IpExtensions, Fragment}
use Rattle.header_fields.specs.Fields.{number_at}
use Rattle.ip_decode.specs.declared.extensions.Upper.{Upper}

-- whether a next header is an extension header (section 4): hop-by-hop options (0), routing (43), fragment (44), authentication (51, RFC 4302), destination options (60)
abbrev pub is_extension : ℕ → Bool
is_extension next = (next == 0) || (next == 43) || (next == 44) || (next == 51) || (next == 60)

-- the length that an extension header of this kind states in its second byte: a fragment header has 8 bytes (section 4.5),
-- an authentication header counts in fours, less two (RFC 4302, section 2.2), all others in eights, less one (sections 4.3, 4.4, 4.6)
abbrev pub stated_size : ℕ → List ℕ → ℕ
stated_size kind bytes =
    if kind == 44 then 8
    else (if kind == 51 then (slice_index bytes 1 + 2) * 4
    else (slice_index bytes 1 + 1) * 8)

-- whether a fragment header is that of a real fragment (section 4.5): in its third and fourth byte the upper 13 bits are the offset, the lowest bit says that more follow;
-- with neither it stands before a whole packet (RFC 6946)
abbrev pub is_fragment_header : List ℕ → Bool
is_fragment_header bytes = not (number_at 2 2 bytes / 8 == 0) || not (number_at 2 2 bytes % 2 == 0)

-- the length of the extension header of this kind that stands first in the bytes, or the counter where it can't be walked past; the shortest has 8 bytes
unfoldable pub extension_size : ℕ → List ℕ → Result ℕ Counter
extension_size kind bytes =
    if nat_lt (length bytes) 8 then Err IpExtensions
    else (if nat_lt (length bytes) (stated_size kind bytes) then Err IpExtensions
    else (if (kind == 44) && is_fragment_header bytes then Err Fragment
    else Ok (stated_size kind bytes)))

-- what follows a good answer; a counter stays
abbrev pub and_then : {T U : Type 0} → (T → Result U Counter) → Result T Counter → Result U Counter
and_then next (Ok x) = next x
and_then next (Err counter) = Err counter

-- the protocol and the length of what stands behind the extension headers, of which so many may come; the first byte of each is the next header
unfoldable pub upper_of : ℕ → ℕ → List ℕ → Result Upper Counter
upper_of zero next bytes = if is_extension next then Err IpExtensions else Ok (record { proto = next; len = length bytes })
upper_of (suc room) next bytes =
    if is_extension next then and_then (λ size. upper_of room (slice_index bytes 0) (drop size bytes)) (extension_size next bytes)
    else Ok (record { proto = next; len = length bytes })
