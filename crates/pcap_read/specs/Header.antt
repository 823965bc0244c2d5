-- The header of a capture file (draft-ietf-opsawg-pcap, section 'File Header'): 24 bytes, of which these are read: the magic number at 0, the major version at 4, the minor
-- one at 6, the link type at 20.
use Rattle.std.specs.Prelude.{◌≡◌, ℕ, ◌%◌, ◌≤◌, ◌&&◌, ◌||◌, ◌==◌, nat_lt, not, if◌then◌else◌, List, length, drop, Result, Ok, Err, ◌⊎◌}
use Rattle.byteorder.specs.Endian.{big_number, little_number}
use Rattle.pcap_read.specs.declared.header.Header.{Header}
use Rattle.pcap_read.specs.declared.header.Order.{Order}
use Rattle.pcap_read.specs.declared.header.Order.TheVariants.{Big, Little}
use Rattle.pcap_read.specs.declared.fault.PcapFault.{PcapFault}
use Rattle.pcap_read.specs.declared.fault.PcapFault.TheVariants.{Short, Ng, Magic, Version, Link}

-- the number in these bytes from a place on, in the file's byte order
abbrev pub field : Order → ℕ → ℕ → List ℕ → ℕ
field Big size at bytes = big_number size (drop at bytes)
field Little size at bytes = little_number size (drop at bytes)

-- whether frames of this link type are read: Ethernet, raw IP, Linux cooked (draft-ietf-opsawg-pcaplinktype)
abbrev pub IsLink : ℕ → Type 0
IsLink link = (link ≡ 1) ⊎ (link ≡ 101) ⊎ (link ≡ 113)

-- the header under a byte order and a unit, or its first fault: too short, version, link type
abbrev pub header_under : Order → ℕ → List ℕ → Result Header PcapFault
header_under order unit bytes =
    if nat_lt (length bytes) 24 then Err Short
    else (let major = field order 2 4 bytes in
    let minor = field order 2 6 bytes in
    if not ((major == 2) && (minor == 4)) then Err (Version major minor)
    else (let link = field order 4 20 bytes in
    let low = link % 65536 in
    if (low == 1) || (low == 101) || (low == 113) then Ok (record { order = order; unit = unit; link = low })
    else Err (Link link)))

-- what the header says, or its first fault. The magic number is a1b2c3d4 where a time's fraction is in microseconds and a1b23c4d where it is in nanoseconds, in the
-- file's own byte order; 0a0d0d0a begins a file of the newer format (draft-ietf-opsawg-pcapng, section 'Section Header Block')
abbrev pub header_of : List ℕ → Result Header PcapFault
header_of bytes =
    if nat_lt (length bytes) 4 then Err Short
    else (let magic = big_number 4 bytes in
    if magic == 0x0a0d0d0a then Err Ng
    else (if magic == 0xd4c3b2a1 then header_under Little 1000 bytes
    else (if magic == 0xa1b2c3d4 then header_under Big 1000 bytes
    else (if magic == 0x4d3cb2a1 then header_under Little 1 bytes
    else (if magic == 0xa1b23c4d then header_under Big 1 bytes
    else Err (Magic magic))))))

-- a header that was read: the file is long enough, the unit is at most a microsecond, the link type is one that is read
pub record IsRead (bytes : List ℕ) (header : Header) : Type 0 where
  pub long : 24 ≤ length bytes
  pub unit_small : header.unit ≤ 1000
  pub link_known : IsLink header.link
