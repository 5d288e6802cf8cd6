-- A packet that is forwarded: RFC 791 section 3.2, RFC 8200 section 3.
use Rattle.std.specs.Prelude.{◌≡◌, ℕ, ◌+◌, ◌-◌, ◌%◌, ◌==◌, ◌||◌, Bool, true, false, List, ◌∷◌, ◌++◌, length, take, drop, slice_index, None, if◌then◌else◌}
use Rattle.octets.specs.Numbers.{big_octets}
use Rattle.octets.specs.Rules.{first_failing}
use Rattle.ip_headers.specs.Checksum.{checksum}
use Rattle.ip_headers.specs.Ip.{header_sum, ip_rules, is_v4, header_at, header_len, packet_len, ttl_of}

-- an IPv4 header with its TTL one less, and with this checksum
abbrev pub lowered : List ℕ → ℕ → List ℕ
lowered header sum =
    take 8 header
    ++ ((slice_index header 8 - 1) ∷ slice_index header 9 ∷ (big_octets 2 sum ++ drop 12 header))

-- an IPv4 header with its TTL one less, and with the checksum over it, computed with 0 in its place
unfoldable pub renewed : List ℕ → List ℕ
renewed header = lowered header (checksum (lowered header 0))

-- the checksum of a header whose TTL is one less, computed from the checksum with which the header holds (RFC 1624)
abbrev pub lowered_sum : ℕ → ℕ
lowered_sum sum = (sum + 256) % 65535

-- an IPv4 packet with its TTL one less
abbrev pub forwarded_v4 : List ℕ → List ℕ
forwarded_v4 packet = renewed (take (header_len packet) packet) ++ drop (header_len packet) packet

-- an IPv6 packet with its Hop Limit one less
abbrev pub forwarded_v6 : List ℕ → List ℕ
forwarded_v6 packet = take 7 packet ++ ((slice_index packet 7 - 1) ∷ drop 8 packet)

-- a packet with its TTL or Hop Limit one less
abbrev pub forwarded : List ℕ → List ℕ
forwarded packet = if is_v4 packet then forwarded_v4 packet else forwarded_v6 packet

-- the places that forwarding changes: TTL and checksum, or Hop Limit
abbrev pub changes_at : List ℕ → ℕ → Bool
changes_at packet k = if is_v4 packet then k == 8 || k == 10 || k == 11 else k == 7

-- the packet `out` is the packet `packet` one hop further
pub record Forwarded (packet out : List ℕ) : Type 0 where
  pub same_length : length out ≡ length packet
  pub ttl : ttl_of (header_at out) + 1 ≡ ttl_of (header_at packet)
  pub others : (k : ℕ) → changes_at packet k ≡ false → slice_index out k ≡ slice_index packet k
  pub checksum : is_v4 out ≡ true → header_sum out ≡ 65535
  pub lawful : (base : ℕ) → first_failing (ip_rules base out) ≡ None
  pub exact : length out ≡ packet_len (header_at out)
