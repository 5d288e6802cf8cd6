-- What the halves of a packet are to it: RFC 791, section 2.3.
use Rattle.std.specs.Prelude.{◌≡◌, ℕ, ◌≤◌, ◌+◌, ◌*◌, ◌/◌, true, false, List, ◌++◌, length}
use Rattle.ip_headers.specs.Ip.{is_v4, v4_at}
use Rattle.ip_headers.specs.Packet.{IsPacket}
use Rattle.split_v4.specs.Halves.{copied_options, flags_of, option_octets, payload_of}

-- `part` is an IPv4 packet of its own, no longer than the packet, with the same header fields beside
-- lengths, More Fragments, offset, checksum and options; it may be a fragment
pub record IsPart (packet part : List ℕ) : Type 0 where
  pub lawful : (base : ℕ) → IsPacket base part
  pub version : is_v4 part ≡ true
  pub shorter : length part ≤ length packet
  pub tos : (v4_at part).tos ≡ (v4_at packet).tos
  pub id : (v4_at part).id ≡ (v4_at packet).id
  pub reserved : flags_of part / 32768 ≡ flags_of packet / 32768
  pub dont_fragment : (v4_at part).dont_fragment ≡ false
  pub ttl : (v4_at part).ttl ≡ (v4_at packet).ttl
  pub protocol : (v4_at part).protocol ≡ (v4_at packet).protocol
  pub source : (v4_at part).source ≡ (v4_at packet).source
  pub dest : (v4_at part).dest ≡ (v4_at packet).dest

-- the two join to the packet: their payloads make its payload, and their offsets meet
pub record Join (packet first second : List ℕ) : Type 0 where
  pub payload : payload_of first ++ payload_of second ≡ payload_of packet
  pub begins : (v4_at first).offset ≡ (v4_at packet).offset
  pub meets : 8 * (v4_at second).offset ≡ 8 * (v4_at first).offset + length (payload_of first)
  pub goes_on : (v4_at first).more ≡ true
  pub ends : (v4_at second).more ≡ (v4_at packet).more
  pub options : option_octets first ≡ option_octets packet
  pub copied : option_octets second ≡ copied_options packet
