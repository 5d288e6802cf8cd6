-- Packets without their padding.
use Rattle.std.specs.Prelude.{◌≡◌, ℕ, ◌<◌, List, All, length, None}
use Rattle.octets.specs.Rules.{first_failing}
use Rattle.ip_headers.specs.Ip.{header_at, ip_rules, packet_in, packet_len, payload_place}
use Rattle.ip_headers.specs.declared.packet.IpPacket.{IpPacket}

-- the packet at the front of the octets, which stand at that base
pub record IsPacketOf (octets : List ℕ) (base : ℕ) (packet : IpPacket) : Type 0 where
  pub exact : packet.octets.now ≡ packet_in octets
  pub place : packet.base ≡ base
  pub value : packet.header ≡ header_at octets
  pub payload : packet.payload_at ≡ payload_place packet.header

-- the list is exactly one packet, of octets
pub record IsPacket (base : ℕ) (packet : List ℕ) : Type 0 where
  pub octets : All (λ octet. octet < 256) packet
  pub lawful : first_failing (ip_rules base packet) ≡ None
  pub exact : length packet ≡ packet_len (header_at packet)
