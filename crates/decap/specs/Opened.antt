-- A tunnel packet, opened: RFC 9300 section 5.3.
use Rattle.std.specs.Prelude.{◌≡◌, ℕ, ◌+◌, ◌%◌, ◌==◌, Bool, true, List, [], ◌∷◌, ◌++◌, drop, slice_index}
use Rattle.octets.specs.declared.refused.Refused.{Refused}
use Rattle.ip_headers.specs.Ip.{ip_rules}
use Rattle.ip_headers.specs.Packet.{IsPacketOf}
use Rattle.ip_headers.specs.Udp.{payload_in, payload_of, sum_rules}
use Rattle.ip_headers.specs.declared.header.IpHeader.{IpHeader}
use Rattle.ip_headers.specs.declared.header.UdpHeader.{UdpHeader}
use Rattle.ip_headers.specs.declared.packet.IpPacket.{IpPacket}
use Rattle.lisp_header.specs.Header.{header_at, lisp_rules, InRange}
use Rattle.decap.specs.declared.fault.OpenDrop.{OpenDrop}
use Rattle.decap.specs.declared.fault.OpenDrop.TheVariants.{Encrypted}
use Rattle.decap.specs.declared.fault.OpenDrop.TheVariants as drops
use Rattle.decap.specs.declared.opening.Tunnelled.{Tunnelled}

-- the place of the octets behind the UDP header in the frame
abbrev pub payload_base : IpPacket → UdpHeader → ℕ
payload_base packet udp = packet.base + udp.at + 8

-- rules of the layers below, whose refusals are results as they are
abbrev pub refusing : List (Bool × Refused) → List (Bool × OpenDrop)
refusing [] = []
refusing (rule ∷ rules) = (rule.0, drops.Refused rule.1) ∷ refusing rules

-- the key bits are 0: the packet inside isn't encrypted
abbrev pub key_rules : List ℕ → List (Bool × OpenDrop)
key_rules payload = (slice_index payload 0 % 4 == 0, Encrypted) ∷ []

-- the rules of the UDP checksum, of the LISP header and its key, and of the packet behind it, for a
-- packet of these octets that stand at the base
unfoldable pub opened_rules : ℕ → IpHeader → List ℕ → UdpHeader → List (Bool × OpenDrop)
opened_rules base header octets udp =
    let payload = payload_in octets udp in
    let place = base + udp.at + 8 in
    refusing (sum_rules base header octets udp true)
    ++ (refusing (lisp_rules place payload)
    ++ (key_rules payload ++ refusing (ip_rules (place + 8) (drop 8 payload))))

-- the rules of a tunnel packet, by its value
abbrev pub open_rules : IpPacket → UdpHeader → List (Bool × OpenDrop)
open_rules packet udp = opened_rules packet.base packet.header packet.octets.now udp

-- the value that the octets of a tunnel packet spell
pub record IsOpened (packet : IpPacket) (udp : UdpHeader) (tunnel : Tunnelled) : Type 0 where
  pub header : tunnel.header ≡ header_at (payload_of packet udp)
  pub range : InRange tunnel.header
  pub inner : IsPacketOf (drop 8 (payload_of packet udp)) (payload_base packet udp + 8) tunnel.inner
  pub outer : tunnel.outer ≡ packet.header
