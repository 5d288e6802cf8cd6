-- The course of a frame: its meaning to the router, which no mapping and no journal changes (RFC 9300, section 5.3).
use Rattle.std.specs.Prelude.{ℕ, ◌==◌, ◌||◌, not, Bool, List, [], ◌∷◌, true, false, Option, Some, None, Result, Ok, Err, if◌then◌else◌}
use Rattle.std.specs.Option.{option_or}
use Rattle.octets.specs.Rules.{first_failing}
use Rattle.octets.specs.declared.refused.Refused.{Refused}
use Rattle.ip_headers.specs.Ip.{dest_of, header_at, ip_rules, is_fragment, packet_in, payload_place, protocol_of, source_of}
use Rattle.ip_headers.specs.Udp.{answer_of, udp_at, udp_rules}
use Rattle.ip_headers.specs.declared.header.IpHeader.{IpHeader}
use Rattle.ip_headers.specs.declared.header.UdpHeader.{UdpHeader}
use Rattle.capture_io.specs.Frame.{Frame}
use Rattle.capture_io.specs.Link.{link_octets, link_place, link_rules, link_vlan}
use Rattle.lisp_settings.specs.declared.settings.Settings.{Settings}
use Rattle.router_log.specs.declared.verdict.Reason.TheVariants.{Refused as IsRefused, Fragment, NotTunnel, NoAttachment}
use Rattle.router_log.specs.declared.verdict.Verdict.{Verdict}
use Rattle.router_log.specs.declared.verdict.Verdict.TheVariants.{Own, Drop}
use Rattle.router_model.specs.Limits.{control_port, data_port}
use Rattle.router_model.specs.Site.{instance_of, is_own}

-- a packet, and where it stands in its frame (`base`)
pub record FramePacket : Type 0 where
  pub base : ℕ
  pub header : IpHeader
  pub octets : List ℕ

-- a packet with a UDP datagram, and the datagram's UDP header
pub record Datagram : Type 0 where
  pub packet : FramePacket
  pub udp : UdpHeader

-- the course of a frame: settled by a rule or by its source, a packet in a tunnel to the router, a control message, or
-- a packet of an instance that leaves the site
pub data Course : Type 0 where
  Settled : Verdict → Course
  Data : Datagram → Course
  Control : Datagram → Course
  Leaving : ℕ → FramePacket → Course

-- the course by a verdict that settles it, or else the course given
abbrev pub unless_settled : Option Verdict → Course → Course
unless_settled None course = course
unless_settled (Some verdict) course = Settled verdict

-- the course of a datagram to the router: to port 4341 in a tunnel, from or to 4342 a control message, else dropped
abbrev pub by_port : FramePacket → UdpHeader → Course
by_port packet udp =
    if udp.dest == data_port then Data (record { packet = packet; udp = udp })
    else if udp.dest == control_port || udp.source == control_port
    then Control (record { packet = packet; udp = udp })
    else Settled (Drop NotTunnel)

-- the course of a packet to the router by its UDP header, or by the rule of UDP that it breaks
abbrev pub by_udp : FramePacket → Result UdpHeader Refused → Course
by_udp packet (Err refused) = Settled (Drop (IsRefused refused))
by_udp packet (Ok udp) = by_port packet udp

-- the cases in which a packet to the router has no datagram, in order: each a test that it isn't so, and its verdict
abbrev pub datagram_cases : IpHeader → List (Bool × Verdict)
datagram_cases header =
    (not (is_fragment header), Drop Fragment) ∷ (protocol_of header == 17, Drop NotTunnel) ∷ []

-- the UDP header of a packet, or the refusal by the first rule of UDP that it breaks
abbrev pub datagram_read : FramePacket → Result UdpHeader Refused
datagram_read packet =
    answer_of (first_failing (udp_rules packet.base (payload_place packet.header) packet.octets))
    (udp_at (payload_place packet.header) packet.octets)

-- the course of a packet to an own locator
unfoldable pub arriving : FramePacket → Course
arriving packet =
    unless_settled (first_failing (datagram_cases packet.header))
    (by_udp packet (datagram_read packet))

-- the course of a packet to another address, by the instance of its VLAN
abbrev pub leaving : FramePacket → Option ℕ → Course
leaving packet None = Settled (Drop NoAttachment)
leaving packet (Some iid) = Leaving iid packet

-- the course of a packet that came in a VLAN
unfoldable pub packet_course : Settings → ℕ → FramePacket → Course
packet_course settings vlan packet =
    if is_own settings.locators (source_of packet.header) then Settled Own
    else if is_own settings.locators (dest_of packet.header) then arriving packet
    else leaving packet (instance_of settings.attachments vlan)

-- ### from frame to packet

-- the refusal by the first rule that a frame breaks, of its link or of the packet behind it; None where it keeps all
abbrev pub frame_refusal : Frame → Option Refused
frame_refusal frame =
    option_or (first_failing (link_rules frame))
    (first_failing (ip_rules (link_place frame) (link_octets frame)))

-- the packet of a frame that keeps the rules of link and IP
abbrev pub frame_packet : Frame → FramePacket
frame_packet frame = record {
  base = link_place frame;
  header = header_at (link_octets frame);
  octets = packet_in (link_octets frame);
}

-- the course of a frame by the rule that refuses it, or else the course given
abbrev pub unless_refused : Option Refused → Course → Course
unless_refused None course = course
unless_refused (Some refused) course = Settled (Drop (IsRefused refused))

-- the course of a frame
abbrev pub course_of : Settings → Frame → Course
course_of settings frame =
    unless_refused (frame_refusal frame)
    (packet_course settings (link_vlan frame) (frame_packet frame))

-- whether a course is that of a control message
abbrev pub is_message : Course → Bool
is_message (Control datagram) = true
is_message _ = false

-- whether a frame is a control message, which is heard, and not decided
abbrev pub control : Settings → Frame → Bool
control settings frame = is_message (course_of settings frame)
