-- The Map-Request that a router's own packet carries: RFC 9301, sections 5.2 and 5.8.
use Rattle.std.specs.Prelude.{ℕ, ◌+◌, false, List, Option, Some, None, if◌then◌else◌}
use Rattle.octets.specs.Rules.{first_failing}
use Rattle.octets.specs.declared.refused.Refused.{Refused}
use Rattle.ip_headers.specs.Ip.{source_of}
use Rattle.ip_headers.specs.Udp.{payload_in, sum_rules}
use Rattle.capture_io.specs.Frame.{Frame}
use Rattle.lisp_settings.specs.declared.settings.OwnLocator.{OwnLocator}
use Rattle.lisp_settings.specs.declared.settings.Settings.{Settings}
use Rattle.map_messages.specs.Message.{message_rules}
use Rattle.map_messages.specs.declared.message.MapRequest.{MapRequest}
use Rattle.map_messages.specs.declared.message.Message.{Message}
use Rattle.map_messages.specs.declared.message.Message.TheVariants.{Request, Reply, Control}
use Rattle.router_model.specs.Course as model
use Rattle.router_model.specs.Course.{Course, Datagram, FramePacket, arriving, frame_packet, frame_refusal}
use Rattle.router_model.specs.Received.{message_in}
use Rattle.router_model.specs.Site.{is_own}

-- the nonce of a Map-Request, if there is one
abbrev pub carried_nonce : Option MapRequest → Option ℕ
carried_nonce None = None
carried_nonce (Some request) = Some request.nonce

-- the nonce of the Map-Request that a message is or carries
abbrev pub nonce_of : Message → Option ℕ
nonce_of (Request request) = Some request.nonce
nonce_of (Reply reply) = None
nonce_of (Control ecm) = carried_nonce ecm.request

-- the nonce of a message that was read of octets, None where they hold no message by the rules
abbrev pub read_nonce : Option Message → Option ℕ
read_nonce None = None
read_nonce (Some message) = nonce_of message

-- a nonce, or None where a rule fails
abbrev pub none_refused : Option Refused → Option ℕ → Option ℕ
none_refused None carried = carried
none_refused (Some refused) carried = None

-- the nonce of the message at the front of octets, whose places count from `base`
abbrev pub message_nonce : ℕ → List ℕ → Option ℕ
message_nonce base octets =
    none_refused (first_failing (message_rules base octets)) (read_nonce (message_in octets))

-- the nonce of the message in a datagram, whose checksum is there and right
abbrev pub datagram_nonce : Datagram → Option ℕ
datagram_nonce d =
    none_refused (first_failing (sum_rules d.packet.base d.packet.header d.packet.octets d.udp false))
    (message_nonce (d.packet.base + d.udp.at + 8) (payload_in d.packet.octets d.udp))

-- the nonce of a control message; a packet of any other course has none
abbrev pub course_nonce : Course → Option ℕ
course_nonce (model.Control d) = datagram_nonce d
course_nonce _ = None

-- the nonce in a packet from an own locator, which is judged as one that comes to an own locator
abbrev pub own_nonce : List OwnLocator → FramePacket → Option ℕ
own_nonce locators packet =
    if is_own locators (source_of packet.header) then course_nonce (arriving packet) else None

-- the nonce of the Map-Request that the router sent in a frame, or None where it sent none
unfoldable pub sent_nonce : Settings → Frame → Option ℕ
sent_nonce settings frame =
    none_refused (frame_refusal frame) (own_nonce settings.locators (frame_packet frame))
