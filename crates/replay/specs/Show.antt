-- The lines of `show` for each frame.
use Rattle.std.specs.Prelude.{ℕ, ◌+◌, ◌-◌, true, false, List, [], ◌∷◌, ◌++◌, codes, length, take, flat_map, Option, Some, None}
use Rattle.std.specs.Fmt.{decimal}
use Rattle.octets.specs.Rules.{first_failing}
use Rattle.octets.specs.declared.refused.Refused.{Refused}
use Rattle.ip_headers.specs.Udp.{payload_in, sum_rules}
use Rattle.ip_headers.specs.declared.header.UdpHeader.{UdpHeader}
use Rattle.lisp_header.specs.Header.{lisp_rules}
use Rattle.map_messages.specs.Message.{message_rules}
use Rattle.capture_io.specs.Frame.{Frame}
use Rattle.capture_events.specs.Events.{Event, Outcome, Tick, Arrival, idle}
use Rattle.router_log.specs.Numbers.{fixed_hex, named}
use Rattle.router_log.specs.Refusals.{refused_text}
use Rattle.router_log.specs.declared.verdict.Reason.TheVariants.{Refused as IsRefused}
use Rattle.router_log.specs.declared.verdict.Verdict.{Verdict}
use Rattle.router_log.specs.declared.verdict.Verdict.TheVariants.{Drop}
use Rattle.router_model.specs.Course.{Course, FramePacket, Settled, Data, Control, arriving, frame_packet, frame_refusal}
use Rattle.replay.specs.Messages.{message_at}

-- the line of a frame that a rule refuses
abbrev pub refused_line : Refused → List ℕ
refused_line refused = codes "refused " ++ (refused_text refused ++ 10 ∷ [])

-- the line of a refusal, or else the text that follows
abbrev pub unless_refused : Option Refused → List ℕ → List ℕ
unless_refused None text = text
unless_refused (Some refused) text = refused_line refused

-- the line of a packet that holds neither LISP data nor a control message
abbrev pub other_line : List ℕ
other_line = codes "other\n"

-- the line of a packet in a tunnel: the eight octets of its LISP header, and how many octets are behind them
unfoldable pub data_line : List ℕ → List ℕ
data_line payload =
    codes "data header="
    ++ (flat_map (fixed_hex 2) (take 8 payload) ++ (named (codes " left=") (length payload - 8) ++ 10 ∷ []))

-- the line of a datagram to the LISP data port, whose UDP checksum may be 0
unfoldable pub data_text : FramePacket → UdpHeader → List ℕ
data_text packet udp =
    let payload = payload_in packet.octets udp in
    unless_refused (first_failing (sum_rules packet.base packet.header packet.octets udp true))
    (unless_refused (first_failing (lisp_rules (packet.base + udp.at + 8) payload))
    (data_line payload))

-- the lines of a datagram from or to the port of control messages, whose UDP checksum may not be 0
unfoldable pub control_text : FramePacket → UdpHeader → List ℕ
control_text packet udp =
    let payload = payload_in packet.octets udp in
    unless_refused (first_failing (sum_rules packet.base packet.header packet.octets udp false))
    (unless_refused (first_failing (message_rules (packet.base + udp.at + 8) payload))
    (message_at payload))

-- the line of a packet without a LISP datagram, which a rule of UDP may refuse
abbrev pub settled_text : Verdict → List ℕ
settled_text (Drop (IsRefused refused)) = refused_line refused
settled_text _ = other_line

-- the lines of a packet, by the course that it has if it is to an own locator
abbrev pub course_text : Course → List ℕ
course_text (Settled verdict) = settled_text verdict
course_text (Data d) = data_text d.packet d.udp
course_text (Control d) = control_text d.packet d.udp
course_text _ = other_line

-- the lines of a frame, without its number
unfoldable pub frame_text : Frame → List ℕ
frame_text frame = unless_refused (frame_refusal frame) (course_text (arriving (frame_packet frame)))

-- the lines of a frame, the first one behind its number
abbrev pub shown_frame : Frame → List ℕ
shown_frame frame = decimal frame.number ++ (32 ∷ frame_text frame)

-- the outcome of an event in a show: the lines of a frame, and no packet
abbrev pub showing : Unit {0} → Event → Outcome (Unit {0})
showing nothing (Tick second) = idle nothing
showing nothing (Arrival frame) =
    record { lines = shown_frame frame; packets = []; after = nothing }
