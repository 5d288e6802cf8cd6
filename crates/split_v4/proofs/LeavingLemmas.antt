-- A packet that leaves the site stands in its frame.
use Rattle.std.proofs.Common.{◌≡◌, ◌≤◌, ◌+◌, ◌&&◌, ◌||◌, not, eqb, leb, ltb, ltb-true, ℕ, Bool, true, false, List, length, Option, Some, None, IfSome, is_none, Result, Ok, Err, if◌then◌else◌, inl, inr, refl, arith, length-drop}
use Rattle.std.proofs.lemmas.Bool.{cases_Bool, le-ltb, lt-ltb}
use Rattle.std.proofs.lemmas.List.{length-take}
use Rattle.octets.specs.Rules.{first_failing}
use Rattle.octets.specs.declared.refused.Refused.{Refused}
use Rattle.ip_headers.specs.Ip.{dest_of, header_at, is_v4, packet_len, source_of, v4_at}
use Rattle.ip_headers.proofs.CutPacket.{both_hold}
use Rattle.ip_headers.specs.declared.header.UdpHeader.{UdpHeader}
use Rattle.capture_io.specs.Frame.{Frame}
use Rattle.capture_io.specs.Link.{link_octets, link_vlan, type_place}
use Rattle.capture_io.specs.declared.link.Link.{Link}
use Rattle.capture_io.specs.declared.link.Link.TheVariants.{Ethernet, Raw}
use Rattle.lisp_settings.specs.declared.settings.Settings.{Settings}
use Rattle.router_log.specs.declared.verdict.Verdict.{Verdict}
use Rattle.router_model.specs.Course.{Course, FramePacket, Settled, Data, Control, Leaving, arriving, by_port, by_udp, course_of, datagram_cases, datagram_read, frame_packet, frame_refusal, leaving, packet_course, unless_refused, unless_settled}
use Rattle.router_model.specs.Decide.{site_cases}
use Rattle.router_model.specs.Limits.{control_port, data_port}
use Rattle.router_model.specs.Site.{instance_of, is_own}
use Rattle.split_v4.specs.declared.cutting.Cut.{Cut}
use Rattle.split_v4.specs.Halves.{cut_above, cut_in, first_eighths, first_half, halves, halves_of, leaving_of, leaving_packet, may_split_above, option_octets, second_half, with_packet}
use Rattle.split_v4.specs.Limits.{has_v6, least_split_size, most_offset, split_size}
use Rattle.split_v4.specs.Options.{are_options}

-- the packet stands within that many octets
abbrev pub IsWithin : ℕ → FramePacket → Type 0
IsWithin size packet = packet.base + length packet.octets ≤ size

-- a packet that leaves stands within that many octets
abbrev pub LeavesWithin : ℕ → Course → Type 0
LeavesWithin size (Leaving iid packet) = IsWithin size packet
LeavesWithin size _ = Unit {0}

by_port-within : (size : ℕ) (packet : FramePacket) (udp : UdpHeader) → LeavesWithin size (by_port packet udp)
by_port-within size packet udp =
    elim (cases_Bool (eqb udp.dest data_port)) [
      | inl same ↦ rw same tt
      | inr other ↦ elim (cases_Bool (eqb udp.dest control_port || eqb udp.source control_port)) [
        | inl control ↦ rw (other, control) tt
        | inr none ↦ rw (other, none) tt
      ]
    ]

by_udp-within : (size : ℕ) (packet : FramePacket) (read : Result UdpHeader Refused) → LeavesWithin size (by_udp packet read)
by_udp-within size packet (Ok udp) = by_port-within size packet udp
by_udp-within size packet (Err refused) = tt

unless-within : (size : ℕ) (settled : Option Verdict) (course : Course) → LeavesWithin size course → LeavesWithin size (unless_settled settled course)
unless-within size None course within = within
unless-within size (Some verdict) course within = tt

arriving-within : (size : ℕ) (packet : FramePacket) → LeavesWithin size (arriving packet)
unfolding arriving
arriving-within size packet =
    unless-within size (first_failing (datagram_cases packet.header)) (by_udp packet (datagram_read packet)) (by_udp-within size packet (datagram_read packet))

leaving-within : (size : ℕ) (packet : FramePacket) (iid : Option ℕ) → IsWithin size packet → LeavesWithin size (leaving packet iid)
leaving-within size packet None within = tt
leaving-within size packet (Some iid) within = within

course-within : (size : ℕ) (settings : Settings) (vlan : ℕ) (packet : FramePacket) → IsWithin size packet → LeavesWithin size (packet_course settings vlan packet)
unfolding packet_course
course-within size settings vlan packet within =
    elim (cases_Bool (is_own settings.locators (source_of packet.header))) [
      | inl own ↦ rw own tt
      | inr other ↦ elim (cases_Bool (is_own settings.locators (dest_of packet.header))) [
        | inl own ↦ rw (other, own) (arriving-within size packet)
        | inr leaves ↦ rw (other, leaves) (leaving-within size packet (instance_of settings.attachments vlan) within)
      ]
    ]

refused-within : (size : ℕ) (refused : Option Refused) (course : Course) → LeavesWithin size course → LeavesWithin size (unless_refused refused course)
refused-within size None course within = within
refused-within size (Some refused) course within = tt

-- what is behind the link's header is a part of the frame
link-within : (number moment : ℕ) (link : Link) (octets : List ℕ) → length (link_octets (record { number = number; moment = moment; link = link; octets = octets })) ≤ length octets
link-within number moment Ethernet octets = omega (arith, length-drop (type_place octets + 2) octets)
link-within number moment Raw octets = omega arith

packet-within : (frame : Frame) → IsWithin (length frame.octets) (frame_packet frame)
packet-within frame =
    let octets = link_octets frame in
    omega (arith, link-within frame.number frame.moment frame.link frame.octets, length-take (packet_len (header_at octets)) octets)

-- the packet of a course that leaves by what the settings say
left-within : (size : ℕ) (settings : Settings) (course : Course) → LeavesWithin size course → IfSome (leaving_of settings course) (IsWithin size)
left-within size settings (Settled verdict) within = tt
left-within size settings (Data datagram) within = tt
left-within size settings (Control datagram) within = tt
left-within size settings (Leaving iid packet) within =
    elim (cases_Bool (is_none (first_failing (site_cases settings iid packet.header)))) [
      | inl none ↦ rw none within
      | inr some ↦ rw some tt
    ]

-- the packet of a frame that leaves stands in it
pub course_of-within : (settings : Settings) (frame : Frame) → LeavesWithin (length frame.octets) (course_of settings frame)
course_of-within settings frame =
    let size = length frame.octets in
    refused-within size (frame_refusal frame) (packet_course settings (link_vlan frame) (frame_packet frame)) (course-within size settings (link_vlan frame) (frame_packet frame) (packet-within frame))

leaving_packet-within : (settings : Settings) (frame : Frame) → IfSome (leaving_packet settings frame) (IsWithin (length frame.octets))
leaving_packet-within settings frame =
    left-within (length frame.octets) settings (course_of settings frame) (course_of-within settings frame)

-- a packet that isn't long has no halves
not-above : (most : ℕ) (packet : List ℕ) → length packet ≤ most → may_split_above most packet ≡ false
not-above most packet short = rw (le-ltb most (length packet) short) refl

no-halves : (settings : Settings) (frame : Frame) (packet : Option FramePacket) → length frame.octets ≤ split_size settings → IfSome packet (IsWithin (length frame.octets)) → halves_of settings frame packet ≡ None
no-halves settings frame None short within = refl
no-halves settings frame (Some packet) short within = rw (not-above (split_size settings) packet.octets (omega (arith, short, within))) refl

-- a frame that isn't long has no halves
pub halves-none : (settings : Settings) (frame : Frame) → length frame.octets ≤ split_size settings → halves settings frame ≡ None
unfolding halves
halves-none settings frame short = no-halves settings frame (leaving_packet settings frame) short (leaving_packet-within settings frame)

-- a packet is cut where it may be
cut-none : (may : Bool) (cut : Cut) → None ≡ (if may then Some cut else None) → may ≡ false
cut-none true cut is = cc
cut-none false cut is = refl

cut-some : (may : Bool) (cut here : Cut) → Some here ≡ (if may then Some cut else None) → (may ≡ true) × (here ≡ cut)
cut-some true cut here is = (refl, cc)
cut-some false cut here is = cc

pub above-cut : (most : ℕ) (packet : List ℕ) (cut : Cut) → Some cut ≡ cut_above most packet → (may_split_above most packet ≡ true) × (cut ≡ cut_in packet)
above-cut most packet cut is = cut-some (may_split_above most packet) (cut_in packet) cut is

-- what may be split above a size may be above a lesser one
pub above-less : (least most : ℕ) (packet : List ℕ) → least ≤ most → may_split_above most packet ≡ true → may_split_above least packet ≡ true
above-less least most packet less may =
    let rest = is_v4 packet && (not (v4_at packet).dont_fragment && (leb ((v4_at packet).offset + first_eighths packet) most_offset && are_options (option_octets packet))) in
    let both = both_hold (ltb most (length packet)) rest may in
    let large = ltb-true _ _ both.0 in
    rw (lt-ltb least (length packet) (omega (arith, less, large))) both.1

-- that size is one of two
pub split_size-least : (settings : Settings) → least_split_size ≤ split_size settings
split_size-least settings =
    elim (cases_Bool (has_v6 settings.locators)) [
      | inl six ↦ rw six (omega arith)
      | inr four ↦ rw four (omega arith)
    ]

-- a packet that isn't cut has no halves
pub halves-uncut : (settings : Settings) (frame : Frame) (packet : FramePacket) (most : ℕ) → Some packet ≡ leaving_packet settings frame → most ≡ split_size settings
    → None ≡ cut_above most packet.octets → None ≡ halves settings frame
unfolding halves
halves-uncut settings frame packet most leaves size none =
    let may = cut-none (may_split_above most packet.octets) (cut_in packet.octets) none in
    rw (← leaves, ← size, may) refl

-- one that is cut has two
pub halves-cut : (settings : Settings) (frame : Frame) (packet : FramePacket) (most : ℕ) → Some packet ≡ leaving_packet settings frame → most ≡ split_size settings
    → may_split_above most packet.octets ≡ true
    → Some (with_packet frame packet.base (first_half packet.octets), with_packet frame packet.base (second_half packet.octets)) ≡ halves settings frame
unfolding halves
halves-cut settings frame packet most leaves size may = rw (← leaves, ← size, may) refl
