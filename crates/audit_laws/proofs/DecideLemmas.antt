-- The packet of a decision is exactly one packet.
use Rattle.std.proofs.Common.{◌≡◌, ◌<◌, ◌≤◌, ◌+◌, ◌==◌, ◌||◌, ℕ, Bool, true, false, cond, IfSome, List, [], ◌∷◌, ◌++◌, length, drop, Option, Some, None, Result, Ok, Err, refl, sym, ap, subst, ◌∙◌, ◌^◌, arith}
use Rattle.std.specs.Option.{option_or}
use Rattle.std.proofs.lemmas.List.Elements.{All-drop, All-take}
use Rattle.octets.specs.Rules.{first_failing}
use Rattle.octets.specs.declared.refused.Refused.{Refused}
use Rattle.ip_headers.specs.Ip.{class_of, dest_of, header_at, ip_rules, packet_in, source_of}
use Rattle.ip_headers.specs.Packet.{IsPacket}
use Rattle.ip_headers.specs.Udp.{payload_in, sum_rules}
use Rattle.ip_headers.specs.declared.addr.Addr.{Addr}
use Rattle.ip_headers.specs.declared.header.IpHeader.{IpHeader}
use Rattle.ip_headers.specs.declared.header.UdpHeader.{UdpHeader}
use Rattle.capture_io.specs.Frame.{Frame}
use Rattle.capture_io.specs.Link.{ethernet_octets, link_octets, link_place, link_rules, link_vlan, type_place}
use Rattle.capture_io.specs.declared.link.Link.{Link}
use Rattle.capture_io.specs.declared.link.Link.TheVariants.{Ethernet, Raw}
use Rattle.lisp_header.specs.Header.{header_at as lisp_header_at, lisp_rules}
use Rattle.lisp_header.specs.declared.header.LispHeader.{LispHeader}
use Rattle.encap.specs.Rules.{Unsent, encap_rules, forward_rules}
use Rattle.decap.specs.Delivered.{Undelivered, deliver_rules}
use Rattle.decap.specs.Opened.{key_rules, opened_rules, refusing}
use Rattle.decap.specs.declared.fault.OpenDrop.{OpenDrop}
use Rattle.mapping_records.specs.Action.{action_of}
use Rattle.mapping_records.specs.declared.action.Action.{Action}
use Rattle.mapping_records.specs.declared.action.Action.TheVariants.{NoAction, NativelyForward, SendMapRequest, DropNoReason, DropPolicy, DropAuth}
use Rattle.lisp_settings.specs.Home.{home_of}
use Rattle.lisp_settings.specs.declared.settings.Database.{Database}
use Rattle.lisp_settings.specs.declared.settings.Settings.{Settings}
use Rattle.locator_choice.specs.Hash.{source_port}
use Rattle.router_log.specs.declared.decision.Decision.{Decision}
use Rattle.router_log.specs.declared.verdict.Reason.TheVariants.{NotTunnel}
use Rattle.router_log.specs.declared.verdict.Verdict.{Verdict}
use Rattle.router_log.specs.declared.verdict.Verdict.TheVariants.{Control, Delivered, Drop, Encapsulated, Local, Native, Own}
use Rattle.router_model.specs.Choice.{chosen}
use Rattle.router_model.specs.Course as course
use Rattle.router_model.specs.Course.{Course, Data, Datagram, FramePacket, Leaving, Settled, arriving, by_port, by_udp, datagram_cases, datagram_read, frame_packet, frame_refusal, leaving, packet_course, unless_refused, unless_settled}
use Rattle.router_model.specs.Decide.{by_action, decide_by, decide_course, for_home, force_for, from_ours, hash_of, home_version, iid_of, leaves, lisp_header, mapped, natively, opened, routed, sent, site_cases, towards, tunnelled, unless_decided, version_cases}
use Rattle.router_model.specs.Mappings.{Held}
use Rattle.router_model.specs.Plain.{packet_of}
use Rattle.router_model.specs.Site.{instance_of, is_own, ours}
use Rattle.router_model.specs.View.{View}
use Rattle.audit_laws.proofs.CourseLemmas.{IsTunnelled}
use Rattle.audit_laws.proofs.OctetLemmas.{AreOctets, class-octet}
use Rattle.audit_laws.proofs.VerdictLemmas.{delivered-packet, forwarded-packet, forwarded-source, header-cut, packet-cut, wrapped-arrives, wrapped-packet}

-- exactly one packet, which arrives in a tunnel where it goes into one, and comes from no own locator where it goes past
abbrev pub SendsPacket : Settings → Verdict → Type 0
SendsPacket settings (Encapsulated from to port packet) = IsPacket 0 packet × IsTunnelled packet
SendsPacket settings (Delivered iid packet) = IsPacket 0 packet
SendsPacket settings (Native packet) = IsPacket 0 packet × (is_own settings.locators (source_of (header_at packet)) ≡ false)
SendsPacket settings _ = Unit {0}

-- so it is one, if there is one
pub sends-packet : (settings : Settings) (verdict : Verdict) → SendsPacket settings verdict → IfSome (packet_of verdict) (IsPacket 0)
sends-packet settings (Encapsulated from to port packet) sends = sends.0
sends-packet settings (Delivered iid packet) sends = sends
sends-packet settings (Native packet) sends = sends.0
sends-packet settings Own sends = tt
sends-packet settings Local sends = tt
sends-packet settings (Control done) sends = tt
sends-packet settings (Drop why) sends = tt

abbrev Sends : Settings → Decision → Type 0
Sends settings decision = SendsPacket settings decision.verdict

-- ### verdicts without a packet

abbrev IsSilent : Verdict → Type 0
IsSilent verdict = packet_of verdict ≡ None

silent-sends : (settings : Settings) (verdict : Verdict) → IsSilent verdict → SendsPacket settings verdict
silent-sends settings (Encapsulated from to port packet) silent = absurd (cc)
silent-sends settings (Delivered iid packet) silent = absurd (cc)
silent-sends settings (Native packet) silent = absurd (cc)
silent-sends settings Own silent = tt
silent-sends settings Local silent = tt
silent-sends settings (Control done) silent = tt
silent-sends settings (Drop why) silent = tt

abbrev AreSilent : List (Bool × Verdict) → Type 0
AreSilent [] = Unit {0}
AreSilent (rule ∷ rules) = IsSilent rule.1 × AreSilent rules

first-silent : (rules : List (Bool × Verdict)) → AreSilent rules → IfSome (first_failing rules) IsSilent
first-silent [] all = tt
first-silent ((true, verdict) ∷ rules) all = first-silent rules all.1
first-silent ((false, verdict) ∷ rules) all = all.0

case-sends : (settings : Settings) (o : Option Verdict) (other : Decision) → IfSome o IsSilent → Sends settings other → Sends settings (unless_decided o other)
case-sends settings None other silent sends = sends
case-sends settings (Some verdict) other silent sends = silent-sends settings verdict silent

-- a source port is a number of two octets
port-fits : (hash : ℕ) → source_port hash < 2 ^ 16
port-fits hash = omega arith

-- ### a packet from the site

module _ (settings : Settings) (v : View) (base : ℕ) (packet : FramePacket) (is : IsPacket base packet.octets) (other : is_own settings.locators (source_of (header_at packet.octets)) ≡ false) where
  natively-sends : (o : Option Unsent) → first_failing (forward_rules packet.octets) ≡ o → SendsPacket settings (natively packet.octets o)
  natively-sends (Some why) pass = tt
  natively-sends None pass =
      (forwarded-packet base packet.octets is pass, ap (is_own settings.locators) (forwarded-source base packet.octets is pass) ∙ other)

  action-sends : (iid : ℕ) (action : Action) → Sends settings (by_action iid packet action)
  action-sends iid NoAction = tt
  action-sends iid NativelyForward = natively-sends (first_failing (forward_rules packet.octets)) refl
  action-sends iid SendMapRequest = tt
  action-sends iid DropNoReason = tt
  action-sends iid DropPolicy = tt
  action-sends iid DropAuth = tt

  sent-sends : (lisp : LispHeader) (from to : Addr) (o : Option Unsent) → lisp.key ≤ 3 → first_failing (encap_rules packet.octets from) ≡ o → Sends settings (sent settings v lisp packet from to o)
  sent-sends lisp from to (Some why) key pass = tt
  sent-sends lisp from to None key pass =
      let port = source_port (hash_of packet) in
      (wrapped-packet base packet.octets from to port lisp is pass key, wrapped-arrives base packet.octets from to port lisp is pass (port-fits (hash_of packet)))

  ours-sends : (lisp : LispHeader) (to : Addr) (o : Option Addr) → lisp.key ≤ 3 → Sends settings (from_ours settings v lisp packet to o)
  ours-sends lisp to None key = tt
  ours-sends lisp to (Some from) key = sent-sends lisp from to (first_failing (encap_rules packet.octets from)) key refl

  towards-sends : (iid source dest : ℕ) (o : Option Addr) → Sends settings (towards settings v iid packet source dest o)
  towards-sends iid source dest None = tt
  towards-sends iid source dest (Some to) =
      ours-sends (lisp_header settings iid (v.echo_out to) source dest) to (ours settings.locators to) (omega arith)

  mapped-sends : (iid : ℕ) (o : Option Held) → Sends settings (mapped settings v iid packet o)
  mapped-sends iid None = tt
  mapped-sends iid (Some held) = by (length held.mapping.locators == 0)
    where
      to : Option Addr
      to = chosen settings v held.up held.mapping.locators (hash_of packet)

      source : ℕ
      source = home_version (home_of settings.databases iid (source_of packet.header))

      by : (b : Bool) → Sends settings (cond b (by_action iid packet (action_of held.mapping.action)) (towards settings v iid packet source held.mapping.version to))
      by true = action-sends iid (action_of held.mapping.action)
      by false = towards-sends iid source held.mapping.version to

  routed-sends : (iid : ℕ) → Sends settings (routed settings v iid packet)
  unfolding routed
  routed-sends iid =
      case-sends settings (first_failing (site_cases settings iid packet.header)) _
      (first-silent (site_cases settings iid packet.header) (refl, (refl, (refl, tt))))
      (mapped-sends iid (force_for v iid (dest_of packet.header)))

-- ### a packet in a tunnel

-- where no rule of two tables fails, none of the second does
second-passes : {X : Type 0} (first second : List (Bool × X)) → first_failing (first ++ second) ≡ None → first_failing second ≡ None
second-passes [] second none = none
second-passes ((true, answer) ∷ first) second none = second-passes first second none
second-passes ((false, answer) ∷ first) second none = cc

refusing-passes : (rules : List (Bool × Refused)) → first_failing (refusing rules) ≡ None → first_failing rules ≡ None
refusing-passes [] none = refl
refusing-passes ((true, refused) ∷ rules) none = refusing-passes rules none
refusing-passes ((false, refused) ∷ rules) none = cc

-- the packet inside keeps the rules of IP
inner-passes : (base : ℕ) (header : IpHeader) (octets : List ℕ) (udp : UdpHeader) → first_failing (opened_rules base header octets udp) ≡ None
    → first_failing (ip_rules (base + udp.at + 8 + 8) (drop 8 (payload_in octets udp))) ≡ None
unfolding opened_rules
inner-passes base header octets udp none =
    let payload = payload_in octets udp in
    let place = base + udp.at + 8 in
    let inner : List (Bool × OpenDrop) = refusing (ip_rules (place + 8) (drop 8 payload)) in
    let from_key : List (Bool × OpenDrop) = key_rules payload ++ inner in
    let from_lisp : List (Bool × OpenDrop) = refusing (lisp_rules place payload) ++ from_key in
    refusing-passes (ip_rules (place + 8) (drop 8 payload))
    (second-passes (key_rules payload) inner
    (second-passes (refusing (lisp_rules place payload)) from_key
    (second-passes (refusing (sum_rules base header octets udp true)) from_lisp none)))

module _ (settings : Settings) (v : View) (outer : IpHeader) (fits : class_of outer < 256) where
  leaves-sends : (base : ℕ) (lisp : LispHeader) (inner : List ℕ) (home : Database) (held : Option Held) (o : Option Undelivered) → IsPacket base inner → first_failing (deliver_rules inner outer) ≡ o → Sends settings (leaves outer lisp inner home held o)
  leaves-sends base lisp inner home held (Some why) is pass = tt
  leaves-sends base lisp inner home held None is pass = delivered-packet base outer inner is fits pass

  home-sends : (base : ℕ) (lisp : LispHeader) (inner : List ℕ) (held : Option Held) (o : Option Database) → IsPacket base inner → Sends settings (for_home outer lisp inner held o)
  home-sends base lisp inner held None is = tt
  home-sends base lisp inner held (Some home) is =
      case-sends settings (first_failing (version_cases lisp home held)) _
      (first-silent (version_cases lisp home held) (refl, (refl, tt)))
      (leaves-sends base lisp inner home held (first_failing (deliver_rules inner outer)) is refl)

  opened-sends : (base : ℕ) (payload : List ℕ) (o : Option OpenDrop) → AreOctets payload → (o ≡ None → first_failing (ip_rules base (drop 8 payload)) ≡ None) → Sends settings (opened settings v outer payload o)
  opened-sends base payload (Some why) are pass = tt
  opened-sends base payload None are pass =
      let lisp = lisp_header_at payload in
      let octets = drop 8 payload in
      home-sends base lisp (packet_in octets) (force_for v (iid_of lisp) (source_of (header_at octets))) (home_of settings.databases (iid_of lisp) (dest_of (header_at octets)))
      (packet-cut base octets (pass refl) (All-drop (λ octet. octet < 256) 8 payload are))

tunnelled-sends : (settings : Settings) (v : View) (d : Datagram) → AreOctets d.packet.octets → class_of d.packet.header < 256 → Sends settings (tunnelled settings v d)
tunnelled-sends settings v d are fits =
    let octets = d.packet.octets in
    opened-sends settings v d.packet.header fits (d.packet.base + d.udp.at + 8 + 8) (payload_in octets d.udp) (first_failing (opened_rules d.packet.base d.packet.header octets d.udp))
    (All-take (λ octet. octet < 256) _ _ (All-drop (λ octet. octet < 256) _ octets are))
    (inner-passes d.packet.base d.packet.header octets d.udp)

-- ### any frame

-- a packet of that course is this one, and what is settled sends nothing
abbrev Carries : Settings → FramePacket → Course → Type 0
Carries settings packet (Settled verdict) = IsSilent verdict
Carries settings packet (Data d) = d.packet ≡ packet
Carries settings packet (course.Control d) = Unit {0}
Carries settings packet (Leaving iid left) = (left ≡ packet) × (is_own settings.locators (source_of packet.header) ≡ false)

port-carries : (settings : Settings) (packet : FramePacket) (udp : UdpHeader) → Carries settings packet (by_port packet udp)
port-carries settings packet udp = by (udp.dest == 4341) (udp.dest == 4342 || udp.source == 4342)
  where
    by : (b c : Bool) → Carries settings packet (cond b (Data (record { packet = packet; udp = udp })) (cond c (course.Control (record { packet = packet; udp = udp })) (Settled (Drop NotTunnel))))
    by true c = refl
    by false true = tt
    by false false = refl

udp-carries : (settings : Settings) (packet : FramePacket) (answer : Result UdpHeader Refused) → Carries settings packet (by_udp packet answer)
udp-carries settings packet (Err refused) = refl
udp-carries settings packet (Ok udp) = port-carries settings packet udp

settled-carries : (settings : Settings) (packet : FramePacket) (o : Option Verdict) (c : Course) → IfSome o IsSilent → Carries settings packet c → Carries settings packet (unless_settled o c)
settled-carries settings packet None c silent carries = carries
settled-carries settings packet (Some verdict) c silent carries = silent

arriving-carries : (settings : Settings) (packet : FramePacket) → Carries settings packet (arriving packet)
unfolding arriving
arriving-carries settings packet =
    settled-carries settings packet (first_failing (datagram_cases packet.header)) _ (first-silent (datagram_cases packet.header) (refl, (refl, tt))) (udp-carries settings packet (datagram_read packet))

leaving-carries : (settings : Settings) (packet : FramePacket) (o : Option ℕ) → is_own settings.locators (source_of packet.header) ≡ false → Carries settings packet (leaving packet o)
leaving-carries settings packet None other = refl
leaving-carries settings packet (Some iid) other = (refl, other)

packet-carries : (settings : Settings) (vlan : ℕ) (packet : FramePacket) → Carries settings packet (packet_course settings vlan packet)
unfolding packet_course
packet-carries settings vlan packet = by (is_own settings.locators (source_of packet.header)) refl (is_own settings.locators (dest_of packet.header))
  where
    by : (b : Bool) → is_own settings.locators (source_of packet.header) ≡ b → (c : Bool) → Carries settings packet (cond b (Settled Own) (cond c (arriving packet) (leaving packet (instance_of settings.attachments vlan))))
    by true own c = refl
    by false own true = arriving-carries settings packet
    by false own false = leaving-carries settings packet (instance_of settings.attachments vlan) own

course-sends : (settings : Settings) (v : View) (c : Course) (packet : FramePacket) → IsPacket packet.base packet.octets → class_of packet.header < 256 → header_at packet.octets ≡ packet.header → Carries settings packet c → Sends settings (decide_course settings v c)
course-sends settings v (Settled verdict) packet is fits same carries = silent-sends settings verdict carries
course-sends settings v (Data d) packet is fits same carries =
    tunnelled-sends settings v d (subst (λ (p : FramePacket). AreOctets p.octets) (sym carries) is.octets) (subst (λ (p : FramePacket). class_of p.header < 256) (sym carries) fits)
course-sends settings v (course.Control d) packet is fits same carries = tt
course-sends settings v (Leaving iid left) packet is fits same carries =
    let other : is_own settings.locators (source_of (header_at packet.octets)) ≡ false = ap (λ (h : IpHeader). is_own settings.locators (source_of h)) same ∙ carries.1 in
    subst (λ (p : FramePacket). Sends settings (routed settings v iid p)) (sym carries.0) (routed-sends settings v packet.base packet is other iid)

behind_link : (frame : Frame) → AreOctets frame.octets → AreOctets (link_octets frame)
behind_link frame are = by frame.link
  where
    by : (l : Link) → AreOctets (elim l [ Ethernet ↦ ethernet_octets frame.octets | Raw ↦ frame.octets ])
    by Ethernet = All-drop (λ octet. octet < 256) (type_place frame.octets + 2) frame.octets are
    by Raw = are

neither-refuses : (a b : Option Refused) → option_or a b ≡ None → b ≡ None
neither-refuses None b none = none
neither-refuses (Some refused) b none = cc

refused-sends : (settings : Settings) (v : View) (frame : Frame) (o : Option Refused) → frame_refusal frame ≡ o → AreOctets frame.octets → Sends settings (decide_course settings v (unless_refused o (packet_course settings (link_vlan frame) (frame_packet frame))))
refused-sends settings v frame (Some refused) is are = tt
refused-sends settings v frame None is are =
    let octets = behind_link frame are in
    let lawful = neither-refuses (first_failing (link_rules frame)) (first_failing (ip_rules (link_place frame) (link_octets frame))) is in
    course-sends settings v (packet_course settings (link_vlan frame) (frame_packet frame)) (frame_packet frame)
    (packet-cut (link_place frame) (link_octets frame) lawful octets) (class-octet (link_octets frame) octets) (header-cut (link_place frame) (link_octets frame) lawful)
    (packet-carries settings (link_vlan frame) (frame_packet frame))

-- a decision on a frame of octets sends exactly one packet, or none
pub decided-sends : (settings : Settings) (v : View) (frame : Frame) → AreOctets frame.octets → SendsPacket settings (decide_by settings v frame).verdict
unfolding decide_by
decided-sends settings v frame are = refused-sends settings v frame (frame_refusal frame) refl are
