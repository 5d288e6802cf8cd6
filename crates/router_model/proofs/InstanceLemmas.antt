-- What a decision on a frame of an instance asks of a view.
use Rattle.std.proofs.Common.{◌≡◌, ℕ, ◌==◌, ◌||◌, ◌&&◌, Bool, true, false, not, cond, List, [], ◌∷◌, drop, length, Option, Some, None, is_some, option_and_then, option_map, slice_get, refl, sym, ap, subst, ◌∙◌}
use Rattle.std.proofs.lemmas.Option.{same_Some}
use Rattle.octets.specs.Rules.{first_failing}
use Rattle.octets.specs.declared.refused.Refused.{Refused}
use Rattle.ip_headers.specs.Addr.{width}
use Rattle.ip_headers.specs.Ip.{dest_of, header_at, packet_in, payload_place, source_of}
use Rattle.ip_headers.specs.Udp.{answer_of, payload_in, udp_at, udp_rules}
use Rattle.ip_headers.specs.declared.addr.Addr.{Addr}
use Rattle.ip_headers.specs.declared.header.IpHeader.{IpHeader}
use Rattle.ip_headers.specs.declared.header.UdpHeader.{UdpHeader}
use Rattle.lisp_header.specs.Header.{header_at as lisp_header_at}
use Rattle.lisp_header.specs.declared.header.LispHeader.{LispHeader}
use Rattle.encap.specs.Rules.{Unsent, encap_rules}
use Rattle.encap.specs.Wrapped.{wrapped}
use Rattle.decap.specs.Opened.{opened_rules}
use Rattle.decap.specs.declared.fault.OpenDrop.{OpenDrop}
use Rattle.capture_io.specs.Link.{link_vlan}
use Rattle.mapping_records.specs.declared.record.Locator.{Locator}
use Rattle.lisp_settings.specs.Home.{home_of}
use Rattle.lisp_settings.specs.declared.settings.Settings.{Settings}
use Rattle.locator_choice.specs.Choice as choice
use Rattle.locator_choice.specs.Hash.{source_port}
use Rattle.router_log.specs.declared.notice.Notice.TheVariants as notice
use Rattle.router_log.specs.declared.verdict.Verdict.{Verdict}
use Rattle.router_log.specs.declared.verdict.Reason.TheVariants.{NotTunnel}
use Rattle.router_log.specs.declared.verdict.Verdict.TheVariants.{Encapsulated, Own, Drop}
use Rattle.router_model.specs.Choice.{candidates, chosen}
use Rattle.router_model.specs.Course.{Course, Datagram, FramePacket, Settled, Data, Control, arriving, by_udp, datagram_cases, frame_packet, frame_refusal, leaving, packet_course, unless_refused, unless_settled}
use Rattle.router_model.specs.Decide.{decide_by, decide_course, for_home, force_for, from_ours, given, hash_of, home_version, iid_of, lisp_header, mapped, opened, routed, sent, site_cases, towards, tunnelled, unless_decided}
use Rattle.router_model.specs.Isolation.{AgreesDecides, AgreesIn, NoneAsks, packet_instance, tunnel_instance}
use Rattle.router_model.specs.Mappings.{Held}
use Rattle.router_model.specs.Site.{instance_of, is_own, ours}
use Rattle.router_model.specs.View.{View}

module _ (settings : Settings) (i : ℕ) (v w : View) (a : AgreesIn i v w) where
  candidates-alike : (ups : List Bool) (locators : List Locator) → candidates settings v ups locators ≡ candidates settings w ups locators
  candidates-alike [] locators = refl
  candidates-alike (up ∷ ups) [] = refl
  candidates-alike (up ∷ ups) (locator ∷ locators) = λ j.
      record {
        usable = (not (locator.priority == 255) && not (is_own settings.locators locator.addr)) && (is_some (ours settings.locators locator.addr) && (up && a.up locator.addr j));
        priority = locator.priority;
        weight = locator.weight;
      }
      ∷ candidates-alike ups locators j

  chosen-alike : (ups : List Bool) (locators : List Locator) (hash : ℕ) → chosen settings v ups locators hash ≡ chosen settings w ups locators hash
  chosen-alike ups locators hash = ap (λ c. option_map (λ (locator : Locator). locator.addr) (option_and_then (slice_get locators) (choice.chosen c hash))) (candidates-alike ups locators)

  sent-alike : (lisp : LispHeader) (packet : FramePacket) (from to : Addr) (o : Option Unsent) → sent settings v lisp packet from to o ≡ sent settings w lisp packet from to o
  sent-alike lisp packet from to (Some why) = refl
  sent-alike lisp packet from to None = λ j. record {
    verdict = Encapsulated from to (source_port (hash_of packet)) (wrapped packet.octets from to (source_port (hash_of packet)) lisp);
    notices = given (settings.echo && a.may_start to j) (notice.EchoDue to);
  }

  from_ours-alike : (lisp : LispHeader) (packet : FramePacket) (to : Addr) (o : Option Addr) → from_ours settings v lisp packet to o ≡ from_ours settings w lisp packet to o
  from_ours-alike lisp packet to None = refl
  from_ours-alike lisp packet to (Some from) = sent-alike lisp packet from to (first_failing (encap_rules packet.octets from))

  towards-alike : (iid : ℕ) (packet : FramePacket) (source dest : ℕ) (o : Option Addr) → towards settings v iid packet source dest o ≡ towards settings w iid packet source dest o
  towards-alike iid packet source dest None = refl
  towards-alike iid packet source dest (Some to) =
      ap (λ out. from_ours settings v (lisp_header settings iid out source dest) packet to (ours settings.locators to)) (a.echo_out to)
      ∙ from_ours-alike (lisp_header settings iid (w.echo_out to) source dest) packet to (ours settings.locators to)

  mapped-alike : (iid : ℕ) (packet : FramePacket) (o : Option Held) → mapped settings v iid packet o ≡ mapped settings w iid packet o
  mapped-alike iid packet None = refl
  mapped-alike iid packet (Some held) = by (length held.mapping.locators == 0) refl
    where
      version : ℕ
      version = home_version (home_of settings.databases iid (source_of packet.header))

      by : (b : Bool) → (length held.mapping.locators == 0) ≡ b → mapped settings v iid packet (Some held) ≡ mapped settings w iid packet (Some held)
      by true is = rw is refl
      by false is = rw is (
          ap (towards settings v iid packet version held.mapping.version) (chosen-alike held.up held.mapping.locators (hash_of packet))
          ∙ towards-alike iid packet version held.mapping.version (chosen settings w held.up held.mapping.locators (hash_of packet)))

  routed-alike : (packet : FramePacket) → routed settings v i packet ≡ routed settings w i packet
  unfolding routed
  routed-alike packet =
      ap (unless_decided (first_failing (site_cases settings i packet.header)))
      (ap (mapped settings v i packet) (a.in_force (dest_of packet.header) (width (dest_of packet.header)))
      ∙ mapped-alike i packet (force_for w i (dest_of packet.header)))

  tunnelled-alike : (d : Datagram) → iid_of (lisp_header_at (payload_in d.packet.octets d.udp)) ≡ i → tunnelled settings v d ≡ tunnelled settings w d
  tunnelled-alike d is = by (first_failing (opened_rules d.packet.base d.packet.header d.packet.octets d.udp))
    where
      payload : List ℕ
      payload = payload_in d.packet.octets d.udp

      lisp : LispHeader
      lisp = lisp_header_at payload

      inner : IpHeader
      inner = header_at (drop 8 payload)

      same : force_for v (iid_of lisp) (source_of inner) ≡ force_for w (iid_of lisp) (source_of inner)
      same = subst (λ k. force_for v k (source_of inner) ≡ force_for w k (source_of inner)) (sym is) (a.in_force (source_of inner) (width (source_of inner)))

      by : (o : Option OpenDrop) → opened settings v d.packet.header payload o ≡ opened settings w d.packet.header payload o
      by (Some why) = refl
      by None = ap (λ held. for_home d.packet.header lisp (packet_in (drop 8 payload)) held (home_of settings.databases (iid_of lisp) (dest_of inner))) same

  packet-alike : (vlan : ℕ) (packet : FramePacket) → packet_instance settings vlan packet ≡ Some i → decide_course settings v (packet_course settings vlan packet) ≡ decide_course settings w (packet_course settings vlan packet)
  unfolding packet_course arriving
  packet-alike vlan packet is = by (is_own settings.locators (source_of packet.header)) (is_own settings.locators (dest_of packet.header)) is
    where
      udp : UdpHeader
      udp = udp_at (payload_place packet.header) packet.octets

      ports : (b c : Bool) → tunnel_instance packet ≡ i → decide_course settings v (cond b (Data (record { packet = packet; udp = udp })) (cond c (Control (record { packet = packet; udp = udp })) (Settled (Drop NotTunnel)))) ≡ decide_course settings w (cond b (Data (record { packet = packet; udp = udp })) (cond c (Control (record { packet = packet; udp = udp })) (Settled (Drop NotTunnel))))
      ports true c is = tunnelled-alike (record { packet = packet; udp = udp }) is
      ports false true is = refl
      ports false false is = refl

      read : (o : Option Refused) → tunnel_instance packet ≡ i → decide_course settings v (by_udp packet (answer_of o udp)) ≡ decide_course settings w (by_udp packet (answer_of o udp))
      read (Some refused) is = refl
      read None is = ports (udp.dest == 4341) (udp.dest == 4342 || udp.source == 4342) is

      arrives : (o : Option Verdict) → tunnel_instance packet ≡ i → let course = by_udp packet (answer_of (first_failing (udp_rules packet.base (payload_place packet.header) packet.octets)) udp) in decide_course settings v (unless_settled o course) ≡ decide_course settings w (unless_settled o course)
      arrives (Some verdict) is = refl
      arrives None is = read (first_failing (udp_rules packet.base (payload_place packet.header) packet.octets)) is

      leaves : (o : Option ℕ) → o ≡ Some i → decide_course settings v (leaving packet o) ≡ decide_course settings w (leaving packet o)
      leaves None is = refl
      leaves (Some k) is = subst (λ k. routed settings v k packet ≡ routed settings w k packet) (sym (same_Some k i is)) (routed-alike packet)

      by : (b c : Bool) → cond c (Some (tunnel_instance packet)) (instance_of settings.attachments vlan) ≡ Some i → decide_course settings v (cond b (Settled Own) (cond c (arriving packet) (leaving packet (instance_of settings.attachments vlan)))) ≡ decide_course settings w (cond b (Settled Own) (cond c (arriving packet) (leaving packet (instance_of settings.attachments vlan))))
      by true c is = refl
      by false true is = arrives (first_failing (datagram_cases packet.header)) (same_Some (tunnel_instance packet) i is)
      by false false is = leaves (instance_of settings.attachments vlan) is

  refused-alike : (o : Option Refused) (course : Course) → decide_course settings v course ≡ decide_course settings w course → decide_course settings v (unless_refused o course) ≡ decide_course settings w (unless_refused o course)
  refused-alike (Some refused) course same = refl
  refused-alike None course same = same

pub agrees-decides : AgreesDecides
unfolding decide_by
agrees-decides settings i v w frame a is =
    refused-alike settings i v w a (frame_refusal frame) (packet_course settings (link_vlan frame) (frame_packet frame))
    (packet-alike settings i v w a (link_vlan frame) (frame_packet frame) is)

-- without an instance a rule or the want of an attachment settles it
packet-none : (settings : Settings) (v w : View) (vlan : ℕ) (packet : FramePacket) → packet_instance settings vlan packet ≡ None → decide_course settings v (packet_course settings vlan packet) ≡ decide_course settings w (packet_course settings vlan packet)
unfolding packet_course
packet-none settings v w vlan packet is = by (is_own settings.locators (source_of packet.header)) (is_own settings.locators (dest_of packet.header)) is
  where
    leaves : (o : Option ℕ) → o ≡ None → decide_course settings v (leaving packet o) ≡ decide_course settings w (leaving packet o)
    leaves None is = refl
    leaves (Some k) is = cc

    by : (b c : Bool) → cond c (Some (tunnel_instance packet)) (instance_of settings.attachments vlan) ≡ None → decide_course settings v (cond b (Settled Own) (cond c (arriving packet) (leaving packet (instance_of settings.attachments vlan)))) ≡ decide_course settings w (cond b (Settled Own) (cond c (arriving packet) (leaving packet (instance_of settings.attachments vlan))))
    by true c is = refl
    by false true is = cc
    by false false is = leaves (instance_of settings.attachments vlan) is

pub none-asks : NoneAsks
unfolding decide_by
none-asks settings v w frame is = refuse (frame_refusal frame)
  where
    refuse : (o : Option Refused) → let course = packet_course settings (link_vlan frame) (frame_packet frame) in decide_course settings v (unless_refused o course) ≡ decide_course settings w (unless_refused o course)
    refuse (Some refused) = refl
    refuse None = packet-none settings v w (link_vlan frame) (frame_packet frame) is
