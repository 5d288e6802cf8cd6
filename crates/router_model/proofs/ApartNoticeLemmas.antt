-- A decision on a frame of an instance tells of EIDs of that instance alone.
use Rattle.std.proofs.Common.{◌≡◌, ℕ, ◌^◌, ◌==◌, ◌||◌, ◌&&◌, nat_lt, Bool, true, false, cond, List, [], ◌∷◌, ◌++◌, drop, length, Option, Some, None, option_and_then, option_map, option_to_list, refl, sym, ap, subst, ◌∙◌}
use Rattle.std.specs.Prelude.{IsTrue}
use Rattle.std.specs.List.{list_all}
use Rattle.std.proofs.lemmas.Bool.{eq-eqb, ltb-true}
use Rattle.std.proofs.lemmas.Option.{same_Some}
use Rattle.octets.specs.Rules.{first_failing}
use Rattle.octets.specs.declared.refused.Refused.{Refused}
use Rattle.ip_headers.specs.Addr.{width}
use Rattle.ip_headers.specs.Ip.{dest_of, header_at, packet_in, payload_place, source_of}
use Rattle.ip_headers.specs.Udp.{answer_of, payload_in, udp_at, udp_rules}
use Rattle.ip_headers.specs.declared.addr.Addr.{Addr}
use Rattle.ip_headers.specs.declared.header.IpHeader.{IpHeader}
use Rattle.ip_headers.specs.declared.header.UdpHeader.{UdpHeader}
use Rattle.capture_io.specs.Link.{link_vlan}
use Rattle.lisp_header.specs.Header.{header_at as lisp_header_at}
use Rattle.lisp_header.specs.Versions.{newer}
use Rattle.lisp_header.specs.declared.header.LispHeader.{LispHeader}
use Rattle.encap.specs.Rules.{Unsent, encap_rules}
use Rattle.decap.specs.Delivered.{Undelivered, deliver_rules}
use Rattle.decap.specs.Opened.{opened_rules}
use Rattle.decap.specs.declared.fault.OpenDrop.{OpenDrop}
use Rattle.mapping_records.specs.Action.{action_of}
use Rattle.mapping_records.specs.declared.action.Action.{Action}
use Rattle.mapping_records.specs.declared.action.Action.TheVariants.{NoAction, NativelyForward, SendMapRequest, DropNoReason, DropPolicy, DropAuth}
use Rattle.mapping_records.specs.declared.eid.Eid.{Eid}
use Rattle.ip_headers.specs.declared.prefix.Prefix.{Prefix}
use Rattle.lisp_settings.specs.AddressText.{lawful_prefix, some_if}
use Rattle.lisp_settings.specs.Home.{home_of}
use Rattle.lisp_settings.specs.Settings.{eid_of}
use Rattle.lisp_settings.specs.declared.settings.Database.{Database}
use Rattle.lisp_settings.specs.declared.settings.Settings.{Settings}
use Rattle.router_log.specs.declared.decision.Decision.{Decision}
use Rattle.router_log.specs.declared.notice.Notice.{Notice}
use Rattle.router_log.specs.declared.notice.Notice.TheVariants as notice
use Rattle.router_log.specs.declared.verdict.Reason.{Reason}
use Rattle.router_log.specs.declared.verdict.Reason.TheVariants as reason
use Rattle.router_log.specs.declared.verdict.Verdict.{Verdict}
use Rattle.router_log.specs.declared.verdict.Verdict.TheVariants.{Drop, Own}
use Rattle.router_model.specs.Alone.{NoticesOfOne, is_told_in}
use Rattle.router_model.specs.Choice.{chosen}
use Rattle.router_model.specs.Course.{Course, Datagram, Settled, Data, Control, FramePacket, arriving, by_udp, datagram_cases, frame_packet, frame_refusal, leaving, packet_course, unless_refused, unless_settled}
use Rattle.router_model.specs.Decide.{asking, bits_notice, by_action, decide_by, decide_course, delivery_notices, dest_version, for_home, force_for, from_ours, given, hash_of, home_version, iid_of, is_version, leaves, lisp_header, mapped, nonce_notices, opened, refresh_notice, routed, sent, site_cases, solicit_notice, towards, tunnelled, unless_decided, version_cases}
use Rattle.router_model.specs.Hosts.{host_eid}
use Rattle.router_model.specs.Isolation.{packet_instance, tunnel_instance}
use Rattle.router_model.specs.Mappings.{Held}
use Rattle.router_model.specs.Site.{instance_of, is_own, ours}
use Rattle.router_model.specs.View.{View}
use Rattle.router_model.proofs.ApartTableLemmas.{force-iid}
use Rattle.router_model.proofs.PartsLemmas.{and_both}

-- the EID of an address is of the instance
host-iid : (iid : ℕ) (addr : Addr) (eid : Eid) → host_eid iid addr ≡ Some eid → eid.iid ≡ iid
host-iid iid addr eid is = by (lawful_prefix addr (width addr)) is
  where
    made : (test : Bool) (make : IsTrue test → Eid) → ((passed : IsTrue test) → (make passed).iid ≡ iid) → some_if test make ≡ Some eid → eid.iid ≡ iid
    made true make all is = sym (ap (λ (e : Eid). e.iid) (same_Some (make refl) eid is)) ∙ all refl
    made false make all is = cc

    by : (o : Option Prefix) → option_and_then (eid_of iid) o ≡ Some eid → eid.iid ≡ iid
    by None is = cc
    by (Some prefix) is = made (nat_lt iid (2 ^ 24)) (λ below. record { iid = iid; prefix = prefix; in_range = ltb-true iid (2 ^ 24) below }) (λ below. refl) is

module _ (i : ℕ) where
  -- all of them are of no other instance
  abbrev AreMine : List Notice → Type 0
  AreMine notices = list_all (is_told_in i) notices ≡ true

  -- so of a mapping, if there is one
  abbrev IsMine : Option Held → Type 0
  IsMine o = (held : Held) → o ≡ Some held → held.eid.iid ≡ i

  one-mine : (told : Notice) → is_told_in i told ≡ true → AreMine (told ∷ [])
  one-mine told is = ap (λ b. b && true) is

  given-mine : (b : Bool) (told : Notice) → is_told_in i told ≡ true → AreMine (given b told)
  given-mine true told is = one-mine told is
  given-mine false told is = refl

  join-mine : (xs ys : List Notice) → AreMine xs → AreMine ys → AreMine (xs ++ ys)
  join-mine [] ys p q = q
  join-mine (x ∷ xs) ys p q =
      let both = and_both (is_told_in i x) _ p in
      rw (both.0, join-mine xs ys both.1 q) refl

  case-mine : (o : Option Verdict) (other : Decision) → AreMine other.notices → AreMine (unless_decided o other).notices
  case-mine None other mine = mine
  case-mine (Some verdict) other mine = refl

  -- ### a packet from the site

  asking-mine : (header : IpHeader) (why : Reason) → AreMine (asking i header why).notices
  asking-mine header why = by (host_eid i (dest_of header)) refl
    where
      by : (o : Option Eid) → host_eid i (dest_of header) ≡ o → AreMine (option_to_list (option_map (λ eid. notice.Ask eid (Some (source_of header))) o))
      by None is = refl
      by (Some eid) is = one-mine (notice.Ask eid (Some (source_of header))) (eq-eqb eid.iid i (host-iid i (dest_of header) eid is))

  action-mine : (packet : FramePacket) (action : Action) → AreMine (by_action i packet action).notices
  action-mine packet NoAction = refl
  action-mine packet NativelyForward = refl
  action-mine packet SendMapRequest = asking-mine packet.header reason.SendRequest
  action-mine packet DropNoReason = refl
  action-mine packet DropPolicy = refl
  action-mine packet DropAuth = refl

  sent-mine : (settings : Settings) (v : View) (lisp : LispHeader) (packet : FramePacket) (from to : Addr) (o : Option Unsent) → AreMine (sent settings v lisp packet from to o).notices
  sent-mine settings v lisp packet from to (Some why) = refl
  sent-mine settings v lisp packet from to None = given-mine (settings.echo && v.may_start to) (notice.EchoDue to) refl

  ours-mine : (settings : Settings) (v : View) (lisp : LispHeader) (packet : FramePacket) (to : Addr) (o : Option Addr) → AreMine (from_ours settings v lisp packet to o).notices
  ours-mine settings v lisp packet to None = refl
  ours-mine settings v lisp packet to (Some from) = sent-mine settings v lisp packet from to (first_failing (encap_rules packet.octets from))

  towards-mine : (settings : Settings) (v : View) (packet : FramePacket) (source dest : ℕ) (o : Option Addr) → AreMine (towards settings v i packet source dest o).notices
  towards-mine settings v packet source dest None = refl
  towards-mine settings v packet source dest (Some to) =
      ours-mine settings v (lisp_header settings i (v.echo_out to) source dest) packet to (ours settings.locators to)

  mapped-mine : (settings : Settings) (v : View) (packet : FramePacket) (o : Option Held) → AreMine (mapped settings v i packet o).notices
  mapped-mine settings v packet None = asking-mine packet.header reason.Miss
  mapped-mine settings v packet (Some held) = by (length held.mapping.locators == 0)
    where
      to : Option Addr
      to = chosen settings v held.up held.mapping.locators (hash_of packet)

      source : ℕ
      source = home_version (home_of settings.databases i (source_of packet.header))

      by : (b : Bool) → AreMine (cond b (by_action i packet (action_of held.mapping.action)) (towards settings v i packet source held.mapping.version to)).notices
      by true = action-mine packet (action_of held.mapping.action)
      by false = towards-mine settings v packet source held.mapping.version to

  routed-mine : (settings : Settings) (v : View) (packet : FramePacket) → AreMine (routed settings v i packet).notices
  unfolding routed
  routed-mine settings v packet =
      case-mine (first_failing (site_cases settings i packet.header)) _ (mapped-mine settings v packet (force_for v i (dest_of packet.header)))

  -- ### a packet in a tunnel

  bits-mine : (rloc : Addr) (lisp : LispHeader) (o : Option Held) → IsMine o → AreMine (option_to_list (option_and_then (λ bits. bits_notice rloc lisp bits o) lisp.status))
  bits-mine rloc lisp o mine = by lisp.status o mine
    where
      by : (status : Option ℕ) (o : Option Held) → IsMine o → AreMine (option_to_list (option_and_then (λ bits. bits_notice rloc lisp bits o) status))
      by None o mine = refl
      by (Some bits) None mine = refl
      by (Some bits) (Some held) mine = ap (λ b. b && true) (eq-eqb held.eid.iid i (mine held refl))

  nonces-mine : (rloc : Addr) (asks : Bool) (o : Option ℕ) → AreMine (nonce_notices rloc asks o)
  nonces-mine rloc asks None = refl
  nonces-mine rloc true (Some nonce) = refl
  nonces-mine rloc false (Some nonce) = refl

  refresh-mine : (lisp : LispHeader) (o : Option Held) → IsMine o → AreMine (refresh_notice lisp o)
  refresh-mine lisp None mine = refl
  refresh-mine lisp (Some held) mine = given-mine _ (notice.Refresh held.eid) (eq-eqb held.eid.iid i (mine held refl))

  delivery-mine : (rloc : Addr) (lisp : LispHeader) (home : Database) (held : Option Held) → IsMine held → AreMine (delivery_notices rloc lisp home held)
  delivery-mine rloc lisp home held mine =
      join-mine (option_to_list (option_and_then (λ bits. bits_notice rloc lisp bits held) lisp.status)) _ (bits-mine rloc lisp held mine)
      (join-mine (nonce_notices rloc lisp.echo lisp.nonce) _ (nonces-mine rloc lisp.echo lisp.nonce)
      (join-mine (solicit_notice rloc lisp home) _ (given-mine (is_version (dest_version lisp) && newer home.version (dest_version lisp)) (notice.Solicit rloc home.eid) refl)
      (refresh-mine lisp held mine)))

  leaves-mine : (outer : IpHeader) (lisp : LispHeader) (inner : List ℕ) (home : Database) (held : Option Held) (o : Option Undelivered) → IsMine held → AreMine (leaves outer lisp inner home held o).notices
  leaves-mine outer lisp inner home held (Some why) mine = refl
  leaves-mine outer lisp inner home held None mine = delivery-mine (source_of outer) lisp home held mine

  home-mine : (outer : IpHeader) (lisp : LispHeader) (inner : List ℕ) (held : Option Held) (o : Option Database) → IsMine held → AreMine (for_home outer lisp inner held o).notices
  home-mine outer lisp inner held None mine = refl
  home-mine outer lisp inner held (Some home) mine =
      case-mine (first_failing (version_cases lisp home held)) _ (leaves-mine outer lisp inner home held (first_failing (deliver_rules inner outer)) mine)

  tunnelled-mine : (settings : Settings) (v : View) (d : Datagram) → iid_of (lisp_header_at (payload_in d.packet.octets d.udp)) ≡ i → AreMine (tunnelled settings v d).notices
  tunnelled-mine settings v d is = by (first_failing (opened_rules d.packet.base d.packet.header d.packet.octets d.udp))
    where
      payload : List ℕ
      payload = payload_in d.packet.octets d.udp

      lisp : LispHeader
      lisp = lisp_header_at payload

      inner : IpHeader
      inner = header_at (drop 8 payload)

      by : (o : Option OpenDrop) → AreMine (opened settings v d.packet.header payload o).notices
      by (Some why) = refl
      by None =
          home-mine d.packet.header lisp (packet_in (drop 8 payload)) (force_for v (iid_of lisp) (source_of inner)) (home_of settings.databases (iid_of lisp) (dest_of inner))
          (λ held found. force-iid v.mappings (iid_of lisp) (source_of inner) (width (source_of inner)) held found ∙ is)

  -- ### any frame

  packet-mine : (settings : Settings) (v : View) (vlan : ℕ) (packet : FramePacket) → packet_instance settings vlan packet ≡ Some i → AreMine (decide_course settings v (packet_course settings vlan packet)).notices
  unfolding packet_course arriving
  packet-mine settings v vlan packet is = by (is_own settings.locators (source_of packet.header)) (is_own settings.locators (dest_of packet.header)) is
    where
      udp : UdpHeader
      udp = udp_at (payload_place packet.header) packet.octets

      ports : (b c : Bool) → tunnel_instance packet ≡ i → AreMine (decide_course settings v (cond b (Data (record { packet = packet; udp = udp })) (cond c (Control (record { packet = packet; udp = udp })) (Settled (Drop reason.NotTunnel))))).notices
      ports true c is = tunnelled-mine settings v (record { packet = packet; udp = udp }) is
      ports false true is = refl
      ports false false is = refl

      read : (o : Option Refused) → tunnel_instance packet ≡ i → AreMine (decide_course settings v (by_udp packet (answer_of o udp))).notices
      read (Some refused) is = refl
      read None is = ports (udp.dest == 4341) (udp.dest == 4342 || udp.source == 4342) is

      arrives : (o : Option Verdict) → tunnel_instance packet ≡ i → AreMine (decide_course settings v (unless_settled o (by_udp packet (answer_of (first_failing (udp_rules packet.base (payload_place packet.header) packet.octets)) udp)))).notices
      arrives (Some verdict) is = refl
      arrives None is = read (first_failing (udp_rules packet.base (payload_place packet.header) packet.octets)) is

      leaving-mine : (o : Option ℕ) → o ≡ Some i → AreMine (decide_course settings v (leaving packet o)).notices
      leaving-mine None is = refl
      leaving-mine (Some k) is = subst (λ k. AreMine (routed settings v k packet).notices) (sym (same_Some k i is)) (routed-mine settings v packet)

      by : (b c : Bool) → cond c (Some (tunnel_instance packet)) (instance_of settings.attachments vlan) ≡ Some i → AreMine (decide_course settings v (cond b (Settled Own) (cond c (arriving packet) (leaving packet (instance_of settings.attachments vlan))))).notices
      by true c is = refl
      by false true is = arrives (first_failing (datagram_cases packet.header)) (same_Some (tunnel_instance packet) i is)
      by false false is = leaving-mine (instance_of settings.attachments vlan) is

  refused-mine : (settings : Settings) (v : View) (o : Option Refused) (course : Course) → AreMine (decide_course settings v course).notices → AreMine (decide_course settings v (unless_refused o course)).notices
  refused-mine settings v (Some refused) course mine = refl
  refused-mine settings v None course mine = mine

pub notices-of-one : NoticesOfOne
unfolding decide_by
notices-of-one settings i v frame is =
    refused-mine i settings v (frame_refusal frame) (packet_course settings (link_vlan frame) (frame_packet frame))
    (packet-mine i settings v (link_vlan frame) (frame_packet frame) is)
