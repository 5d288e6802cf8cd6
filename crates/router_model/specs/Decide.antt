-- The decision on a frame, with its notices (RFC 9300, sections 5.3 and 10; RFC 9302, section 7; this router's order of
-- cases).
use Rattle.std.specs.Prelude.{ℕ, ◌/◌, ◌%◌, ◌^◌, ◌==◌, ◌||◌, ◌&&◌, not, Bool, true, false, List, [], ◌∷◌, ◌++◌, drop, length, Option, Some, None, is_none, is_some, option_and_then, option_map, option_to_list, unwrap_or, if◌then◌else◌}
use Rattle.octets.specs.Rules.{first_failing}
use Rattle.ip_headers.specs.Addr.{width}
use Rattle.ip_headers.specs.Ip.{dest_of, header_at, packet_in, source_of}
use Rattle.ip_headers.specs.Tuple.{five_tuple_of}
use Rattle.ip_headers.specs.Udp.{payload_in}
use Rattle.ip_headers.specs.declared.addr.Addr.{Addr}
use Rattle.ip_headers.specs.declared.addr.Addr.TheVariants.{V4, V6}
use Rattle.ip_headers.specs.declared.header.IpHeader.{IpHeader}
use Rattle.lisp_header.specs.Header.{header_at as lisp_header_at}
use Rattle.lisp_header.specs.Versions.{newer}
use Rattle.lisp_header.specs.declared.header.LispHeader.{LispHeader}
use Rattle.encap.specs.Forwarded.{forwarded}
use Rattle.encap.specs.Rules.{Unsent, encap_rules, forward_rules}
use Rattle.encap.specs.Rules as encap
use Rattle.encap.specs.Wrapped.{wrapped}
use Rattle.decap.specs.Delivered.{Undelivered, deliver_rules, delivered}
use Rattle.decap.specs.Delivered as decap
use Rattle.decap.specs.Opened.{opened_rules}
use Rattle.decap.specs.declared.fault.OpenDrop.{OpenDrop}
use Rattle.decap.specs.declared.fault.OpenDrop.TheVariants as open_drop
use Rattle.capture_io.specs.Frame.{Frame}
use Rattle.mapping_records.specs.Action.{action_of}
use Rattle.mapping_records.specs.declared.action.Action.{Action}
use Rattle.mapping_records.specs.declared.action.Action.TheVariants as action
use Rattle.lisp_settings.specs.Home.{home_of}
use Rattle.lisp_settings.specs.declared.settings.Database.{Database}
use Rattle.lisp_settings.specs.declared.settings.Settings.{Settings}
use Rattle.locator_choice.specs.Hash.{flow_hash, source_port}
use Rattle.router_log.specs.declared.decision.Decision.{Decision}
use Rattle.router_log.specs.declared.kept.EchoOut.{EchoOut}
use Rattle.router_log.specs.declared.kept.EchoOut.TheVariants as echo
use Rattle.router_log.specs.declared.notice.Notice.{Notice}
use Rattle.router_log.specs.declared.notice.Notice.TheVariants as notice
use Rattle.router_log.specs.declared.verdict.Reason.{Reason}
use Rattle.router_log.specs.declared.verdict.Reason.TheVariants as reason
use Rattle.router_log.specs.declared.verdict.Reason.TheVariants.{NotTunnel, Encrypted, NotOurs, DestVersionNewer, SourceVersionOlder, CongestionMark, TtlExpired, Multicast, NotSite, Miss, NoAction, SendRequest, DropNoReason, DropPolicy, DropAuth, NoLocator, TooBig}
use Rattle.router_log.specs.declared.verdict.Verdict.{Verdict}
use Rattle.router_log.specs.declared.verdict.Verdict.TheVariants.{Local, Encapsulated, Delivered, Native, Drop}
use Rattle.router_model.specs.Choice.{chosen}
use Rattle.router_model.specs.Course.{Course, Datagram, FramePacket, Settled, Data, Control, Leaving, course_of}
use Rattle.router_model.specs.Hosts.{host_eid}
use Rattle.router_model.specs.Journal.{Journal}
use Rattle.router_model.specs.Mappings.{Held, force}
use Rattle.router_model.specs.Site.{ours, own_bits}
use Rattle.router_model.specs.Standing.{standing}
use Rattle.router_model.specs.View.{View, view}

-- a decision with a verdict and no notices
abbrev pub alone : Verdict → Decision
alone verdict = record { verdict = verdict; notices = [] }

-- a decision to drop, without notices
abbrev pub drops : Reason → Decision
drops why = alone (Drop why)

-- the decision by a verdict that settles it, or else the decision given
abbrev pub unless_decided : Option Verdict → Decision → Decision
unless_decided None decision = decision
unless_decided (Some decided) decision = alone decided

-- the mapping in force for an address of an instance
abbrev pub force_for : View → ℕ → Addr → Option Held
force_for v iid addr = force v.mappings iid addr (width addr)

-- the list of one notice where a test holds, else empty
abbrev pub given : Bool → Notice → List Notice
given true notice = notice ∷ []
given false notice = []

-- ### Map-Versions

-- whether a number is a Map-Version: 0 is none (RFC 9302, section 6.1)
abbrev pub is_version : ℕ → Bool
is_version version = not (version == 0)

-- whether both numbers are versions, and the first is newer
abbrev pub is_newer : ℕ → ℕ → Bool
is_newer a b = is_version a && (is_version b && newer a b)

-- the source version in a LISP header, 0 where it has no versions; `dest_version` likewise
abbrev pub source_version : LispHeader → ℕ
source_version lisp = (unwrap_or lisp.versions (0, 0)).0

abbrev pub dest_version : LispHeader → ℕ
dest_version lisp = (unwrap_or lisp.versions (0, 0)).1

-- the version of the mapping in force, 0 without one
abbrev pub cached_version : Option Held → ℕ
cached_version None = 0
cached_version (Some held) = held.mapping.version

-- the version of a database prefix, 0 without one
abbrev pub home_version : Option Database → ℕ
home_version None = 0
home_version (Some home) = home.version

-- ### a packet in a tunnel to the router

-- the reason to drop a packet that can't be delivered
abbrev pub delivery_reason : Undelivered → Reason
delivery_reason decap.CongestionMark = CongestionMark
delivery_reason decap.TtlExpired = TtlExpired

-- the instance of a LISP header, 0 without one
abbrev pub iid_of : LispHeader → ℕ
iid_of lisp = unwrap_or lisp.instance 0

-- the number of status bits in a LISP header: beside an instance the lowest 8, else 32 (RFC 9300, section 5.1)
abbrev pub bits_width : LispHeader → ℕ
bits_width lisp = if is_some lisp.instance then 8 else 32

-- the notice of status bits from a locator, for the mapping in force for the inner source; None without a mapping
abbrev pub bits_notice : Addr → LispHeader → ℕ → Option Held → Option Notice
bits_notice rloc lisp bits held =
    option_map (λ (held : Held). notice.Bits held.eid rloc bits (bits_width lisp)) held

-- the notices of a nonce from a locator, or of none: with E set the locator wants the nonce echoed, else the nonce is
-- an echo; all packets count as data but those that want an echo (RFC 9300, section 10.1)
abbrev pub nonce_notices : Addr → Bool → Option ℕ → List Notice
nonce_notices rloc asks None = notice.DataFrom rloc ∷ []
nonce_notices rloc true (Some nonce) = notice.EchoWanted rloc nonce ∷ []
nonce_notices rloc false (Some nonce) = notice.EchoHeard rloc nonce ∷ notice.DataFrom rloc ∷ []

-- the notice of an SMR to a locator whose packet names an old version of the site's mapping (RFC 9302, section 7.1)
abbrev pub solicit_notice : Addr → LispHeader → Database → List Notice
solicit_notice rloc lisp home =
    given (is_version (dest_version lisp) && newer home.version (dest_version lisp)) (notice.Solicit rloc home.eid)

-- the notice to request a learned mapping anew, where a packet names a newer version of it (RFC 9302, section 7.2)
abbrev pub refresh_notice : LispHeader → Option Held → List Notice
refresh_notice lisp None = []
refresh_notice lisp (Some held) =
    given (not held.fixed && is_newer (source_version lisp) held.mapping.version) (notice.Refresh held.eid)

-- the notices of a delivered packet from a locator, in order
abbrev pub delivery_notices : Addr → LispHeader → Database → Option Held → List Notice
delivery_notices rloc lisp home held =
    option_to_list (option_and_then (λ bits. bits_notice rloc lisp bits held) lisp.status)
    ++ (nonce_notices rloc lisp.echo lisp.nonce ++ (solicit_notice rloc lisp home ++ refresh_notice lisp held))

-- the decision on a packet for the site, which leaves its tunnel unless a rule drops it
abbrev pub leaves : IpHeader → LispHeader → List ℕ → Database → Option Held → Option Undelivered → Decision
leaves outer lisp inner home held (Some why) = drops (delivery_reason why)
leaves outer lisp inner home held None = record {
  verdict = Delivered (iid_of lisp) (delivered inner outer);
  notices = delivery_notices (source_of outer) lisp home held;
}

-- the cases in which a packet for the site is dropped by its versions, in order: each the test that it isn't so, and
-- the verdict where it is (RFC 9302, section 7)
abbrev pub version_cases : LispHeader → Database → Option Held → List (Bool × Verdict)
version_cases lisp home held =
    (not (is_newer (dest_version lisp) home.version), Drop DestVersionNewer)
    ∷ (not (is_newer (cached_version held) (source_version lisp)), Drop SourceVersionOlder)
    ∷ []

-- the decision on a tunnel packet, by the database prefix of its destination and the mapping in force for its source
abbrev pub for_home : IpHeader → LispHeader → List ℕ → Option Held → Option Database → Decision
for_home outer lisp inner held None = drops NotOurs
for_home outer lisp inner held (Some home) =
    unless_decided (first_failing (version_cases lisp home held))
    (leaves outer lisp inner home held (first_failing (deliver_rules inner outer)))

-- the decision on the packet behind a LISP header
abbrev pub unwrapped : Settings → View → IpHeader → LispHeader → List ℕ → Decision
unwrapped settings v outer lisp octets =
    for_home outer lisp (packet_in octets)
    (force_for v (iid_of lisp) (source_of (header_at octets)))
    (home_of settings.databases (iid_of lisp) (dest_of (header_at octets)))

-- the reason to drop a tunnel packet that isn't opened
abbrev pub open_reason : OpenDrop → Reason
open_reason (open_drop.Refused refused) = reason.Refused refused
open_reason open_drop.Encrypted = Encrypted

-- the decision on a tunnel packet by its payload, or by the rule of opening that it breaks
abbrev pub opened : Settings → View → IpHeader → List ℕ → Option OpenDrop → Decision
opened settings v outer payload (Some why) = drops (open_reason why)
opened settings v outer payload None =
    unwrapped settings v outer (lisp_header_at payload) (drop 8 payload)

-- the decision on a packet in a tunnel to the router
abbrev pub tunnelled : Settings → View → Datagram → Decision
tunnelled settings v d =
    opened settings v d.packet.header (payload_in d.packet.octets d.udp)
    (first_failing (opened_rules d.packet.base d.packet.header d.packet.octets d.udp))

-- ### a packet from the site

-- whether an address is a group or the broadcast address: 224.0.0.0/4, 255.255.255.255 and ff00::/8
abbrev pub is_multicast : Addr → Bool
is_multicast (V4 n) = n / 2 ^ 28 == 14 || n == 0xffffffff
is_multicast (V6 n) = n / 2 ^ 120 == 255

-- the cases in which a packet of an instance that leaves the site stays out of a tunnel, in order: each the test that
-- it isn't so, and the verdict where it is
abbrev pub site_cases : Settings → ℕ → IpHeader → List (Bool × Verdict)
site_cases settings iid header =
    (not (is_multicast (dest_of header)), Drop Multicast)
    ∷ (is_none (home_of settings.databases iid (dest_of header)), Local)
    ∷ (is_some (home_of settings.databases iid (source_of header)), Drop NotSite)
    ∷ []

-- the decision to drop a packet, with the notice to request a mapping for its destination
abbrev pub asking : ℕ → IpHeader → Reason → Decision
asking iid header why = record {
  verdict = Drop why;
  notices = option_to_list
      (option_map (λ eid. notice.Ask eid (Some (source_of header))) (host_eid iid (dest_of header)));
}

-- the nonce of a LISP header, by how the header deals with echoes
abbrev pub echo_nonce : EchoOut → Option ℕ
echo_nonce echo.Plain = None
echo_nonce (echo.Answer nonce) = Some nonce
echo_nonce (echo.Ask nonce) = Some nonce

-- whether a LISP header requests an echo
abbrev pub asks_echo : EchoOut → Bool
asks_echo (echo.Ask nonce) = true
asks_echo _ = false

-- the source and destination versions in a LISP header: only without a nonce, and where either is a version
abbrev pub versions_of : EchoOut → ℕ → ℕ → Option (ℕ × ℕ)
versions_of echo.Plain source dest = if is_version source || is_version dest then Some (source, dest) else None
versions_of _ source dest = None

-- the LISP header of a tunnel packet: the nonce of an echo or else the versions, the own status bits, beside an
-- instance the lowest 8, and the instance unless it is 0
abbrev pub lisp_header : Settings → ℕ → EchoOut → ℕ → ℕ → LispHeader
lisp_header settings iid out source dest = record {
  nonce = echo_nonce out;
  echo = asks_echo out;
  versions = versions_of out source dest;
  status = Some (if iid == 0 then own_bits settings.locators else own_bits settings.locators % 256);
  instance = if iid == 0 then None else Some iid;
  key = 0;
}

-- the hash of a packet's flow, which gives its locator and the source port of its tunnel
abbrev pub hash_of : FramePacket → ℕ
hash_of packet = flow_hash (five_tuple_of packet.header packet.octets)

-- the reason to drop a packet that can't be sent
abbrev pub unsent_reason : Unsent → Reason
unsent_reason encap.TtlExpired = TtlExpired
unsent_reason encap.TooBig = TooBig

-- the notice that an echo may be requested of the locator that a packet goes to
abbrev pub echo_notice : Settings → View → Addr → List Notice
echo_notice settings v to = given (settings.echo && v.may_start to) (notice.EchoDue to)

-- the decision on a packet with its LISP header, which goes in a tunnel between two locators unless a rule drops it
abbrev pub sent : Settings → View → LispHeader → FramePacket → Addr → Addr → Option Unsent → Decision
sent settings v lisp packet from to (Some why) = drops (unsent_reason why)
sent settings v lisp packet from to None = record {
  verdict = Encapsulated from to (source_port (hash_of packet)) (wrapped packet.octets from to (source_port (hash_of packet)) lisp);
  notices = echo_notice settings v to;
}

-- the decision on a packet to a locator, sent from the own locator of its family, or dropped without one
abbrev pub from_ours : Settings → View → LispHeader → FramePacket → Addr → Option Addr → Decision
from_ours settings v lisp packet to None = drops NoLocator
from_ours settings v lisp packet to (Some from) =
    sent settings v lisp packet from to (first_failing (encap_rules packet.octets from))

-- the decision on a packet by its chosen locator, or dropped without one; `source` is the version of the site's prefix,
-- `dest` that of the mapping
abbrev pub towards : Settings → View → ℕ → FramePacket → ℕ → ℕ → Option Addr → Decision
towards settings v iid packet source dest None = drops NoLocator
towards settings v iid packet source dest (Some to) =
    from_ours settings v (lisp_header settings iid (v.echo_out to) source dest) packet to (ours settings.locators to)

-- the verdict on a packet that is forwarded natively, with one hop less, unless a rule drops it
abbrev pub natively : List ℕ → Option Unsent → Verdict
natively packet (Some why) = Drop (unsent_reason why)
natively packet None = Native (forwarded packet)

-- the decision on a packet by the action of a mapping without locators (RFC 9301, section 5.4)
abbrev pub by_action : ℕ → FramePacket → Action → Decision
by_action iid packet action.NoAction = drops NoAction
by_action iid packet action.NativelyForward = alone (natively packet.octets (first_failing (forward_rules packet.octets)))
by_action iid packet action.SendMapRequest = asking iid packet.header SendRequest
by_action iid packet action.DropNoReason = drops DropNoReason
by_action iid packet action.DropPolicy = drops DropPolicy
by_action iid packet action.DropAuth = drops DropAuth

-- the decision on a packet that leaves the site, by the mapping in force for its destination
abbrev pub mapped : Settings → View → ℕ → FramePacket → Option Held → Decision
mapped settings v iid packet None = asking iid packet.header Miss
mapped settings v iid packet (Some held) =
    if length held.mapping.locators == 0 then by_action iid packet (action_of held.mapping.action)
    else towards settings v iid packet (home_version (home_of settings.databases iid (source_of packet.header))) held.mapping.version
    (chosen settings v held.up held.mapping.locators (hash_of packet))

-- the decision on a packet of an instance that leaves the site
unfoldable pub routed : Settings → View → ℕ → FramePacket → Decision
routed settings v iid packet =
    unless_decided (first_failing (site_cases settings iid packet.header))
    (mapped settings v iid packet (force_for v iid (dest_of packet.header)))

-- ### any frame

-- the decision on a frame of a course; a control message is heard and never decided, so it counts as dropped here
abbrev pub decide_course : Settings → View → Course → Decision
decide_course settings v (Settled verdict) = alone verdict
decide_course settings v (Data datagram) = tunnelled settings v datagram
decide_course settings v (Control datagram) = drops NotTunnel
decide_course settings v (Leaving iid packet) = routed settings v iid packet

-- the decision on a frame, by settings and a view
unfoldable pub decide_by : Settings → View → Frame → Decision
decide_by settings v frame = decide_course settings v (course_of settings frame)

-- the decision on a frame at m by a journal, with the settings that stand by it
abbrev pub decide : Settings → Journal → ℕ → Frame → Decision
decide settings journal m frame = decide_by (standing settings journal) (view journal m) frame
