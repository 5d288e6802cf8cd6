-- A decision on a frame of octets gives at most five notices, and sound ones alone.
use Rattle.std.proofs.Common.{◌≡◌, ℕ, ◌^◌, ◌<◌, ◌≤◌, ◌==◌, ◌||◌, ◌&&◌, nat_lt, Bool, true, false, cond, List, [], ◌∷◌, ◌++◌, drop, length, Option, Some, None, is_some, option_and_then, option_map, option_to_list, refl, sym, subst, arith}
use Rattle.std.specs.List.{list_all}
use Rattle.std.proofs.lemmas.Bool.Decides.{nat_tests}
use Rattle.std.proofs.lemmas.List.{length-append}
use Rattle.std.proofs.lemmas.List.Elements.{All-drop}
use Rattle.std.proofs.lemmas.Option.{same_Some}
use Rattle.octets.specs.Numbers.{big}
use Rattle.octets.specs.Rules.{first_failing}
use Rattle.ip_headers.specs.Ip.{dest_of, header_at, packet_in, source_of}
use Rattle.ip_headers.specs.Udp.{payload_in}
use Rattle.ip_headers.specs.declared.addr.Addr.{Addr}
use Rattle.ip_headers.specs.declared.header.IpHeader.{IpHeader}
use Rattle.capture_io.specs.Link.{link_octets}
use Rattle.lisp_header.specs.Header.{header_at as lisp_header_at, nonce_present}
use Rattle.lisp_header.specs.Versions.{newer}
use Rattle.lisp_header.specs.declared.header.LispHeader.{LispHeader}
use Rattle.encap.specs.Rules.{Unsent, encap_rules}
use Rattle.decap.specs.Delivered.{Undelivered, deliver_rules}
use Rattle.decap.specs.Opened.{opened_rules}
use Rattle.decap.specs.declared.fault.OpenDrop.{OpenDrop}
use Rattle.mapping_records.specs.Action.{action_of}
use Rattle.mapping_records.specs.declared.action.Action.{Action}
use Rattle.mapping_records.specs.declared.action.Action.TheVariants.{NoAction, NativelyForward, SendMapRequest, DropNoReason, DropPolicy, DropAuth}
use Rattle.mapping_records.specs.declared.eid.Eid.{Eid}
use Rattle.lisp_settings.specs.Home.{home_of}
use Rattle.lisp_settings.specs.declared.settings.Database.{Database}
use Rattle.lisp_settings.specs.declared.settings.Settings.{Settings}
use Rattle.router_log.specs.declared.decision.Decision.{Decision}
use Rattle.router_log.specs.declared.notice.Notice.{Notice}
use Rattle.router_log.specs.declared.notice.Notice.TheVariants as notice
use Rattle.router_log.specs.declared.verdict.Reason.{Reason}
use Rattle.router_log.specs.declared.verdict.Reason.TheVariants as reason
use Rattle.router_log.specs.declared.verdict.Verdict.{Verdict}
use Rattle.router_model.specs.Choice.{chosen}
use Rattle.router_model.specs.Course.{Course, Datagram, Settled, Data, Control, Leaving, FramePacket, course_of}
use Rattle.router_model.specs.Decide.{asking, bits_notice, by_action, decide_by, decide_course, delivery_notices, dest_version, for_home, force_for, from_ours, given, hash_of, home_version, iid_of, is_version, leaves, lisp_header, mapped, nonce_notices, opened, refresh_notice, routed, sent, site_cases, solicit_notice, towards, tunnelled, unless_decided, version_cases}
use Rattle.router_model.specs.Hosts.{host_eid}
use Rattle.router_model.specs.Lifting.{AreOctets, NoticesSound, is_sound}
use Rattle.router_model.specs.Mappings.{Held}
use Rattle.router_model.specs.Proper.{is_short}
use Rattle.router_model.specs.Site.{ours}
use Rattle.router_model.specs.View.{View}
use Rattle.router_model.proofs.SoundLemmas.{HasPacket, course-packet, front-octets, octet-at, payload-octets}

-- so many sound notices at most
abbrev pub AreSound : ℕ → List Notice → Type 0
AreSound most notices = (list_all is_sound notices ≡ true) × (length notices ≤ most)

abbrev Tells : Decision → Type 0
Tells decision = AreSound 5 decision.notices

quiet : AreSound 5 []
quiet = (refl, omega arith)

case-tells : (o : Option Verdict) (other : Decision) → Tells other → Tells (unless_decided o other)
case-tells None other tells = tells
case-tells (Some verdict) other tells = quiet

given-few : (b : Bool) (n : Notice) → is_sound n ≡ true → AreSound 1 (given b n)
given-few true n sound = (rw sound refl, omega arith)
given-few false n sound = (refl, omega arith)

-- ### a packet from the site

asking-tells : (iid : ℕ) (header : IpHeader) (why : Reason) → Tells (asking iid header why)
asking-tells iid header why = by (host_eid iid (dest_of header))
  where
    by : (o : Option Eid) → AreSound 5 (option_to_list (option_map (λ eid. notice.Ask eid (Some (source_of header))) o))
    by None = quiet
    by (Some eid) = (refl, omega arith)

action-tells : (iid : ℕ) (packet : FramePacket) (action : Action) → Tells (by_action iid packet action)
action-tells iid packet NoAction = quiet
action-tells iid packet NativelyForward = quiet
action-tells iid packet SendMapRequest = asking-tells iid packet.header reason.SendRequest
action-tells iid packet DropNoReason = quiet
action-tells iid packet DropPolicy = quiet
action-tells iid packet DropAuth = quiet

sent-tells : (settings : Settings) (v : View) (lisp : LispHeader) (packet : FramePacket) (from to : Addr) (o : Option Unsent) → Tells (sent settings v lisp packet from to o)
sent-tells settings v lisp packet from to (Some why) = quiet
sent-tells settings v lisp packet from to None =
    let one = given-few (settings.echo && v.may_start to) (notice.EchoDue to) refl in
    let few = one.1 in
    (one.0, omega (arith, few))

ours-tells : (settings : Settings) (v : View) (lisp : LispHeader) (packet : FramePacket) (to : Addr) (o : Option Addr) → Tells (from_ours settings v lisp packet to o)
ours-tells settings v lisp packet to None = quiet
ours-tells settings v lisp packet to (Some from) = sent-tells settings v lisp packet from to (first_failing (encap_rules packet.octets from))

towards-tells : (settings : Settings) (v : View) (iid : ℕ) (packet : FramePacket) (source dest : ℕ) (o : Option Addr) → Tells (towards settings v iid packet source dest o)
towards-tells settings v iid packet source dest None = quiet
towards-tells settings v iid packet source dest (Some to) =
    ours-tells settings v (lisp_header settings iid (v.echo_out to) source dest) packet to (ours settings.locators to)

mapped-tells : (settings : Settings) (v : View) (iid : ℕ) (packet : FramePacket) (o : Option Held) → Tells (mapped settings v iid packet o)
mapped-tells settings v iid packet None = asking-tells iid packet.header reason.Miss
mapped-tells settings v iid packet (Some held) = by (length held.mapping.locators == 0)
  where
    to : Option Addr
    to = chosen settings v held.up held.mapping.locators (hash_of packet)

    source : ℕ
    source = home_version (home_of settings.databases iid (source_of packet.header))

    by : (b : Bool) → Tells (cond b (by_action iid packet (action_of held.mapping.action)) (towards settings v iid packet source held.mapping.version to))
    by true = action-tells iid packet (action_of held.mapping.action)
    by false = towards-tells settings v iid packet source held.mapping.version to

routed-tells : (settings : Settings) (v : View) (iid : ℕ) (packet : FramePacket) → Tells (routed settings v iid packet)
unfolding routed
routed-tells settings v iid packet =
    case-tells (first_failing (site_cases settings iid packet.header)) _ (mapped-tells settings v iid packet (force_for v iid (dest_of packet.header)))

-- ### a packet in a tunnel

all-append : (xs ys : List Notice) → list_all is_sound xs ≡ true → list_all is_sound ys ≡ true → list_all is_sound (xs ++ ys) ≡ true
all-append [] ys p q = q
all-append (x ∷ xs) ys p q = rw (all-left (is_sound x) _ p, all-append xs ys (all-right (is_sound x) _ p) q) refl
  where
    all-left : (a b : Bool) → (a && b) ≡ true → a ≡ true
    all-left true b is = refl
    all-left false b is = is

    all-right : (a b : Bool) → (a && b) ≡ true → b ≡ true
    all-right true b is = is
    all-right false b is = cc

-- the nonce of a header has 24 bits
abbrev pub IsShortIn : Option ℕ → Type 0
IsShortIn o = (nonce : ℕ) → o ≡ Some nonce → is_short nonce ≡ true

big-three : (octets : List ℕ) → AreOctets octets → big 3 octets 1 < 2 ^ 24
big-three octets are =
    let rest = All-drop (λ octet. octet < 256) 1 octets are in
    omega (arith, octet-at (drop 1 octets) 0 rest, octet-at (drop 1 octets) 1 rest, octet-at (drop 1 octets) 2 rest)

short-nonce : (octets : List ℕ) → AreOctets octets → IsShortIn (lisp_header_at octets).nonce
short-nonce octets are nonce is = by (nonce_present octets) is
  where
    short : (n : ℕ) → n < 2 ^ 24 → nat_lt n (2 ^ 24) ≡ true
    short n less = grind (arith, nat_tests)

    by : (b : Bool) → cond b (Some (big 3 octets 1)) None ≡ Some nonce → is_short nonce ≡ true
    by true is = short nonce (subst (λ n. n < 2 ^ 24) (same_Some _ nonce is) (big-three octets are))
    by false is = cc

bits-few : (rloc : Addr) (lisp : LispHeader) (held : Option Held) → AreSound 1 (option_to_list (option_and_then (λ bits. bits_notice rloc lisp bits held) lisp.status))
bits-few rloc lisp held = by lisp.status held
  where
    eight : (b : Bool) → ((cond b 8 32 == 8) || (cond b 8 32 == 32)) ≡ true
    eight true = refl
    eight false = refl

    by : (status : Option ℕ) (o : Option Held) → AreSound 1 (option_to_list (option_and_then (λ bits. bits_notice rloc lisp bits o) status))
    by None o = (refl, omega arith)
    by (Some bits) None = (refl, omega arith)
    by (Some bits) (Some held) = (rw (eight (is_some lisp.instance)) refl, omega arith)

nonces-few : (rloc : Addr) (asks : Bool) (o : Option ℕ) → IsShortIn o → AreSound 2 (nonce_notices rloc asks o)
nonces-few rloc asks None short = (refl, omega arith)
nonces-few rloc true (Some nonce) short = (rw (short nonce refl) refl, omega arith)
nonces-few rloc false (Some nonce) short = (refl, omega arith)

refresh-few : (lisp : LispHeader) (o : Option Held) → AreSound 1 (refresh_notice lisp o)
refresh-few lisp None = (refl, omega arith)
refresh-few lisp (Some held) = given-few _ (notice.Refresh held.eid) refl

pub delivery-few : (rloc : Addr) (lisp : LispHeader) (home : Database) (held : Option Held) → IsShortIn lisp.nonce → AreSound 5 (delivery_notices rloc lisp home held)
delivery-few rloc lisp home held short =
    all-few (option_to_list (option_and_then (λ bits. bits_notice rloc lisp bits held) lisp.status)) (nonce_notices rloc lisp.echo lisp.nonce) (solicit_notice rloc lisp home) (refresh_notice lisp held)
    (bits-few rloc lisp held) (nonces-few rloc lisp.echo lisp.nonce short)
    (given-few (is_version (dest_version lisp) && newer home.version (dest_version lisp)) (notice.Solicit rloc home.eid) refl) (refresh-few lisp held)
  where
    all-few : (a b c d : List Notice) → AreSound 1 a → AreSound 2 b → AreSound 1 c → AreSound 1 d → AreSound 5 (a ++ (b ++ (c ++ d)))
    all-few a b c d one two three four =
        let p = one.1 in
        let q = two.1 in
        let r = three.1 in
        let s = four.1 in (
          all-append a (b ++ (c ++ d)) one.0 (all-append b (c ++ d) two.0 (all-append c d three.0 four.0)),
          omega (arith, length-append a (b ++ (c ++ d)), length-append b (c ++ d), length-append c d, p, q, r, s),
        )

leaves-tells : (outer : IpHeader) (lisp : LispHeader) (inner : List ℕ) (home : Database) (held : Option Held) (o : Option Undelivered) → IsShortIn lisp.nonce → Tells (leaves outer lisp inner home held o)
leaves-tells outer lisp inner home held (Some why) short = quiet
leaves-tells outer lisp inner home held None short = delivery-few (source_of outer) lisp home held short

home-tells : (outer : IpHeader) (lisp : LispHeader) (inner : List ℕ) (held : Option Held) (o : Option Database) → IsShortIn lisp.nonce → Tells (for_home outer lisp inner held o)
home-tells outer lisp inner held None short = quiet
home-tells outer lisp inner held (Some home) short =
    case-tells (first_failing (version_cases lisp home held)) _ (leaves-tells outer lisp inner home held (first_failing (deliver_rules inner outer)) short)

opened-tells : (settings : Settings) (v : View) (outer : IpHeader) (payload : List ℕ) (o : Option OpenDrop) → AreOctets payload → Tells (opened settings v outer payload o)
opened-tells settings v outer payload (Some why) are = quiet
opened-tells settings v outer payload None are =
    let lisp = lisp_header_at payload in
    let octets = drop 8 payload in
    home-tells outer lisp (packet_in octets) (force_for v (iid_of lisp) (source_of (header_at octets))) (home_of settings.databases (iid_of lisp) (dest_of (header_at octets))) (short-nonce payload are)

tunnelled-tells : (settings : Settings) (v : View) (d : Datagram) → AreOctets d.packet.octets → Tells (tunnelled settings v d)
tunnelled-tells settings v d are =
    opened-tells settings v d.packet.header (payload_in d.packet.octets d.udp) (first_failing (opened_rules d.packet.base d.packet.header d.packet.octets d.udp))
    (payload-octets d.packet.octets d.udp are)

-- ### any frame

course-tells : (settings : Settings) (v : View) (c : Course) (octets : List ℕ) → HasPacket octets c → AreOctets octets → Tells (decide_course settings v c)
course-tells settings v (Settled verdict) octets has are = quiet
course-tells settings v (Data d) octets has are = tunnelled-tells settings v d (subst AreOctets (sym has) are)
course-tells settings v (Control d) octets has are = quiet
course-tells settings v (Leaving iid packet) octets has are = routed-tells settings v iid packet

pub notices-sound : NoticesSound
unfolding decide_by
notices-sound settings v frame are =
    course-tells settings v (course_of settings frame) (packet_in (link_octets frame)) (course-packet settings frame) (front-octets frame are)
