-- What the body of a block says is told by the block's own octets.
use Rattle.std.proofs.Common.{◌≡◌, ◌≤◌, ◌+◌, ◌-◌, ◌*◌, ◌^◌, ◌++◌, nat_le, max, ℕ, IsTrue, Bool, true, false, List, [], ◌∷◌, drop, take, Option, Some, None, is_some, unwrap_or, slice_get, refl, ap, ◌∙◌, arith}
use Rattle.std.specs.Option.{option_map, option_and_then}
use Rattle.std.proofs.lemmas.Bool.{leb-true}
use Rattle.std.proofs.lemmas.List.{take-take}
use Rattle.octets.proofs.Fronts.{drop-front}
use Rattle.octets.proofs.RuleLemmas.{all_hold}
use Rattle.octets.specs.Rules.{first_failing}
use Rattle.capture_io.proofs.Fronts.{number-take}
use Rattle.capture_io.specs.Capture.{in_span, number}
use Rattle.capture_io.specs.Limits.{most_frame_octets}
use Rattle.capture_io.specs.declared.order.Order.{Order}
use Rattle.capture_ng.specs.Blocks.{is_packet, is_read, least_length}
use Rattle.capture_ng.specs.Faults.{body_rules, interface_rules, packet_rules, seen_rules}
use Rattle.capture_ng.specs.Frames.{after_block, counted, passed}
use Rattle.capture_ng.specs.Interfaces.{interface_in, option_octets}
use Rattle.capture_ng.specs.Packets.{Packet, interface_number, interface_of, is_moment, kept, moment, moved, nanoseconds, packet_in_kind, packet_of, packet_place, packet_room, snapped}
use Rattle.capture_ng.specs.Position.{Position}
use Rattle.capture_ng.specs.declared.fault.NgFault.{NgFault}
use Rattle.capture_ng.specs.declared.fault.NgFault.TheVariants.{BadInterface, BadLength, BadLinkType, BadMoment, SpanTooLong, TooLong}
use Rattle.capture_ng.specs.declared.head.Head.{Head}
use Rattle.capture_ng.specs.declared.head.Kind.{Kind}
use Rattle.capture_ng.specs.declared.head.Kind.TheVariants.{SectionHeader, InterfaceDescription, ObsoletePacket, SimplePacket, EnhancedPacket, Other}
use Rattle.capture_ng.specs.declared.interface.Interface.{Interface}

-- a part of the front is a part of the whole
part-take : (size at total : ℕ) (left : List ℕ) → at + size ≤ total → take size (drop at (take total left)) ≡ take size (drop at left)
part-take size at total left within =
    ap (λ (l : List ℕ). take size l) (drop-front at total left (omega (arith, within))) ∙ take-take size (total - at) (drop at left) (omega (arith, within))

-- a head by its parts
abbrev pub headed : Kind → Order → ℕ → Head
headed kind order total = record { kind = kind; order = order; length = total }

-- the number of a packet's interface
interface_number-take : (kind : Kind) (order : Order) (total : ℕ) (left : List ℕ) → least_length kind ≤ total
    → interface_number (headed kind order total) (take total left) ≡ interface_number (headed kind order total) left
interface_number-take EnhancedPacket order total left least = number-take order 4 8 total left (omega (arith, least))
interface_number-take SimplePacket order total left least = refl
interface_number-take SectionHeader order total left least = refl
interface_number-take InterfaceDescription order total left least = refl
interface_number-take ObsoletePacket order total left least = refl
interface_number-take Other order total left least = refl

-- how many octets a packet block keeps
kept-take : (kind : Kind) (order : Order) (total : ℕ) (interface : Interface) (left : List ℕ) → is_packet kind ≡ true → least_length kind ≤ total
    → kept (headed kind order total) interface (take total left) ≡ kept (headed kind order total) interface left
kept-take EnhancedPacket order total interface left packet least = number-take order 4 20 total left (omega (arith, least))
kept-take SimplePacket order total interface left packet least = ap (λ (n : ℕ). snapped interface.snap n) (number-take order 4 8 total left (omega (arith, least)))
kept-take SectionHeader order total interface left packet least = cc
kept-take InterfaceDescription order total interface left packet least = cc
kept-take ObsoletePacket order total interface left packet least = cc
kept-take Other order total interface left packet least = cc

-- the moment that it names
moment-take : (kind : Kind) (order : Order) (total : ℕ) (at : Position) (interface : Interface) (left : List ℕ) → least_length kind ≤ total
    → moment at (headed kind order total) interface (take total left) ≡ moment at (headed kind order total) interface left
moment-take EnhancedPacket order total at interface left least =
    ap (λ (n : ℕ). moved interface.clock.added (nanoseconds interface.clock (n * 2 ^ 32 + number order 4 (take total left) 16))) (number-take order 4 12 total left (omega (arith, least)))
    ∙ ap (λ (n : ℕ). moved interface.clock.added (nanoseconds interface.clock (number order 4 left 12 * 2 ^ 32 + n))) (number-take order 4 16 total left (omega (arith, least)))
moment-take SimplePacket order total at interface left least = refl
moment-take SectionHeader order total at interface left least = refl
moment-take InterfaceDescription order total at interface left least = refl
moment-take ObsoletePacket order total at interface left least = refl
moment-take Other order total at interface left least = refl

-- the rules of a packet, by what they read of its octets
abbrev seen_by : Position → Head → Interface → ℕ → Option ℕ → List (Bool × NgFault)
seen_by at head interface k m =
    (is_some interface.link, BadLinkType at.place)
    ∷ (nat_le k (packet_room head), BadLength at.place)
    ∷ (nat_le k most_frame_octets, TooLong at.place k)
    ∷ (is_moment m, BadMoment at.place)
    ∷ (in_span at.greatest (unwrap_or m 0), SpanTooLong (at.count + 1))
    ∷ []

seen_rules-take : (kind : Kind) (order : Order) (total : ℕ) (at : Position) (interface : Interface) (left : List ℕ) → is_packet kind ≡ true → least_length kind ≤ total
    → seen_rules at (headed kind order total) (take total left) interface ≡ seen_rules at (headed kind order total) left interface
seen_rules-take kind order total at interface left packet least =
    let head = headed kind order total in
    ap (λ (k : ℕ). seen_by at head interface k (moment at head interface (take total left))) (kept-take kind order total interface left packet least)
    ∙ ap (λ (m : Option ℕ). seen_by at head interface (kept head interface left) m) (moment-take kind order total at interface left least)

-- the same, where the interface is looked up
abbrev rules_by : Position → Head → List ℕ → Option Interface → List (Bool × NgFault)
rules_by at head left o = elim o [ None ↦ (false, BadInterface at.place) ∷ [] | Some interface ↦ seen_rules at head left interface ]

rules_by-take : (kind : Kind) (order : Order) (total : ℕ) (at : Position) (o : Option Interface) (left : List ℕ) → is_packet kind ≡ true → least_length kind ≤ total
    → rules_by at (headed kind order total) (take total left) o ≡ rules_by at (headed kind order total) left o
rules_by-take kind order total at None left packet least = refl
rules_by-take kind order total at (Some interface) left packet least = seen_rules-take kind order total at interface left packet least

interface_of-take : (kind : Kind) (order : Order) (total : ℕ) (at : Position) (left : List ℕ) → least_length kind ≤ total
    → interface_of at (headed kind order total) (take total left) ≡ interface_of at (headed kind order total) left
interface_of-take kind order total at left least = ap (λ (n : ℕ). slice_get at.interfaces n) (interface_number-take kind order total left least)

packet_rules-take : (kind : Kind) (order : Order) (total : ℕ) (at : Position) (left : List ℕ) → is_packet kind ≡ true → least_length kind ≤ total
    → packet_rules at (headed kind order total) (take total left) ≡ packet_rules at (headed kind order total) left
packet_rules-take kind order total at left packet least =
    let head = headed kind order total in
    ap (λ (o : Option Interface). rules_by at head (take total left) o) (interface_of-take kind order total at left least)
    ∙ rules_by-take kind order total at (interface_of at head left) left packet least

-- a packet, by what it reads of the block's octets
abbrev packet_by : Position → Interface → ℕ → List ℕ → Option ℕ → Option Packet
packet_by at interface n octets m =
    option_and_then (λ link.
    option_map (λ m. record { interface = n; frame = record { number = at.count + 1; moment = max (unwrap_or at.greatest 0) m; link = link; octets = octets } })
    m) interface.link

place_room : (kind : Kind) (order : Order) (total k : ℕ) → is_packet kind ≡ true → least_length kind ≤ total → k ≤ packet_room (headed kind order total) → packet_place (headed kind order total) + k ≤ total
place_room EnhancedPacket order total k packet least room = omega (arith, least, room)
place_room SimplePacket order total k packet least room = omega (arith, least, room)
place_room SectionHeader order total k packet least room = cc
place_room InterfaceDescription order total k packet least room = cc
place_room ObsoletePacket order total k packet least room = cc
place_room Other order total k packet least room = cc

packet_of-take : (kind : Kind) (order : Order) (total : ℕ) (at : Position) (interface : Interface) (left : List ℕ) → is_packet kind ≡ true → least_length kind ≤ total
    → kept (headed kind order total) interface left ≤ packet_room (headed kind order total)
    → packet_of at (headed kind order total) (take total left) interface ≡ packet_of at (headed kind order total) left interface
packet_of-take kind order total at interface left packet least room =
    let head = headed kind order total in
    let front = take total left in
    let n = kept head interface left in
    let octets = ap (λ (k : ℕ). take k (drop (packet_place head) front)) (kept-take kind order total interface left packet least)
    ∙ part-take n (packet_place head) total left (place_room kind order total n packet least room) in
    ap (λ (i : ℕ). packet_by at interface i (take (kept head interface front) (drop (packet_place head) front)) (moment at head interface front)) (interface_number-take kind order total left least)
    ∙ ap (λ (l : List ℕ). packet_by at interface (interface_number head left) l (moment at head interface front)) octets
    ∙ ap (λ (m : Option ℕ). packet_by at interface (interface_number head left) (take n (drop (packet_place head) left)) m) (moment-take kind order total at interface left least)

looked-take : (kind : Kind) (order : Order) (total : ℕ) (at : Position) (o : Option Interface) (left : List ℕ) → is_packet kind ≡ true → least_length kind ≤ total
    → first_failing (rules_by at (headed kind order total) left o) ≡ None
    → option_and_then (packet_of at (headed kind order total) (take total left)) o ≡ option_and_then (packet_of at (headed kind order total) left) o
looked-take kind order total at None left packet least none = refl
looked-take kind order total at (Some interface) left packet least none =
    let head = headed kind order total in
    let room = leb-true (kept head interface left) (packet_room head) (all_hold (seen_rules at head left interface) none).1.0 in
    packet_of-take kind order total at interface left packet least room

found-take : (kind : Kind) (order : Order) (total : ℕ) (at : Position) (left : List ℕ) → is_packet kind ≡ true → least_length kind ≤ total
    → first_failing (packet_rules at (headed kind order total) left) ≡ None
    → option_and_then (packet_of at (headed kind order total) (take total left)) (interface_of at (headed kind order total) (take total left))
    ≡ option_and_then (packet_of at (headed kind order total) left) (interface_of at (headed kind order total) left)
found-take kind order total at left packet least none =
    let head = headed kind order total in
    ap (λ (o : Option Interface). option_and_then (packet_of at head (take total left)) o) (interface_of-take kind order total at left least)
    ∙ looked-take kind order total at (interface_of at head left) left packet least none

-- the options of an interface
options-take : (order : Order) (total : ℕ) (left : List ℕ) → 20 ≤ total
    → option_octets (headed InterfaceDescription order total) (take total left) ≡ option_octets (headed InterfaceDescription order total) left
options-take order total left least = part-take (total - 20) 16 total left (omega (arith, least))

interface-take : (order : Order) (total : ℕ) (left : List ℕ) → 20 ≤ total
    → interface_in (headed InterfaceDescription order total) (take total left) ≡ interface_in (headed InterfaceDescription order total) left
interface-take order total left least =
    rw (number-take order 2 8 total left (omega (arith, least)), number-take order 4 12 total left (omega (arith, least)), options-take order total left least) refl

interface_rules-take : (order : Order) (total : ℕ) (at : Position) (left : List ℕ) → 20 ≤ total
    → interface_rules at (headed InterfaceDescription order total) (take total left) ≡ interface_rules at (headed InterfaceDescription order total) left
interface_rules-take order total at left least = rw (options-take order total left least) refl

-- the rules of a body
pub body-take : (kind : Kind) (order : Order) (total : ℕ) (at : Position) (left octets : List ℕ) → least_length kind ≤ total → (IsTrue (is_read kind) → octets ≡ take total left)
    → first_failing (body_rules kind at (headed kind order total) octets) ≡ first_failing (body_rules kind at (headed kind order total) left)
body-take SectionHeader order total at left octets least front =
    rw (front refl, number-take order 2 12 total left (omega (arith, least))) refl
body-take InterfaceDescription order total at left octets least front =
    ap (λ (l : List ℕ). first_failing (interface_rules at (headed InterfaceDescription order total) l)) (front refl)
    ∙ ap (λ (rules : List (Bool × NgFault)). first_failing rules) (interface_rules-take order total at left least)
body-take SimplePacket order total at left octets least front =
    ap (λ (l : List ℕ). first_failing (packet_rules at (headed SimplePacket order total) l)) (front refl)
    ∙ ap (λ (rules : List (Bool × NgFault)). first_failing rules) (packet_rules-take SimplePacket order total at left refl least)
body-take EnhancedPacket order total at left octets least front =
    ap (λ (l : List ℕ). first_failing (packet_rules at (headed EnhancedPacket order total) l)) (front refl)
    ∙ ap (λ (rules : List (Bool × NgFault)). first_failing rules) (packet_rules-take EnhancedPacket order total at left refl least)
body-take ObsoletePacket order total at left octets least front = refl
body-take Other order total at left octets least front = refl

-- its packet, where it breaks none
pub packet-take : (kind : Kind) (order : Order) (total : ℕ) (at : Position) (left octets : List ℕ) → least_length kind ≤ total → (IsTrue (is_read kind) → octets ≡ take total left)
    → first_failing (body_rules kind at (headed kind order total) left) ≡ None
    → packet_in_kind kind at (headed kind order total) octets ≡ packet_in_kind kind at (headed kind order total) left
packet-take SimplePacket order total at left octets least front none =
    ap (λ (l : List ℕ). packet_in_kind SimplePacket at (headed SimplePacket order total) l) (front refl) ∙ found-take SimplePacket order total at left refl least none
packet-take EnhancedPacket order total at left octets least front none =
    ap (λ (l : List ℕ). packet_in_kind EnhancedPacket at (headed EnhancedPacket order total) l) (front refl) ∙ found-take EnhancedPacket order total at left refl least none
packet-take SectionHeader order total at left octets least front none = refl
packet-take InterfaceDescription order total at left octets least front none = refl
packet-take ObsoletePacket order total at left octets least front none = refl
packet-take Other order total at left octets least front none = refl

-- and the position behind it
pub after-take : (kind : Kind) (order : Order) (total : ℕ) (at : Position) (left octets : List ℕ) → least_length kind ≤ total → (IsTrue (is_read kind) → octets ≡ take total left)
    → first_failing (body_rules kind at (headed kind order total) left) ≡ None
    → after_block kind at (headed kind order total) octets ≡ after_block kind at (headed kind order total) left
after-take SimplePacket order total at left octets least front none =
    ap (λ (o : Option Packet). counted (passed at (headed SimplePacket order total)) o) (packet-take SimplePacket order total at left octets least front none)
after-take EnhancedPacket order total at left octets least front none =
    ap (λ (o : Option Packet). counted (passed at (headed EnhancedPacket order total)) o) (packet-take EnhancedPacket order total at left octets least front none)
after-take SectionHeader order total at left octets least front none = refl
after-take InterfaceDescription order total at left octets least front none =
    ap (λ (l : List ℕ). after_block InterfaceDescription at (headed InterfaceDescription order total) l) (front refl)
    ∙ ap (λ (i : Interface). record (passed at (headed InterfaceDescription order total)) { interfaces = at.interfaces ++ i ∷ [] }) (interface-take order total left least)
after-take ObsoletePacket order total at left octets least front none = refl
after-take Other order total at left octets least front none = refl
