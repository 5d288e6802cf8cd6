-- The frames of a file come in order: numbered, no earlier than those before, within all limits.
use Rattle.std.proofs.Common.{◌≡◌, ◌≤◌, ◌<◌, ◌+◌, ◌&&◌, ◌||◌, not, nat_lt, nat_le, max, ℕ, zero, suc, Bool, true, false, IsTrue, List, [], ◌∷◌, drop, length, Option, Some, None, unwrap_or, refl, sym, ap, subst, ◌∙◌, arith}
use Rattle.std.specs.Option.{option_map, option_and_then}
use Rattle.std.specs.List.{All}
use Rattle.std.proofs.lemmas.Bool.{leb-true, le-leb, ltb-true}
use Rattle.std.proofs.lemmas.List.{length-take}
use Rattle.std.proofs.lemmas.List.Elements.{All-head, All-tail}
use Rattle.octets.proofs.RuleLemmas.{AllHold, all_hold}
use Rattle.capture_io.specs.Capture.{in_span}
use Rattle.capture_io.specs.Frame.{Frame}
use Rattle.capture_io.specs.Frames.{capture}
use Rattle.capture_io.specs.Run.{Run}
use Rattle.capture_io.specs.Limits.{longest_span, most_frame_octets, most_records}
use Rattle.capture_io.specs.declared.link.Link.{Link}
use Rattle.capture_ng.specs.Classic.{classic}
use Rattle.capture_ng.specs.Blocks.{head_of, is_packet}
use Rattle.capture_ng.specs.Faults.{block_fault, block_rules, body_rules, packet_rules, seen_rules}
use Rattle.capture_ng.specs.Frames.{advanced, after_block, blocks_within, ng_frames, of_block, read_on, rest}
use Rattle.capture_ng.specs.Limits.{end_of_moments, most_blocks}
use Rattle.capture_ng.specs.Packets.{Packet, frame_at, frame_of, interface_number, interface_of, is_moment, kept, moment, packet_in, packet_in_kind, packet_of, packet_place}
use Rattle.capture_ng.specs.Position.{Position, begin}
use Rattle.capture_ng.specs.declared.fault.NgFault.{NgFault}
use Rattle.capture_ng.specs.declared.fault.NgFault.TheVariants.{BadInterface}
use Rattle.capture_ng.specs.declared.head.Head.{Head}
use Rattle.capture_ng.specs.declared.head.Kind.{Kind}
use Rattle.capture_ng.specs.declared.head.Kind.TheVariants.{SectionHeader, InterfaceDescription, ObsoletePacket, SimplePacket, EnhancedPacket, Other}
use Rattle.capture_ng.specs.declared.interface.Interface.{Interface}
use Rattle.capture_ng.proofs.ClassicLemmas.{AreInOrder, capture-classic}

-- the packet of an interface has a link and a moment
pub packet_made : (link : Option Link) (m : Option ℕ) (make : Link → ℕ → Packet) (p : Packet) → Some p ≡ option_and_then (λ l. option_map (make l) m) link
    → (l : Link) × ((x : ℕ) × ((m ≡ Some x) × (p ≡ make l x)))
packet_made None m make p is = cc
packet_made (Some l) None make p is = cc
packet_made (Some l) (Some x) make p is = (l, (x, (refl, cc)))

-- what is known of a packet whose block breaks no rule
pub record IsSeen (at : Position) (p : Packet) : Type 0 where
  pub number : p.frame.number ≡ at.count + 1
  pub later : unwrap_or at.greatest 0 ≤ p.frame.moment
  pub span : IsTrue (in_span at.greatest p.frame.moment)
  pub moment : p.frame.moment < end_of_moments
  pub size : length p.frame.octets ≤ most_frame_octets

-- the greater of both is in the span
span-max : (greatest : Option ℕ) (m : ℕ) → in_span greatest m ≡ true → in_span greatest (max (unwrap_or greatest 0) m) ≡ true
span-max None m is = refl
span-max (Some g) m is = let within = leb-true m (g + longest_span) is in le-leb (max g m) (g + longest_span) (omega (arith, within))

-- a packet of an interface
seen_of : (at : Position) (head : Head) (left : List ℕ) (interface : Interface) (p : Packet) → unwrap_or at.greatest 0 < end_of_moments
    → AllHold (seen_rules at head left interface) → Some p ≡ packet_of at head left interface → IsSeen at p
seen_of at head left interface p early hold is =
    let made = packet_made interface.link (moment at head interface left) (λ l x. record { interface = interface_number head left; frame = frame_at at head interface left l x }) p is in
    let x = made.1.0 in
    let f = frame_at at head interface left made.0 x in
    let same : p.frame ≡ f = ap (λ (q : Packet). q.frame) made.1.1.1 in
    let is_at = made.1.1.0 in
    let before_end = ltb-true x end_of_moments (ap is_moment (sym is_at) ∙ hold.1.1.1.0) in
    let within = ap (λ (m : Option ℕ). in_span at.greatest (unwrap_or m 0)) (sym is_at) ∙ hold.1.1.1.1.0 in
    let short = leb-true (kept head interface left) most_frame_octets hold.1.1.0 in
    let facts : IsSeen at (record { interface = p.interface; frame = f }) = record {
      number = refl;
      later = omega arith;
      span = span-max at.greatest x within;
      moment = omega (arith, early, before_end);
      size = omega (arith, short, length-take (kept head interface left) (drop (packet_place head) left));
    } in
    subst (λ (g : Frame). IsSeen at (record { interface = p.interface; frame = g })) (sym same) facts

-- a packet whose interface is looked up
seen_in : (at : Position) (head : Head) (left : List ℕ) (p : Packet) → unwrap_or at.greatest 0 < end_of_moments
    → AllHold (packet_rules at head left) → Some p ≡ option_and_then (packet_of at head left) (interface_of at head left) → IsSeen at p
seen_in at head left p early hold is = found (interface_of at head left) hold is where
  found : (o : Option Interface) → AllHold (elim o [ None ↦ (false, BadInterface at.place) ∷ [] | Some interface ↦ seen_rules at head left interface ])
      → Some p ≡ option_and_then (packet_of at head left) o → IsSeen at p
  found None hold is = cc
  found (Some interface) hold is = seen_of at head left interface p early hold is

-- a packet in a block of a kind
seen_kind : (kind : Kind) (at : Position) (head : Head) (left : List ℕ) (p : Packet) → unwrap_or at.greatest 0 < end_of_moments
    → AllHold (body_rules kind at head left) → Some p ≡ packet_in_kind kind at head left → (is_packet kind ≡ true) × IsSeen at p
seen_kind EnhancedPacket at head left p early hold is = (refl, seen_in at head left p early hold is)
seen_kind SimplePacket at head left p early hold is = (refl, seen_in at head left p early hold is)
seen_kind SectionHeader at head left p early hold is = cc
seen_kind InterfaceDescription at head left p early hold is = cc
seen_kind ObsoletePacket at head left p early hold is = cc
seen_kind Other at head left p early hold is = cc

-- where a packet begins there is room for it
room_for : (a b c d : Bool) → (a && (not (b && c) || d)) ≡ true → b ≡ true → c ≡ true → d ≡ true
room_for true true true d e _ _ = e
room_for true true false d e _ bad = cc
room_for true false c d e bad _ = cc
room_for false b c d e _ _ = cc

-- where a block breaks no rule, there is room for its packet
packet_room_for : (at : Position) (left : List ℕ) → None ≡ block_fault at left → is_packet (head_of at left).kind ≡ true → at.count < most_records
packet_room_for at left none packet =
    let all = all_hold (block_rules at left) (sym none) in
    let long = leb-true 8 (length left) all.1.0 in
    let there = le-leb 4 (length left) (omega (arith, long)) in
    ltb-true at.count most_records (room_for (nat_lt at.blocks most_blocks) (nat_le 4 (length left)) (is_packet (head_of at left).kind) (nat_lt at.count most_records) all.0 there packet)

-- and its packet is one that may come
pub block_seen : (at : Position) (left : List ℕ) (p : Packet) → unwrap_or at.greatest 0 < end_of_moments → None ≡ block_fault at left → Some p ≡ packet_in at (head_of at left) left
    → (at.count < most_records) × IsSeen at p
block_seen at left p early none is =
    let all = all_hold (block_rules at left) (sym none) in
    let seen = seen_kind (head_of at left).kind at (head_of at left) left p early all.1.1.1.1.1.1.1.1.1.1 is in
    (packet_room_for at left none seen.0, seen.1)

-- behind a packet the count and the greatest moment are its own
pub after-packet : (kind : Kind) (at : Position) (head : Head) (left : List ℕ) (p : Packet) → Some p ≡ packet_in_kind kind at head left
    → ((after_block kind at head left).count ≡ p.frame.number) × ((after_block kind at head left).greatest ≡ Some p.frame.moment)
after-packet EnhancedPacket at head left p is = (rw (sym is) refl, rw (sym is) refl)
after-packet SimplePacket at head left p is = (rw (sym is) refl, rw (sym is) refl)
after-packet SectionHeader at head left p is = cc
after-packet InterfaceDescription at head left p is = cc
after-packet ObsoletePacket at head left p is = cc
after-packet Other at head left p is = cc

-- behind any other block they stay
pub after-other : (kind : Kind) (at : Position) (head : Head) (left : List ℕ) → None ≡ packet_in_kind kind at head left
    → ((after_block kind at head left).count ≡ at.count) × ((after_block kind at head left).greatest ≡ at.greatest)
after-other EnhancedPacket at head left is = (rw (sym is) refl, rw (sym is) refl)
after-other SimplePacket at head left is = (rw (sym is) refl, rw (sym is) refl)
after-other SectionHeader at head left is = (refl, refl)
after-other InterfaceDescription at head left is = (refl, refl)
after-other ObsoletePacket at head left is = (refl, refl)
after-other Other at head left is = (refl, refl)

-- frames of one link
abbrev AreOf : Link → List Frame → Type 0
AreOf link frames = All (λ (f : Frame). f.link ≡ link) frames

-- a block, and the frames behind it
order_step : (link : Link) (at next : Position) (fault : Option NgFault) (o : Option Packet) (run : Run NgFault)
    → (None ≡ fault → (p : Packet) → Some p ≡ o → ((at.count < most_records) × IsSeen at p) × ((next.count ≡ p.frame.number) × (next.greatest ≡ Some p.frame.moment)))
    → (None ≡ fault → None ≡ o → (next.count ≡ at.count) × (next.greatest ≡ at.greatest))
    → (None ≡ fault → unwrap_or next.greatest 0 < end_of_moments → AreOf link run.frames → AreInOrder link next.count next.greatest run.frames)
    → unwrap_or at.greatest 0 < end_of_moments
    → AreOf link (of_block fault (option_map (frame_of false) o) run).frames
    → AreInOrder link at.count at.greatest (of_block fault (option_map (frame_of false) o) run).frames
order_step link at next (Some fault) o run seen other more early are = tt
order_step link at next None None run seen other more early are =
    let stays = other refl refl in
    let before_end : unwrap_or next.greatest 0 < end_of_moments = rw stays.1 early in
    rw (sym stays.0, sym stays.1) (more refl before_end are)
order_step link at next None (Some p) run seen other more early are =
    let is = seen refl p refl in
    let before_end : unwrap_or next.greatest 0 < end_of_moments = rw is.1.1 is.0.1.moment in (
      record { number = is.0.1.number; room = is.0.0; later = is.0.1.later; span = is.0.1.span; moment = is.0.1.moment; seen = All-head (λ (f : Frame). f.link ≡ link) p.frame run.frames are; size = is.0.1.size },
      rw (sym is.1.0, sym is.1.1) (more refl before_end (All-tail (λ (f : Frame). f.link ≡ link) p.frame run.frames are)),
    )

in_order : (n : ℕ) (link : Link) (at : Position) (left : List ℕ) → unwrap_or at.greatest 0 < end_of_moments
    → AreOf link (blocks_within n false at left).frames → AreInOrder link at.count at.greatest (blocks_within n false at left).frames
unfolding blocks_within
in_order zero link at left early are = tt
in_order (suc n) link at [] early are = tt
in_order (suc n) link at (x ∷ left) early are =
    let l = x ∷ left in
    let head = head_of at l in
    order_step link at (advanced at l) (block_fault at l) (packet_in at head l) (blocks_within n false (advanced at l) (rest at l))
    (λ none p is. (block_seen at l p early none is, after-packet head.kind at head l p is))
    (λ none is. after-other head.kind at head l is)
    (λ none before_end of_link. in_order n link (advanced at l) (rest at l) before_end of_link)
    early are

-- the frames of a file whose frames have one link are those of the classic capture that holds them
pub classic-same : (file : List ℕ) (link : Link) → AreOf link (ng_frames file false) → capture (classic link (ng_frames file false)) ≡ record { frames = ng_frames file false; fault = None }
unfolding read_on
classic-same file link are = capture-classic link (ng_frames file false) (in_order (length file) link begin file (omega arith) are)
