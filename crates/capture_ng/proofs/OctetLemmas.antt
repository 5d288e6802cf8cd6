-- The frames of a file of octets are of octets, whether or not interfaces are VLANs.
use Rattle.std.proofs.Common.{◌≡◌, ◌<◌, ◌&&◌, nat_lt, ℕ, zero, suc, Bool, true, false, List, [], ◌∷◌, drop, length, Option, Some, None, if◌then◌else◌, refl, sym, ap, subst}
use Rattle.std.specs.Option.{option_map, option_and_then}
use Rattle.std.specs.List.{All}
use Rattle.std.proofs.lemmas.List.Elements.{All-cons, All-drop, All-nil, All-take}
use Rattle.capture_io.specs.Frame.{Frame}
use Rattle.capture_io.specs.Run.{Run}
use Rattle.capture_ng.proofs.FrameLemmas.{AreOctets, tagged_octets}
use Rattle.capture_ng.proofs.OrderLemmas.{packet_made}
use Rattle.capture_ng.specs.Blocks.{head_of}
use Rattle.capture_ng.specs.Faults.{block_fault}
use Rattle.capture_ng.specs.Frames.{advanced, blocks_within, ng_frames, of_block, read_on, rest}
use Rattle.capture_ng.specs.Packets.{Packet, frame_at, frame_of, interface_number, interface_of, is_untagged, kept, moment, packet_in, packet_in_kind, packet_of, packet_place, tagged}
use Rattle.capture_ng.specs.Position.{Position, begin}
use Rattle.capture_ng.specs.declared.fault.NgFault.{NgFault}
use Rattle.capture_ng.specs.declared.head.Head.{Head}
use Rattle.capture_ng.specs.declared.head.Kind.{Kind}
use Rattle.capture_ng.specs.declared.head.Kind.TheVariants.{SectionHeader, InterfaceDescription, ObsoletePacket, SimplePacket, EnhancedPacket, Other}
use Rattle.capture_ng.specs.declared.interface.Interface.{Interface}

-- each frame is of octets
abbrev pub AreOfOctets : List Frame → Type 0
AreOfOctets frames = All (λ (frame : Frame). AreOctets frame.octets) frames

-- a tag is of octets
octets_or : (test : Bool) (vlan : ℕ) (f : Frame) → AreOctets f.octets → AreOctets (if test then record f { octets = tagged vlan f.octets } else f).octets
octets_or true vlan f are = tagged_octets vlan f.octets (tagged vlan f.octets) are refl
octets_or false vlan f are = are

frame_of-octets : (vlans : Bool) (p : Packet) → AreOctets p.frame.octets → AreOctets (frame_of vlans p).octets
frame_of-octets vlans p are = octets_or (vlans && (nat_lt 0 p.interface && is_untagged p.frame.link p.frame.octets)) p.interface p.frame are

-- the packet of an interface
octets_of : (at : Position) (head : Head) (left : List ℕ) (interface : Interface) (p : Packet) → AreOctets left → Some p ≡ packet_of at head left interface → AreOctets p.frame.octets
octets_of at head left interface p are is =
    let made = packet_made interface.link (moment at head interface left) (λ l x. record { interface = interface_number head left; frame = frame_at at head interface left l x }) p is in
    let same = ap (λ (q : Packet). q.frame.octets) made.1.1.1 in
    let kept_are = All-take (λ octet. octet < 256) (kept head interface left) (drop (packet_place head) left) (All-drop (λ octet. octet < 256) (packet_place head) left are) in
    subst AreOctets (sym same) kept_are

-- a packet whose interface is looked up
octets_in : (at : Position) (head : Head) (left : List ℕ) (p : Packet) → AreOctets left → (o : Option Interface) → Some p ≡ option_and_then (packet_of at head left) o → AreOctets p.frame.octets
octets_in at head left p are None is = cc
octets_in at head left p are (Some interface) is = octets_of at head left interface p are is

-- a packet in a block of a kind
octets_kind : (kind : Kind) (at : Position) (head : Head) (left : List ℕ) (p : Packet) → AreOctets left → Some p ≡ packet_in_kind kind at head left → AreOctets p.frame.octets
octets_kind EnhancedPacket at head left p are is = octets_in at head left p are (interface_of at head left) is
octets_kind SimplePacket at head left p are is = octets_in at head left p are (interface_of at head left) is
octets_kind SectionHeader at head left p are is = cc
octets_kind InterfaceDescription at head left p are is = cc
octets_kind ObsoletePacket at head left p are is = cc
octets_kind Other at head left p are is = cc

-- a block, and the frames behind it
octets-step : (vlans : Bool) (fault : Option NgFault) (o : Option Packet) (run : Run NgFault) → ((p : Packet) → Some p ≡ o → AreOctets p.frame.octets)
    → AreOfOctets run.frames → AreOfOctets (of_block fault (option_map (frame_of vlans) o) run).frames
octets-step vlans (Some fault) o run packet more = All-nil (λ (frame : Frame). AreOctets frame.octets)
octets-step vlans None None run packet more = more
octets-step vlans None (Some p) run packet more =
    All-cons (λ (frame : Frame). AreOctets frame.octets) (frame_of vlans p) run.frames (frame_of-octets vlans p (packet p refl)) more

octets_within : (n : ℕ) (vlans : Bool) (at : Position) (left : List ℕ) → AreOctets left → AreOfOctets (blocks_within n vlans at left).frames
unfolding blocks_within
octets_within zero vlans at left are = All-nil (λ (frame : Frame). AreOctets frame.octets)
octets_within (suc n) vlans at [] are = All-nil (λ (frame : Frame). AreOctets frame.octets)
octets_within (suc n) vlans at (x ∷ left) are =
    let l = x ∷ left in
    let head = head_of at l in
    octets-step vlans (block_fault at l) (packet_in at head l) (blocks_within n vlans (advanced at l) (rest at l))
    (λ p is. octets_kind head.kind at head l p are is)
    (octets_within n vlans (advanced at l) (rest at l) (All-drop (λ octet. octet < 256) head.length l are))

-- those of a file
pub frames-octets : (file : List ℕ) (vlans : Bool) → AreOctets file → AreOfOctets (ng_frames file vlans)
unfolding read_on
frames-octets file vlans are = octets_within (length file) vlans begin file are
