-- The frame of a packet block, as a reader puts it together.
use Rattle.std.proofs.Common.{◌≡◌, ◌≤◌, ◌<◌, ◌+◌, ◌++◌, ◌&&◌, nat_lt, max, ℕ, Bool, true, false, List, drop, take, length, Option, Some, None, unwrap_or, slice_get, slice_index, Fits, w8, if◌then◌else◌, refl, sym, ap, ◌∙◌, arith, inl, inr}
use Rattle.std.specs.Option.{option_map, option_and_then}
use Rattle.std.specs.List.{All}
use Rattle.std.proofs.lemmas.Bool.{cases_Bool, ltb-true}
use Rattle.std.proofs.lemmas.List.{length-append, length-drop, length-take}
use Rattle.std.proofs.lemmas.List.Elements.{All-append, All-drop, All-from_get_or, All-from_recursion, All-same, All-take}
use Rattle.octets.specs.Numbers.{big_octets}
use Rattle.capture_io.specs.Frame.{Frame}
use Rattle.capture_io.specs.Limits.{most_frame_octets, most_records}
use Rattle.capture_io.specs.declared.link.Link.{Link}
use Rattle.capture_ng.specs.Limits.{end_of_moments}
use Rattle.capture_ng.specs.Packets.{Packet, early, frame_at, frame_of, interface_number, interface_of, is_untagged, kept, moment, packet_of, packet_place, tagged}
use Rattle.capture_ng.specs.Position.{Position}
use Rattle.capture_ng.specs.Reading.{IsNext, most_octets}
use Rattle.capture_ng.specs.declared.head.Head.{Head}
use Rattle.capture_ng.specs.declared.interface.Interface.{Interface}

-- each number is below 256
abbrev pub AreOctets : List ℕ → Type 0
AreOctets octets = All (λ octet. octet < 256) octets

-- octets by their type
pub below : (octets : List ℕ) → ((k : ℕ) → Fits w8 (slice_index octets k)) → AreOctets octets
below octets fits = All-from_get_or (λ octet. octet < 256) octets 0 (λ k within. let here = fits k in omega arith)

-- octets with a tag among them
tag_octets : (vlan : ℕ) → AreOctets (big_octets 2 0x8100 ++ big_octets 2 vlan)
tag_octets vlan = All-from_recursion (λ octet. octet < 256) (big_octets 2 0x8100 ++ big_octets 2 vlan) (omega arith, (omega arith, (omega arith, (omega arith, tt))))

pub tagged_octets : (vlan : ℕ) (octets frame : List ℕ) → AreOctets octets → frame ≡ tagged vlan octets → AreOctets frame
tagged_octets vlan octets frame are is =
    let P : ℕ → Type 0 = λ octet. octet < 256 in
    let tag : List ℕ = big_octets 2 0x8100 ++ big_octets 2 vlan in
    All-same P frame (tagged vlan octets) is
    (All-append P (take 12 octets) (tag ++ drop 12 octets) (All-take P 12 octets are) (All-append P tag (drop 12 octets) (tag_octets vlan) (All-drop P 12 octets are)))

-- how many there are of a frame
length-tagged : (vlan : ℕ) (octets : List ℕ) → length (tagged vlan octets) ≡ length octets + 4
length-tagged vlan octets =
    let tag : List ℕ = big_octets 2 0x8100 ++ big_octets 2 vlan in
    omega (arith, length-append (take 12 octets) (tag ++ drop 12 octets), length-append tag (drop 12 octets), length-take 12 octets, length-drop 12 octets)

pub tagged_most : (vlan : ℕ) (octets frame : List ℕ) → frame ≡ tagged vlan octets → length frame ≤ length octets + 4
tagged_most vlan octets frame is = omega (arith, length-tagged vlan octets, ap (λ (l : List ℕ). length l) is)

frame_short : (vlans test : Bool) (vlan : ℕ) (octets : List ℕ) → length octets ≤ most_frame_octets → length (if vlans && test then tagged vlan octets else octets) ≤ most_octets vlans
frame_short true true vlan octets short = omega (arith, short, length-tagged vlan octets)
frame_short true false vlan octets short = omega (arith, short)
frame_short false test vlan octets short = short

-- a moment that is early enough
early_is : (o : Option ℕ) (m : ℕ) → option_and_then early o ≡ Some m → (o ≡ Some m) × (m < end_of_moments)
early_is None m e = cc
early_is (Some x) m e =
    elim (cases_Bool (nat_lt x end_of_moments)) [
      | inl holds ↦ (let is : Some x ≡ Some m = rw holds at e in (let same : x ≡ m = cc in (is, omega (arith, same, ltb-true x end_of_moments holds))))
      | inr fails ↦ (let bad : None ≡ Some m = rw fails at e in cc)
    ]

-- a frame of its parts, and a packet of an interface
abbrev pub made : ℕ → ℕ → Link → List ℕ → Frame
made number m link octets = record { number = number; moment = m; link = link; octets = octets }

abbrev packet_at : Position → Head → List ℕ → Interface → Link → ℕ → Packet
packet_at at head left interface link m = record { interface = interface_number head left; frame = frame_at at head interface left link m }

-- a frame's octets by a test are a frame by that test
tagged_or : (test : Bool) (number m : ℕ) (link : Link) (x y : List ℕ)
    → made number m link (if test then x else y) ≡ (if test then made number m link x else made number m link y)
tagged_or true number m link x y = refl
tagged_or false number m link x y = refl

-- what stands together makes the frame of the packet in the block
pub frame-made : (vlans : Bool) (at : Position) (head : Head) (left : List ℕ) (interface : Interface) (link : Link) (count greatest m n k : ℕ) (slice octets : List ℕ)
    → count ≡ at.count → greatest ≡ max (unwrap_or at.greatest 0) m → n ≡ interface_number head left → Some interface ≡ slice_get at.interfaces n
    → interface.link ≡ Some link → option_and_then early (moment at head interface left) ≡ Some m → k ≡ kept head interface left
    → slice ≡ take k (drop (packet_place head) left)
    → octets ≡ (if vlans && (nat_lt 0 n && is_untagged link slice) then tagged n slice else slice)
    → Some (made (count + 1) greatest link octets) ≡ option_map (frame_of vlans) (option_and_then (packet_of at head left) (interface_of at head left))
frame-made vlans at head left interface link count greatest m n k slice octets count_is greatest_is n_is interface_is link_is moment_is k_is slice_is octets_is =
    let number = interface_number head left in
    let whole : List ℕ = take (kept head interface left) (drop (packet_place head) left) in
    let packet : Packet = record { interface = number; frame = frame_at at head interface left link m } in
    let looked : interface_of at head left ≡ Some interface = sym (interface_is ∙ ap (λ (i : ℕ). slice_get at.interfaces i) n_is) in
    let found : option_and_then (packet_of at head left) (interface_of at head left) ≡ Some packet =
    ap (λ (o : Option Interface). option_and_then (packet_of at head left) o) looked
    ∙ ap (λ (o : Option Link). option_and_then (λ l. option_map (λ x. packet_at at head left interface l x) (moment at head interface left)) o) link_is
    ∙ ap (λ (o : Option ℕ). option_map (λ x. packet_at at head left interface link x) o) (early_is (moment at head interface left) m moment_is).0 in
    let same : slice ≡ whole = slice_is ∙ ap (λ (j : ℕ). take j (drop (packet_place head) left)) k_is in
    let octets_are : octets ≡ (if vlans && (nat_lt 0 number && is_untagged link whole) then tagged number whole else whole) =
    octets_is ∙ ap (λ (s : List ℕ). if vlans && (nat_lt 0 n && is_untagged link s) then tagged n s else s) same
    ∙ ap (λ (j : ℕ). if vlans && (nat_lt 0 j && is_untagged link whole) then tagged j whole else whole) n_is in
    ap (λ (f : Frame). Some f) (ap (λ (j : ℕ). made (j + 1) greatest link octets) count_is ∙ ap (λ (j : ℕ). made (at.count + 1) j link octets) greatest_is
    ∙ ap (λ (o : List ℕ). made (at.count + 1) (max (unwrap_or at.greatest 0) m) link o) octets_are
    ∙ tagged_or (vlans && (nat_lt 0 number && is_untagged link whole)) (at.count + 1) (max (unwrap_or at.greatest 0) m) link (tagged number whole) whole)
    ∙ sym (ap (λ (o : Option Packet). option_map (frame_of vlans) o) found)

-- and it is one that a reader gives
pub next-made : (vlans : Bool) (at : Position) (link : Link) (named : Option ℕ) (rest : List ℕ) (count greatest m n k : ℕ) (slice octets : List ℕ)
    → count ≡ at.count → at.count < most_records → greatest ≡ max (unwrap_or at.greatest 0) m → unwrap_or at.greatest 0 < end_of_moments
    → option_and_then early named ≡ Some m → k ≤ most_frame_octets → slice ≡ take k rest
    → octets ≡ (if vlans && (nat_lt 0 n && is_untagged link slice) then tagged n slice else slice) → AreOctets octets
    → IsNext vlans at (made (count + 1) greatest link octets)
next-made vlans at link named rest count greatest m n k slice octets count_is room greatest_is early moment_is short slice_is octets_is are =
    let before_end = (early_is named m moment_is).1 in
    let size : length slice ≤ most_frame_octets = omega (arith, short, length-take k rest, ap (λ (l : List ℕ). length l) slice_is) in
    let bound = frame_short vlans (nat_lt 0 n && is_untagged link slice) n slice size in
    record {
      number = ap (λ (j : ℕ). j + 1) count_is;
      most = omega (arith, count_is, room);
      later = omega (arith, greatest_is);
      moment = omega (arith, greatest_is, early, before_end);
      size = omega (arith, bound, ap (λ (l : List ℕ). length l) octets_is);
      octets = are;
    }
