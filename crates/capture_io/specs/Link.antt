-- The link layer: Ethernet with a VLAN tag (IEEE 802.1Q) or without, or the IP packet alone.
use Rattle.std.specs.Prelude.{ℕ, ◌+◌, ◌-◌, ◌%◌, ◌==◌, ◌||◌, not, nat_le, Bool, List, [], ◌∷◌, length, drop, if◌then◌else◌}
use Rattle.octets.specs.Numbers.{big}
use Rattle.octets.specs.declared.refused.Refused.{Refused}
use Rattle.octets.specs.declared.refused.Layer.TheVariants as layer
use Rattle.octets.specs.declared.refused.Why.{Why}
use Rattle.octets.specs.declared.refused.Why.TheVariants.{Short, EtherType}
use Rattle.capture_io.specs.Frame.{Frame}
use Rattle.capture_io.specs.declared.link.Link.TheVariants.{Ethernet, Raw}

-- a refusal by the link layer
abbrev pub refused : ℕ → Why → Refused
refused place why = record { layer = layer.Link; place = place; why = why }

-- whether a VLAN tag stands before the type of an Ethernet frame
abbrev pub is_tagged : List ℕ → Bool
is_tagged octets = big 2 octets 12 == 0x8100

-- the place of an Ethernet frame's type, behind the VLAN tag if it has one
abbrev pub type_place : List ℕ → ℕ
type_place octets = if is_tagged octets then 16 else 12

-- whether a type is that of IPv4 or IPv6
abbrev pub is_ip_type : ℕ → Bool
is_ip_type x = x == 0x0800 || x == 0x86dd

-- the rules of an Ethernet frame
abbrev pub ethernet_rules : List ℕ → List (Bool × Refused)
ethernet_rules octets =
    (nat_le 14 (length octets), refused 0 Short)
    ∷ (not (is_tagged octets) || nat_le 18 (length octets), refused 14 Short)
    ∷ (is_ip_type (big 2 octets (type_place octets)), refused (type_place octets) EtherType)
    ∷ []

-- the VLAN of an Ethernet frame: the low 12 bits of its tag, 0 without one
abbrev pub ethernet_vlan : List ℕ → ℕ
ethernet_vlan octets = if is_tagged octets then big 2 octets 14 % 4096 else 0

-- the octets of an Ethernet frame behind its type
abbrev pub ethernet_octets : List ℕ → List ℕ
ethernet_octets octets = drop (type_place octets + 2) octets

-- the rules of a frame's link header: those of Ethernet, none for raw IP
abbrev pub link_rules : Frame → List (Bool × Refused)
link_rules f = elim f.link [ Ethernet ↦ ethernet_rules f.octets | Raw ↦ [] ]

-- the VLAN of a frame, 0 where it has none
abbrev pub link_vlan : Frame → ℕ
link_vlan f = elim f.link [ Ethernet ↦ ethernet_vlan f.octets | Raw ↦ 0 ]

-- the octets of a frame behind the link header: an IP packet, and any padding behind it
abbrev pub link_octets : Frame → List ℕ
link_octets f = elim f.link [ Ethernet ↦ ethernet_octets f.octets | Raw ↦ f.octets ]

-- the place of the octets behind a frame's link header
abbrev pub link_place : Frame → ℕ
link_place f = length f.octets - length (link_octets f)
