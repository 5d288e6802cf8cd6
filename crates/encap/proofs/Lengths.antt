-- A forwarded packet is as long as it was.
use Rattle.std.proofs.Common.{◌≡◌, ◌≤◌, ◌-◌, ℕ, List, ◌∷◌, ◌++◌, length, take, drop, slice_index, Bool, true, false, None, arith, length-append, length-drop, refl}
use Rattle.std.proofs.lemmas.List.{length-take}
use Rattle.octets.specs.Rules.{first_failing}
use Rattle.octets.specs.Numbers.{big_octets}
use Rattle.ip_headers.specs.Checksum.{checksum}
use Rattle.ip_headers.specs.Ip.{ip_rules, is_v4, header_len}
use Rattle.ip_headers.proofs.CutPacket.{v4_facts, v6_facts, is_six}
use Rattle.encap.specs.Forwarded.{forwarded, forwarded_v4, forwarded_v6, lowered, renewed}

pub length-lowered : (header : List ℕ) (sum : ℕ) → 12 ≤ length header → length (lowered header sum) ≡ length header
length-lowered header sum long = omega (arith, length-take 8 header, length-drop 12 header, length-append (take 8 header) ((slice_index header 8 - 1) ∷ slice_index header 9 ∷ (big_octets 2 sum ++ drop 12 header)))

pub length-renewed : (header : List ℕ) → 12 ≤ length header → length (renewed header) ≡ length header
unfolding renewed
length-renewed header long = length-lowered header (checksum (lowered header 0)) long

pub length-forwarded_v4 : (packet : List ℕ) → 12 ≤ header_len packet → header_len packet ≤ length packet → length (forwarded_v4 packet) ≡ length packet
length-forwarded_v4 packet long within =
    let size = header_len packet in
    let taken : length (take size packet) ≡ size = omega (arith, length-take size packet) in
    omega (arith, length-renewed (take size packet) (omega arith), length-drop size packet, length-append (renewed (take size packet)) (drop size packet))

pub length-forwarded_v6 : (packet : List ℕ) → 8 ≤ length packet → length (forwarded_v6 packet) ≡ length packet
length-forwarded_v6 packet long = omega (arith, length-take 7 packet, length-drop 8 packet, length-append (take 7 packet) ((slice_index packet 7 - 1) ∷ drop 8 packet))

by_version : (base : ℕ) (packet : List ℕ) (four : Bool) → is_v4 packet ≡ four → first_failing (ip_rules base packet) ≡ None → length (forwarded packet) ≡ length packet
by_version base packet true is lawful =
    let facts = v4_facts base packet lawful is in
    rw is (length-forwarded_v4 packet (omega (arith, facts.words)) (omega (arith, facts.inside, facts.total)))
by_version base packet false is lawful =
    let facts = v6_facts base packet lawful (is_six base packet lawful is) in
    rw is (length-forwarded_v6 packet (omega (arith, facts.long)))

pub length-forwarded : (base : ℕ) (packet : List ℕ) → first_failing (ip_rules base packet) ≡ None → length (forwarded packet) ≡ length packet
length-forwarded base packet lawful = by_version base packet (is_v4 packet) refl lawful
