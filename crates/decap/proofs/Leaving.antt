-- What is delivered is the packet that left the tunnel.
use Rattle.std.proofs.Common.{◌≡◌, ◌<◌, ◌-◌, ◌/◌, ◌%◌, ℕ, List, slice_index, Bool, true, false, Option, Some, None, refl, ap, ◌∙◌, arith}
use Rattle.std.specs.Prelude.{is_some, unwrap_or}
use Rattle.std.proofs.lemmas.Bool.{ltb-true}
use Rattle.std.proofs.lemmas.Grind.{common_steps}
use Rattle.octets.specs.Rules.{first_failing}
use Rattle.octets.proofs.RuleLemmas.{all_hold}
use Rattle.ip_headers.specs.Ip.{class_of, header_at, is_v4, ttl_of}
use Rattle.ip_headers.specs.Packet.{IsPacket}
use Rattle.ip_headers.specs.declared.header.IpHeader.{IpHeader}
use Rattle.ip_headers.proofs.CutPacket.{v4_facts, v6_facts, is_six}
use Rattle.decap.specs.Delivered.{deliver_rules, delivered, lesser_ttl, marked, new_class}
use Rattle.decap.specs.Ecn.{dscp, ecn, ecn_of}
use Rattle.decap.specs.Unwrapped.{Unwrapped}
use Rattle.decap.proofs.Marks.{Marks}
use Rattle.decap.proofs.V4Marks.{v4_marks}
use Rattle.decap.proofs.V6Marks.{v6_marks}

-- marks of two bits
ecn_of-small : (inner outer : ℕ) → unwrap_or (ecn_of inner outer) 0 < 4
unfolding ecn_of
ecn_of-small inner outer = grind (arith, common_steps)

unwrapped_some : (option : Option ℕ) → is_some option ≡ true → Some (unwrap_or option 0) ≡ option
unwrapped_some (Some x) some = refl
unwrapped_some None some = cc

ttl_by : (base : ℕ) (packet : List ℕ) (four : Bool) → is_v4 packet ≡ four → IsPacket base packet → ttl_of (header_at packet) < 256
ttl_by base packet true is is_packet =
    let f = v4_facts base packet is_packet.lawful is in
    let ttl : slice_index packet 8 < 256 = is_packet.octets 8 0 (omega (arith, f.long)) in
    rw is ttl
ttl_by base packet false is is_packet =
    let f = v6_facts base packet is_packet.lawful (is_six base packet is_packet.lawful is) in
    let hops : slice_index packet 7 < 256 = is_packet.octets 7 0 (omega (arith, f.long)) in
    rw is hops

marks_by : (base : ℕ) (packet : List ℕ) (class ttl : ℕ) (four : Bool) → is_v4 packet ≡ four → IsPacket base packet → class < 256 → ttl < 256
    → Marks packet class ttl (marked packet class ttl)
marks_by base packet class ttl true is is_packet class_fits ttl_fits = rw is (v4_marks base packet class ttl is_packet is class_fits ttl_fits)
marks_by base packet class ttl false is is_packet class_fits ttl_fits = rw is (v6_marks base packet class ttl is_packet is class_fits)

pub leaves : (base : ℕ) (outer : IpHeader) (inner : List ℕ) → IsPacket base inner → class_of outer < 256
    → first_failing (deliver_rules inner outer) ≡ None → Unwrapped outer inner (delivered inner outer)
leaves base outer inner is_packet fits pass =
    let header = header_at inner in
    let rules = all_hold (deliver_rules inner outer) pass in
    let alive : 1 < lesser_ttl header outer = ltb-true _ _ rules.1.0 in
    let mark : ℕ = unwrap_or (ecn_of (ecn header) (ecn outer)) 0 in
    let small : mark < 4 = ecn_of-small (ecn header) (ecn outer) in
    let is_mark : Some mark ≡ ecn_of (ecn header) (ecn outer) = unwrapped_some (ecn_of (ecn header) (ecn outer)) rules.0 in
    let ttl_fits : ttl_of header < 256 = ttl_by base inner (is_v4 inner) refl is_packet in
    let class : ℕ = new_class header outer in
    let ttl : ℕ = lesser_ttl header outer - 1 in
    let marks = marks_by base inner class ttl (is_v4 inner) refl is_packet (omega arith) (omega arith) in
    let same_dscp : class / 4 ≡ dscp outer = omega arith in
    let same_ecn : class % 4 ≡ mark = omega arith in
    record {
      same_length = marks.same_length;
      ttl = omega (arith, marks.ttl_is);
      dscp = ap (λ (c : ℕ). c / 4) marks.class_is ∙ same_dscp;
      ecn = ap (λ (c : ℕ). Some (c % 4)) marks.class_is ∙ ap Some same_ecn ∙ is_mark;
      version = marks.version;
      flow_label = marks.flow_label;
      others = marks.others;
      checksum = marks.checksum;
      lawful = marks.lawful;
      exact = marks.exact;
    }
