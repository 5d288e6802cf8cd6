-- An IPv6 packet with other marks.
use Rattle.std.proofs.Common.{◌≡◌, ◌≤◌, ◌<◌, ◌+◌, ◌*◌, ◌/◌, ◌%◌, ◌||◌, eqb, ℕ, List, ◌∷◌, All, length, slice_index, slice_set, true, false, refl, sym, ap, ◌∙◌, arith}
use Rattle.std.proofs.lemmas.Bool.{eqb-false, eqb-true, eq-eqb, or_parts}
use Rattle.std.proofs.lemmas.List.{get_or-set_other}
use Rattle.octets.specs.Numbers.{big}
use Rattle.ip_headers.specs.Ip.{is_v4, is_v6, version}
use Rattle.ip_headers.specs.Packet.{IsPacket}
use Rattle.ip_headers.proofs.CutPacket.{is_six, v6_facts, v6_rules, V6Facts}
use Rattle.decap.specs.Delivered.{v6_marked}
use Rattle.decap.specs.Unwrapped.{flow_label}
use Rattle.decap.proofs.Lengths.{length-v6_marked}
use Rattle.decap.proofs.Marks.{Marks}

-- the other octets stay
slice_index-v6_marked : (packet : List ℕ) (class hops k : ℕ) → (eqb k 0 || eqb k 1 || eqb k 7) ≡ false
    → slice_index (v6_marked packet class hops) k ≡ slice_index packet k
unfolding v6_marked
slice_index-v6_marked packet class hops k same =
    let a = or_parts (eqb k 0 || eqb k 1) (eqb k 7) same in
    let b = or_parts (eqb k 0) (eqb k 1) a.0 in
    let second = class % 16 * 16 + slice_index packet 1 % 16 in
    let one = slice_set packet 1 second in
    let two = slice_set one 0 (6 * 16 + class / 16) in
    get_or-set_other two 7 k hops 0 (eqb-false k 7 a.1) ∙ get_or-set_other one 0 k (6 * 16 + class / 16) 0 (eqb-false k 0 b.0)
    ∙ get_or-set_other packet 1 k second 0 (eqb-false k 1 b.1)

-- the fields in the first eight octets
record Front (packet : List ℕ) (class hops : ℕ) : Type 0 where
  pub version : version (v6_marked packet class hops) ≡ 6
  pub class_is : big 2 (v6_marked packet class hops) 0 / 16 % 256 ≡ class
  pub flow : flow_label (v6_marked packet class hops) ≡ flow_label packet
  pub payload : big 2 (v6_marked packet class hops) 4 ≡ big 2 packet 4
  pub hops_is : slice_index (v6_marked packet class hops) 7 ≡ hops

front : (packet : List ℕ) (class hops : ℕ) → 8 ≤ length packet → All (λ octet. octet < 256) packet → class < 256 → Front packet class hops
unfolding v6_marked
front (a ∷ b ∷ c ∷ d ∷ e ∷ f ∷ g ∷ h ∷ rest) class hops long all fits =
    let c_fits : c < 256 = all 2 0 (omega arith) in
    let d_fits : d < 256 = all 3 0 (omega arith) in
    record { version = omega arith; class_is = omega arith; flow = omega arith; payload = refl; hops_is = refl }
front packet class hops long all fits = absurd (omega arith)

pub v6_marks : (base : ℕ) (packet : List ℕ) (class hops : ℕ) → IsPacket base packet → is_v4 packet ≡ false → class < 256
    → Marks packet class hops (v6_marked packet class hops)
v6_marks base packet class hops is_packet other fits =
    let out = v6_marked packet class hops in
    let six = is_six base packet is_packet.lawful other in
    let f = v6_facts base packet is_packet.lawful six in
    let fields = front packet class hops (omega (arith, f.long)) is_packet.octets fits in
    let size : length out ≡ length packet = length-v6_marked packet class hops in
    let six_out : is_v6 out ≡ true = eq-eqb (version out) 6 fields.version in
    let not_four : is_v4 out ≡ false = ap (λ (v : ℕ). eqb v 4) fields.version in
    let exact : length packet ≡ big 2 packet 4 + 40 = rw other at is_packet.exact in
    let facts : V6Facts out = record { four = not_four; long = omega (arith, f.long); total = omega (arith, f.total, fields.payload) } in
    record {
      same_length = size;
      class_is = rw not_four fields.class_is;
      ttl_is = rw not_four fields.hops_is;
      version = fields.version ∙ sym (eqb-true (version packet) 6 six);
      flow_label = λ v6. fields.flow;
      others = λ k same. slice_index-v6_marked packet class hops k (rw other at same);
      checksum = λ v4. absurd (cc);
      lawful = λ at. v6_rules at out six_out facts;
      exact = rw not_four (omega (arith, fields.payload));
    }
