use Rattle.std.proofs.Common.{arith, ◌∙◌, ◌≡◌, ◌≤◌, ◌++◌, ◌+◌, ◌-◌, ◌*◌, ◌/◌, ℕ, List, length, take, drop, refl, ap}
use Rattle.std.proofs.lemmas.List.{length-take}
use Rattle.split_v4.specs.Halves.{first_half, first_size, flags_of, part_of, payload_of, with_more}
use Rattle.split_v4.proofs.PartLemmas.{part-is, part-size}
use Rattle.split_v4.proofs.SizeLemmas.{cutting}
use Rattle.split_v4.proofs.halves.first_half.Goals as goal

pub ended-requires-clause-size : goal.ended-requires-clause-size
ended-requires-clause-size c =
    let packet = c.args.packet.now.octets.now in
    let cut = cutting c.args.packet.now.base packet c.args.cut c.args.packet.now.lawful c.requires.may c.requires.cut in
    let options : List ℕ = take (c.args.cut.header_len - 20) (drop 20 packet) in
    let out = part-size c.args.packet.now.base c.args.frame.now.octets packet options c.extend_from_slice.new.self.items _ _ _ (omega (arith, c.requires.within))
    (c.in_ok-extend_from_slice.ensures.items ∙ ap (λ (l : List ℕ). l ++ options) c.in_ok-out.ensures) in
    let payload : length c.split_at-2.result.0.now ≤ first_size packet =
    omega (arith, ap length c.split_at-2.ensures.front, length-take (8 * c.from.result) c.split_at.result.1.now, c.from.ensures, cut.size) in
    omega (arith, out, ap length cut.options, payload, cut.sizes.options, cut.sizes.inside, c.requires.within)

pub returns-clause-value : goal.returns-clause-value
returns-clause-value c =
    let packet = c.args.packet.now.octets.now in
    let payload = c.split_at-2.result.0.now in
    let cut = cutting c.args.packet.now.base packet c.args.cut c.args.packet.now.lawful c.requires.may c.requires.cut in
    let options : List ℕ = take (c.args.cut.header_len - 20) (drop 20 packet) in
    let some : c.args.cut.header_len ≡ 20 + length options = omega (arith, cut.header, ap length cut.options, cut.sizes.options) in
    let behind : c.split_at.result.1.now ≡ payload_of packet = c.split_at.ensures.back ∙ ap (λ (n : ℕ). drop n packet) cut.header in
    let size : 8 * c.from.result ≡ first_size packet = ap (λ (n : ℕ). 8 * n) c.from.ensures ∙ cut.size in
    let front : payload ≡ take (first_size packet) (payload_of packet) =
    c.split_at-2.ensures.front ∙ ap (λ (n : ℕ). take n c.split_at.result.1.now) size ∙ ap (take (first_size packet)) behind in
    let flags : c.with_more.result ≡ with_more (flags_of packet) = c.with_more.ensures ∙ ap with_more c.big_16.ensures in
    let part = part-is c.args.packet.now.base c.args.frame.now.octets packet options payload c.extend_from_slice.new.self.items (c.args.cut.header_len / 4) (c.args.cut.header_len + length payload) c.with_more.result (omega (arith, c.requires.within))
    (c.in_ok-extend_from_slice.ensures.items ∙ ap (λ (l : List ℕ). l ++ options) c.in_ok-out.ensures) (ap (λ (n : ℕ). n / 4) some) (omega (arith, some)) in
    let is : part_of packet options c.with_more.result payload ≡ first_half packet = rw (cut.options, flags, front) refl in
    rw (part, is) at c.ended.ensures.value
