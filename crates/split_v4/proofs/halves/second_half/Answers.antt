use Rattle.std.proofs.Common.{arith, ◌∙◌, ◌≡◌, ◌++◌, ◌+◌, ◌-◌, ◌*◌, ◌/◌, ℕ, List, length, take, drop, refl, ap, length-drop}
use Rattle.ip_headers.specs.Ip.{header_len}
use Rattle.split_v4.specs.Halves.{copied_options, first_eighths, first_size, flags_of, part_of, payload_of, second_half}
use Rattle.split_v4.specs.Options.{are_options, copied_in, padded}
use Rattle.split_v4.proofs.PartLemmas.{part-is, part-size}
use Rattle.split_v4.proofs.SizeLemmas.{cutting}
use Rattle.split_v4.proofs.halves.second_half.Goals as goal

pub overflow_add-header_len : goal.overflow_add-header_len
overflow_add-header_len c =
    let cut = cutting c.args.packet.now.base c.args.packet.now.octets.now c.args.cut c.args.packet.now.lawful c.requires.may c.requires.cut in
    omega (arith, cut.copied, cut.sizes.few, cut.sizes.most)

pub overflow_cast-own : goal.overflow_cast-own
overflow_cast-own c =
    let cut = cutting c.args.packet.now.base c.args.packet.now.octets.now c.args.cut c.args.packet.now.lawful c.requires.may c.requires.cut in
    omega (arith, cut.copied, cut.sizes.few, cut.sizes.most)

pub overflow_add-own : goal.overflow_add-own
overflow_add-own c =
    let packet = c.args.packet.now.octets.now in
    let cut = cutting c.args.packet.now.base packet c.args.cut c.args.packet.now.lawful c.requires.may c.requires.cut in
    omega (arith, cut.copied, cut.sizes.few, cut.sizes.most, c.args.packet.now.short, ap length c.split_at-2.ensures.back, length-drop (8 * c.from.result) c.split_at.result.1.now, ap length c.split_at.ensures.back, length-drop c.args.cut.header_len packet)

pub overflow_cast-own-2 : goal.overflow_cast-own-2
overflow_cast-own-2 c =
    let packet = c.args.packet.now.octets.now in
    let cut = cutting c.args.packet.now.base packet c.args.cut c.args.packet.now.lawful c.requires.may c.requires.cut in
    omega (arith, cut.copied, cut.header, cut.size, c.from.ensures, cut.sizes.few, cut.sizes.most, c.args.packet.now.short, ap length c.split_at-2.ensures.back, length-drop (8 * c.from.result) c.split_at.result.1.now, ap length c.split_at.ensures.back, length-drop c.args.cut.header_len packet, length-drop (header_len packet) packet)

pub started-requires-clause-words : goal.started-requires-clause-words
started-requires-clause-words c =
    let cut = cutting c.args.packet.now.base c.args.packet.now.octets.now c.args.cut c.args.packet.now.lawful c.requires.may c.requires.cut in
    omega (arith, cut.copied, cut.sizes.few, cut.sizes.most)

pub append_padded-requires : goal.append_padded-requires
append_padded-requires c =
    let cut = cutting c.args.packet.now.base c.args.packet.now.octets.now c.args.cut c.args.packet.now.lawful c.requires.may c.requires.cut in
    ap are_options cut.options ∙ cut.well

pub ended-requires-clause-size : goal.ended-requires-clause-size
ended-requires-clause-size c =
    let packet = c.args.packet.now.octets.now in
    let cut = cutting c.args.packet.now.base packet c.args.cut c.args.packet.now.lawful c.requires.may c.requires.cut in
    let copies : List ℕ = padded (copied_in (take (c.args.cut.header_len - 20) (drop 20 packet))) in
    let out = part-size c.args.packet.now.base c.args.frame.now.octets packet copies c.append_padded.new.out.items _ _ _ (omega (arith, c.requires.within))
    (c.in_ok-append_padded.ensures ∙ ap (λ (l : List ℕ). l ++ copies) c.in_ok-out.ensures) in
    let some : length copies ≡ length (copied_options packet) = ap (λ (l : List ℕ). length (padded (copied_in l))) cut.options in
    omega (arith, out, some, cut.header, cut.size, c.from.ensures, cut.sizes.few, cut.sizes.inside, c.requires.within, ap length c.split_at-2.ensures.back, length-drop (8 * c.from.result) c.split_at.result.1.now, ap length c.split_at.ensures.back, length-drop c.args.cut.header_len packet)

pub returns-clause-value : goal.returns-clause-value
returns-clause-value c =
    let packet = c.args.packet.now.octets.now in
    let payload = c.split_at-2.result.1.now in
    let cut = cutting c.args.packet.now.base packet c.args.cut c.args.packet.now.lawful c.requires.may c.requires.cut in
    let copies : List ℕ = padded (copied_in (take (c.args.cut.header_len - 20) (drop 20 packet))) in
    let are : copies ≡ copied_options packet = ap (λ (l : List ℕ). padded (copied_in l)) cut.options in
    let some : 20 + c.args.cut.copied_len ≡ 20 + length copies = omega (arith, cut.copied, ap length are) in
    let behind : c.split_at.result.1.now ≡ payload_of packet = c.split_at.ensures.back ∙ ap (λ (n : ℕ). drop n packet) cut.header in
    let size : 8 * c.from.result ≡ first_size packet = ap (λ (n : ℕ). 8 * n) c.from.ensures ∙ cut.size in
    let back : payload ≡ drop (first_size packet) (payload_of packet) =
    c.split_at-2.ensures.back ∙ ap (λ (n : ℕ). drop n c.split_at.result.1.now) size ∙ ap (drop (first_size packet)) behind in
    let flags : c.big_16.result + c.args.cut.eighths ≡ flags_of packet + first_eighths packet = omega (arith, c.big_16.ensures, cut.eighths) in
    let part = part-is c.args.packet.now.base c.args.frame.now.octets packet copies payload c.append_padded.new.out.items ((20 + c.args.cut.copied_len) / 4) (20 + c.args.cut.copied_len + length payload) (c.big_16.result + c.args.cut.eighths) (omega (arith, c.requires.within))
    (c.in_ok-append_padded.ensures ∙ ap (λ (l : List ℕ). l ++ copies) c.in_ok-out.ensures) (ap (λ (n : ℕ). n / 4) some) (omega (arith, some)) in
    let is : part_of packet copies (c.big_16.result + c.args.cut.eighths) payload ≡ second_half packet = rw (are, flags, back) refl in
    rw (part, is) at c.ended.ensures.value
