use Rattle.std.proofs.Common.{arith, ◌∙◌, ◌≡◌, ◌-◌, ℕ, [], ◌∷◌, length, take, replicate, ap, append_assoc, length-append}
use Rattle.split_v4.specs.Options.{copied_in, padding}
use Rattle.split_v4.proofs.Zeros.{take-zeros}
use Rattle.split_v4.proofs.halves.append_padded.Goals as goal

pub returns : goal.returns
returns c =
    let before = c.args.out.now.items in
    let copies = copied_in c.args.options.now in
    let size : c.len.result - c.len-start.result ≡ length copies = omega (arith, c.len.ensures, c.len-start.ensures, ap length c.in_ok-append_copied.ensures, length-append before copies) in
    let zeros : take {A = ℕ} c.padding.result (0 ∷ 0 ∷ 0 ∷ []) ≡ replicate (padding (length copies)) 0 =
    take-zeros c.padding.result c.padding.ensures.few ∙ ap (λ (n : ℕ). replicate n 0) (c.padding.ensures.value ∙ ap padding size) in
    rw (c.in_ok-extend_from_slice.ensures.items, c.in_ok-append_copied.ensures, zeros) (append_assoc before copies (replicate (padding (length copies)) 0))
