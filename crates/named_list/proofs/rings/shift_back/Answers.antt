use Rattle.std.proofs.Common.{ℕ, List, arith, ap, ◌∙◌, ◌-◌, ◌∷◌, length, set}
use Rattle.named_list.proofs.ShiftLemmas.{shifted_back}
use Rattle.named_list.proofs.rings.shift_back.Goals as goal

pub returns-clause-names : goal.returns-clause-names
returns-clause-names c =
    let turned : List ℕ = c.rotate_left.new.self in
    let last : ℕ = length turned - 1 in
    ap (λ x. c.replace.result ∷ set turned last x) c.replace.ensures.after
    ∙ shifted_back c.args.part.now turned c.args.name c.replace.result last (omega (arith, c.requires, c.rotate_left.ensures.len)) c.rotate_left.ensures.after c.replace.ensures.value
