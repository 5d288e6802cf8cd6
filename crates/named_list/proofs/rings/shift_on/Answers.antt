use Rattle.std.proofs.Common.{ℕ, List, arith, ap, ◌∙◌, ◌-◌, ◌++◌, ◌∷◌, [], length, set, sym}
use Rattle.named_list.proofs.ShiftLemmas.{shifted_on}
use Rattle.named_list.proofs.rings.shift_on.Goals as goal

pub returns-clause-names : goal.returns-clause-names
returns-clause-names c =
    let turned : List ℕ = c.rotate_right.new.self in
    shifted_on c.args.part.now turned c.args.name c.replace.result (length c.args.part.now - 1) (omega (arith, c.requires)) c.rotate_right.ensures.after c.replace.ensures.value
    ∙ ap (λ x. set turned 0 x ++ c.replace.result ∷ []) (sym c.replace.ensures.after)
