use Rattle.std.proofs.Common.{◌∙◌, ◌++◌, ◌∷◌, [], append_assoc}
use Rattle.std.specs.Prelude.{codes}
use Rattle.std.proofs.lemmas.Result.{on_ok_weaker}
use Rattle.router_log.specs.Numbers.{named}
use Rattle.replay.proofs.finding_lines.push_difference.Goals as goal

pub returns : goal.returns
returns c =
    on_ok_weaker c.push_ended.result (λ is.
    is ∙ append_assoc c.args.out.now (named (codes "audit differs record=") c.args.position) (named (codes " place=") c.args.place ++ 10 ∷ [])) (rw (c.in_ok-push_named.ensures, c.from.ensures) at c.push_ended.ensures)
