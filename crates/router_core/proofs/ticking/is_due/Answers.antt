use Rattle.std.proofs.Common.{◌∙◌, ℕ, nat_le, ap, sym}
use Rattle.std.specs.Option.{option_copied}
use Rattle.router_core.proofs.DueLemmas.{due-first}
use Rattle.router_core.proofs.ticking.is_due.Goals as goal

pub returns-in-Some : goal.returns-in-Some
returns-in-Some c =
    ap (λ (n : ℕ). nat_le n c.args.m) c.moment_of.ensures
    ∙ due-first c.args.m c.args.changes.now c.in-Some.change.now c.requires
    (sym c.first.ensures.value ∙ ap (λ o. option_copied o) c.in-Some.is)
