use Rattle.std.proofs.Common.{◌∙◌, ℕ, ap, subst, sym}
use Rattle.std.proofs.lemmas.Result.{IfOk-weaker}
use Rattle.router_log.specs.Moments.{seconds}
use Rattle.router_model.specs.Changes.{Change, unchanged}
use Rattle.router_model.specs.Lifting.{Follows}
use Rattle.router_model.specs.Parts.{Parts, table}
use Rattle.router_model.specs.Tick.{tick, ticked}
use Rattle.router_model.proofs.FollowLemmas.{table-ticks}
use Rattle.router_core.specs.Steps.{IsSecond, MayStep}
use Rattle.router_core.proofs.table.Table.tick.Goals as goal

pub tick_at-requires-clause-may : goal.tick_at-requires-clause-may
tick_at-requires-clause-may c = subst (λ (n : ℕ). MayStep (seconds n) c.args.self.now.parts) (sym c.from.ensures) c.requires.may

pub returns-clause-parts : goal.returns-clause-parts
returns-clause-parts c =
    IfOk-weaker c.tick_at.result _ _ (λ changed is.
    is ∙ ap (λ (n : ℕ). ticked table c.args.settings.now (seconds n) (unchanged c.args.self.now.parts)) c.from.ensures) c.tick_at.ensures.parts

pub returns-clause-journal : goal.returns-clause-journal
returns-clause-journal c =
    let settings = c.args.settings.now in
    let second = c.args.second in
    IfOk-weaker c.tick_at.result _ _ (λ changed is journal stands may.
    subst (λ (t : Change Parts). Follows settings t (tick settings journal second)) (sym is)
    (table-ticks settings c.args.self.now.parts journal second stands may)) (returns-clause-parts c)

pub returns-clause-step : goal.returns-clause-step
returns-clause-step c =
    subst (λ (n : ℕ). IsSecond 20752 (seconds n) c.args.self.now.parts c.tick_at.new.self.parts c.tick_at.result) c.from.ensures c.tick_at.ensures.step
