use Rattle.std.proofs.Common.{ℕ, ◌-◌, ◌∙◌, ap, ap₂, drop, length, map, take}
use Rattle.lisp_settings.specs.declared.settings.Database.{Database}
use Rattle.lisp_settings.specs.declared.settings.Settings.{Settings}
use Rattle.router_model.specs.Changes.{each}
use Rattle.router_model.specs.Parts.{table}
use Rattle.router_model.specs.Standing.{stood, stood_version}
use Rattle.router_model.specs.Tick.{told}
use Rattle.router_core.specs.Steps.{so_far}
use Rattle.router_core.proofs.TellingLemmas.{each-mapped, each-none}
use Rattle.router_core.proofs.table.Table.+tell_locator.Goals as goal

pub returns-clause-change : goal.returns-clause-change
returns-clause-change t c steps =
    let databases = c.args.databases.now in
    let step = told table c.args.step.now.site.now c.args.step.now.m c.args.address in
    let first = c.database-item.result in
    let others = map (stood steps) (take (length databases - 1) (drop 1 databases)) in
    let taken = c.tell_of.ensures.taken in
    c.tell_locator.ensures.change steps
    ∙ ap₂ (λ (site : Settings) (m : ℕ). each (told table site m c.args.address) others (so_far c.tell_of.new.self.parts c.tell_of.new.step)) taken.site taken.moment
    ∙ ap (each step others)
    (c.tell_of.ensures.change (stood_version steps first.version)
    ∙ ap (λ (d : Database). step (stood steps d) (so_far c.args.self.now.parts c.args.step.now)) c.database-item.is)
    ∙ each-mapped step (stood steps) databases first _ c.in-len1-up.len_at_least

pub returns-in_default-clause-change : goal.returns-in_default-clause-change
returns-in_default-clause-change t c steps =
    each-none (told table c.args.step.now.site.now c.args.step.now.m c.args.address) (stood steps) c.args.databases.now (so_far c.args.self.now.parts c.args.step.now) c.in_default.len_below
