use Rattle.std.proofs.Common.{◌∙◌, List, ap, arith, length}
use Rattle.ip_headers.specs.declared.addr.Addr.{Addr}
use Rattle.router_model.specs.Changes.{each}
use Rattle.router_model.specs.Parts.{table}
use Rattle.router_model.specs.Tick.{told_all}
use Rattle.router_core.specs.Steps.{so_far}
use Rattle.router_core.proofs.SecondLemmas.{few-told}
use Rattle.router_core.proofs.StepLemmas.{may-less, taken-less}
use Rattle.router_core.proofs.table.Table.tell_found.Goals as goal

pub tell_each-requires-clause-may : goal.tell_each-requires-clause-may
tell_each-requires-clause-may c =
    let few = few-told (length c.args.step.now.site.now.databases) (length c.as_slice.result.now) c.requires.site.few_databases (omega (arith, c.as_slice.ensures.len, c.find_told.ensures.few)) in
    may-less _ few c.requires.may

pub returns-clause-change : goal.returns-clause-change
returns-clause-change c =
    c.tell_each.ensures.change
    ∙ ap (λ (l : List Addr). each (told_all table c.args.step.now.site.now c.args.step.now.m) l (so_far c.args.self.now.parts c.args.step.now)) (c.as_slice.ensures.value ∙ c.find_told.ensures.items)

pub returns-clause-taken : goal.returns-clause-taken
returns-clause-taken c =
    let few = few-told (length c.args.step.now.site.now.databases) (length c.as_slice.result.now) c.requires.site.few_databases (omega (arith, c.as_slice.ensures.len, c.find_told.ensures.few)) in
    taken-less 4096 few c.tell_each.ensures.taken
