use Rattle.std.proofs.Common.{None, Some, ap, ◌∙◌}
use Rattle.map_cache.specs.Cache.{lasting}
use Rattle.map_cache.specs.Named.{least_named, named_above}
use Rattle.router_core.specs.Table.{TableSeen}
use Rattle.router_core.specs.Turning.{is_covered}
use Rattle.router_core.specs.declared.turns.Covered.{Covered}
use Rattle.router_core.proofs.NextNameLemmas.{next-none, next-some}
use Rattle.router_core.proofs.table.Table.next_name.Goals as goal

pub returns-in-Nothing-clause-some : goal.returns-in-Nothing-clause-some
returns-in-Nothing-clause-some c =
    next-some c.args.covered None (lasting c.args.m c.args.self.now.parts.mappings) (λ addr. ap (λ (v : Covered). is_covered v addr) c.in-Nothing.is) c.next_locator.result
    (c.next_locator.ensures ∙ ap (λ (t : TableSeen). least_named (named_above None (lasting c.args.m t.parts.mappings))) c.self.view_is)

pub returns-in-Nothing-clause-none : goal.returns-in-Nothing-clause-none
returns-in-Nothing-clause-none c =
    next-none c.args.covered None (lasting c.args.m c.args.self.now.parts.mappings) (λ addr. ap (λ (v : Covered). is_covered v addr) c.in-Nothing.is) c.next_locator.result
    (c.next_locator.ensures ∙ ap (λ (t : TableSeen). least_named (named_above None (lasting c.args.m t.parts.mappings))) c.self.view_is)

pub returns-in-UpTo-clause-some : goal.returns-in-UpTo-clause-some
returns-in-UpTo-clause-some c =
    next-some c.args.covered (Some c.in-UpTo.last) (lasting c.args.m c.args.self.now.parts.mappings) (λ addr. ap (λ (v : Covered). is_covered v addr) c.in-UpTo.is) c.next_locator-in-UpTo.result
    (c.next_locator-in-UpTo.ensures ∙ ap (λ (t : TableSeen). least_named (named_above (Some c.in-UpTo.last) (lasting c.args.m t.parts.mappings))) c.self.view_is)

pub returns-in-UpTo-clause-none : goal.returns-in-UpTo-clause-none
returns-in-UpTo-clause-none c =
    next-none c.args.covered (Some c.in-UpTo.last) (lasting c.args.m c.args.self.now.parts.mappings) (λ addr. ap (λ (v : Covered). is_covered v addr) c.in-UpTo.is) c.next_locator-in-UpTo.result
    (c.next_locator-in-UpTo.ensures ∙ ap (λ (t : TableSeen). least_named (named_above (Some c.in-UpTo.last) (lasting c.args.m t.parts.mappings))) c.self.view_is)
