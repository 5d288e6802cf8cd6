use Rattle.std.proofs.Common.{rules, of_calls, ◌∙◌}
use Rattle.std.proofs.lemmas.Fn.{always_returns_same}
use Rattle.mapping_records.specs.Orders.{eid_order}
use Rattle.router_core.proofs.SearchLemmas.{searched-eid}
use Rattle.router_core.proofs.learning.has_eid.Goals as goal

pub returns : goal.returns
returns c =
    let found = c.binary_search_by.ensures in
    c.is_ok.ensures.value ∙ searched-eid c.args.mappings.now c.args.eid.now c.binary_search_by.result c.requires found.bound (found.position (λ mapping. eid_order mapping.eid c.args.eid.now) (always_returns_same _ _ _ (λ a r f k. search (rules, of_calls))))
