use Rattle.std.proofs.Common.{option_map, ap, sym, ◌∙◌}
use Rattle.mapping_records.specs.declared.eid.Eid.{Eid}
use Rattle.ip_headers.specs.declared.addr.Addr.{Addr}
use Rattle.router_core.specs.Turning.{names_at}
use Rattle.router_core.proofs.NextNameLemmas.{below-none, other-none}
use Rattle.router_core.proofs.table.Table.least_eid.Goals as goal

pub returns-in_err-next : goal.returns-in_err-next
returns-in_err-next c =
    c.from_residual.ensures
    ∙ sym (ap (option_map (λ (name : Addr × Eid). name.1)) (below-none c.below.result c.args.rloc.now (names_at c.args.m c.args.self.now.parts.mappings) c.below.ensures.below (c.next_name.ensures.none c.in_err-next.was)))

pub returns-then-not-same_address : goal.returns-then-not-same_address
returns-then-not-same_address c =
    sym
    (ap (option_map (λ (name : Addr × Eid). name.1))
    (other-none c.below.result c.args.rloc.now (names_at c.args.m c.args.self.now.parts.mappings) c.below.ensures.below c.below.ensures.all (c.in_ok-next.next, c.in_ok-next.eid) c.fits_family.ensures c.in_ok-next.ensures.some (sym c.if-not-same_address.ensures)))
