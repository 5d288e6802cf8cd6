use Rattle.std.proofs.Common.{◌≡◌, drop, fold, option_map}
use Rattle.std.specs.List.{filter}
use Rattle.ip_headers.specs.Addr.{width}
use Rattle.mapping_records.specs.Eids.{covers_prefix, longer, longest}
use Rattle.mapping_records.proofs.covering.longest.Given as goal

abbrev pub invariant-loop-item : goal.invariant-loop-item
invariant-loop-item g l =
    longest g.T.HasEid.eid l.items l.iid l.addr (width l.addr) ≡ fold (longer g.T.HasEid.eid) (option_map (λ item. item.now) l.best) (filter (λ item. covers_prefix (g.T.HasEid.eid item) l.iid l.addr (width l.addr)) (drop l.item-index l.items))
