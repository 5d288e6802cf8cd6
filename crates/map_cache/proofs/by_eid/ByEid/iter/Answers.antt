use Rattle.std.proofs.Common.{All, sym, subst}
use Rattle.map_cache.specs.Filed.{IsNamed}
use Rattle.map_cache.proofs.FiledLemmas.{all-named}
use Rattle.map_cache.proofs.by_eid.ByEid.iter.Goals as goal

pub new-requires : goal.new-requires
new-requires c =
    subst (All (IsNamed c.self.inside.store)) (sym c.iter.ensures) (all-named c.self.inside.store c.self.inside.stays.pairs c.self.invariant.named.each)
