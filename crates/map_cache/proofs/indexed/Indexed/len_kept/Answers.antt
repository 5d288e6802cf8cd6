use Rattle.std.proofs.Common.{arith}
use Rattle.map_cache.proofs.RoomLemmas.{locators-few}
use Rattle.map_cache.proofs.indexed.Indexed.len_kept.Goals as goal

pub returns-clause-kept : goal.returns-clause-kept
returns-clause-kept c =
    let locators = locators-few c.self.inside.by_eid.mappings c.self.invariant.few in
    rw (← c.self.view_is) (omega (arith, locators, c.len.ensures.len, c.len.ensures.kept, c.len-2.ensures.kept, c.len-3.ensures.limits, c.len-3.ensures.learned, c.len-4.ensures.len, c.len-4.ensures.kept, c.len-4.ensures.tied))
