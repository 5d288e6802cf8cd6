use Rattle.std.proofs.Common.{◌∙◌}
use Rattle.map_cache.proofs.FiledLemmas.{filed-some}
use Rattle.map_cache.proofs.by_eid.ByEid.has.Goals as goal

pub returns : goal.returns
returns c =
    rw (← c.self.view_is) (c.is_some.ensures ∙ filed-some c.self.inside.store c.self.inside.stays.pairs c.self.invariant c.args.eid.now c.get.result c.get.ensures.value)
