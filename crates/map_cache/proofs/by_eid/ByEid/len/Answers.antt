use Rattle.std.proofs.Common.{◌∙◌, arith}
use Rattle.map_cache.proofs.FiledLemmas.{filed-length, filed-same}
use Rattle.map_cache.proofs.by_eid.ByEid.len.Goals as goal

pub returns-clause-len : goal.returns-clause-len
returns-clause-len c =
    rw (← c.self.view_is) (c.len.ensures.len ∙ filed-length c.self.inside.store c.self.inside.stays.pairs c.self.invariant)

pub returns-clause-kept : goal.returns-clause-kept
returns-clause-kept c =
    let same = filed-length c.self.inside.store c.self.inside.stays.pairs c.self.invariant in
    let names = filed-same c.self.inside.store c.self.inside.stays.pairs c.self.invariant in
    rw (← c.self.view_is) (omega (arith, same, names, c.self.invariant.named.all, c.len.ensures.len, c.len.ensures.kept))
