use Rattle.router_core.proofs.table.Table.copy.Goals as goal

pub invariant_of-result : goal.invariant_of-result
invariant_of-result c =
    rw (c.in_ok-own.ensures, c.as_slice.ensures.value, c.in_ok-limits.ensures, c.in_ok-cache.ensures.cache, c.in_ok-cache.ensures.queue, c.in_ok-cache.ensures.locators) c.self.invariant
