use Rattle.request_queue.proofs.queue.RequestQueue.open_for.Goals as goal

pub returns-clause-covered : goal.returns-clause-covered
returns-clause-covered c = rw (← c.self.view_is) (c.is_covered.ensures.covered c.self.inside.requests.items c.self.invariant.1.1.1.eids)
