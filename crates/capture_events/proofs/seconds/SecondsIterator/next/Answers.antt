use Rattle.std.proofs.Common.{◌∙◌, sym, rules}
use Rattle.capture_events.proofs.SecondsLemmas.{row-first}
use Rattle.capture_events.proofs.seconds.SecondsIterator.next.Goals as goal

pub returns-clause-steps : goal.returns-clause-steps
returns-clause-steps c = sym c.self.view_is ∙ row-first c.self.inside.next c.self.inside.end c.if-self.false

pub returns-clause-goes : goal.returns-clause-goes
returns-clause-goes c =
    let first = sym c.self.view_is ∙ row-first c.self.inside.next c.self.inside.end c.if-self.false in
    rw first (search rules)
