use Rattle.std.proofs.Common.{is_eq, ap, ◌∙◌, ◌||◌}
use Rattle.ordered_set.specs.Keys.{has}
use Rattle.request_queue.specs.Terms.{term_order}
use Rattle.request_queue.proofs.TermLemmas.{terms-pushed}
use Rattle.request_queue.proofs.terms.add_term.Goals as goal

pub returns-clause-terms : goal.returns-clause-terms
returns-clause-terms c requests are =
    terms-pushed c.args.terms.now.keys c.insert.new.self.keys requests c.args.request.now
    (λ term. c.insert.ensures.members term ∙ ap (λ t. is_eq (term_order t term) || has term_order term c.args.terms.now.keys) c.term_of.ensures) are
