use Rattle.std.proofs.Common.{is_eq, not, ap, ◌∙◌, ◌&&◌}
use Rattle.ordered_set.specs.Keys.{has}
use Rattle.request_queue.specs.Terms.{term_order}
use Rattle.request_queue.proofs.TermLemmas.{terms-left}
use Rattle.request_queue.proofs.terms.drop_term.Goals as goal

pub returns-clause-terms : goal.returns-clause-terms
returns-clause-terms c requests place distinct at are =
    terms-left c.args.terms.now.keys c.remove.new.self.keys requests place c.args.request.now
    (λ term. c.remove.ensures.members term ∙ ap (λ t. not (is_eq (term_order t term)) && has term_order term c.args.terms.now.keys) c.term_of.ensures) distinct at are
