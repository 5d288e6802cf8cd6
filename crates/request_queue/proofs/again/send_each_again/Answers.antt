use Rattle.std.proofs.Common.{map, rules, ap, ◌∙◌}
use Rattle.keyed_list.specs.Keyed.{changed_with}
use Rattle.request_queue.specs.Found.{request_marks}
use Rattle.request_queue.proofs.FoundLemmas.{counted_again, map-again}
use Rattle.request_queue.proofs.again.send_each_again.Goals as goal

pub returns-clause-items : goal.returns-clause-items
returns-clause-items c =
    c.change.ensures.items counted_again (λ item new says. search rules)
    ∙ ap (λ key. map (changed_with request_marks key counted_again) c.args.requests.now.items) c.nonce.ensures
    ∙ map-again c.args.nonce c.args.requests.now.items c.requires
