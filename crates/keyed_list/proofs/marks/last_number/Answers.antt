use Rattle.std.proofs.Common.{◌∙◌}
use Rattle.keyed_list.proofs.MarkLemmas.{number-at}
use Rattle.keyed_list.proofs.marks.last_number.Goals as goal

pub returns : goal.returns
returns c =
    c.number_at.ensures ∙ number-at c.args.key.now 0 c.args.index.now.keys c.place_of.result (c.place_of.ensures 0)
