use Rattle.mapping_records.proofs.LongestLemmas.{longest-none, longest_is}
use Rattle.mapping_records.proofs.laws.no_longer_one_covers.Goals as goal

pub returns-clause-some : goal.returns-clause-some
returns-clause-some g c key items iid addr len = longest_is key items iid addr len

pub returns-clause-none : goal.returns-clause-none
returns-clause-none g c key items iid addr len = longest-none key items iid addr len
