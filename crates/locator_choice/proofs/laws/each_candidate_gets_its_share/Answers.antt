use Rattle.locator_choice.proofs.ShareLemmas.{share-chosen}
use Rattle.locator_choice.proofs.laws.each_candidate_gets_its_share.Goals as goal

pub returns : goal.returns
returns c = share-chosen
