use Rattle.std.proofs.Common.{rules}
use Rattle.keyed_list.proofs.PlaceLemmas.{is_place}
use Rattle.keyed_list.proofs.finding.place_of.Goals as goal

pub returns-in-None : goal.returns-in-None
returns-in-None g c =
    is_place c.args.number c.args.list.now.items c.place.result c.requires c.place.ensures.within (search rules) (search rules)
