use Rattle.keyed_list.proofs.FitsLemmas.{place-last}
use Rattle.keyed_list.proofs.list.KeyedList.place.Goals as goal

pub returns-clause-last : goal.returns-clause-last
returns-clause-last g c =
    rw (← c.self.view_is) (place-last g.T.Keyed.marks_of c.args.key.now c.self.inside.list.items c.place_last.result c.place_last.ensures.last)
