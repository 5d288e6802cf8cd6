use Rattle.keyed_list.proofs.FitsLemmas.{last-like}
use Rattle.keyed_list.proofs.list.KeyedList.last_like.Goals as goal

pub returns-clause-last : goal.returns-clause-last
returns-clause-last g c =
    rw (← c.self.view_is) (last-like g.T.Keyed.marks_of c.self.inside.list.items c.args.place c.place_last_like.result c.place_last_like.ensures.last)
