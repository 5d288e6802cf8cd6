use Rattle.std.proofs.Common.{◌∙◌}
use Rattle.std.proofs.lemmas.List.Folds.{list_all-map}
use Rattle.keyed_list.specs.Keyed.{is_young}
use Rattle.keyed_list.proofs.list.KeyedList.old.Goals as goal

pub returns-clause-none : goal.returns-clause-none
returns-clause-none g c none =
    rw (← c.self.view_is) (list_all-map (is_young g.T.Keyed.marks_of c.args.now c.args.life) (λ numbered. numbered.item) c.self.inside.list.items ∙ c.old_place.ensures.none none)
