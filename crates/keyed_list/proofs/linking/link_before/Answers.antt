use Rattle.std.proofs.Common.{slice_set, ap, ◌∙◌}
use Rattle.std.proofs.lemmas.Option.{slice_get_within}
use Rattle.keyed_list.specs.Keyed.{with_before}
use Rattle.keyed_list.proofs.LinkLemmas.{held}
use Rattle.keyed_list.proofs.PlaceLemmas.{at-place}
use Rattle.keyed_list.proofs.RelinkLemmas.{relink-held, relink-none}
use Rattle.keyed_list.proofs.linking.link_before.Goals as goal

pub edit-requires : goal.edit-requires
edit-requires g c =
    let one = held g.T.Keyed.marks_of c.args.key.now c.args.list.now.items c.args.number c.requires.holds c.in-Some.number c.in-Some.is in
    slice_get_within c.args.list.now.items c.place_of-place.result one.item (at-place c.in-Some.number c.args.list.now.items c.place_of-place.result one.item c.requires.ascends c.place_of-place.ensures one.among one.same)

pub returns-in-Some-clause-items : goal.returns-in-Some-clause-items
returns-in-Some-clause-items g c =
    let marks_of = g.T.Keyed.marks_of in
    let items = c.args.list.now.items in
    let x = c.edit.result.now in
    let one = held marks_of c.args.key.now items c.args.number c.requires.holds c.in-Some.number c.in-Some.is in
    let there = at-place c.in-Some.number items c.place_of-place.result one.item c.requires.ascends c.place_of-place.ensures one.among one.same in
    ap (slice_set items c.place_of-place.result) c.set_before.ensures
    ∙ relink-held marks_of c.args.key.now c.args.number (with_before c.args.before) items c.requires.ascends c.place_of-place.result x c.edit.ensures.item one.item there one.has (c.in-Some.is) one.same

pub returns-in_default-clause-items : goal.returns-in_default-clause-items
returns-in_default-clause-items g c =
    relink-none g.T.Keyed.marks_of c.args.key.now c.args.number (with_before c.args.before) c.args.list.now.items c.in_default.is
