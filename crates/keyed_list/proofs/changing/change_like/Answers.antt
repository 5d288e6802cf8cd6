use Rattle.std.proofs.Common.{map, subst, sym, ap, IfSome, ◌≡◌, ◌∙◌}
use Rattle.std.specs.Option.{option_map}
use Rattle.std.proofs.lemmas.List.{map-id}
use Rattle.keyed_list.specs.Keyed.{changed_like, is_key, last_of}
use Rattle.keyed_list.proofs.WalkLemmas.{place-if}
use Rattle.keyed_list.proofs.changing.change_like.Goals as goal

pub change_from-requires-clause-last : goal.change_from-requires-clause-last
change_from-requires-clause-last g c =
    let marks_of = g.T.Keyed.marks_of in
    let items = c.args.list.now.items in
    let told = subst (λ (o : _). IfSome o (λ key. c.args.last ≡ option_map (λ y. y.number) (last_of marks_of key items))) c.in-Some.is c.requires.last in
    (place-if marks_of c.in-Some.key items c.requires.ascends (λ y. is_key marks_of c.in-Some.key y.item) c.args.last c.place_if-place.result c.place_if-place.ensures.same c.place_if-place.ensures.place told).0

pub change_from-requires-clause-within : goal.change_from-requires-clause-within
change_from-requires-clause-within g c =
    let marks_of = g.T.Keyed.marks_of in
    let items = c.args.list.now.items in
    let told = subst (λ (o : _). IfSome o (λ key. c.args.last ≡ option_map (λ y. y.number) (last_of marks_of key items))) c.in-Some.is c.requires.last in
    (place-if marks_of c.in-Some.key items c.requires.ascends (λ y. is_key marks_of c.in-Some.key y.item) c.args.last c.place_if-place.result c.place_if-place.ensures.same c.place_if-place.ensures.place told).1

pub returns-in-Some-clause-items : goal.returns-in-Some-clause-items
returns-in-Some-clause-items g c changed agrees =
    c.change_from.ensures.items changed agrees
    ∙ ap (λ (o : _). map (changed_like g.T.Keyed.marks_of o changed) (map (λ y. y.item) c.args.list.now.items)) (sym c.in-Some.is)

pub returns-in_default-clause-items : goal.returns-in_default-clause-items
returns-in_default-clause-items g c changed agrees =
    sym (map-id (map (λ y. y.item) c.args.list.now.items))
    ∙ ap (λ (o : _). map (changed_like g.T.Keyed.marks_of o changed) (map (λ y. y.item) c.args.list.now.items)) (sym c.in_default.is)
