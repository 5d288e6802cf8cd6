use Rattle.std.proofs.Common.{refl, ap, sym, ◌∙◌}
use Rattle.std.proofs.lemmas.List.{length-set}
use Rattle.keyed_list.specs.Keyed.{item_at, last_of}
use Rattle.keyed_list.proofs.ChangeLemmas.{all-changed, changed-next, none-changed}
use Rattle.keyed_list.proofs.SetLemmas.{ascends-set, keyed-set, less-set, linked-set, made}
use Rattle.keyed_list.proofs.WalkLemmas.{above, start-leads, walk-last, walk-set, walk-set_has, walk-set_smaller}
use Rattle.keyed_list.proofs.changing.change_from.Goals as goal

pub loop-next-init : goal.loop-next-init
loop-next-init g c =
    let marks_of = g.T.Keyed.marks_of in
    let key = c.args.key.now in
    let items = c.args.list.now.items in (
      c.requires.ascends,
      c.requires.linked,
      λ index ages keyed. keyed,
      λ bound all. all,
      refl,
      refl,
      c.requires.within,
      record {
        bound = above (last_of marks_of key items);
        leads = c.requires.last ∙ start-leads marks_of key items c.requires.ascends;
        done = λ changed agrees. none-changed marks_of key items c.requires.ascends changed;
      },
    )

pub place_before-next-requires-clause-ascends : goal.place_before-next-requires-clause-ascends
place_before-next-requires-clause-ascends g c =
    let marks_of = g.T.Keyed.marks_of in
    let key = c.args.key.now in
    let items = c.loop-next.list.items in
    let x = c.edit-numbered.result.now in
    let at = c.edit-numbered.ensures.item in
    let walk = c.loop-next.invariant.7 in
    let ascends = c.loop-next.invariant.0 in
    let marks = c.requires.marks x.item c.change.result (record { shown = _; shows = refl; says = record { met = c.change.ensures } }) in
    ascends-set marks_of items c.in-Some.place x c.change.result at marks ascends

pub place_before-next-requires-clause-linked : goal.place_before-next-requires-clause-linked
place_before-next-requires-clause-linked g c =
    let marks_of = g.T.Keyed.marks_of in
    let key = c.args.key.now in
    let items = c.loop-next.list.items in
    let x = c.edit-numbered.result.now in
    let at = c.edit-numbered.ensures.item in
    let walk = c.loop-next.invariant.7 in
    let ascends = c.loop-next.invariant.0 in
    let marks = c.requires.marks x.item c.change.result (record { shown = _; shows = refl; says = record { met = c.change.ensures } }) in
    linked-set marks_of items c.in-Some.place x c.change.result at marks ascends key c.loop-next.invariant.1

pub place_before-next-requires-clause-has : goal.place_before-next-requires-clause-has
place_before-next-requires-clause-has g c =
    let marks_of = g.T.Keyed.marks_of in
    let key = c.args.key.now in
    let items = c.loop-next.list.items in
    let x = c.edit-numbered.result.now in
    let at = c.edit-numbered.ensures.item in
    let walk = c.loop-next.invariant.7 in
    let ascends = c.loop-next.invariant.0 in
    let marks = c.requires.marks x.item c.change.result (record { shown = _; shows = refl; says = record { met = c.change.ensures } }) in
    walk-set_has marks_of key items c.loop-next.next c.in-Some.place c.in-Some.is x at c.change.result marks walk.bound walk.leads

pub loop-next-smaller : goal.loop-next-smaller
loop-next-smaller g c =
    walk-set_smaller g.T.Keyed.marks_of c.args.key.now c.loop-next.list.items c.loop-next.next c.in-Some.place c.in-Some.is c.edit-numbered.result.now c.edit-numbered.ensures.item c.change.result c.place_before-next.result c.place_before-next.ensures.last

pub loop-next-preserved : goal.loop-next-preserved
loop-next-preserved g c =
    let marks_of = g.T.Keyed.marks_of in
    let key = c.args.key.now in
    let items = c.loop-next.list.items in
    let x = c.edit-numbered.result.now in
    let at = c.edit-numbered.ensures.item in
    let walk = c.loop-next.invariant.7 in
    let ascends = c.loop-next.invariant.0 in
    let marks = c.requires.marks x.item c.change.result (record { shown = _; shows = refl; says = record { met = c.change.ensures } }) in
    let last = walk-last marks_of key items c.loop-next.next c.in-Some.place c.in-Some.is x (sym at) walk.bound walk.leads ascends in (
      ascends-set marks_of items c.in-Some.place x c.change.result at marks ascends,
      linked-set marks_of items c.in-Some.place x c.change.result at marks ascends key c.loop-next.invariant.1,
      λ index ages keyed.
          keyed-set marks_of items c.in-Some.place x c.change.result at marks ascends index ages (c.loop-next.invariant.2 index ages keyed),
      λ bound all.
          less-set items c.in-Some.place x (made x c.change.result) at refl bound (c.loop-next.invariant.3 bound all),
      length-set items c.in-Some.place _ ∙ c.loop-next.invariant.4,
      c.loop-next.invariant.5,
      c.place_before-next.ensures.within,
      record {
        bound = x.number;
        leads = walk-set marks_of key items c.loop-next.next c.in-Some.place c.in-Some.is x at c.change.result c.place_before-next.result c.place_before-next.ensures.last;
        done = λ changed agrees.
            changed-next marks_of key walk.bound changed c.args.list.now.items items (walk.done changed agrees) c.in-Some.place x at ascends last c.change.result (agrees x.item c.change.result (record { shown = _; shows = refl; says = record { met = c.change.ensures } }));
      },
    )

pub returns-clause-items : goal.returns-clause-items
returns-clause-items g c changed agrees =
    let items = c.loop-next.list.items in
    let walk = c.loop-next.invariant.7 in
    all-changed g.T.Keyed.marks_of c.args.key.now walk.bound changed c.args.list.now.items items (walk.done changed agrees) (ap (item_at items) (sym c.in_default.is) ∙ walk.leads)
