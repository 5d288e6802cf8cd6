use Rattle.std.proofs.Common.{None, Some, refl, sym, ap, ◌∙◌}
use Rattle.keyed_list.specs.Keyed.{item_at}
use Rattle.keyed_list.proofs.FitsLemmas.{fits, last-below, last-fits, last-item, none-fits, none-from, none-from-last}
use Rattle.keyed_list.proofs.WalkLemmas.{walk-before, walk-has, walk-last, walk-smaller}
use Rattle.keyed_list.proofs.list.KeyedList.last.Goals as goal

pub loop-next-init : goal.loop-next-init
loop-next-init g c =
    let marks_of = g.T.Keyed.marks_of in
    let key = c.args.key.now in
    let items = c.self.inside.list.items in (
      record {
        bound = c.self.inside.next;
        leads = c.place_last-next.ensures.last ∙ last-below marks_of key c.self.inside.next items c.self.invariant.1;
        done = λ passes agrees.
            none-from (fits marks_of key (λ y. passes y.item)) c.self.inside.next items c.self.invariant.1;
      },
      c.place_last-next.ensures.within,
    )

pub returns-then-test : goal.returns-then-test
returns-then-test g c passes agrees =
    let marks_of = g.T.Keyed.marks_of in
    let key = c.args.key.now in
    let items = c.self.inside.list.items in
    let x = c.in-Some-get.numbered.now in
    let ascends = c.self.invariant.0.ascends in
    let walk = c.loop-next.invariant.0 in
    let last = walk-last marks_of key items c.loop-next.next c.in-Some.place c.in-Some.is x c.in-Some-get.ensures walk.bound walk.leads ascends in
    let is = agrees x.item c.test.result (record { shown = _; shows = refl; says = record { met = c.test.ensures } }) in
    let fit = last-fits marks_of key walk.bound (λ y. passes y.item) items (walk.done passes agrees) x ascends last c.in-Some.place (sym c.in-Some-get.ensures) (sym is ∙ c.if-test.true) in
    rw (← c.self.view_is) (last-item marks_of key passes items (Some x) fit)

pub place_before-next-requires-clause-has : goal.place_before-next-requires-clause-has
place_before-next-requires-clause-has g c =
    let walk = c.loop-next.invariant.0 in
    walk-has g.T.Keyed.marks_of c.args.key.now c.self.inside.list.items c.loop-next.next c.in-Some.place c.in-Some.is walk.bound walk.leads

pub loop-next-smaller : goal.loop-next-smaller
loop-next-smaller g c =
    walk-smaller g.T.Keyed.marks_of c.args.key.now c.self.inside.list.items c.loop-next.next c.in-Some.place c.in-Some.is c.in-Some-get.numbered.now c.in-Some-get.ensures c.place_before-next.result c.place_before-next.ensures.last

pub loop-next-preserved : goal.loop-next-preserved
loop-next-preserved g c =
    let marks_of = g.T.Keyed.marks_of in
    let key = c.args.key.now in
    let items = c.self.inside.list.items in
    let x = c.in-Some-get.numbered.now in
    let ascends = c.self.invariant.0.ascends in
    let walk = c.loop-next.invariant.0 in
    let last = walk-last marks_of key items c.loop-next.next c.in-Some.place c.in-Some.is x c.in-Some-get.ensures walk.bound walk.leads ascends in (
      record {
        bound = x.number;
        leads = walk-before marks_of key items c.loop-next.next c.in-Some.place c.in-Some.is x c.in-Some-get.ensures c.place_before-next.result c.place_before-next.ensures.last;
        done = λ passes agrees.
            let is = agrees x.item c.test.result (record { shown = _; shows = refl; says = record { met = c.test.ensures } }) in
            none-from-last marks_of key walk.bound (λ y. passes y.item) items (walk.done passes agrees) x ascends last (sym is ∙ c.if-test.false);
      },
      c.place_before-next.ensures.within,
    )

pub returns : goal.returns
returns g c passes agrees =
    let marks_of = g.T.Keyed.marks_of in
    let key = c.args.key.now in
    let items = c.self.inside.list.items in
    let walk = c.loop-next.invariant.0 in
    rw (← c.self.view_is) (last-item marks_of key passes items None (none-fits marks_of key walk.bound (λ y. passes y.item) items (walk.done passes agrees) (ap (item_at items) (sym c.in_default.is) ∙ walk.leads)))
