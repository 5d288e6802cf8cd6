use Rattle.std.proofs.Common.{None, sym, ap, ◌∙◌}
use Rattle.keyed_list.specs.Keyed.{item_at}
use Rattle.keyed_list.proofs.FitsLemmas.{fits, last-below, none-from}
use Rattle.keyed_list.proofs.LatestLemmas.{beyond, latest-end, latest-next, reached-next}
use Rattle.keyed_list.proofs.WalkLemmas.{walk-before, walk-has, walk-last, walk-smaller}
use Rattle.keyed_list.proofs.list.KeyedList.latest.Goals as goal

pub loop-next-init : goal.loop-next-init
loop-next-init g c =
    let marks_of = g.T.Keyed.marks_of in
    let key = c.args.key.now in
    let items = c.self.inside.list.items in (
      record {
        bound = c.self.inside.next;
        leads = c.place_last-next.ensures.last ∙ last-below marks_of key c.self.inside.next items c.self.invariant.1;
        done = none-from (fits marks_of key (λ y. beyond marks_of key None y.item)) c.self.inside.next items c.self.invariant.1;
      },
      c.place_last-next.ensures.within,
      tt,
    )

pub place_before-next-requires-clause-has : goal.place_before-next-requires-clause-has
place_before-next-requires-clause-has g c =
    let walk = c.loop-next.invariant.0 in
    walk-has g.T.Keyed.marks_of c.args.key.now c.self.inside.list.items c.loop-next.next c.in-Some.place c.in-Some.is walk.bound walk.leads

pub loop-next-smaller : goal.loop-next-smaller
loop-next-smaller g c =
    walk-smaller g.T.Keyed.marks_of c.args.key.now c.self.inside.list.items c.loop-next.next c.in-Some.place c.in-Some.is c.in-Some-get.numbered.now c.in-Some-get.ensures c.place_before-next.result c.place_before-next.ensures.last

pub loop-next-preserved : goal.loop-next-preserved
loop-next-preserved g c =
    let marks_of = g.T.Keyed.marks_of in
    let key = c.args.key.now in
    let items = c.self.inside.list.items in
    let x = c.in-Some-get.numbered.now in
    let ascends = c.self.invariant.0.ascends in
    let walk = c.loop-next.invariant.0 in
    let last = walk-last marks_of key items c.loop-next.next c.in-Some.place c.in-Some.is x c.in-Some-get.ensures walk.bound walk.leads ascends in
    rw c.later-best.ensures (
      record {
        bound = x.number;
        leads = walk-before marks_of key items c.loop-next.next c.in-Some.place c.in-Some.is x c.in-Some-get.ensures c.place_before-next.result c.place_before-next.ensures.last;
        done = latest-next marks_of key walk.bound c.loop-next.best items walk.done x ascends last;
      },
      c.place_before-next.ensures.within,
      reached-next marks_of key walk.bound c.loop-next.best items walk.done x ascends last c.loop-next.invariant.2,
    )

pub returns : goal.returns
returns g c =
    let items = c.self.inside.list.items in
    let walk = c.loop-next.invariant.0 in
    rw (← c.self.view_is) (latest-end g.T.Keyed.marks_of c.args.key.now walk.bound c.loop-next.best items walk.done (ap (item_at items) (sym c.in_default.is) ∙ walk.leads) c.loop-next.invariant.2)
