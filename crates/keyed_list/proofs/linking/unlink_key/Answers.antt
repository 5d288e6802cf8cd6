use Rattle.std.proofs.Common.{◌≡◌, map, true, refl, sym, ap, ◌∙◌}
use Rattle.keyed_list.specs.Keyed.{is_key, relinked, with_before}
use Rattle.keyed_list.proofs.UnlinkLemmas.{ascends-mid, holds-before, holds-behind, marked, not-some, unlinked-behind, unlinked-last}
use Rattle.keyed_list.proofs.WalkLemmas.{holds-at}
use Rattle.keyed_list.proofs.linking.unlink_key.Goals as goal

pub link_behind-requires-clause-holds : goal.link_behind-requires-clause-holds
link_behind-requires-clause-holds g c =
    let marks_of = g.T.Keyed.marks_of in
    let key = c.args.key.now in
    let items = c.args.list.now.items in
    let x = c.in-Some.numbered.now in
    let at = sym c.in-Some.ensures in
    let has = holds-at marks_of key items (λ y. is_key marks_of key y.item ≡ true) c.args.place x at c.requires.has in
    holds-before marks_of key items c.args.place x c.requires.ascends at c.requires.linked has c.link_of-link.result c.link_of-link.ensures

pub link_before-requires-clause-ascends : goal.link_before-requires-clause-ascends
link_before-requires-clause-ascends g c =
    let marks_of = g.T.Keyed.marks_of in
    let key = c.args.key.now in
    let items = c.args.list.now.items in
    let x = c.in-Some.numbered.now in
    let at = sym c.in-Some.ensures in
    let has = holds-at marks_of key items (λ y. is_key marks_of key y.item ≡ true) c.args.place x at c.requires.has in
    rw c.link_behind.ensures.items (ascends-mid marks_of key items c.args.place x c.requires.ascends at c.requires.linked has c.link_of-link.result c.link_of-link.ensures)

pub link_before-requires-clause-holds : goal.link_before-requires-clause-holds
link_before-requires-clause-holds g c =
    let marks_of = g.T.Keyed.marks_of in
    let key = c.args.key.now in
    let items = c.args.list.now.items in
    let x = c.in-Some.numbered.now in
    let at = sym c.in-Some.ensures in
    let has = holds-at marks_of key items (λ y. is_key marks_of key y.item ≡ true) c.args.place x at c.requires.has in
    rw c.link_behind.ensures.items (holds-behind marks_of key items c.args.place x c.requires.ascends at c.requires.linked has c.link_of-link.result c.link_of-link.ensures)

pub turn_back-requires : goal.turn_back-requires
turn_back-requires g c =
    let marks_of = g.T.Keyed.marks_of in
    let key = c.args.key.now in
    let items = c.args.list.now.items in
    let x = c.in-Some.numbered.now in
    let at = sym c.in-Some.ensures in
    let has = holds-at marks_of key items (λ y. is_key marks_of key y.item ≡ true) c.args.place x at c.requires.has in
    marked marks_of key items c.args.place x c.requires.ascends at c.requires.linked has c.link_of-link.result c.link_of-link.ensures c.args.index.now.keys c.requires.found (not-some c.link_of-link.result.behind c.if-is_none.ensures)

pub returns-then-is_none-clause-unlinked : goal.returns-then-is_none-clause-unlinked
returns-then-is_none-clause-unlinked g c =
    let marks_of = g.T.Keyed.marks_of in
    let key = c.args.key.now in
    let items = c.args.list.now.items in
    let x = c.in-Some.numbered.now in
    let at = sym c.in-Some.ensures in
    let has = holds-at marks_of key items (λ y. is_key marks_of key y.item ≡ true) c.args.place x at c.requires.has in
    unlinked-last marks_of key items c.args.place x c.requires.ascends at c.requires.linked has c.link_of-link.result c.link_of-link.ensures c.args.index.now.keys c.turn_back.new.index.keys c.link_before.new.list.items (c.link_before.ensures.items ∙ ap (map (relinked marks_of key c.link_of-link.result.behind (with_before c.link_of-link.result.before))) c.link_behind.ensures.items) (not-some c.link_of-link.result.behind c.if-is_none.ensures) c.turn_back.ensures.numbers

pub returns-else-is_none-clause-unlinked : goal.returns-else-is_none-clause-unlinked
returns-else-is_none-clause-unlinked g c =
    let marks_of = g.T.Keyed.marks_of in
    let key = c.args.key.now in
    let items = c.args.list.now.items in
    let x = c.in-Some.numbered.now in
    let at = sym c.in-Some.ensures in
    let has = holds-at marks_of key items (λ y. is_key marks_of key y.item ≡ true) c.args.place x at c.requires.has in
    unlinked-behind marks_of key items c.args.place x c.requires.ascends at c.requires.linked has c.link_of-link.result c.link_of-link.ensures c.args.index.now.keys c.args.index.now.keys c.link_before.new.list.items (c.link_before.ensures.items ∙ ap (map (relinked marks_of key c.link_of-link.result.behind (with_before c.link_of-link.result.before))) c.link_behind.ensures.items) c.requires.found c.if-is_none.ensures refl
