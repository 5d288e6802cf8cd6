use Rattle.std.proofs.Common.{◌≡◌, slice_get, sym, ap, ◌∙◌}
use Rattle.keyed_list.specs.Keyed.{is_below, item_at}
use Rattle.keyed_list.specs.Lists.{last_where}
use Rattle.keyed_list.proofs.LinkLemmas.{link-at}
use Rattle.keyed_list.proofs.WalkLemmas.{holds-of, place-found, place-none, place-within}
use Rattle.keyed_list.proofs.finding.place_before.Goals as goal

pub returns-in_err-number-clause-last : goal.returns-in_err-number-clause-last
returns-in_err-number-clause-last g c =
    let marks_of = g.T.Keyed.marks_of in
    let key = c.args.key.now in
    let items = c.args.list.now.items in
    let x = c.in_ok-numbered.numbered.now in
    let at = sym c.in_ok-numbered.ensures in
    let link = link-at marks_of key items c.requires.linked c.args.place x at c.requires.has c.link_of.result c.link_of.ensures in
    holds-of marks_of key items (λ y. item_at items c.from_residual-in_err-number.result ≡ last_where (is_below marks_of key y.number) items) c.args.place x at
    (ap (item_at items) c.from_residual-in_err-number.ensures ∙ place-none marks_of key items c.requires.ascends (is_below marks_of key x.number) c.link_of.result.before c.in_err-number.was link.before)

pub returns-clause-last : goal.returns-clause-last
returns-clause-last g c =
    let marks_of = g.T.Keyed.marks_of in
    let key = c.args.key.now in
    let items = c.args.list.now.items in
    let x = c.in_ok-numbered.numbered.now in
    let at = sym c.in_ok-numbered.ensures in
    let link = link-at marks_of key items c.requires.linked c.args.place x at c.requires.has c.link_of.result c.link_of.ensures in
    holds-of marks_of key items (λ y. slice_get items c.place_of.result ≡ last_where (is_below marks_of key y.number) items) c.args.place x at
    (place-found marks_of key items c.requires.ascends (is_below marks_of key x.number) c.in_ok-number.number c.place_of.result (sym c.in_ok-number.was ∙ link.before) c.place_of.ensures)

pub returns-clause-within : goal.returns-clause-within
returns-clause-within g c =
    let marks_of = g.T.Keyed.marks_of in
    let key = c.args.key.now in
    let items = c.args.list.now.items in
    let x = c.in_ok-numbered.numbered.now in
    let at = sym c.in_ok-numbered.ensures in
    let link = link-at marks_of key items c.requires.linked c.args.place x at c.requires.has c.link_of.result c.link_of.ensures in
    place-within marks_of key items c.requires.ascends (is_below marks_of key x.number) c.in_ok-number.number c.place_of.result (sym c.in_ok-number.was ∙ link.before) c.place_of.ensures
