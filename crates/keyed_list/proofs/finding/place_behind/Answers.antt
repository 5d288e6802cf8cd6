use Rattle.std.proofs.Common.{sym, ◌∙◌}
use Rattle.keyed_list.proofs.LinkLemmas.{link-at, none-behind}
use Rattle.keyed_list.proofs.NextLemmas.{next-further, next-has, next-within}
use Rattle.keyed_list.proofs.finding.place_behind.Goals as goal

pub returns-in_err-number-clause-none : goal.returns-in_err-number-clause-none
returns-in_err-number-clause-none g c is =
    let marks_of = g.T.Keyed.marks_of in
    let key = c.args.key.now in
    let items = c.args.list.now.items in
    let x = c.in-Some.numbered.now in
    let at = sym c.in-Some.ensures in
    let link = link-at marks_of key items c.requires.linked c.args.place x at c.requires.has c.link_of.result c.link_of.ensures in
    at ∙ sym (none-behind marks_of key items x c.link_of.result link c.in_err-number.was)

pub returns-clause-further : goal.returns-clause-further
returns-clause-further g c =
    let marks_of = g.T.Keyed.marks_of in
    let key = c.args.key.now in
    let items = c.args.list.now.items in
    let x = c.in-Some.numbered.now in
    let at = sym c.in-Some.ensures in
    let link = link-at marks_of key items c.requires.linked c.args.place x at c.requires.has c.link_of.result c.link_of.ensures in
    next-further marks_of key items c.requires.ascends c.args.place x at c.link_of.result link c.in_ok-number.number c.in_ok-number.was c.place_of.result c.place_of.ensures

pub returns-clause-within : goal.returns-clause-within
returns-clause-within g c =
    let marks_of = g.T.Keyed.marks_of in
    let key = c.args.key.now in
    let items = c.args.list.now.items in
    let x = c.in-Some.numbered.now in
    let at = sym c.in-Some.ensures in
    let link = link-at marks_of key items c.requires.linked c.args.place x at c.requires.has c.link_of.result c.link_of.ensures in
    next-within marks_of key items c.requires.ascends c.args.place x at c.link_of.result link c.in_ok-number.number c.in_ok-number.was c.place_of.result c.place_of.ensures

pub returns-clause-has : goal.returns-clause-has
returns-clause-has g c =
    let marks_of = g.T.Keyed.marks_of in
    let key = c.args.key.now in
    let items = c.args.list.now.items in
    let x = c.in-Some.numbered.now in
    let at = sym c.in-Some.ensures in
    let link = link-at marks_of key items c.requires.linked c.args.place x at c.requires.has c.link_of.result c.link_of.ensures in
    next-has marks_of key items c.requires.ascends c.args.place x at c.link_of.result link c.in_ok-number.number c.in_ok-number.was c.place_of.result c.place_of.ensures
