use Rattle.keyed_list.proofs.FollowLemmas.{ascends-mid, followed-one, followed-two, holds-first, holds-second}
use Rattle.keyed_list.proofs.linking.follow.Goals as goal

pub link_behind-requires-clause-holds : goal.link_behind-requires-clause-holds
link_behind-requires-clause-holds g c =
    holds-first g.T.Keyed.marks_of c.args.number c.args.list.now.items c.args.marks.now.key c.args.before c.requires.first

pub link_behind-requires-in-Some-clause-ascends : goal.link_behind-requires-in-Some-clause-ascends
link_behind-requires-in-Some-clause-ascends g c =
    ascends-mid g.T.Keyed.marks_of c.args.number c.args.list.now.items c.args.marks.now c.args.before c.requires.first c.in-Some.other c.in-Some.is c.args.other_before c.requires.second c.link_behind.new.list.items c.link_behind.ensures.items c.requires.ascends

pub link_behind-requires-in-Some-clause-holds : goal.link_behind-requires-in-Some-clause-holds
link_behind-requires-in-Some-clause-holds g c =
    holds-second g.T.Keyed.marks_of c.args.number c.args.list.now.items c.args.marks.now c.args.before c.requires.first c.in-Some.other c.in-Some.is c.args.other_before c.requires.second c.link_behind.new.list.items c.link_behind.ensures.items

pub returns-in-Some-clause-followed : goal.returns-in-Some-clause-followed
returns-in-Some-clause-followed g c =
    followed-two g.T.Keyed.marks_of c.args.number c.args.list.now.items c.args.marks.now c.args.before c.requires.first c.in-Some.other c.in-Some.is c.args.other_before c.requires.second c.link_behind.new.list.items c.link_behind.ensures.items c.link_behind-in-Some.new.list.items c.link_behind-in-Some.ensures.items

pub returns-in_default-clause-followed : goal.returns-in_default-clause-followed
returns-in_default-clause-followed g c =
    followed-one g.T.Keyed.marks_of c.args.number c.args.list.now.items c.args.marks.now c.args.before c.requires.first c.in_default.is c.link_behind.new.list.items c.link_behind.ensures.items
