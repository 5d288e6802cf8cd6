use Rattle.std.proofs.Common.{◌<◌, length, map, IfSome}
use Rattle.keyed_list.specs.Keyed.{item_at}
use Rattle.keyed_list.proofs.FitsLemmas.{NoneFrom, fits}
use Rattle.keyed_list.proofs.LatestLemmas.{beyond, IsReached}
use Rattle.keyed_list.proofs.WalkLemmas.{above, IsWalk}
use Rattle.keyed_list.proofs.list.KeyedList.latest.Given as goal

abbrev pub invariant-loop-next : goal.invariant-loop-next
invariant-loop-next g l =
    IsWalk g.T.Keyed.marks_of l.key l.self-inside.list.items l.next (λ bound. NoneFrom (fits g.T.Keyed.marks_of l.key (λ y. beyond g.T.Keyed.marks_of l.key l.best y.item)) bound l.self-inside.list.items)
    × IfSome l.next (λ place. place < length l.self-inside.list.items)
    × IsReached g.T.Keyed.marks_of l.key l.best (map (λ numbered. numbered.item) l.self-inside.list.items)

abbrev pub decreases-loop-next : goal.decreases-loop-next
decreases-loop-next g l = above (item_at l.self-inside.list.items l.next)
