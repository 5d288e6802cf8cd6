use Rattle.std.proofs.Common.{◌++◌, All, sym, ap, subst, ◌∙◌}
use Rattle.std.proofs.lemmas.List.Elements.{All-head, All-tail}
use Rattle.prefix_table.specs.Stacked.{stacked}
use Rattle.prefix_table.specs.Table.{pairs_under, IsRootIn}
use Rattle.prefix_table.proofs.StackedLemmas.{root-first, root-under}
use Rattle.prefix_table.proofs.iter.IterIterator.next.Goals as goal

pub loop-pair-preserved : goal.loop-pair-preserved
loop-pair-preserved g c =
    let store = c.loop-pair.self-inside.store.now in
    let root = c.in_ok-root.root.now in
    let others = c.in_ok-root.others.now in
    let none = c.in_default.ensures.first in
    let is = c.in_ok-root.ensures.cases.0 in
    let each = subst (All (IsRootIn store)) is c.loop-pair.invariant.1 in
    let after = c.push.new.self in (
      root-under store c.next_of.new.stack after root none.1 c.push.ensures (All-head (IsRootIn store) root others each),
      All-tail (IsRootIn store) root others each,
      sym (root-first store c.next_of.new.stack after root none.1 c.push.ensures others)
          ∙ ap (λ l. stacked store c.next_of.new.stack ++ pairs_under store l) (sym is)
          ∙ ap (λ l. l ++ pairs_under store c.loop-pair.self-inside.roots.now) (ap (stacked store) none.1 ∙ sym none.0)
          ∙ c.loop-pair.invariant.2,
    )
