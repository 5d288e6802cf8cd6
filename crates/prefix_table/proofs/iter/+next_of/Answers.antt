use Rattle.std.proofs.Common.{rules, ◌++◌, refl, ap, ◌∙◌}
use Rattle.prefix_table.specs.Nodes.{node_with}
use Rattle.prefix_table.specs.Stacked.{stacked}
use Rattle.prefix_table.specs.Tree.{pair_of}
use Rattle.prefix_table.proofs.StackedLemmas.{step, under-live, under-split}
use Rattle.prefix_table.proofs.iter.+next_of.Goals as goal

pub read-requires-clause-live : goal.read-requires-clause-live
read-requires-clause-live g t c =
    let all = rw c.in_ok-name.ensures at c.requires in
    under-live c.args.store.now _ c.in_ok-name.name (under-split c.args.store.now 0 c.pop.new.self c.in_ok-name.name all).1

pub push-requires : goal.push-requires
push-requires g t c =
    let top = node_with c.read.result.content.now c.read.result.next in
    let s = step c.args.store.now c.args.stack.now c.pop.new.self _ _ c.in_ok-name.name top c.requires c.in_ok-name.ensures c.read.ensures.node refl refl in
    s.one_fits

pub push-requires-2 : goal.push-requires-2
push-requires-2 g t c =
    let top = node_with c.read.result.content.now c.read.result.next in
    let s = step c.args.store.now c.args.stack.now c.pop.new.self _ _ c.in_ok-name.name top c.requires c.in_ok-name.ensures c.read.ensures.node c.push.ensures refl in
    s.zero_fits

pub next_of-requires : goal.next_of-requires
next_of-requires g t c κs within =
    let top = node_with c.read.result.content.now c.read.result.next in
    let s = step c.args.store.now c.args.stack.now c.pop.new.self _ _ c.in_ok-name.name top c.requires c.in_ok-name.ensures c.read.ensures.node c.push.ensures c.push-2.ensures in
    (search (rules, s.fewer), (search rules, s.under))

pub returns-in-Some-clause-first : goal.returns-in-Some-clause-first
returns-in-Some-clause-first g t c =
    let top = node_with c.read.result.content.now c.read.result.next in
    let s = step c.args.store.now c.args.stack.now c.pop.new.self _ _ c.in_ok-name.name top c.requires c.in_ok-name.ensures c.read.ensures.node c.push.ensures c.push-2.ensures in
    s.pairs_are ∙ ap (λ v. pair_of top.eid v ++ stacked c.args.store.now c.push-2.new.self) c.in-Some.is

pub returns-in-Some-clause-under : goal.returns-in-Some-clause-under
returns-in-Some-clause-under g t c =
    let top = node_with c.read.result.content.now c.read.result.next in
    let s = step c.args.store.now c.args.stack.now c.pop.new.self _ _ c.in_ok-name.name top c.requires c.in_ok-name.ensures c.read.ensures.node c.push.ensures c.push-2.ensures in
    s.under

pub returns-in-None-clause-first : goal.returns-in-None-clause-first
returns-in-None-clause-first g t c =
    let top = node_with c.read.result.content.now c.read.result.next in
    let s = step c.args.store.now c.args.stack.now c.pop.new.self _ _ c.in_ok-name.name top c.requires c.in_ok-name.ensures c.read.ensures.node c.push.ensures c.push-2.ensures in
    let same = s.pairs_are ∙ ap (λ v. pair_of top.eid v ++ stacked c.args.store.now c.push-2.new.self) c.in-None.is in
    rw same c.next_of.ensures.first
