use Rattle.std.proofs.Common.{rules, arith, ◌≡◌, ◌&&◌, ◌||◌, Some, false, is_some, sym, ap, ◌∙◌, subst}
use Rattle.std.specs.Option.{option_or}
use Rattle.std.proofs.lemmas.Option.{same_Some}
use Rattle.prefix_table.specs.Nodes.{node_with}
use Rattle.prefix_table.specs.Edited.{Shrinks}
use Rattle.prefix_table.proofs.KeyLemmas.{same_len}
use Rattle.prefix_table.proofs.StepLemmas.{passes, holds_on, deeper, there_on, below_on, edits_on, edits_gone}
use Rattle.prefix_table.proofs.TakeLemmas.{shrinks_missed, shrinks_cleared, shrinks_dropped, both_true, first_false, second_false}
use Rattle.prefix_table.proofs.TopLemmas.{without_pair-local}
use Rattle.prefix_table.proofs.removal.+take_under.Goals.{else-is_some-via-then-is_some+else-is_some-2, else-is_some-via-else-is_some}
use Rattle.prefix_table.proofs.removal.+take_under.Goals as goal

pub returns-then-not-covers : goal.returns-then-not-covers
returns-then-not-covers g t c =
    let top = node_with c.read.result.content.now c.read.result.next in
    shrinks_missed _ c.args.at c.in-Some.at top c.args.eid.now c.args.least c.in-Some.is c.read.ensures.node (sym (c.covers.ensures top.eid c.args.eid.now c.read.ensures.key c.requires.key) ∙ c.if-not-covers.true)

pub returns-then-is_some-2 : goal.returns-then-is_some-2
returns-then-is_some-2 g t c =
    let top = node_with c.read.result.content.now c.read.result.next in
    let made = c.clear_value.ensures in
    subst (λ w. Shrinks c.args.store.now c.clear_value.new.store c.args.at c.args.least c.args.eid.now (Some c.in-Some.at) w) (sym (made.was top c.read.ensures.node))
    (shrinks_cleared _ c.args.at c.in-Some.at top c.args.eid.now c.args.least c.in-Some.is c.read.ensures.node (sym (c.covers.ensures top.eid c.args.eid.now c.read.ensures.key c.requires.key) ∙ c.if-not-covers.false) _ (same_len _ _ top.eid c.args.eid.now c.read.ensures.key c.requires.key c.if-len-sought.true) made.slots (both_true _ _ (sym c.is_some.ensures ∙ c.if-is_some.true) (sym c.is_some-then-is_some.ensures ∙ c.if-is_some-2.true)) (made.changes top c.read.ensures.node) made.rooms)

pub returns-then-len-sought : goal.returns-then-len-sought
returns-then-len-sought g t c =
    let top = node_with c.read.result.content.now c.read.result.next in
    let made = c.drop_value.ensures in
    let not_both : (is_some top.next.zero && is_some top.next.one) ≡ false = elim c.else-is_some.branch [
      | else-is_some-via-then-is_some+else-is_some-2 w ↦ second_false _ _ (sym w.is_some-then-is_some.ensures ∙ w.if-is_some-2.false)
      | else-is_some-via-else-is_some w ↦ first_false _ _ (sym c.is_some.ensures ∙ w.if-is_some.false)
    ] in
    subst (λ r. Shrinks c.args.store.now c.drop_value.new.store c.args.at c.args.least c.args.eid.now r c.drop_value.result) (sym c.or.ensures)
    (subst (λ w. Shrinks c.args.store.now c.drop_value.new.store c.args.at c.args.least c.args.eid.now (option_or top.next.zero top.next.one) w) (sym (made.was top c.read.ensures.node))
    (shrinks_dropped _ c.args.at c.in-Some.at top c.args.eid.now c.args.least c.in-Some.is c.read.ensures.node (sym (c.covers.ensures top.eid c.args.eid.now c.read.ensures.key c.requires.key) ∙ c.if-not-covers.false) _ (same_len _ _ top.eid c.args.eid.now c.read.ensures.key c.requires.key c.if-len-sought.true) made.slots not_both made.changes made.rooms))

pub take_under-below-requires : goal.take_under-below-requires
take_under-below-requires g t c κs within =
    let top = node_with c.read.result.content.now c.read.result.next in
    let w = passes c.args.store.now c.args.at c.in-Some.at top c.args.eid.now _ _ _ _ c.in-Some.is c.read.ensures.node c.read.ensures.key c.requires.key (sym (c.covers.ensures top.eid c.args.eid.now c.read.ensures.key c.requires.key) ∙ c.if-not-covers.false) c.if-len-sought.false (c.next_bit-side.ensures c.args.eid.now c.requires.key) c.on.ensures in
    (search (rules, deeper w c.args.least c.requires.holds), (search rules, (holds_on w c.args.least c.requires.holds, c.requires.key)))

pub relink-requires-clause-live : goal.relink-requires-clause-live
relink-requires-clause-live g t c =
    let top = node_with c.read.result.content.now c.read.result.next in
    let w = passes c.args.store.now c.args.at c.in-Some.at top c.args.eid.now _ _ _ _ c.in-Some.is c.read.ensures.node c.read.ensures.key c.requires.key (sym (c.covers.ensures top.eid c.args.eid.now c.read.ensures.key c.requires.key) ∙ c.if-not-covers.false) c.if-len-sought.false (c.next_bit-side.ensures c.args.eid.now c.requires.key) c.on.ensures in
    ap is_some (there_on w _ _ _ _ c.take_under-below.ensures c.args.least c.requires.holds)

pub relink-requires-clause-below : goal.relink-requires-clause-below
relink-requires-clause-below g t c =
    let top = node_with c.read.result.content.now c.read.result.next in
    let w = passes c.args.store.now c.args.at c.in-Some.at top c.args.eid.now _ _ _ _ c.in-Some.is c.read.ensures.node c.read.ensures.key c.requires.key (sym (c.covers.ensures top.eid c.args.eid.now c.read.ensures.key c.requires.key) ∙ c.if-not-covers.false) c.if-len-sought.false (c.next_bit-side.ensures c.args.eid.now c.requires.key) c.on.ensures in
    below_on w _ _ _ _ c.take_under-below.ensures c.args.least c.requires.holds

pub relink-requires-clause-valued : goal.relink-requires-clause-valued
relink-requires-clause-valued g t c now found =
    let top = node_with c.read.result.content.now c.read.result.next in
    let w = passes c.args.store.now c.args.at c.in-Some.at top c.args.eid.now _ _ _ _ c.in-Some.is c.read.ensures.node c.read.ensures.key c.requires.key (sym (c.covers.ensures top.eid c.args.eid.now c.read.ensures.key c.requires.key) ∙ c.if-not-covers.false) c.if-len-sought.false (c.next_bit-side.ensures c.args.eid.now c.requires.key) c.on.ensures in
    c.is_some-valued.ensures ∙ ap (λ n. is_some n.value) (same_Some top now (sym (there_on w _ _ _ _ c.take_under-below.ensures c.args.least c.requires.holds) ∙ found))

pub returns-then-relink : goal.returns-then-relink
returns-then-relink g t c =
    let top = node_with c.read.result.content.now c.read.result.next in
    let w = passes c.args.store.now c.args.at c.in-Some.at top c.args.eid.now _ _ _ _ c.in-Some.is c.read.ensures.node c.read.ensures.key c.requires.key (sym (c.covers.ensures top.eid c.args.eid.now c.read.ensures.key c.requires.key) ∙ c.if-not-covers.false) c.if-len-sought.false (c.next_bit-side.ensures c.args.eid.now c.requires.key) c.on.ensures in
    let left = ap (λ v. v || is_some c.take_under-below.result.0) (sym c.is_some-valued.ensures) ∙ sym c.relink.ensures.left ∙ c.if-relink.true in
    edits_on w _ _ _ _ c.take_under-below.ensures _ c.args.least (without_pair-local c.args.eid.now) c.relink.ensures.slots left (c.relink.ensures.stays c.if-relink.true) (omega (arith, rw c.if-relink.true at c.relink.ensures.rooms))

pub returns : goal.returns
returns g t c =
    let top = node_with c.read.result.content.now c.read.result.next in
    let w = passes c.args.store.now c.args.at c.in-Some.at top c.args.eid.now _ _ _ _ c.in-Some.is c.read.ensures.node c.read.ensures.key c.requires.key (sym (c.covers.ensures top.eid c.args.eid.now c.read.ensures.key c.requires.key) ∙ c.if-not-covers.false) c.if-len-sought.false (c.next_bit-side.ensures c.args.eid.now c.requires.key) c.on.ensures in
    let left = ap (λ v. v || is_some c.take_under-below.result.0) (sym c.is_some-valued.ensures) ∙ sym c.relink.ensures.left ∙ c.if-relink.false in
    subst (λ n. Shrinks c.args.store.now c.relink.new.store c.args.at c.args.least c.args.eid.now n c.take_under-below.result.1) (sym c.on-2.ensures)
    (edits_gone w _ _ _ _ c.take_under-below.ensures _ c.args.least (without_pair-local c.args.eid.now) c.relink.ensures.slots left (c.relink.ensures.goes c.if-relink.false) (rw c.if-relink.false at c.relink.ensures.rooms))
