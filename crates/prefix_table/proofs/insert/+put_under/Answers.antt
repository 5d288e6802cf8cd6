use Rattle.std.proofs.Common.{rules, Option, Some, true, false, is_some, ◌||◌, ◌≡◌, ℕ, Bool, refl, sym, ap, ◌∙◌, subst}
use Rattle.prefix_table.specs.Edited.{Puts}
use Rattle.prefix_table.specs.Nodes.{node_with}
use Rattle.prefix_table.proofs.KeyLemmas.{given_of, same_len}
use Rattle.prefix_table.proofs.PutLemmas.{puts_same, room_leaf}
use Rattle.prefix_table.proofs.StepLemmas.{passes, takes_on, deeper, there_on, below_on, edits_on}
use Rattle.prefix_table.proofs.TopLemmas.{with_pair-local}
use Rattle.prefix_table.proofs.insert.+put_under.Goals as goal

or_true : (b : Bool) → (b || true) ≡ true
or_true true = refl
or_true false = refl

pub returns-then-len-sought : goal.returns-then-len-sought
returns-then-len-sought g t c given is =
    let top = node_with c.read.result.content.now c.read.result.next in
    let made = c.swap_value.ensures in
    subst (λ w. Puts c.args.store.now c.swap_value.new.store c.args.at c.args.least c.args.eid.now given c.in-Some.at w) (sym (made.was top c.read.ensures.node))
    (puts_same _ _ c.args.at c.in-Some.at top c.args.eid.now given c.args.least c.in-Some.is c.read.ensures.node (sym (c.covers.ensures top.eid c.args.eid.now c.read.ensures.key c.requires.key) ∙ c.if-not-covers.false) (same_len _ _ top.eid c.args.eid.now c.read.ensures.key c.requires.key c.if-len-sought.true) (rw is at (made.changes top c.read.ensures.node)) made.rooms made.slots)

pub put_under-name-requires : goal.put_under-name-requires
put_under-name-requires g t c κs within =
    let top = node_with c.read.result.content.now c.read.result.next in
    let w = passes c.args.store.now c.args.at c.in-Some.at top c.args.eid.now _ _ _ _ c.in-Some.is c.read.ensures.node c.read.ensures.key c.requires.key (sym (c.covers.ensures top.eid c.args.eid.now c.read.ensures.key c.requires.key) ∙ c.if-not-covers.false) c.if-len-sought.false (c.next_bit-side.ensures c.args.eid.now c.requires.key) c.on.ensures in
    (search (rules, deeper w c.args.least (c.requires.takes).holds), (search rules, (takes_on w c.args.least c.requires.takes, (c.requires.key, c.requires.value))))

pub link-requires-clause-live : goal.link-requires-clause-live
link-requires-clause-live g t c =
    let some = given_of c.args.value.now c.requires.value in
    let top = node_with c.read.result.content.now c.read.result.next in
    let w = passes c.args.store.now c.args.at c.in-Some.at top c.args.eid.now _ _ _ _ c.in-Some.is c.read.ensures.node c.read.ensures.key c.requires.key (sym (c.covers.ensures top.eid c.args.eid.now c.read.ensures.key c.requires.key) ∙ c.if-not-covers.false) c.if-len-sought.false (c.next_bit-side.ensures c.args.eid.now c.requires.key) c.on.ensures in
    ap is_some (there_on w _ _ _ _ (c.put_under-name.ensures some.value some.is) c.args.least (c.requires.takes).holds)

pub link-requires-clause-below : goal.link-requires-clause-below
link-requires-clause-below g t c =
    let some = given_of c.args.value.now c.requires.value in
    let top = node_with c.read.result.content.now c.read.result.next in
    let w = passes c.args.store.now c.args.at c.in-Some.at top c.args.eid.now _ _ _ _ c.in-Some.is c.read.ensures.node c.read.ensures.key c.requires.key (sym (c.covers.ensures top.eid c.args.eid.now c.read.ensures.key c.requires.key) ∙ c.if-not-covers.false) c.if-len-sought.false (c.next_bit-side.ensures c.args.eid.now c.requires.key) c.on.ensures in
    below_on w _ _ (Some c.put_under-name.result) _ (c.put_under-name.ensures some.value some.is) c.args.least (c.requires.takes).holds

pub returns : goal.returns
returns g t c given is =
    let top = node_with c.read.result.content.now c.read.result.next in
    let w = passes c.args.store.now c.args.at c.in-Some.at top c.args.eid.now _ _ _ _ c.in-Some.is c.read.ensures.node c.read.ensures.key c.requires.key (sym (c.covers.ensures top.eid c.args.eid.now c.read.ensures.key c.requires.key) ∙ c.if-not-covers.false) c.if-len-sought.false (c.next_bit-side.ensures c.args.eid.now c.requires.key) c.on.ensures in
    edits_on w _ _ _ _ (c.put_under-name.ensures given is) _ c.args.least (with_pair-local c.args.eid.now given) c.link.ensures.slots (or_true (is_some top.value)) c.link.ensures.changes c.link.ensures.rooms

pub returns-in_default : goal.returns-in_default
returns-in_default g t c given is =
    subst (λ (at : Option ℕ). Puts c.args.store.now c.put_leaf.new.store at c.args.least c.args.eid.now given c.put_leaf.result c.put_leaf.new.value) (sym c.in_default.is) (c.put_leaf.ensures given is c.args.least)

pub returns-then-not-covers : goal.returns-then-not-covers
returns-then-not-covers g t c given is =
    subst (λ (at : Option ℕ). Puts c.args.store.now c.put_apart.new.store at c.args.least c.args.eid.now given c.put_apart.result c.put_apart.new.value) (sym c.in-Some.is) (c.put_apart.ensures given is)

pub put_leaf-requires : goal.put_leaf-requires
put_leaf-requires g t c = room_leaf _ c.args.at c.args.eid.now c.args.least c.requires.takes c.in_default.is
