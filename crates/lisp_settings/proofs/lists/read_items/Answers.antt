use Rattle.std.proofs.Common.{◌∙◌, ap, sym, Err, ◌≡◌, true, false, arith, ◌+◌, drop, is_eq}
use Rattle.std.specs.List.{list_any}
use Rattle.lisp_settings.specs.Places.{item_key}
use Rattle.lisp_settings.specs.declared.fault.SettingsFault.TheVariants.{Duplicate}
use Rattle.lisp_settings.proofs.ListLemmas.{items_view-drop, each-duplicate, each-new}
use Rattle.toml.specs.View.{view, items_view}
use Rattle.lisp_settings.specs.Lists.{each}
use Rattle.lisp_settings.proofs.lists.read_items.Goals as goal

pub returns-then-has_key-clause-err : goal.returns-then-has_key-clause-err
returns-then-has_key-clause-err g c other =
    let i = c.loop-value.value-index in
    let there : list_any (λ item. is_eq (g.T.Item.order (g.T.Item.key item) c.key.result)) c.loop-value.items.items ≡ true =
    ap (list_any (λ item. is_eq (g.T.Item.order (g.T.Item.key item) c.key.result))) (sym c.as_slice.ensures.value) ∙ sym c.has_key.ensures ∙ c.if-has_key.true in
    let split = items_view-drop c.args.tables.now i c.value-item.result (omega arith) c.value-item.is in
    c.loop-value.invariant
    ∙ ap (each c.args.list.now (g.T.Item.reads c.args.known.now) g.T.Item.key g.T.Item.order c.loop-value.items.items) split
    ∙ each-duplicate c.args.list.now (g.T.Item.reads c.args.known.now) g.T.Item.key g.T.Item.order c.loop-value.items.items c.len.result (view c.value-item.result) (items_view (drop (i + 1) c.args.tables.now)) c.in_ok-item.item c.key.result (c.len.ensures ∙ omega (arith, c.loop-value.items.ok)) c.key.ensures c.in_ok-item.ensures.ok there
    ∙ ap (λ key. Err (Duplicate key)) (sym (c.in_ok-key.ensures ∙ ap (item_key c.args.list.now) (c.len-then-has_key.ensures ∙ sym c.len.ensures)))

pub loop-value-preserved : goal.loop-value-preserved
loop-value-preserved g c =
    let i = c.loop-value.value-index in
    let new : list_any (λ item. is_eq (g.T.Item.order (g.T.Item.key item) c.key.result)) c.loop-value.items.items ≡ false =
    ap (list_any (λ item. is_eq (g.T.Item.order (g.T.Item.key item) c.key.result))) (sym c.as_slice.ensures.value) ∙ sym c.has_key.ensures ∙ c.if-has_key.false in
    let split = items_view-drop c.args.tables.now i c.value-item.result (omega arith) c.value-item.is in
    c.loop-value.invariant
    ∙ ap (each c.args.list.now (g.T.Item.reads c.args.known.now) g.T.Item.key g.T.Item.order c.loop-value.items.items) split
    ∙ each-new c.args.list.now (g.T.Item.reads c.args.known.now) g.T.Item.key g.T.Item.order c.loop-value.items.items c.len.result (view c.value-item.result) (items_view (drop (i + 1) c.args.tables.now)) c.in_ok-item.item c.key.result (c.len.ensures ∙ omega (arith, c.loop-value.items.ok)) c.key.ensures c.in_ok-item.ensures.ok new
    ∙ ap (λ items. each c.args.list.now (g.T.Item.reads c.args.known.now) g.T.Item.key g.T.Item.order items (items_view (drop (i + 1) c.args.tables.now))) (sym c.in_ok-push.ensures.items)
