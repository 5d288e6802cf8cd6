use Rattle.std.proofs.Common.{◌∙◌, ap, sym, refl, subst, Ok, Err, ◌≡◌, Bool, true, false, arith, ◌+◌, [], ◌∷◌, ◌++◌, cond, drop, length-append, is_eq, is_some}
use Rattle.std.proofs.lemmas.List.{drop_all}
use Rattle.std.proofs.lemmas.List.Sums.{fold-append}
use Rattle.std.specs.BTreeMap.{btree_map_len, get, insert_entry, is_at}
use Rattle.std.specs.List.{list_any}
use Rattle.std.specs.Map.{lookup, values_of}
use Rattle.toml.specs.View.{view, items_view}
use Rattle.lisp_settings.specs.Fields.{if_ok}
use Rattle.lisp_settings.specs.Lists.{ascending, each}
use Rattle.lisp_settings.specs.Places.{item_key}
use Rattle.lisp_settings.specs.declared.fault.SettingsFault.TheVariants.{Duplicate}
use Rattle.lisp_settings.proofs.ListLemmas.{ascending-order, each-duplicate, each-new, is_some-cond, items_view-drop, list_any-push}
use Rattle.lisp_settings.proofs.lists.read_ascending.Goals as goal

pub loop-value-init : goal.loop-value-init
loop-value-init g c =
    ([], refl, c.new-sorted.ensures.empty, λ key. ap (λ es. is_some (lookup (is_at (g.T.Key.Ord.cmp key)) es)) c.new-sorted.ensures.empty, c.new-sorted.ensures.len)

pub returns-then-is_some-clause-err : goal.returns-then-is_some-clause-err
returns-then-is_some-clause-err g c other =
    let i = c.loop-value.value-index in
    let old = c.loop-value.invariant in
    let replaces : is_some c.in_ok-earlier.earlier ≡ true = sym c.is_some.ensures ∙ c.if-is_some.true in
    let there : list_any (λ item. is_eq (g.T.Item.order (g.T.Item.key item) c.key.result)) old.0 ≡ true =
    sym (old.3 c.key.result) ∙ ap is_some (sym c.in_ok-earlier.ensures.old) ∙ replaces in
    let split = items_view-drop c.args.tables.now i c.value-item.result (omega arith) c.value-item.is in
    let kept : btree_map_len c.insert.new.self ≡ btree_map_len c.loop-value.sorted + 0 = c.in_ok-earlier.ensures.len ∙ ap (λ (b : Bool). btree_map_len c.loop-value.sorted + cond b 0 1) replaces in
    let same : c.len-then-is_some.result ≡ c.len.result = omega (arith, c.len-then-is_some.ensures.len, c.len.ensures.len, kept) in
    ap (if_ok (λ all. Ok (ascending g.T.Item.key g.T.Item.order all))) (old.1
    ∙ ap (each c.args.list.now (g.T.Item.reads c.args.known.now) g.T.Item.key g.T.Item.order old.0) split
    ∙ each-duplicate c.args.list.now (g.T.Item.reads c.args.known.now) g.T.Item.key g.T.Item.order old.0 c.len.result (view c.value-item.result) (items_view (drop (i + 1) c.args.tables.now)) c.in_ok-item.item c.key.result (c.len.ensures.len ∙ old.4) c.key.ensures c.in_ok-item.ensures.ok there)
    ∙ ap (λ key. Err (Duplicate key)) (sym (c.in_ok-key.ensures ∙ ap (item_key c.args.list.now) same))

pub loop-value-preserved : goal.loop-value-preserved
loop-value-preserved g c =
    let i = c.loop-value.value-index in
    let old = c.loop-value.invariant in
    let item = c.in_ok-item.item in
    let none : is_some c.in_ok-earlier.earlier ≡ false = sym c.is_some.ensures ∙ c.if-is_some.false in
    let new : list_any (λ item. is_eq (g.T.Item.order (g.T.Item.key item) c.key.result)) old.0 ≡ false =
    sym (old.3 c.key.result) ∙ ap is_some (sym c.in_ok-earlier.ensures.old) ∙ none in
    let split = items_view-drop c.args.tables.now i c.value-item.result (omega arith) c.value-item.is in
    let grown : btree_map_len c.insert.new.self ≡ btree_map_len c.loop-value.sorted + 1 = c.in_ok-earlier.ensures.len ∙ ap (λ (b : Bool). btree_map_len c.loop-value.sorted + cond b 0 1) none in (
      old.0 ++ item ∷ [],
      old.1
          ∙ ap (each c.args.list.now (g.T.Item.reads c.args.known.now) g.T.Item.key g.T.Item.order old.0) split
          ∙ each-new c.args.list.now (g.T.Item.reads c.args.known.now) g.T.Item.key g.T.Item.order old.0 c.len.result (view c.value-item.result) (items_view (drop (i + 1) c.args.tables.now)) item c.key.result (c.len.ensures.len ∙ old.4) c.key.ensures c.in_ok-item.ensures.ok new,
      c.in_ok-earlier.ensures.entries
          ∙ ap (λ k. insert_entry g.T.Key.Ord.cmp c.loop-value.sorted.entries k item) c.key.ensures
          ∙ ap (λ es. insert_entry g.T.Key.Ord.cmp es (g.T.Item.key item) item) old.2
          ∙ sym (fold-append (λ entries next. insert_entry g.T.Key.Ord.cmp entries (g.T.Item.key next) next) [] old.0 (item ∷ [])),
      λ key. list_any-push (λ item. is_eq (g.T.Item.order (g.T.Item.key item) key)) old.0 item (is_some (get g.T.Key.Ord.cmp c.loop-value.sorted key)) (is_some (get g.T.Key.Ord.cmp c.insert.new.self key)) (old.3 key)
          (subst (λ k. is_some (get g.T.Key.Ord.cmp c.insert.new.self key) ≡ cond (is_eq (g.T.Item.order k key)) true (is_some (get g.T.Key.Ord.cmp c.loop-value.sorted key))) c.key.ensures
          (ap is_some (c.in_ok-earlier.ensures.updates.0 key)
          ∙ is_some-cond (is_eq (g.T.Key.Ord.cmp c.key.result key)) item (get g.T.Key.Ord.cmp c.loop-value.sorted key)
          ∙ ap (λ o. cond (is_eq o) true (is_some (get g.T.Key.Ord.cmp c.loop-value.sorted key))) (g.met.T.Item.orders c.key.result key))),
      omega (arith, grown, old.4, length-append old.0 (item ∷ [])),
    )

pub returns-clause-ok : goal.returns-clause-ok
returns-clause-ok g c =
    let old = c.loop-value.invariant in
    let all = old.1 ∙ ap (λ values. each c.args.list.now (g.T.Item.reads c.args.known.now) g.T.Item.key g.T.Item.order old.0 (items_view values)) (drop_all c.loop-value.value-index c.args.tables.now (omega arith)) in
    ap (if_ok (λ all. Ok (ascending g.T.Item.key g.T.Item.order all))) all
    ∙ ap Ok (sym (c.from_vec.ensures ∙ c.in_ok-items.ensures ∙ ap values_of old.2 ∙ ascending-order g.T.Item.key _ _ old.0 g.met.T.Item.orders))
