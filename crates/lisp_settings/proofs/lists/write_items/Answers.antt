use Rattle.std.proofs.Common.{suc, sym, subst, ◌≡◌, take}
use Rattle.std.proofs.lemmas.List.{take_all}
use Rattle.std.proofs.lemmas.List.Elements.{All-get_or}
use Rattle.toml.specs.View.{items_view}
use Rattle.lisp_settings.specs.Writing.{IsArrayOf}
use Rattle.lisp_settings.proofs.ArrayLemmas.{array_empty, array_more}
use Rattle.lisp_settings.proofs.lists.write_items.Goals as goal

pub write-requires : goal.write-requires
write-requires g c =
    subst g.T.Item.lawful (sym c.item-item.is) (All-get_or g.T.Item.lawful c.args.items.now c.loop-item.item-index c.item-item.result c.loop-item-test.true c.requires.lawful)

pub loop-item-init : goal.loop-item-init
loop-item-init g c known fit = array_empty (g.T.Item.reads known) g.T.Item.key g.T.Item.order (suc g.T.Item.nested) c.new-array.result.items c.new-array.ensures.items

pub loop-item-preserved : goal.loop-item-preserved
loop-item-preserved g c known fit =
    let fits = subst (g.T.Item.fits known) (sym c.item-item.is) (All-get_or (g.T.Item.fits known) c.args.items.now c.loop-item.item-index c.item-item.result c.loop-item-test.true fit) in
    array_more (g.T.Item.reads known) g.T.Item.key g.T.Item.order g.T.Item.nested c.args.items.now c.loop-item.item-index c.item-item.result c.loop-item.array.items _ c.in_ok-write.field-0 c.loop-item-test.true c.item-item.is c.requires.distinct (c.loop-item.invariant known fit) c.in_ok-push.ensures.items (c.in_ok-write.ensures.reads known fits) c.in_ok-write.ensures.plain

pub returns : goal.returns
returns g c known fit =
    let all : take c.loop-item.item-index c.args.items.now ≡ c.args.items.now = take_all c.loop-item.item-index c.args.items.now c.loop-item-test.false in
    subst (λ items. IsArrayOf (g.T.Item.reads known) g.T.Item.key g.T.Item.order (suc g.T.Item.nested) items (items_view c.loop-item.array.items)) all (c.loop-item.invariant known fit)
