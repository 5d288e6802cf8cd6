use Rattle.std.proofs.Common.{ℕ, List, arith, ap, ◌≡◌, ◌∙◌, ◌-◌, ◌<◌, length, take, drop}
use Rattle.std.proofs.lemmas.List.{take_rest, length-drop}
use Rattle.named_list.proofs.BehindLemmas.{back_written, turned_popped}
use Rattle.named_list.proofs.names.remove_slot.Goals as goal

pub returns-clause-items : goal.returns-clause-items
returns-clause-items c =
    let slots : List ℕ = c.args.slots.now.items in
    let lent : List ℕ = c.deref_mut.result.now in
    let turned : List ℕ = c.rotate_left.new.self in
    let index : ℕ = c.args.index in
    let len : ℕ = c.args.slots.now.len in
    let m : ℕ = length lent - index in
    let within : index < length slots = omega (arith, c.requires, c.args.slots.now.ok.0) in
    let same : lent ≡ slots = c.deref_mut.ensures.value in
    c.pop.ensures.rest
    ∙ ap (take (len - 1)) (back_written slots lent turned index m len same (omega (arith, ap length same, within)) (c.rotate_left.ensures.len ∙ ap length (take_rest lent index) ∙ length-drop index lent) c.args.slots.now.ok.0)
    ∙ turned_popped slots (take m (drop index lent)) turned index (len - 1) within (omega (arith, within, c.args.slots.now.ok.0)) (take_rest lent index ∙ ap (drop index) same) c.rotate_left.ensures.after
