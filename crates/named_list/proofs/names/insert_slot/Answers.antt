use Rattle.std.proofs.Common.{ℕ, List, arith, ap, ◌≡◌, ◌∙◌, ◌+◌, ◌-◌, ◌≤◌, ◌++◌, ◌∷◌, [], length, take, drop}
use Rattle.std.proofs.lemmas.List.{take_rest, take-append-le, drop-append-le, length-drop, length_push}
use Rattle.named_list.proofs.BehindLemmas.{back_written, pushed_turned}
use Rattle.named_list.proofs.names.insert_slot.Goals as goal

pub returns-clause-items : goal.returns-clause-items
returns-clause-items c =
    let slots : List ℕ = c.args.slots.now.items in
    let pushed : List ℕ = c.push_reserved.new.self.items in
    let lent : List ℕ = c.deref_mut.result.now in
    let turned : List ℕ = c.rotate_right.new.self in
    let index : ℕ = c.args.index in
    let m : ℕ = length lent - index in
    let part : List ℕ = take m (drop index lent) in
    let rest : List ℕ = drop index slots in
    let within : index ≤ length slots = omega (arith, c.requires.index, c.args.slots.now.ok.0) in
    let same : lent ≡ pushed = c.deref_mut.ensures.value in
    let lent_is : lent ≡ slots ++ c.args.name ∷ [] = same ∙ c.push_reserved.ensures.items in
    let len : length lent ≡ length slots + 1 = ap length lent_is ∙ length_push slots c.args.name in
    let part_is : part ≡ rest ++ c.args.name ∷ [] =
    take_rest lent index ∙ ap (drop index) lent_is ∙ drop-append-le index slots (c.args.name ∷ []) within in
    let n_is : length rest ≡ length part - 1 = omega (arith, ap length part_is, length_push rest c.args.name) in
    let turned_is : turned ≡ c.args.name ∷ rest =
    pushed_turned rest turned c.args.name (length part - 1) n_is (c.rotate_right.ensures.after ∙ ap (λ l. drop (length part - 1) l ++ take (length part - 1) l) part_is) in
    back_written pushed lent turned index m c.push_reserved.new.self.len same (omega (arith, len, ap length same, within)) (c.rotate_right.ensures.len ∙ ap length (take_rest lent index) ∙ length-drop index lent) c.push_reserved.new.self.ok.0
    ∙ ap (λ l. take index l ++ turned) c.push_reserved.ensures.items
    ∙ ap (λ l. l ++ turned) (take-append-le index slots (c.args.name ∷ []) within)
    ∙ ap (λ l. take index slots ++ l) turned_is
