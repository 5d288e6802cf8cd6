use Rattle.std.proofs.Common.{cond, length, sym, ap, ◌∙◌, arith}
use Rattle.std.proofs.lemmas.List.Edits.{length-remove}
use Rattle.std.proofs.lemmas.Option.{slice_get_within}
use Rattle.keyed_list.specs.Keyed.{number_of}
use Rattle.ordered_set.specs.Keys.{ties}
use Rattle.keyed_list.specs.Keys.{mark_order, same_key}
use Rattle.keyed_list.proofs.MarkLemmas.{number-remove, number-set, there-of}
use Rattle.keyed_list.proofs.marks.turn_back.Goals as goal

pub take_at-requires : goal.take_at-requires
take_at-requires c =
    let mark = there-of c.args.key.now 0 c.args.index.now.keys c.place_of-place.result (c.place_of-place.ensures 0) c.requires in
    slice_get_within c.args.index.now.keys c.place_of-place.result mark.mark mark.at

pub returns-in-None-clause-numbers : goal.returns-in-None-clause-numbers
returns-in-None-clause-numbers c other =
    let mark = there-of c.args.key.now 0 c.args.index.now.keys c.place_of-place.result (c.place_of-place.ensures 0) c.requires in
    ap (number_of other) c.take_at.ensures.keys
    ∙ number-remove c.args.key.now 0 c.args.index.now.keys c.place_of-place.result (c.place_of-place.ensures 0).ascends mark.mark mark.at mark.same other
    ∙ ap (λ o. cond (same_key c.args.key.now other) o (number_of other c.args.index.now.keys)) (sym c.in-None.is)

pub returns-in-None-clause-total : goal.returns-in-None-clause-total
returns-in-None-clause-total c =
    let mark = there-of c.args.key.now 0 c.args.index.now.keys c.place_of-place.result (c.place_of-place.ensures 0) c.requires in
    let fewer = length-remove c.args.index.now.keys c.place_of-place.result (slice_get_within c.args.index.now.keys c.place_of-place.result mark.mark mark.at) in
    omega (arith, fewer, ap (λ (keys : _). length keys) c.take_at.ensures.keys, c.take_at.ensures.spare)

pub replace_at-requires : goal.replace_at-requires
replace_at-requires c =
    let mark = there-of c.args.key.now 0 c.args.index.now.keys c.place_of-place.result (c.place_of-place.ensures 0) c.requires in
    ap (ties mark_order (record { key = c.args.key.now; number = c.in-Some.number })) mark.at ∙ mark.same

pub returns-in-Some-clause-numbers : goal.returns-in-Some-clause-numbers
returns-in-Some-clause-numbers c other =
    let mark = there-of c.args.key.now 0 c.args.index.now.keys c.place_of-place.result (c.place_of-place.ensures 0) c.requires in
    ap (number_of other) c.replace_at.ensures.keys
    ∙ number-set c.args.key.now c.in-Some.number c.args.index.now.keys c.place_of-place.result (c.place_of-place.ensures 0).ascends mark.mark mark.at mark.same other
    ∙ ap (λ o. cond (same_key c.args.key.now other) o (number_of other c.args.index.now.keys)) (sym c.in-Some.is)
