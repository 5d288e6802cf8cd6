use Rattle.std.proofs.Common.{sym, ap, slice_get, ◌∙◌}
use Rattle.keyed_list.specs.Keyed.{number_of}
use Rattle.keyed_list.proofs.MarkLemmas.{number-at, number-insert, number-set, there}
use Rattle.keyed_list.proofs.marks.put_mark.Goals as goal

pub put_at-requires-clause-place : goal.put_at-requires-clause-place
put_at-requires-clause-place c = c.place_of-place.ensures c.args.number

pub returns-in-None-clause-before : goal.returns-in-None-clause-before
returns-in-None-clause-before c =
    c.number_at-before.ensures
    ∙ number-at c.args.key.now c.args.number c.args.index.now.keys c.place_of-place.result (c.place_of-place.ensures c.args.number)

pub returns-in-None-clause-numbers : goal.returns-in-None-clause-numbers
returns-in-None-clause-numbers c other =
    ap (number_of other) c.put_at.ensures.keys
    ∙ number-insert c.args.key.now c.args.number c.args.index.now.keys c.place_of-place.result (c.place_of-place.ensures c.args.number) (sym c.number_at-before.ensures ∙ c.in-None.is) other

pub returns-in-Some-clause-before : goal.returns-in-Some-clause-before
returns-in-Some-clause-before c =
    c.number_at-before.ensures
    ∙ number-at c.args.key.now c.args.number c.args.index.now.keys c.place_of-place.result (c.place_of-place.ensures c.args.number)

pub returns-in-Some-clause-numbers : goal.returns-in-Some-clause-numbers
returns-in-Some-clause-numbers c other =
    let mark = there c.args.key.now c.args.number (slice_get c.args.index.now.keys c.place_of-place.result) c.in-Some.field-0 (sym c.number_at-before.ensures ∙ c.in-Some.is) in
    ap (number_of other) c.replace_at.ensures.keys
    ∙ number-set c.args.key.now c.args.number c.args.index.now.keys c.place_of-place.result (c.place_of-place.ensures c.args.number).ascends mark.mark mark.at mark.same other
