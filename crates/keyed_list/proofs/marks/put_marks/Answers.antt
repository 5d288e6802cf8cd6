use Rattle.keyed_list.proofs.MarkLemmas.{before-other, number-alike, numbers-one, numbers-same, numbers-two}
use Rattle.keyed_list.proofs.OrderLemmas.{ties}
use Rattle.std.proofs.Common.{IfSome, Some, ◌≡◌, sym, subst, ◌∙◌}
use Rattle.keyed_list.specs.Keyed.{number_of}
use Rattle.keyed_list.proofs.marks.put_marks.Goals as goal

pub returns-in_default-clause-numbers : goal.returns-in_default-clause-numbers
returns-in_default-clause-numbers c key =
    c.put_mark-before.ensures.numbers key
    ∙ numbers-one c.args.marks.now c.in_default.is key (Some c.args.number) (number_of key c.args.index.now.keys)

pub returns-then-is_same-clause-second : goal.returns-then-is_same-clause-second
returns-then-is_same-clause-second c =
    subst (λ o. IfSome o (λ other. c.put_mark-before.result ≡ number_of other c.args.index.now.keys)) (sym c.in-Some.is)
    (c.put_mark-before.ensures.before ∙ number-alike c.args.marks.now.key c.in-Some.key c.args.index.now.keys (ties c.args.marks.now.key c.in-Some.key (sym c.is_same.ensures ∙ c.if-is_same.true)))

pub returns-then-is_same-clause-numbers : goal.returns-then-is_same-clause-numbers
returns-then-is_same-clause-numbers c key =
    numbers-same c.args.marks.now c.in-Some.key c.in-Some.is c.args.number c.args.index.now.keys c.put_mark-before.new.index.keys c.put_mark-before.ensures.numbers (sym c.is_same.ensures ∙ c.if-is_same.true) key

pub returns-clause-second : goal.returns-clause-second
returns-clause-second c =
    subst (λ o. IfSome o (λ other. c.put_mark-other_before.result ≡ number_of other c.args.index.now.keys)) (sym c.in-Some.is)
    (c.put_mark-other_before.ensures.before ∙ before-other c.args.marks.now c.in-Some.key c.in-Some.is c.args.number c.args.index.now.keys c.put_mark-before.new.index.keys c.put_mark-before.ensures.numbers (sym c.is_same.ensures ∙ c.if-is_same.false))

pub returns-clause-numbers : goal.returns-clause-numbers
returns-clause-numbers c key =
    numbers-two c.args.marks.now c.in-Some.key c.in-Some.is c.args.number c.args.index.now.keys c.put_mark-before.new.index.keys c.put_mark-before.ensures.numbers c.put_mark-other_before.new.index.keys key (c.put_mark-other_before.ensures.numbers key)
