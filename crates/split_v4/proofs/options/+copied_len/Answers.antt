use Rattle.std.proofs.Common.{rules, arith, ◌∙◌, ◌≡◌, true, false, Some, refl, sym, ap}
use Rattle.split_v4.specs.Options.{begins_well, ends_options, is_copied}
use Rattle.split_v4.proofs.OptionLemmas.{options-bad, options-end, size-step}
use Rattle.split_v4.proofs.options.+copied_len.Goals as goal

pub returns-then-ends_options-clause-value : goal.returns-then-ends_options-clause-value
returns-then-ends_options-clause-value t c =
    rw (options-end c.args.octets.now (sym c.ends_options.ensures ∙ c.if-ends_options.true)) refl

pub returns-then-not-begins_well-clause-value : goal.returns-then-not-begins_well-clause-value
returns-then-not-begins_well-clause-value t c =
    rw (options-bad c.args.octets.now (sym c.ends_options.ensures ∙ c.if-ends_options.false) (sym c.begins_well.ensures ∙ c.if-not-begins_well.true)) refl

pub returns-in_err-others-clause-value : goal.returns-in_err-others-clause-value
returns-in_err-others-clause-value t c =
    let some : ends_options c.args.octets.now ≡ false = sym c.ends_options.ensures ∙ c.if-ends_options.false in
    let well : begins_well c.args.octets.now ≡ true = sym c.begins_well.ensures ∙ c.if-not-begins_well.false in
    rw (size-step c.args.octets.now c.split_option.result.0.now c.split_option.result.1.now some well c.split_option.ensures.option c.split_option.ensures.behind, ← c.in_err-others.ensures.value) (search rules)

pub returns-then-is_copied-clause-value : goal.returns-then-is_copied-clause-value
returns-then-is_copied-clause-value t c =
    let some : ends_options c.args.octets.now ≡ false = sym c.ends_options.ensures ∙ c.if-ends_options.false in
    let well : begins_well c.args.octets.now ≡ true = sym c.begins_well.ensures ∙ c.if-not-begins_well.false in
    let copied : is_copied c.split_option.result.0.now ≡ true = sym c.is_copied.ensures ∙ c.if-is_copied.true in
    rw (size-step c.args.octets.now c.split_option.result.0.now c.split_option.result.1.now some well c.split_option.ensures.option c.split_option.ensures.behind, ← c.in_ok-others.ensures.value, copied) refl

pub returns-clause-value : goal.returns-clause-value
returns-clause-value t c =
    let some : ends_options c.args.octets.now ≡ false = sym c.ends_options.ensures ∙ c.if-ends_options.false in
    let well : begins_well c.args.octets.now ≡ true = sym c.begins_well.ensures ∙ c.if-not-begins_well.false in
    let copied : is_copied c.split_option.result.0.now ≡ false = sym c.is_copied.ensures ∙ c.if-is_copied.false in
    rw (size-step c.args.octets.now c.split_option.result.0.now c.split_option.result.1.now some well c.split_option.ensures.option c.split_option.ensures.behind, ← c.in_ok-others.ensures.value, copied) (ap Some (omega arith))
