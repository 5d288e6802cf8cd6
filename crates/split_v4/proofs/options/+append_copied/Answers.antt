use Rattle.std.proofs.Common.{rules, ◌∙◌, ◌≡◌, ◌++◌, true, false, sym, append_assoc}
use Rattle.std.proofs.lemmas.List.{append-nil}
use Rattle.split_v4.specs.Options.{copied_in, ends_options, is_copied}
use Rattle.split_v4.proofs.OptionLemmas.{begins, behind-less, copied-step, options-end, well_facts}
use Rattle.split_v4.proofs.options.+append_copied.Goals as goal

pub returns-then-ends_options : goal.returns-then-ends_options
returns-then-ends_options t c =
    rw (options-end c.args.octets.now (sym c.ends_options.ensures ∙ c.if-ends_options.true)) (sym (append-nil c.args.out.now.items))

pub split_option-requires-clause-well : goal.split_option-requires-clause-well
split_option-requires-clause-well t c =
    begins c.args.octets.now (sym c.ends_options.ensures ∙ c.if-ends_options.false) c.requires

pub is_copied-requires : goal.is_copied-requires
is_copied-requires t c =
    let some : ends_options c.args.octets.now ≡ false = sym c.ends_options.ensures ∙ c.if-ends_options.false in
    let well = begins c.args.octets.now some c.requires in
    let facts = well_facts c.args.octets.now well in
    search (rules, facts)

pub append_copied-requires : goal.append_copied-requires
append_copied-requires t c =
    let some : ends_options c.args.octets.now ≡ false = sym c.ends_options.ensures ∙ c.if-ends_options.false in
    let well = begins c.args.octets.now some c.requires in
    let less = behind-less c.args.octets.now c.split_option.result.1.now well c.split_option.ensures.behind in (
      search (rules, less),
      (copied-step c.args.octets.now c.split_option.result.0.now c.split_option.result.1.now some well c.requires c.split_option.ensures.option c.split_option.ensures.behind).1,
    )

pub returns-then-is_copied : goal.returns-then-is_copied
returns-then-is_copied t c =
    let octets = c.args.octets.now in
    let option = c.split_option.result.0.now in
    let behind = c.split_option.result.1.now in
    let some : ends_options octets ≡ false = sym c.ends_options.ensures ∙ c.if-ends_options.false in
    let step = copied-step octets option behind some (begins octets some c.requires) c.requires c.split_option.ensures.option c.split_option.ensures.behind in
    let copied : is_copied option ≡ true = sym c.is_copied.ensures ∙ c.if-is_copied.true in
    let all : copied_in octets ≡ option ++ copied_in behind = rw copied at step.0 in
    rw (c.in_ok-extend_from_slice.ensures.items, append_assoc c.args.out.now.items option (copied_in behind), ← all) at c.append_copied.ensures

pub append_copied-requires-2 : goal.append_copied-requires-2
append_copied-requires-2 t c =
    let some : ends_options c.args.octets.now ≡ false = sym c.ends_options.ensures ∙ c.if-ends_options.false in
    let well = begins c.args.octets.now some c.requires in
    let less = behind-less c.args.octets.now c.split_option.result.1.now well c.split_option.ensures.behind in (
      search (rules, less),
      (copied-step c.args.octets.now c.split_option.result.0.now c.split_option.result.1.now some well c.requires c.split_option.ensures.option c.split_option.ensures.behind).1,
    )

pub returns : goal.returns
returns t c =
    let octets = c.args.octets.now in
    let option = c.split_option.result.0.now in
    let behind = c.split_option.result.1.now in
    let some : ends_options octets ≡ false = sym c.ends_options.ensures ∙ c.if-ends_options.false in
    let step = copied-step octets option behind some (begins octets some c.requires) c.requires c.split_option.ensures.option c.split_option.ensures.behind in
    let copied : is_copied option ≡ false = sym c.is_copied.ensures ∙ c.if-is_copied.false in
    let all : copied_in octets ≡ copied_in behind = rw copied at step.0 in
    rw (← all) at c.append_copied-2.ensures
