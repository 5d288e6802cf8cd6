use Rattle.std.proofs.Common.{sym, ◌∙◌, arith}
use Rattle.std.specs.Option.{option_copied}
use Rattle.std.proofs.lemmas.Option.{slice_get_within}
use Rattle.map_cache.proofs.FirstNameLemmas.{first-least, none-first, none-least, none-next}
use Rattle.map_cache.proofs.names.least_in.Goals as goal

pub loop-name-init : goal.loop-name-init
loop-name-init c =
    none-first (option_copied c.args.after) c.args.m c.args.by_eid.now.mappings c.args.set.now.keys c.place_above-index.result c.place_above-index.ensures.within c.place_above-index.ensures.upto c.place_above-index.ensures.above

pub returns-then-lasts : goal.returns-then-lasts
returns-then-lasts c =
    sym (first-least (option_copied c.args.after) c.args.m c.args.by_eid.now.mappings c.args.set.now.keys c.len-2.ensures.ascending c.len.ensures.ascends c.requires c.loop-name.index c.loop-name.invariant c.in-Some.name.now (sym c.in-Some.ensures) (sym c.lasts.ensures ∙ c.if-lasts.true))

pub overflow_add-index : goal.overflow_add-index
overflow_add-index c =
    let within = slice_get_within c.args.set.now.keys c.loop-name.index c.in-Some.name.now (sym c.in-Some.ensures) in
    omega (arith, within, c.len.ensures.len)

pub loop-name-smaller : goal.loop-name-smaller
loop-name-smaller c =
    let within = slice_get_within c.args.set.now.keys c.loop-name.index c.in-Some.name.now (sym c.in-Some.ensures) in
    omega (arith, within)

pub loop-name-preserved : goal.loop-name-preserved
loop-name-preserved c =
    none-next (option_copied c.args.after) c.args.m c.args.by_eid.now.mappings c.args.set.now.keys c.loop-name.index c.in-Some.name.now c.loop-name.invariant (sym c.in-Some.ensures) (sym c.lasts.ensures ∙ c.if-lasts.false)

pub returns : goal.returns
returns c =
    none-least (option_copied c.args.after) c.args.m c.args.by_eid.now.mappings c.args.set.now.keys c.len-2.ensures.ascending c.len.ensures.ascends c.requires c.loop-name.index c.loop-name.invariant c.in_default.ensures
