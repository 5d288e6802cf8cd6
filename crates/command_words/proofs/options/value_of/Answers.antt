use Rattle.std.proofs.Common.{◌∙◌, sym, arith}
use Rattle.command_words.proofs.WordLemmas.{value_of-short}
use Rattle.command_words.proofs.options.value_of.Goals as goal

pub returns : goal.returns
returns c = sym (c.loop-rest.invariant ∙ value_of-short c.args.name.now c.loop-rest.rest.now (omega (arith, c.in_default.len_below)))
