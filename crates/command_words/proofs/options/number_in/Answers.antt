use Rattle.std.proofs.Common.{◌∙◌, sym}
use Rattle.command_words.proofs.WordLemmas.{too_large}
use Rattle.command_words.proofs.options.number_in.Goals as goal

pub returns-in-Err-clause-number : goal.returns-in-Err-clause-number
returns-in-Err-clause-number c = too_large c.args.least c.args.greatest c.args.text.now c.ranges.greatest.fits (rw c.as_bytes.ensures.value at (sym c.is_decimal.ensures ∙ c.if-not-is_decimal.false)) c.in-Err.ensures.value.0
