use Rattle.std.proofs.Common.{◌∙◌, bytes_eq}
use Rattle.command_words.proofs.WordLemmas.{list_any-map_now}
use Rattle.command_words.proofs.options.is_known.Goals as goal

pub returns : goal.returns
returns c = c.contains.ensures.value ∙ list_any-map_now (λ known. bytes_eq known c.args.name.now) c.args.names.now
