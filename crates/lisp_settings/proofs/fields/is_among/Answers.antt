use Rattle.std.proofs.Common.{◌∙◌, bytes_eq}
use Rattle.lisp_settings.proofs.FieldLemmas.{list_any-map_now}
use Rattle.lisp_settings.proofs.fields.is_among.Goals as goal

pub returns : goal.returns
returns c = c.contains.ensures.value ∙ list_any-map_now (λ known. bytes_eq known c.args.key.now) c.args.known.now
