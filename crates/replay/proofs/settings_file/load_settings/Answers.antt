use Rattle.std.proofs.Common.{◌∙◌, sym, ap}
use Rattle.std.proofs.lemmas.Option.{IfSome_then}
use Rattle.desk.specs.World.{content}
use Rattle.lisp_settings.specs.Settings.{settings_of}
use Rattle.replay.proofs.PieceLemmas.{settings_of-read}
use Rattle.replay.proofs.settings_file.load_settings.Goals as goal

pub returns-in-Ok-clause-value : goal.returns-in-Ok-clause-value
returns-in-Ok-clause-value g c =
    IfSome_then (g.D.Desk.told c.args.desk.now) c.in_ok-text.ensures.text (λ w reads.
    sym c.in-Ok.ensures.ok ∙ ap settings_of c.as_slice.ensures ∙ settings_of-read c.in_ok-text.text (content c.args.name.now w.files) reads)

pub returns-clause-value : goal.returns-clause-value
returns-clause-value g c =
    IfSome_then (g.D.Desk.told c.args.desk.now) c.in_ok-text.ensures.text (λ w reads.
    sym (c.in-Err.ensures.err c.in_default.not-Memory) ∙ ap settings_of c.as_slice.ensures ∙ settings_of-read c.in_ok-text.text (content c.args.name.now w.files) reads)
