use Rattle.std.proofs.Common.{◌∙◌, sym}
use Rattle.std.proofs.lemmas.Option.{IfSome_then}
use Rattle.command_words.specs.declared.intake.InputFormat.TheVariants.{Classic}
use Rattle.desk.specs.World.{content}
use Rattle.replay.specs.Audit.{whole}
use Rattle.replay.specs.Opening.{opened}
use Rattle.replay.proofs.AuditLemmas.{refused-own}
use Rattle.replay.proofs.comparing.refuse_sent.Goals as goal

pub returns-in-Some-clause-found : goal.returns-in-Some-clause-found
returns-in-Some-clause-found g c =
    IfSome_then (g.D.Desk.told c.args.desk.now) c.in_ok-own.ensures.fault (λ w is.
    refused-own (whole (opened Classic (content c.args.input.now w.files))) c.in-Some.own c.args.fault (sym c.in-Some.is ∙ is))
