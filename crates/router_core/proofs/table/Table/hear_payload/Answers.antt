use Rattle.std.proofs.Common.{◌∙◌}
use Rattle.std.proofs.lemmas.Result.{IfOk-weaker}
use Rattle.router_model.proofs.ReceivedLemmas.{message_in_is}
use Rattle.router_core.specs.Seen.{route_seen}
use Rattle.router_core.proofs.ChangeLemmas.{payload-read}
use Rattle.router_core.proofs.table.Table.hear_payload.Goals as goal

pub returns-in-Ok-clause-parts : goal.returns-in-Ok-clause-parts
returns-in-Ok-clause-parts c =
    let payload = c.args.payload.now in
    IfOk-weaker c.hear_message.result _ _ (λ heard is.
    is ∙ payload-read c.args.site.now c.args.m (route_seen c.args.route) c.args.base payload c.in-Ok.message c.args.self.now.parts c.in-Ok.ensures.refused (message_in_is payload c.in-Ok.message c.in-Ok.ensures.value)) c.hear_message.ensures.parts
