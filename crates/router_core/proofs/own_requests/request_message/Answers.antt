use Rattle.std.proofs.Common.{◌∙◌, ℕ, false, Option, ap}
use Rattle.ip_headers.specs.declared.addr.Addr.{Addr}
use Rattle.map_messages.specs.declared.message.MapRequest.{MapRequest}
use Rattle.map_messages.specs.declared.message.Message.TheVariants.{Control}
use Rattle.router_model.specs.Emits.{ecm_for, request_for}
use Rattle.router_core.proofs.own_requests.request_message.Goals as goal

pub returns : goal.returns
returns c =
    let settings = c.args.site.now in
    let eid = c.args.eid in
    let made = c.in_ok-request.ensures ∙ ap (λ (source : Option (ℕ × Addr)). request_for settings false false false c.args.nonce source eid) c.source_eid.ensures in
    ap Control
    (c.ecm_for.ensures
    ∙ ap (λ (request : MapRequest). ecm_for settings eid (record request { invoked = c.args.invoked })) made)
