use Rattle.std.proofs.Common.{◌∙◌, List, ap, sym}
use Rattle.lisp_settings.specs.declared.settings.Database.{Database}
use Rattle.router_model.specs.Emits.{database_address}
use Rattle.router_model.proofs.StoodLemmas.{address-stood}
use Rattle.router_core.proofs.own_requests.site_address.Goals as goal

pub returns : goal.returns
returns c =
    c.database_address.ensures
    ∙ sym (address-stood c.databases.result.1 c.databases.result.0.now c.args.eid)
    ∙ ap (λ (l : List Database). database_address l c.args.eid) c.databases.ensures.stand
