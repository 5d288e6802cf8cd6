use Rattle.std.proofs.Common.{◌∙◌, not, sym}
use Rattle.request_queue.specs.Queue.{covered}
use Rattle.router_model.specs.Mappings.{exact}
use Rattle.router_model.specs.Note.{is_learned}
use Rattle.router_model.specs.Parts.{view_in}
use Rattle.router_model.specs.Site.{reaches_resolver}
use Rattle.router_core.proofs.ChangeLemmas.{both, may_ask-place}
use Rattle.router_core.proofs.table.Table.note_old.Goals as goal

pub make_request-requires-clause-place : goal.make_request-requires-clause-place
make_request-requires-clause-place c =
    let eid = c.args.eid.now in
    let p = c.args.self.now.parts in
    let v = view_in p c.args.m in
    let old = sym c.may_renew.ensures ∙ c.if-not-may_renew.false in
    let may = (both (is_learned (exact v.mappings eid)) _ old).1 in
    may_ask-place p c.args.m eid.iid c.requires.may.later (both (not (covered v.requests eid)) _ (both (reaches_resolver c.args.site.now) _ may).1).1
