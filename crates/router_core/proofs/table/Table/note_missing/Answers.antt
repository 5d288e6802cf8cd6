use Rattle.std.proofs.Common.{◌∙◌, not, sym}
use Rattle.request_queue.specs.Queue.{covered}
use Rattle.router_model.specs.Mappings.{force}
use Rattle.router_model.specs.Note.{is_wanting}
use Rattle.router_model.specs.Parts.{view_in}
use Rattle.router_model.specs.Site.{reaches_resolver}
use Rattle.router_core.proofs.ChangeLemmas.{both, may_ask-place}
use Rattle.router_core.proofs.table.Table.note_missing.Goals as goal

pub make_request-requires-clause-place : goal.make_request-requires-clause-place
make_request-requires-clause-place c =
    let eid = c.args.eid.now in
    let p = c.args.self.now.parts in
    let v = view_in p c.args.m in
    let missing = sym c.is_missing.ensures ∙ c.if-not-is_missing.false in
    let may = (both _ (is_wanting (force v.mappings eid.iid eid.prefix.addr eid.prefix.len)) missing).0 in
    may_ask-place p c.args.m eid.iid c.requires.may.later (both (not (covered v.requests eid)) _ (both (reaches_resolver c.args.site.now) _ may).1).1
