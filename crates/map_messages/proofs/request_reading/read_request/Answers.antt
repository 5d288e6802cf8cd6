use Rattle.std.proofs.Common.{ℕ, List, Option, sym, ◌∙◌}
use Rattle.std.proofs.lemmas.Result.{err_from_is_err_and}
use Rattle.ip_headers.specs.declared.addr.Addr.{Addr}
use Rattle.mapping_records.specs.declared.eid.Eid.{Eid}
use Rattle.mapping_records.specs.declared.record.Record.{Record}
use Rattle.map_messages.specs.Request.{piggyback_rules, request_rules}
use Rattle.map_messages.specs.declared.message.MapRequest.{MapRequest}
use Rattle.map_messages.proofs.RequestLemmas.{addrs_fault, behind_eids, eids_fault, refuses_as, source_fault}
use Rattle.map_messages.proofs.request_reading.read_request.Goals as goal

pub returns-in_err-source-clause-refused : goal.returns-in_err-source-clause-refused
returns-in_err-source-clause-refused c =
    let p = err_from_is_err_and c.from_residual.result c.from_residual.ensures.1 in
    rw (p.1, p.2) (source_fault (MapRequest × ℕ) c.args.base c.args.octets.now c.in_err-source.field-0.0 (sym c.in_err-source.ensures.refused))

pub returns-in_err-replies_to-clause-refused : goal.returns-in_err-replies_to-clause-refused
returns-in_err-replies_to-clause-refused c =
    let p = err_from_is_err_and c.from_residual-in_err-replies_to.result c.from_residual-in_err-replies_to.ensures.1 in
    rw (p.1, p.2) (addrs_fault (List Addr × ℕ) (MapRequest × ℕ) c.args.base c.args.octets.now c.in_err-replies_to.field-0.0 (sym c.in_ok-source.ensures.refused) c.in_err-replies_to.ensures.refused)

pub returns-in_err-eids-clause-refused : goal.returns-in_err-eids-clause-refused
returns-in_err-eids-clause-refused c =
    let p = err_from_is_err_and c.from_residual-in_err-eids.result c.from_residual-in_err-eids.ensures.1 in
    rw (p.1, p.2) (eids_fault (List Eid × ℕ) (MapRequest × ℕ) c.args.base c.args.octets.now c.in_err-eids.field-0.0 (sym c.in_ok-source.ensures.refused) c.in_ok-replies_to.ensures.refused c.in_err-eids.ensures.refused)

pub returns-in_err-piggyback-clause-refused : goal.returns-in_err-piggyback-clause-refused
returns-in_err-piggyback-clause-refused c =
    let p = err_from_is_err_and c.from_residual-in_err-piggyback.result c.from_residual-in_err-piggyback.ensures.1 in
    let base = c.args.base in
    let octets = c.args.octets.now in
    let behind = behind_eids base octets (sym c.in_ok-source.ensures.refused) c.in_ok-replies_to.ensures.refused c.in_ok-eids.ensures.refused in
    rw (p.1, p.2) (refuses_as (Option Record × ℕ) (MapRequest × ℕ) (request_rules base octets) (piggyback_rules base octets) c.in_err-piggyback.field-0.0 behind c.in_err-piggyback.ensures.refused)

pub returns-clause-refused : goal.returns-clause-refused
returns-clause-refused c =
    behind_eids c.args.base c.args.octets.now (sym c.in_ok-source.ensures.refused) c.in_ok-replies_to.ensures.refused c.in_ok-eids.ensures.refused
    ∙ c.in_ok-piggyback.ensures.refused
