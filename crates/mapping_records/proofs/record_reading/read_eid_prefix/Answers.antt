use Rattle.std.proofs.Common.{◌<◌, refl, sym}
use Rattle.std.proofs.lemmas.Result.{err_from_is_err_and}
use Rattle.octets.proofs.RuleLemmas.{first_failing-append_refused}
use Rattle.ip_headers.specs.Addr.{width}
use Rattle.mapping_records.specs.Eid.{eid_addr, eid_rules}
use Rattle.mapping_records.specs.Record.{mask_rules}
use Rattle.mapping_records.proofs.RecordLemmas.{eid_there, mask_too_long}
use Rattle.mapping_records.proofs.record_reading.read_eid_prefix.Goals as goal

pub returns-in_err-iid-clause-refused : goal.returns-in_err-iid-clause-refused
returns-in_err-iid-clause-refused c =
    let p = err_from_is_err_and c.from_residual.result c.from_residual.ensures.1 in
    let octets = c.args.octets.now in
    rw (p.1, p.2) (sym (first_failing-append_refused (eid_rules c.args.base octets) (mask_rules c.args.base octets c.args.len c.args.len_place) c.in_err-iid.field-0.0 (sym c.in_err-iid.ensures.refused)))

pub returns-in_default-new-clause-refused : goal.returns-in_default-new-clause-refused
returns-in_default-new-clause-refused c =
    let octets = c.args.octets.now in
    let there = eid_there octets c.in_ok-iid.iid c.in_ok-iid.size c.in-Some.addr (rw c.in-Some.is at c.in_ok-iid.ensures.value) in
    let long : width (eid_addr octets) < c.args.len = rw there.address at (c.in_default-new.ensures.none.0 refl) in
    rw c.refused-in_default-new.ensures (sym (mask_too_long c.args.base octets c.args.len c.args.len_place (sym c.in_ok-iid.ensures.refused) there.there long))
