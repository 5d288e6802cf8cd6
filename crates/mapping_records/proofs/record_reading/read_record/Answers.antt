use Rattle.std.proofs.Common.{◌≡◌, ◌+◌, sym, ◌∙◌, drop, slice_index, None}
use Rattle.std.proofs.lemmas.Result.{err_from_is_err_and}
use Rattle.octets.specs.Rules.{first_failing}
use Rattle.mapping_records.specs.Eid.{eid_size}
use Rattle.mapping_records.specs.Record.{eid_prefix_rules}
use Rattle.mapping_records.proofs.RecordLemmas.{behind_eid, eid_refused, locators_fault}
use Rattle.mapping_records.proofs.record_reading.read_record.Goals as goal

pub returns-in_err-eid-clause-refused : goal.returns-in_err-eid-clause-refused
returns-in_err-eid-clause-refused c =
    let p = err_from_is_err_and c.from_residual.result c.from_residual.ensures.1 in
    let octets = c.args.octets.now in
    rw (p.1, p.2) (eid_refused c.args.base octets c.in_err-eid.field-0.0 c.if-octets-lt10.false (rw c.split_at.ensures.back at (sym c.in_err-eid.ensures.refused)))

pub returns-in_err-locators-clause-refused : goal.returns-in_err-locators-clause-refused
returns-in_err-locators-clause-refused c =
    let p = err_from_is_err_and c.from_residual-in_err-locators.result c.from_residual-in_err-locators.ensures.1 in
    let octets = c.args.octets.now in
    let none : first_failing (eid_prefix_rules (c.args.base + 10) (drop 10 octets) (slice_index octets 5) (c.args.base + 5)) ≡ None =
    rw c.split_at.ensures.back at (sym c.in_ok-eid.ensures.refused) in
    let size : c.in_ok-eid.eid_size ≡ eid_size (drop 10 octets) = rw c.split_at.ensures.back at c.in_ok-eid.ensures.size in
    rw (p.1, p.2) (locators_fault c.args.base octets c.split_at-2.result.1.now c.in_ok-eid.eid_size c.in_err-locators.field-0.0 c.if-octets-lt10.false none size c.split_at-2.ensures.back c.in_err-locators.ensures.refused)

pub returns-clause-refused : goal.returns-clause-refused
returns-clause-refused c =
    let octets = c.args.octets.now in
    let none : first_failing (eid_prefix_rules (c.args.base + 10) (drop 10 octets) (slice_index octets 5) (c.args.base + 5)) ≡ None =
    rw c.split_at.ensures.back at (sym c.in_ok-eid.ensures.refused) in
    let size : c.in_ok-eid.eid_size ≡ eid_size (drop 10 octets) = rw c.split_at.ensures.back at c.in_ok-eid.ensures.size in
    behind_eid c.args.base octets c.split_at-2.result.1.now c.in_ok-eid.eid_size c.if-octets-lt10.false none size c.split_at-2.ensures.back ∙ c.in_ok-locators.ensures.refused
