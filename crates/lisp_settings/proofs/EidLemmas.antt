-- EIDs as the definitions make them.
use Rattle.std.proofs.Common.{◌≡◌, ◌<◌, ◌^◌, Some, refl, ap, ◌∙◌, true, nat_lt, lt-ltb, codes, Ok}
use Rattle.std.proofs.Props.{props}
use Rattle.toml.specs.Data.{Members}
use Rattle.mapping_records.specs.declared.eid.Eid.{Eid}
use Rattle.lisp_settings.specs.Fields.{required}
use Rattle.lisp_settings.specs.Settings.{eid_in, eid_of}
use Rattle.lisp_settings.specs.Values.{number, prefix}
use Rattle.lisp_settings.proofs.PrefixLemmas.{some_if-true}

-- the parts of an EID make that EID
pub eid_of-parts : (eid : Eid) → eid_of eid.iid eid.prefix ≡ Some eid
eid_of-parts eid =
    let below : nat_lt eid.iid (2 ^ 24) ≡ true = lt-ltb eid.iid (2 ^ 24) eid.in_range in
    let one : IsProp (eid.iid < 2 ^ 24) = hlevel props in
    some_if-true (nat_lt eid.iid (2 ^ 24)) _ below
    ∙ ap (λ (h : eid.iid < 2 ^ 24). Some (record { iid = eid.iid; prefix = eid.prefix; in_range = h })) (one _ eid.in_range)

-- the EID of the parts at the keys
pub eid_in-parts : (table : Members) (eid : Eid) → required (codes "iid") (number 0 16777215) table ≡ Ok eid.iid → required (codes "prefix") prefix table ≡ Ok eid.prefix → eid_in table ≡ Ok eid
eid_in-parts table eid iid_is prefix_is = rw (iid_is, prefix_is, eid_of-parts eid) refl
