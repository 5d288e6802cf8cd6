-- The EID of one address.
use Rattle.std.proofs.Common.{◌≡◌, ℕ, Some, option_and_then, sym, ap, subst, ◌∙◌}
use Rattle.ip_headers.specs.Addr.{width, is_prefix}
use Rattle.ip_headers.specs.declared.addr.Addr.{Addr}
use Rattle.ip_headers.specs.declared.prefix.Prefix.{Prefix}
use Rattle.mapping_records.specs.declared.eid.Eid.{Eid}
use Rattle.lisp_settings.specs.AddressText.{lawful_prefix}
use Rattle.lisp_settings.specs.Settings.{eid_of}
use Rattle.lisp_settings.proofs.EidLemmas.{eid_of-parts}
use Rattle.lisp_settings.proofs.PrefixLemmas.{some_if-true}
use Rattle.router_model.specs.Hosts.{host_eid}

lawful-parts : (p : Prefix) → lawful_prefix p.addr p.len ≡ Some p
lawful-parts p = some_if-true (is_prefix p.addr p.len) _ p.lawful

-- of an EID whose prefix has all bits of its address
host-whole : (eid : Eid) → eid.prefix.len ≡ width eid.prefix.addr → host_eid eid.iid eid.prefix.addr ≡ Some eid
host-whole eid whole =
    ap (λ (n : ℕ). option_and_then (eid_of eid.iid) (lawful_prefix eid.prefix.addr n)) (sym whole)
    ∙ ap (option_and_then (eid_of eid.iid)) (lawful-parts eid.prefix) ∙ eid_of-parts eid

pub host-made : (eid : Eid) (addr : Addr) → eid.prefix.addr ≡ addr → eid.prefix.len ≡ width addr → host_eid eid.iid addr ≡ Some eid
host-made eid addr at whole = subst (λ a. host_eid eid.iid a ≡ Some eid) at (host-whole eid (whole ∙ ap width (sym at)))
