use Rattle.std.proofs.Common.{◌∙◌, sym, ap, Some}
use Rattle.ip_headers.specs.declared.addr.Addr.TheVariants.{V6}
use Rattle.lisp_settings.proofs.TextLemmas.{ipv6_address-taken, ipv6_address-refused}
use Rattle.lisp_settings.proofs.addresses.read_ipv6.Goals as goal

pub returns-in-Ok : goal.returns-in-Ok
returns-in-Ok c = ap (λ n. Some (V6 n)) c.to_bits.ensures ∙ sym (ipv6_address-taken c.args.text.now c.in-Ok.address c.in-Ok.ensures.value)

pub returns-in-Err : goal.returns-in-Err
returns-in-Err c = sym (ipv6_address-refused c.args.text.now c.in-Err.ensures.value)
