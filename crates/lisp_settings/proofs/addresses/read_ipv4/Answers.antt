use Rattle.std.proofs.Common.{◌∙◌, sym, ap, Some}
use Rattle.ip_headers.specs.declared.addr.Addr.TheVariants.{V4}
use Rattle.lisp_settings.proofs.TextLemmas.{ipv4_address-taken, ipv4_address-refused}
use Rattle.lisp_settings.proofs.addresses.read_ipv4.Goals as goal

pub returns-in-Ok : goal.returns-in-Ok
returns-in-Ok c = ap (λ n. Some (V4 n)) c.to_bits.ensures ∙ sym (ipv4_address-taken c.args.text.now c.in-Ok.address c.in-Ok.ensures.value)

pub returns-in-Err : goal.returns-in-Err
returns-in-Err c = sym (ipv4_address-refused c.args.text.now c.in-Err.ensures.value)
