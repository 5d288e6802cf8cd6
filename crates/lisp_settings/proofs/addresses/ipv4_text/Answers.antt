use Rattle.std.proofs.Common.{◌∙◌, ap, arith}
use Rattle.std.specs.List.{list_any}
use Rattle.lisp_settings.specs.AddressText.{address_of, is_slash}
use Rattle.lisp_settings.proofs.AddressLemmas.{ipv4_text-reads, ipv4_text-no_slash}
use Rattle.lisp_settings.proofs.addresses.ipv4_text.Goals as goal

pub returns-clause-reads : goal.returns-clause-reads
returns-clause-reads c =
    ap address_of c.in_ok-format.ensures.ok ∙ ipv4_text-reads c.from_bits-address.result c.args.bits c.from_bits-address.ensures (omega arith)

pub returns-clause-whole : goal.returns-clause-whole
returns-clause-whole c =
    ap (list_any is_slash) c.in_ok-format.ensures.ok ∙ ipv4_text-no_slash c.from_bits-address.result c.args.bits c.from_bits-address.ensures
