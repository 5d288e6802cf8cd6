use Rattle.std.proofs.Common.{◌∙◌, ◌≡◌, ap, arith, string_bytes}
use Rattle.std.specs.List.{list_any}
use Rattle.std.specs.Net.Addr.{ipv6_segments}
use Rattle.std.specs.Net.Text.{hex_groups_text}
use Rattle.lisp_settings.specs.AddressText.{address_of, is_slash}
use Rattle.lisp_settings.proofs.AddressLemmas.{hex_groups_text-reads, hex_groups_text-no_slash}
use Rattle.lisp_settings.proofs.addresses.ipv6_text.Goals as goal

written : (c : goal.In_ok-format) → string_bytes c.in_ok-format.field-0 ≡ hex_groups_text (ipv6_segments c.from_bits.result)
written c = c.in_ok-format.ensures.ok ∙ ap (λ address. hex_groups_text (ipv6_segments address)) c.hex_groups-groups.ensures

pub returns-clause-reads : goal.returns-clause-reads
returns-clause-reads c = ap address_of (written c) ∙ hex_groups_text-reads c.from_bits.result c.args.bits c.from_bits.ensures (omega arith)

pub returns-clause-whole : goal.returns-clause-whole
returns-clause-whole c = ap (list_any is_slash) (written c) ∙ hex_groups_text-no_slash c.from_bits.result c.args.bits c.from_bits.ensures
