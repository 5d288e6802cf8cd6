use Rattle.std.proofs.Common.{string_bytes}
use Rattle.lisp_settings.proofs.AddressLemmas.{prefix_text-reads}
use Rattle.lisp_settings.proofs.addresses.prefix_text.Goals as goal

pub returns : goal.returns
returns c =
    prefix_text-reads c.args.prefix (string_bytes c.in_ok-format.field-0) (string_bytes c.in_ok-address.address) c.in_ok-format.ensures.ok c.in_ok-address.ensures.reads c.in_ok-address.ensures.whole
