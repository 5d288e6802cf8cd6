use Rattle.std.proofs.Common.{◌∙◌, sym, lit<, Some, None, refl}
use Rattle.lisp_settings.proofs.PrefixLemmas.{prefix_with_length-made, prefix_of-whole, prefix_of-parts}
use Rattle.lisp_settings.specs.AddressText.{length_of}
use Rattle.lisp_settings.proofs.addresses.read_prefix.Goals as goal

pub returns-in_err-address : goal.returns-in_err-address
returns-in_err-address c =
    c.from_residual.ensures ∙ sym (prefix_of-whole c.args.text.now (c.in_err-address.ensures.byte (lit< tt) (λ w o finds. finds)))

pub returns-in_err-read_address : goal.returns-in_err-read_address
returns-in_err-read_address c =
    let parts = c.in_ok-address.ensures.byte (lit< tt) (λ w o finds. finds) in
    c.from_residual-in_err-read_address.ensures ∙ sym (prefix_of-parts c.args.text.now _ _ parts.0 parts.1 None c.in_err-read_address.ensures (length_of c.in_ok-address.length.now) refl)

pub returns-in_err-read_length : goal.returns-in_err-read_length
returns-in_err-read_length c =
    let parts = c.in_ok-address.ensures.byte (lit< tt) (λ w o finds. finds) in
    c.from_residual-in_err-read_length.ensures ∙ sym (prefix_of-parts c.args.text.now _ _ parts.0 parts.1 (Some c.in_ok-read_address.field-0) c.in_ok-read_address.ensures None c.in_err-read_length.ensures)

pub returns : goal.returns
returns c =
    let parts = c.in_ok-address.ensures.byte (lit< tt) (λ w o finds. finds) in
    prefix_with_length-made c.in_ok-read_address.field-0 c.in_ok-read_length.field-0 c.new.result c.new.ensures.none c.new.ensures.addr c.new.ensures.len
    ∙ sym (prefix_of-parts c.args.text.now _ _ parts.0 parts.1 (Some c.in_ok-read_address.field-0) c.in_ok-read_address.ensures (Some c.in_ok-read_length.field-0) c.in_ok-read_length.ensures)
