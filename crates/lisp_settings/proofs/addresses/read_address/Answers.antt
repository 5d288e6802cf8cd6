use Rattle.std.proofs.Common.{◌≡◌, ◌∙◌, sym, ap, true, false}
use Rattle.std.specs.List.{list_any}
use Rattle.lisp_settings.specs.AddressText.{address_of, is_dot}
use Rattle.lisp_settings.proofs.addresses.read_address.Goals as goal

pub returns-then-contains : goal.returns-then-contains
unfolding address_of
returns-then-contains c =
    let dotted : list_any is_dot c.args.text.now ≡ true = ap (list_any is_dot) (sym c.as_bytes.ensures.value) ∙ (sym c.contains.ensures.value ∙ c.if-contains.true) in
    rw dotted c.read_ipv4.ensures

pub returns-else-contains : goal.returns-else-contains
unfolding address_of
returns-else-contains c =
    let plain : list_any is_dot c.args.text.now ≡ false = ap (list_any is_dot) (sym c.as_bytes.ensures.value) ∙ (sym c.contains.ensures.value ∙ c.if-contains.false) in
    rw plain c.read_ipv6.ensures
