use Rattle.std.proofs.Common.{◌∙◌, sym, ap, subst, Some}
use Rattle.lisp_settings.proofs.TextLemmas.{IsPadded, length_of-padded, length_of-digits, length_of-other}
use Rattle.lisp_settings.proofs.addresses.read_length.Goals as goal

pub returns-then-is_padded : goal.returns-then-is_padded
returns-then-is_padded c = sym (length_of-padded c.args.digits.now (subst IsPadded c.as_bytes.ensures.value (c.is_padded.ensures.0 c.if-is_padded.true)))

pub returns-in-Ok : goal.returns-in-Ok
returns-in-Ok c =
    let parsed = c.in-Ok.ensures.value.0 in
    ap Some parsed.1 ∙ sym (length_of-digits c.args.digits.now (λ padded. cc (c.is_padded.ensures.1 (subst IsPadded (sym c.as_bytes.ensures.value) padded))) parsed.0.0 parsed.0.1)

pub returns-in-Err : goal.returns-in-Err
returns-in-Err c = sym (length_of-other c.args.digits.now c.in-Err.ensures.value.0)
