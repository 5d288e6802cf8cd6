use Rattle.std.proofs.Common.{◌∙◌, ◌++◌, ap, string_bytes}
use Rattle.lisp_settings.proofs.HexLemmas.{octets_in-digits}
use Rattle.lisp_settings.proofs.hex.push_octet.Goals as goal

pub returns : goal.returns
returns c known read =
    octets_in-digits (string_bytes c.args.text.now) (string_bytes c.push.new.self) (string_bytes c.push-2.new.self) known c.digit_of.result c.digit_of-2.result c.args.octet
    (c.in_ok-push.ensures.bytes ∙ ap (λ l. string_bytes c.args.text.now ++ l) (c.in_ok-push.ensures.ascii c.digit_of.ensures.ascii))
    (c.in_ok-push-2.ensures.bytes ∙ ap (λ l. string_bytes c.push.new.self ++ l) (c.in_ok-push-2.ensures.ascii c.digit_of-2.ensures.ascii))
    c.digit_of.ensures.value c.digit_of-2.ensures.value read
