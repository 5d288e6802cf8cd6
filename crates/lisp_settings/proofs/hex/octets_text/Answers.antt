use Rattle.std.proofs.Common.{◌∙◌, ap, sym, Some, arith, string_bytes}
use Rattle.std.proofs.lemmas.List.{take_more, take_all}
use Rattle.lisp_settings.proofs.HexLemmas.{hex_octets-digits}
use Rattle.lisp_settings.proofs.hex.octets_text.Goals as goal

pub loop-octet-preserved : goal.loop-octet-preserved
loop-octet-preserved c =
    c.in_ok-push_octet.ensures _ c.loop-octet.invariant ∙ ap Some (sym (take_more c.args.octets.now c.loop-octet.octet-index 0 (omega arith)))

pub returns : goal.returns
returns c =
    hex_octets-digits (string_bytes c.loop-octet.text) c.args.octets.now (c.loop-octet.invariant ∙ ap Some (take_all c.loop-octet.octet-index c.args.octets.now (omega arith)))
