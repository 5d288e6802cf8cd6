use Rattle.std.proofs.Common.{◌≡◌, take, Some, string_bytes}
use Rattle.lisp_settings.specs.Hex.{octets_in}
use Rattle.lisp_settings.proofs.hex.octets_text.Given as goal

abbrev pub invariant-loop-octet : goal.invariant-loop-octet
invariant-loop-octet l = octets_in (string_bytes l.text) ≡ Some (take l.octet-index l.octets)
