use Rattle.std.proofs.Common.{◌≡◌, ◌*◌, ◌++◌, length, take, drop, option_map}
use Rattle.lisp_settings.specs.Hex.{octets_in}
use Rattle.lisp_settings.proofs.hex.hex_octets.Given as goal

abbrev pub invariant-loop-i : goal.invariant-loop-i
invariant-loop-i g l = record {
  digits : length l.text ≡ 2 * g.row.N;
  room : length l.octets ≡ g.row.N;
  read : octets_in l.text ≡ option_map (λ more. take l.i l.octets ++ more) (octets_in (drop (2 * l.i) l.text));
}
