use Rattle.std.proofs.Common.{◌∙◌, sym, arith, None}
use Rattle.std.proofs.lemmas.List.{length-set, length-replicate}
use Rattle.std.proofs.lemmas.Iterator.Adapters.{option_map_id}
use Rattle.lisp_settings.specs.Hex.{octets_in}
use Rattle.lisp_settings.proofs.HexLemmas.{octets_in-more, octets_in-none, octets_in-all, hex_octets-read}
use Rattle.lisp_settings.proofs.hex.hex_octets.Goals as goal

pub loop-i-init : goal.loop-i-init
loop-i-init g c = record {
  digits = omega arith;
  room = simp length-replicate;
  read = sym (option_map_id (octets_in c.args.text.now));
}

pub loop-i-preserved : goal.loop-i-preserved
loop-i-preserved g c = record {
  digits = c.loop-i.invariant.digits;
  room = simp length-set c.loop-i.invariant.room;
  read = octets_in-more _ c.loop-i.octets c.loop-i.i _ (omega arith) (omega arith) (sym c.octet_of.ensures ∙ c.in_ok-octets.was) c.loop-i.invariant.read;
}

pub returns-in_err-octets : goal.returns-in_err-octets
returns-in_err-octets g c =
    let none = octets_in-none c.args.text.now c.loop-i.octets c.loop-i.i (omega arith) (sym c.octet_of.ensures ∙ c.in_err-octets.was) c.loop-i.invariant.read in
    c.from_residual.ensures ∙ sym (hex_octets-read g.row.N c.args.text.now None c.loop-i.invariant.digits none)

pub returns : goal.returns
returns g c =
    sym (hex_octets-read g.row.N c.args.text.now _ c.loop-i.invariant.digits (octets_in-all c.args.text.now c.loop-i.octets c.loop-i.i (omega arith) (omega arith) c.loop-i.invariant.read))
