use Rattle.std.proofs.Common.{sym}
use Rattle.keyed_list.proofs.PlaceLemmas.{place-of}
use Rattle.keyed_list.proofs.finding.place_behind_first.Goals as goal

pub returns : goal.returns
returns g c =
    place-of c.args.number c.args.list.now.items c.in_ok-place.place c.in_ok-numbered.numbered.now c.requires (sym c.in_ok-numbered.ensures) c.if-numbered-number.false
