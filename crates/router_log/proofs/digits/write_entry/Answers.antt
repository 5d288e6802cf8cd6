use Rattle.std.proofs.Common.{◌+◌, ◌*◌, drop, get_or, ◌∙◌}
use Rattle.router_log.specs.declared.digits.TheConstants.{OCTETS}
use Rattle.router_log.proofs.OctetLemmas.{four_at, set_four}
use Rattle.router_log.proofs.digits.write_entry.Goals as goal

pub returns : goal.returns
returns c =
    let place = c.args.octet * 4 in
    set_four c.args.text.now c.args.at (get_or OCTETS place 0) (get_or OCTETS (place + 1) 0) (get_or OCTETS (place + 2) 0) (get_or OCTETS (place + 3) 0) c.requires
    ∙ four_at c.args.octet (drop (c.args.at + 4) c.args.text.now) c.ranges.octet.fits
