-- Keys and moments of what is kept of locators: found by locator, a probe by its nonce too, a solicitation by locator
-- and EID.
use Rattle.std.specs.Prelude.{None, Some}
use Rattle.keyed_list.specs.Keys.{locator_key, nonce_key, told_key}
use Rattle.keyed_list.specs.declared.keyed.Marks.{Marks}
use Rattle.router_log.specs.declared.kept.EchoStart.{EchoStart}
use Rattle.router_log.specs.declared.kept.EchoWish.{EchoWish}
use Rattle.router_log.specs.declared.kept.Probe.{Probe}
use Rattle.router_log.specs.declared.kept.Solicitation.{Solicitation}

abbrev pub probe_marks : Probe → Marks
probe_marks probe = record { moment = probe.moment; key = locator_key probe.rloc; other = Some (nonce_key probe.nonce) }

abbrev pub start_marks : EchoStart → Marks
start_marks start = record { moment = start.moment; key = locator_key start.rloc; other = None }

abbrev pub wish_marks : EchoWish → Marks
wish_marks wish = record { moment = wish.moment; key = locator_key wish.rloc; other = None }

abbrev pub solicit_marks : Solicitation → Marks
solicit_marks solicit = record { moment = solicit.moment; key = told_key solicit.rloc solicit.eid; other = None }
