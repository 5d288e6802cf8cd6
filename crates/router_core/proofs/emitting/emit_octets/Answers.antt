use Rattle.std.proofs.Common.{subst, sym}
use Rattle.router_core.specs.Site.{IsSite}
use Rattle.router_core.proofs.StandLemmas.{site-by}
use Rattle.router_core.proofs.emitting.emit_octets.Goals as goal

pub request_octets-requires : goal.request_octets-requires
request_octets-requires c = record { lawful = subst IsSite (sym c.of-site.ensures) (site-by c.args.settings.now c.args.own.now c.requires.lawful) }

pub probe_octets-requires-clause-lawful : goal.probe_octets-requires-clause-lawful
probe_octets-requires-clause-lawful c = subst IsSite (sym c.of-site.ensures) (site-by c.args.settings.now c.args.own.now c.requires.lawful)

pub solicit_octets-requires-clause-lawful : goal.solicit_octets-requires-clause-lawful
solicit_octets-requires-clause-lawful c = subst IsSite (sym c.of-site.ensures) (site-by c.args.settings.now c.args.own.now c.requires.lawful)
