use Rattle.std.proofs.Common.{subst, sym}
use Rattle.router_model.specs.Parts.{own_of}
use Rattle.router_core.specs.Site.{IsSite}
use Rattle.router_core.proofs.StandLemmas.{site-by}
use Rattle.router_core.proofs.table.Table.hear_course.Goals as goal

pub hear_datagram-requires-clause-lawful : goal.hear_datagram-requires-clause-lawful
hear_datagram-requires-clause-lawful c =
    subst IsSite (sym c.site-site.ensures) (site-by c.args.settings.now (own_of c.args.self.now.parts) c.requires.lawful)
