use Rattle.std.proofs.Common.{subst, sym}
use Rattle.std.proofs.lemmas.Grind.{get_or_default_zero}
use Rattle.router_model.specs.Lifting.{AreOctets}
use Rattle.run_tests.proofs.rounds.frame.Goals as goal

pub returns-clause-octets : goal.returns-clause-octets
returns-clause-octets c =
    subst AreOctets (sym c.in_ok-copied.ensures) (λ k d below. rw (get_or_default_zero c.args.packet.now k d below) (c.type_inv.packet k).fits)
