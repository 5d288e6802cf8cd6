use Rattle.std.proofs.lemmas.Grind.{get_or_default_zero}
use Rattle.sharing.proofs.gathering.fit.Goals as goal

pub returns : goal.returns
returns c = λ k d below. rw (get_or_default_zero c.args.octets.now k d below) (c.type_inv.octets k).fits
