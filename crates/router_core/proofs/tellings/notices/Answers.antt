use Rattle.std.proofs.Common.{◌≡◌, ◌<◌, ◌^◌, ℕ, Option, Some, None, IfSome, option_map, subst, sym, arith, rules}
use Rattle.std.specs.Option.{option_copied}
use Rattle.std.proofs.lemmas.Bool.Decides.{nat_tests}
use Rattle.router_model.specs.Cache.{held_of}
use Rattle.router_model.specs.Decide.{delivery_notices}
use Rattle.router_model.specs.Lifting.{AreSound}
use Rattle.router_model.proofs.NoticeLemmas.{IsShortIn, delivery-few}
use Rattle.router_core.proofs.tellings.notices.Goals as goal

-- a nonce in range is short
in-range : (o : Option ℕ) → IfSome o (λ nonce. nonce < 2 ^ 24) → IsShortIn o
in-range None short nonce is = cc
in-range (Some n) short nonce is = grind (arith, nat_tests)

pub returns-clause-sound : goal.returns-clause-sound
returns-clause-sound c =
    let held = option_map held_of (option_copied c.args.mapping) in
    let told : c.push_refresh.new.notices ≡ delivery_notices c.args.rloc c.args.header.now c.args.home.now held = search rules in
    subst AreSound (sym told)
    (delivery-few c.args.rloc c.args.header.now c.args.home.now held (in-range c.args.header.now.nonce c.requires.nonce))
