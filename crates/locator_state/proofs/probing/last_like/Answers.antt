use Rattle.std.specs.Option.{option_copied}
use Rattle.locator_state.proofs.FoundLemmas.{like-locator}
use Rattle.locator_state.proofs.probing.last_like.Goals as goal

pub returns : goal.returns
returns c =
    like-locator c.args.probes.now.items c.args.place c.last_like.result (option_copied c.get.result) c.get.ensures c.last_like.ensures.last
