use Rattle.std.proofs.Common.{◌-◌, length, drop, take}
use Rattle.router_core.proofs.KeptTurnsLemmas.{suits-first}
use Rattle.router_core.proofs.LengthLemmas.{first-left}
use Rattle.router_core.proofs.turns.+turns_with.Goals as goal

pub returns-clause-suits : goal.returns-clause-suits
returns-clause-suits t c = λ own.
    let locators = c.args.locators.now in
    suits-first own c.turns_with.result c.turns_to.result c.args.state.now.observed.probes locators _ (take (length locators - 1) (drop 1 locators)) (first-left locators _ c.in-len1-up.len_at_least)
    c.turns_to.ensures.less (c.turns_to.ensures.suits own) (c.turns_with.ensures.suits own)
