use Rattle.std.proofs.Common.{ap, arith}
use Rattle.router_model.specs.Parts.{Parts}
use Rattle.router_model.proofs.ReplayLemmas.{statics-first}
use Rattle.router_model.proofs.StaticsLemmas.{length-statics}
use Rattle.run_tests.proofs.rounds.looks_beside_a_reply.Goals as goal

pub run_round-requires-clause-later : goal.run_round-requires-clause-later
run_round-requires-clause-later g c κs within =
    let first = statics-first c.args.settings.now in
    rw c.requires.parts (omega (arith, first))

pub run_round-requires-clause-count : goal.run_round-requires-clause-count
run_round-requires-clause-count g c κs within =
    let count = length-statics c.args.settings.now in
    let few = c.requires.lawful.few_mappings in
    rw c.requires.parts (omega (arith, count, few))

pub run_round-requires-2-clause-count : goal.run_round-requires-2-clause-count
run_round-requires-2-clause-count g c κs within =
    let count = length-statics c.args.settings.now in
    let few = c.requires.lawful.few_mappings in
    let begun = ap (λ (p : Parts). p.count) c.requires.parts in
    let entered = c.in_ok-run_round.ensures.entered.count in
    omega (arith, count, few, begun, entered)
