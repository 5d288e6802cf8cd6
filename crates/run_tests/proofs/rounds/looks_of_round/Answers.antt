use Rattle.std.proofs.Common.{arith}
use Rattle.router_model.proofs.ReplayLemmas.{statics-first}
use Rattle.router_model.proofs.StaticsLemmas.{length-statics}
use Rattle.run_tests.proofs.rounds.looks_of_round.Goals as goal

pub run_round-done-requires-clause-later : goal.run_round-done-requires-clause-later
run_round-done-requires-clause-later g c =
    let first = statics-first c.args.settings.now in
    rw c.requires.parts (omega (arith, first))

pub run_round-done-requires-clause-count : goal.run_round-done-requires-clause-count
run_round-done-requires-clause-count g c =
    let count = length-statics c.args.settings.now in
    let few = c.requires.lawful.few_mappings in
    rw c.requires.parts (omega (arith, count, few))
