use Rattle.std.proofs.Common.{rules, ◌%◌, ◌/◌, ◌<◌, length, refl}
use Rattle.forwarders.proofs.TakeLemmas.{taken-of-all}
use Rattle.forwarders.proofs.answers.take_forwarded.Goals as goal

pub returns-clause-taken : goal.returns-clause-taken
returns-clause-taken c =
    let workers = c.args.workers.now in
    let within : c.args.index % length workers < length workers = search rules in
    taken-of-all workers (c.args.index % length workers) (c.args.index / length workers) c.args.index c.index-workers-index.result c.take_of.new.worker c.take_of.result within refl refl c.requires.dealt c.take_of.ensures
