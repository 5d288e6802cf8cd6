use Rattle.std.proofs.Common.{subst}
use Rattle.prefix_table.specs.Roots.{IsGapFor}
use Rattle.prefix_table.proofs.RootedLemmas.{taken_gap}
use Rattle.prefix_table.proofs.rooted.take.Goals as goal

pub returns-in-Err-clause-taken : goal.returns-in-Err-clause-taken
returns-in-Err-clause-taken g c =
    let gap = subst (λ r. IsGapFor r c.args.key c.in-Err.field-0) c.deref.ensures.value c.in-Err.ensures.absent in
    taken_gap c.args.store.now c.args.roots.now.items c.args.eid c.in-Err.field-0 c.args.key c.requires.forest gap c.requires.key
