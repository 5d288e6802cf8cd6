use Rattle.std.proofs.Common.{subst}
use Rattle.prefix_table.specs.Roots.{IsGapFor}
use Rattle.prefix_table.proofs.RootedLemmas.{missing_gap}
use Rattle.prefix_table.proofs.rooted.put.Goals as goal

pub put_new-requires-clause-room : goal.put_new-requires-clause-room
put_new-requires-clause-room g c =
    let gap = subst (λ r. IsGapFor r c.args.key c.in-Err.at) c.deref.ensures.value c.in-Err.ensures.absent in
    c.requires.room (missing_gap c.args.store.now c.args.roots.now.items c.args.eid c.in-Err.at c.args.key c.requires.forest gap c.requires.key)

pub put_new-requires-clause-place : goal.put_new-requires-clause-place
put_new-requires-clause-place g c =
    let gap = subst (λ r. IsGapFor r c.args.key c.in-Err.at) c.deref.ensures.value c.in-Err.ensures.absent in
    c.requires.place (missing_gap c.args.store.now c.args.roots.now.items c.args.eid c.in-Err.at c.args.key c.requires.forest gap c.requires.key)
