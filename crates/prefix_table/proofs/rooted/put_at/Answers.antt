use Rattle.std.proofs.Common.{refl}
use Rattle.prefix_table.proofs.RootedLemmas.{takes_root, edited_root}
use Rattle.prefix_table.proofs.TopLemmas.{with_pair-local}
use Rattle.prefix_table.proofs.rooted.put_at.Goals as goal

pub put_below-name-requires : goal.put_below-name-requires
put_below-name-requires g c =
    takes_root _ c.args.roots.now.items c.args.eid c.args.at c.index-root.result.now c.requires.forest c.requires.at c.index-root.ensures c.no_more_bits.ensures c.requires.room

pub returns-clause-put : goal.returns-clause-put
returns-clause-put g c =
    edited_root c.args.store.now c.put_below-name.new.store c.args.roots.now.items _ c.args.eid c.args.at c.index-root.result.now _ c.put_below-name.result.1 (with_pair-local c.args.eid c.args.value) c.requires.forest c.requires.at c.index-root.ensures c.no_more_bits.ensures c.put_below-name.ensures c.put_below-name.result.0 refl
