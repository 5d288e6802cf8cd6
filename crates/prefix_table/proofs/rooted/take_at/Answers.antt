use Rattle.prefix_table.proofs.RootedLemmas.{holds_root, edited_root, gone_root}
use Rattle.prefix_table.proofs.TopLemmas.{without_pair-local}
use Rattle.prefix_table.proofs.rooted.take_at.Goals as goal

pub take_below-name-requires : goal.take_below-name-requires
take_below-name-requires g c =
    holds_root _ c.args.roots.now.items c.args.eid c.args.at c.index-root.result.now c.requires.forest c.requires.at c.index-root.ensures c.no_more_bits.ensures

pub returns-in-Some-clause-taken : goal.returns-in-Some-clause-taken
returns-in-Some-clause-taken g c =
    edited_root c.args.store.now c.take_below-name.new.store c.args.roots.now.items _ c.args.eid c.args.at c.index-root.result.now c.take_below-name.result.0 c.take_below-name.result.1 (without_pair-local c.args.eid) c.requires.forest c.requires.at c.index-root.ensures c.no_more_bits.ensures c.take_below-name.ensures c.in-Some.name c.in-Some.is

pub returns-in-None-clause-taken : goal.returns-in-None-clause-taken
returns-in-None-clause-taken g c =
    rw c.remove.ensures.items (gone_root c.args.store.now c.take_below-name.new.store c.args.roots.now.items _ c.args.eid c.args.at c.index-root.result.now c.take_below-name.result.0 c.take_below-name.result.1 (without_pair-local c.args.eid) c.requires.forest c.requires.at c.index-root.ensures c.no_more_bits.ensures c.take_below-name.ensures c.in-None.is)
