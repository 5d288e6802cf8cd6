use Rattle.prefix_table.proofs.RootedLemmas.{put_gap}
use Rattle.prefix_table.proofs.rooted.put_new.Goals as goal

pub returns-clause-put : goal.returns-clause-put
returns-clause-put g c =
    let put = put_gap c.args.store.now c.put_below-name.new.store c.args.roots.now.items c.args.eid c.args.value c.args.at c.args.key c.put_below-name.result.0 c.put_below-name.result.1 c.requires.forest c.requires.gap c.requires.key c.no_more_bits.ensures c.put_below-name.ensures in
    let items = rw (c.insert.ensures.succeeds c.requires.place) at c.insert.ensures.items in
    rw items put
