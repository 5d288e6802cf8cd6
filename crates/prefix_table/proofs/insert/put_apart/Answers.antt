use Rattle.std.proofs.Common.{◌∙◌}
use Rattle.node_store.specs.Store.{node_at}
use Rattle.prefix_table.proofs.KeyLemmas.{given_of}
use Rattle.prefix_table.proofs.PutLemmas.{live_taken, room_missed}
use Rattle.prefix_table.proofs.insert.put_apart.Goals as goal

pub content-requires : goal.content-requires
content-requires g c = live_taken _ c.args.at c.args.eid.now c.args.least c.requires.takes

pub put_above-requires-clause-rooms : goal.put_above-requires-clause-rooms
put_above-requires-clause-rooms g c =
    let top = given_of (node_at c.args.store.now c.args.at) (live_taken _ c.args.at c.args.eid.now c.args.least c.requires.takes) in
    room_missed _ c.args.at top.value c.args.eid.now c.args.least c.requires.takes top.is (c.requires.apart top.value top.is)

pub put_beside-requires-clause-rooms : goal.put_beside-requires-clause-rooms
put_beside-requires-clause-rooms g c =
    let top = given_of (node_at c.args.store.now c.args.at) (live_taken _ c.args.at c.args.eid.now c.args.least c.requires.takes) in
    room_missed _ c.args.at top.value c.args.eid.now c.args.least c.requires.takes top.is (c.requires.apart top.value top.is)

pub put_above-requires-clause-not_below : goal.put_above-requires-clause-not_below
put_above-requires-clause-not_below g c =
    let top = given_of (node_at c.args.store.now c.args.at) (live_taken _ c.args.at c.args.eid.now c.args.least c.requires.takes) in
    let node = c.content.ensures.node top.value top.is in
    rw (node.eid) (c.requires.apart top.value top.is)

pub put_beside-requires-clause-not_below : goal.put_beside-requires-clause-not_below
put_beside-requires-clause-not_below g c =
    let top = given_of (node_at c.args.store.now c.args.at) (live_taken _ c.args.at c.args.eid.now c.args.least c.requires.takes) in
    let node = c.content.ensures.node top.value top.is in
    rw (node.eid) (c.requires.apart top.value top.is)

pub returns-then-covers : goal.returns-then-covers
returns-then-covers g c given is =
    rw c.take.ensures.after (c.put_above.ensures given (c.take.ensures.value ∙ is) c.args.least)

pub returns : goal.returns
returns g c given is = rw c.take-2.ensures.after (c.put_beside.ensures given (c.take-2.ensures.value ∙ is))
