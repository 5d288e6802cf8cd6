use Rattle.std.proofs.Common.{length, sym, subst, ap, ◌∙◌, arith}
use Rattle.mapping_records.specs.Orders.{eid_order}
use Rattle.map_cache.specs.Lists.{AllFew}
use Rattle.map_cache.proofs.FewLemmas.{AllFew-put}
use Rattle.map_cache.proofs.FullLemmas.{length-put}
use Rattle.map_cache.proofs.IndexedLemmas.{counted-few, indexed-entered}
use Rattle.map_cache.proofs.NameLemmas.{names-entered}
use Rattle.map_cache.proofs.RoomLemmas.{endings-few, names-few}
use Rattle.map_cache.proofs.indexed.Indexed.enter.Goals as goal

pub add-requires : goal.add-requires
add-requires c =
    let few = rw (← c.self.view_is) at c.requires.few in
    counted-few c.self.inside.by_eid.mappings c.self.inside.endings.keys c.self.inside.counts c.self.invariant.indexed 4294967295 (omega (arith, few))

pub add_ending-requires : goal.add_ending-requires
add_ending-requires c =
    let few = endings-few _ _ _ c.self.invariant.indexed c.len.ensures.ascends in
    let room = rw (← c.self.view_is) at c.requires.spare in
    omega (arith, few, room)

pub add-requires-2 : goal.add-requires-2
add-requires-2 c = λ begun.
    let few = names-few c.self.inside.by_eid.mappings c.self.inside.names.keys c.self.invariant.few (c.self.invariant.named.keys begun) c.len-2.ensures.ascends in
    let places = c.self.invariant.named.room begun in
    let room = rw (← c.self.view_is) at c.requires.spare in
    omega (arith, few, places, c.requires.locators, room)

pub invariant_of-self : goal.invariant_of-self
invariant_of-self c =
    let items = c.self.inside.by_eid.mappings in
    let more = ap length c.put.ensures.mappings ∙ length-put (λ item. item.eid) eid_order c.args.mapping items in
    let room = rw (← c.self.view_is) at c.requires.spare in
    record {
      indexed = indexed-entered items c.put.new.self.mappings c.self.inside.endings.keys c.add_ending.new.endings.keys c.self.inside.counts c.add.new.self c.self.invariant.indexed c.add.ensures.limits c.args.mapping c.put.ensures.mappings c.add_ending.ensures.members c.add.ensures.learned;
      few = subst AllFew (sym c.put.ensures.mappings) (AllFew-put c.args.mapping items c.requires.locators c.self.invariant.few);
      enough = omega (arith, more, room, c.self.invariant.enough, c.add_ending.ensures.total);
      most = omega (arith, c.self.invariant.most, c.add_ending.ensures.total);
      named = record {
        keys = λ begun.
            let before = sym c.add-2.ensures.begun ∙ begun in
            names-entered items c.put.new.self.mappings c.self.inside.names.keys c.add-2.new.self.keys c.args.mapping (c.self.invariant.named.keys before) c.put.ensures.mappings (c.add-2.ensures.members before);
        room = λ begun.
            let places = c.self.invariant.named.room (sym c.add-2.ensures.begun ∙ begun) in
            omega (arith, more, room, places, c.put.ensures.spare, c.add_ending.ensures.total, c.add-2.ensures.places);
      };
    }

pub returns-clause-mapping_places : goal.returns-clause-mapping_places
returns-clause-mapping_places c =
    let more = ap length c.put.ensures.mappings ∙ length-put (λ item. item.eid) eid_order c.args.mapping c.self.inside.by_eid.mappings in
    rw (← c.self.view_is) (omega (arith, more, c.put.ensures.room, c.add_ending.ensures.total, c.add-2.ensures.places))

pub returns-clause-spare : goal.returns-clause-spare
returns-clause-spare c =
    let more = ap length c.put.ensures.mappings ∙ length-put (λ item. item.eid) eid_order c.args.mapping c.self.inside.by_eid.mappings in
    let room = rw (← c.self.view_is) at c.requires.spare in
    rw (← c.self.view_is) (omega (arith, more, room, c.put.ensures.spare, c.add_ending.ensures.total))

pub returns-clause-total : goal.returns-clause-total
returns-clause-total c =
    let more = ap length c.put.ensures.mappings ∙ length-put (λ item. item.eid) eid_order c.args.mapping c.self.inside.by_eid.mappings in
    let room = rw (← c.self.view_is) at c.requires.spare in
    rw (← c.self.view_is) (omega (arith, more, room, c.put.ensures.spare, c.add_ending.ensures.total))
