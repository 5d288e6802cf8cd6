use Rattle.std.proofs.Common.{List, length, sym, subst, ap, ◌∙◌, arith}
use Rattle.std.specs.List.{list_any}
use Rattle.ordered_set.specs.Keys.{has}
use Rattle.map_cache.specs.Indexed.{name_order, names_as, IsIndexed}
use Rattle.map_cache.specs.Lists.{AllFew}
use Rattle.map_cache.specs.declared.mapping.Mapping.{Mapping}
use Rattle.map_cache.proofs.RoomLemmas.{endings-few, names-few, room-after, room-least}
use Rattle.map_cache.proofs.indexed.Indexed.reserve.Goals as goal

pub overflow_sub-fixed : goal.overflow_sub-fixed
overflow_sub-fixed c =
    let few = endings-few _ _ _ c.self.invariant.indexed c.len-2.ensures.ascends in
    omega (arith, few, c.len-len.ensures.len, c.len-2.ensures.len)

pub overflow_cast-fixed : goal.overflow_cast-fixed
overflow_cast-fixed c =
    let len = rw (← c.self.view_is) at c.requires.len in
    omega (arith, len, c.len-len.ensures.len)

pub overflow_add-n : goal.overflow_add-n
overflow_add-n c =
    let len = rw (← c.self.view_is) at c.requires.len in
    omega (arith, c.requires.n, len, c.len-len.ensures.len)

pub reserve-requires-clause-few : goal.reserve-requires-clause-few
reserve-requires-clause-few c = λ begun.
    let few = names-few c.self.inside.by_eid.mappings c.self.inside.names.keys c.self.invariant.few (c.self.invariant.named.keys begun) c.len.ensures.ascends in
    omega (arith, few, c.len-len.ensures.len)

pub reserve-requires-3 : goal.reserve-requires-3
reserve-requires-3 c =
    let len = rw (← c.self.view_is) at c.requires.len in
    let few = endings-few _ _ _ c.self.invariant.indexed c.len-2.ensures.ascends in
    omega (arith, c.requires.n, len, few, c.len-len.ensures.len, c.len-2.ensures.len)

pub invariant_of-self : goal.invariant_of-self
invariant_of-self c = record {
  indexed = c.self.invariant.indexed;
  few = c.self.invariant.few;
  enough = c.self.invariant.enough;
  most = c.self.invariant.most;
  named = record {
    keys = λ begun key. ap (has name_order key) c.reserve.ensures.keys ∙ c.self.invariant.named.keys (sym c.reserve.ensures.begun ∙ begun) key;
    room = λ begun. let room = c.self.invariant.named.room (sym c.reserve.ensures.begun ∙ begun) in omega (arith, room, c.reserve.ensures.places);
  };
}

pub invariant_of-self-in_err-reserve-2 : goal.invariant_of-self-in_err-reserve-2
invariant_of-self-in_err-reserve-2 c =
    let same = c.reserve-2.ensures.mappings in
    record {
      indexed = subst (λ (l : List Mapping). IsIndexed l c.self.inside.endings.keys c.self.inside.counts) (sym same) c.self.invariant.indexed;
      few = subst AllFew (sym same) c.self.invariant.few;
      enough = omega (arith, ap length same, c.self.invariant.enough);
      most = c.self.invariant.most;
      named = record {
        keys = λ begun key.
            ap (has name_order key) c.reserve.ensures.keys
            ∙ c.self.invariant.named.keys (sym c.reserve.ensures.begun ∙ begun) key
            ∙ ap (list_any (names_as key)) (sym same);
        room = λ begun.
            let before = sym c.reserve.ensures.begun ∙ begun in
            let room = c.self.invariant.named.room before in
            let places = c.in_ok-reserve.ensures.ok before in
            omega (arith, room, places, ap length same, c.len-len.ensures.len, c.reserve.ensures.places, c.reserve-2.ensures.at_most);
      };
    }

pub invariant_of-self-2 : goal.invariant_of-self-2
invariant_of-self-2 c =
    let same = c.reserve-2.ensures.mappings in
    let keys = c.reserve-3.ensures.keys in
    let few = endings-few _ _ _ c.self.invariant.indexed c.len-2.ensures.ascends in
    let len = rw (← c.self.view_is) at c.requires.len in
    let most = room-after c.reserve-3.result _ _ _ c.reserve-3.ensures.ok c.reserve-3.ensures.err in
    let least = room-least c.reserve-3.result _ _ _ c.reserve-3.ensures.ok c.reserve-3.ensures.err in
    record {
      indexed = rw (same, keys) c.self.invariant.indexed;
      few = subst AllFew (sym same) c.self.invariant.few;
      enough = omega (arith, ap length same, ap length keys, c.self.invariant.enough, least);
      most = omega (arith, ap length keys, c.self.invariant.most, most, few, len, c.requires.n, c.len-len.ensures.len, c.len-2.ensures.len);
      named = record {
        keys = λ begun key.
            ap (has name_order key) c.reserve.ensures.keys
            ∙ c.self.invariant.named.keys (sym c.reserve.ensures.begun ∙ begun) key
            ∙ ap (list_any (names_as key)) (sym same);
        room = λ begun.
            let before = sym c.reserve.ensures.begun ∙ begun in
            let room = c.self.invariant.named.room before in
            let places = c.in_ok-reserve.ensures.ok before in
            omega (arith, room, places, ap length same, ap length keys, c.len-len.ensures.len, c.len-2.ensures.len, few, most, c.reserve.ensures.places, c.reserve-2.ensures.at_most);
      };
    }

pub returns-clause-mapping_places : goal.returns-clause-mapping_places
returns-clause-mapping_places c =
    let few = endings-few _ _ _ c.self.invariant.indexed c.len-2.ensures.ascends in
    let room = room-after c.reserve-3.result _ _ _ c.reserve-3.ensures.ok c.reserve-3.ensures.err in
    rw (← c.self.view_is) (omega (arith, few, ap length c.reserve-2.ensures.mappings, c.reserve-2.ensures.room, ap length c.reserve-3.ensures.keys, room, c.len-len.ensures.len, c.len-2.ensures.len, c.reserve.ensures.at_most))

pub returns-clause-at_most : goal.returns-clause-at_most
returns-clause-at_most c =
    let few = endings-few _ _ _ c.self.invariant.indexed c.len-2.ensures.ascends in
    let room = room-after c.reserve-3.result _ _ _ c.reserve-3.ensures.ok c.reserve-3.ensures.err in
    rw (← c.self.view_is) (omega (arith, few, ap length c.reserve-2.ensures.mappings, c.reserve-2.ensures.at_most, ap length c.reserve-3.ensures.keys, room, c.len-len.ensures.len, c.len-2.ensures.len))

pub returns-clause-enough : goal.returns-clause-enough
returns-clause-enough c = λ enough.
    let few = endings-few _ _ _ c.self.invariant.indexed c.len-2.ensures.ascends in
    let room = rw (← c.self.view_is) at enough in
    c.reserve-3.ensures.enough (omega (arith, few, room, c.len-len.ensures.len, c.len-2.ensures.len))
