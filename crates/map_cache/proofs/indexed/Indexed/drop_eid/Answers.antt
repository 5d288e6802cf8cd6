use Rattle.std.proofs.Common.{List, length, not, sym, subst, ap, ◌∙◌, arith}
use Rattle.std.specs.List.{list_any}
use Rattle.mapping_records.specs.Eids.{same_eid}
use Rattle.map_cache.specs.Cache.{learned_in, without_eid}
use Rattle.map_cache.specs.Indexed.{names_as, IsIndexed}
use Rattle.map_cache.specs.Lists.{AllFew}
use Rattle.map_cache.specs.declared.mapping.Mapping.{Mapping}
use Rattle.map_cache.proofs.FewLemmas.{AllFew-filter}
use Rattle.map_cache.proofs.PlaceLemmas.{without-none}
use Rattle.map_cache.proofs.IndexedLemmas.{counted-there, indexed-dropped}
use Rattle.map_cache.proofs.NameLemmas.{names-dropped}
use Rattle.map_cache.proofs.indexed.Indexed.drop_eid.Goals as goal

pub drop-requires : goal.drop-requires
drop-requires c = (
  λ iid. learned_in iid (without_eid c.args.eid.now c.self.inside.by_eid.mappings),
  counted-there c.self.inside.by_eid.mappings c.self.inside.endings.keys c.self.inside.counts c.self.invariant.indexed c.args.eid.now c.in-Some.mapping c.len.ensures.ascending (sym c.in-Some.ensures.taken),
)

pub invariant_of-self : goal.invariant_of-self
invariant_of-self c =
    let items = c.self.inside.by_eid.mappings in
    record {
      indexed = indexed-dropped items c.take.new.self.mappings c.self.inside.endings.keys c.drop_ending.new.endings.keys c.self.inside.counts c.drop.new.self c.self.invariant.indexed c.drop.ensures.limits c.in-Some.mapping c.args.eid.now c.len.ensures.ascending (sym c.in-Some.ensures.taken) c.take.ensures.mappings c.drop_ending.ensures.members c.drop.ensures.learned;
      few = subst AllFew (sym c.take.ensures.mappings) (AllFew-filter (λ (x : Mapping). not (same_eid x.eid c.args.eid.now)) items c.self.invariant.few);
      enough = omega (arith, c.take.ensures.spare, c.take.ensures.total, c.self.invariant.enough, c.drop_ending.ensures.total);
      most = omega (arith, c.self.invariant.most, c.drop_ending.ensures.total);
      named = record {
        keys = λ begun.
            let before = sym c.remove.ensures.begun ∙ begun in
            names-dropped items c.take.new.self.mappings c.self.inside.names.keys c.remove.new.self.keys c.in-Some.mapping (c.self.invariant.named.keys before) c.args.eid.now c.len.ensures.ascending (sym c.in-Some.ensures.taken) c.take.ensures.mappings (c.remove.ensures.members before);
        room = λ begun.
            let places = c.self.invariant.named.room (sym c.remove.ensures.begun ∙ begun) in
            omega (arith, places, c.take.ensures.spare, c.take.ensures.total, c.self.invariant.enough, c.drop_ending.ensures.total, c.remove.ensures.places);
      };
    }

pub invariant_of-self-in_default : goal.invariant_of-self-in_default
invariant_of-self-in_default c =
    let same = c.take.ensures.mappings ∙ without-none c.args.eid.now c.self.inside.by_eid.mappings (sym c.in_default.ensures.taken) in
    record {
      indexed = subst (λ (l : List Mapping). IsIndexed l c.self.inside.endings.keys c.self.inside.counts) (sym same) c.self.invariant.indexed;
      few = subst AllFew (sym same) c.self.invariant.few;
      enough = omega (arith, ap length same, c.self.invariant.enough);
      most = omega (arith, c.self.invariant.most);
      named = record {
        keys = λ begun key. c.self.invariant.named.keys begun key ∙ ap (list_any (names_as key)) (sym same);
        room = λ begun. let places = c.self.invariant.named.room begun in omega (arith, places, ap length same, c.take.ensures.total);
      };
    }

pub returns-in-Some-clause-total : goal.returns-in-Some-clause-total
returns-in-Some-clause-total c =
    rw (← c.self.view_is) (omega (arith, c.take.ensures.spare, c.take.ensures.total, c.drop_ending.ensures.total))

pub returns-in-Some-clause-spare : goal.returns-in-Some-clause-spare
returns-in-Some-clause-spare c =
    rw (← c.self.view_is) (omega (arith, c.take.ensures.spare, c.take.ensures.total, c.drop_ending.ensures.total))

pub returns-in_default-clause-spare : goal.returns-in_default-clause-spare
returns-in_default-clause-spare c =
    rw (← c.self.view_is) (omega (arith, c.take.ensures.spare, c.take.ensures.total))

pub returns-in_default-clause-total : goal.returns-in_default-clause-total
returns-in_default-clause-total c =
    rw (← c.self.view_is) (omega (arith, c.take.ensures.spare, c.take.ensures.total))
