use Rattle.std.proofs.Common.{length, sym, subst, ap, ◌∙◌, arith}
use Rattle.std.specs.List.{list_any}
use Rattle.std.proofs.lemmas.List.{length-map}
use Rattle.map_cache.specs.Cache.{told_mapping}
use Rattle.map_cache.specs.Indexed.{names_as}
use Rattle.map_cache.specs.Lists.{AllFew}
use Rattle.map_cache.proofs.FewLemmas.{AllFew-told}
use Rattle.map_cache.proofs.NameLemmas.{names-told}
use Rattle.map_cache.proofs.ToldLemmas.{indexed-told}
use Rattle.map_cache.proofs.indexed.Indexed.tell.Goals as goal

pub invariant_of-self : goal.invariant_of-self
invariant_of-self c =
    let items = c.self.inside.by_eid.mappings in
    let same = ap length c.tell.ensures.mappings ∙ length-map items (told_mapping c.args.eid.now c.args.bits c.args.width) in
    record {
      indexed = indexed-told c.args.eid.now c.args.bits c.args.width items c.tell.new.self.mappings c.self.inside.endings.keys c.self.inside.counts c.tell.ensures.mappings c.self.invariant.indexed;
      few = subst AllFew (sym c.tell.ensures.mappings) (AllFew-told c.args.eid.now c.args.bits c.args.width items c.self.invariant.few);
      enough = omega (arith, same, c.self.invariant.enough);
      most = c.self.invariant.most;
      named = record {
        keys = λ begun key.
            c.self.invariant.named.keys begun key
            ∙ names-told c.args.eid.now c.args.bits c.args.width key items
            ∙ ap (list_any (names_as key)) (sym c.tell.ensures.mappings);
        room = λ begun. let places = c.self.invariant.named.room begun in omega (arith, places, same, c.tell.ensures.spare);
      };
    }
