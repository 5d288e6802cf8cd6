use Rattle.std.proofs.Common.{◌≡◌, filter, is_some, length, refl, sym, ap, subst, ◌∙◌, arith}
use Rattle.std.proofs.lemmas.List.Edits.{length-remove}
use Rattle.std.proofs.lemmas.Option.{slice_get_within}
use Rattle.keyed_list.specs.Keyed.{Kept, is_young}
use Rattle.keyed_list.proofs.FilterLemmas.{filter-all, filter-remove, old-item}
use Rattle.keyed_list.proofs.list.KeyedList.purge.Goals as goal

pub loop-place-init : goal.loop-place-init
loop-place-init g c = (refl, omega arith, omega arith, refl)

pub loop-place-smaller : goal.loop-place-smaller
loop-place-smaller g c =
    let fewer = length-remove c.loop-place.self.items c.in-Some.place (slice_get_within c.loop-place.self.items c.in-Some.place c.remove.result c.remove.ensures.item) in
    omega (arith, fewer, ap (λ (l : _). length l) c.remove.ensures.items)

pub loop-place-preserved : goal.loop-place-preserved
loop-place-preserved g c =
    let young = is_young g.T.Keyed.marks_of c.args.now c.args.life in
    let here = rw (← c.self.view_is) at c.remove.ensures.item in
    let old = old-item young (λ numbered. numbered.item) c.self.inside.list.items c.in-Some.place c.remove.result c.in-Some.ensures.old here in (
      ap (filter young) c.remove.ensures.items ∙ filter-remove young c.loop-place.self.items c.in-Some.place c.remove.result c.remove.ensures.item old ∙ c.loop-place.invariant.0,
      omega (arith, c.remove.ensures.room, c.loop-place.invariant.1),
      omega (arith, c.remove.ensures.total, c.loop-place.invariant.2),
      c.remove.ensures.places ∙ c.loop-place.invariant.3,
    )

pub returns-clause-items : goal.returns-clause-items
returns-clause-items g c =
    let young = is_young g.T.Keyed.marks_of c.args.now c.args.life in
    let all = filter-all young (λ numbered. numbered.item) c.self.inside.list.items (c.old_place.ensures.none (ap is_some c.in_default.is)) in
    sym (subst (λ items. filter young items ≡ items) (ap (λ (kept : Kept _). kept.items) c.self.view_is) all) ∙ c.loop-place.invariant.0

pub returns-clause-room : goal.returns-clause-room
returns-clause-room g c = c.loop-place.invariant.1

pub returns-clause-places : goal.returns-clause-places
returns-clause-places g c = c.loop-place.invariant.3

pub returns-clause-total : goal.returns-clause-total
returns-clause-total g c = c.loop-place.invariant.2
