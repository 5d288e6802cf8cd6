use Rattle.std.proofs.Common.{length, ap, ◌∙◌, arith}
use Rattle.std.specs.Option.{option_map}
use Rattle.std.proofs.lemmas.List.Edits.{length-remove}
use Rattle.std.proofs.lemmas.Option.{slice_get-map, slice_get_within}
use Rattle.keyed_list.proofs.BareLemmas.{bare-items, bare-length, bare-less}
use Rattle.keyed_list.proofs.EditLemmas.{map-remove}
use Rattle.keyed_list.proofs.KeyedLemmas.{keyed-remove, less-remove}
use Rattle.keyed_list.proofs.list.KeyedList.remove.Goals as goal

pub invariant_of-self : goal.invariant_of-self
invariant_of-self g c =
    let items = c.unlink.new.list.items in
    let same = c.unlink.ensures.bare in
    let at = c.remove-number.ensures.item in
    let many = bare-length items c.self.inside.list.items same in
    let fewer = length-remove items c.args.place (slice_get_within items c.args.place c.remove-number.result at) in
    let len = ap (λ (l : _). length l) c.remove-number.ensures.items in (
      rw c.remove-number.ensures.items (keyed-remove c.self.invariant.0 items same c.args.place c.remove-number.result c.marks.result at c.marks.ensures c.unlink.ensures.found c.unlink.ensures.linked c.drop_age.ensures.members),
      rw c.remove-number.ensures.items (less-remove items c.args.place c.self.inside.next (bare-less items c.self.inside.list.items same c.self.inside.next c.self.invariant.1)),
      record {
        few = omega (arith, many, fewer, len, c.remove-number.ensures.spare, c.unlink.ensures.spare, c.self.invariant.2.few);
        keys = omega (arith, many, fewer, len, c.remove-number.ensures.spare, c.unlink.ensures.spare, c.unlink.ensures.total, c.self.invariant.2.keys);
        ages = omega (arith, many, fewer, len, c.remove-number.ensures.spare, c.unlink.ensures.spare, c.drop_age.ensures.total, c.self.invariant.2.ages);
      },
    )

pub returns-clause-item : goal.returns-clause-item
returns-clause-item g c =
    rw (← c.self.view_is, ← bare-items c.unlink.new.list.items c.self.inside.list.items c.unlink.ensures.bare) (slice_get-map (λ numbered. numbered.item) c.unlink.new.list.items c.args.place ∙ ap (option_map (λ numbered. numbered.item)) c.remove-number.ensures.item)

pub returns-clause-items : goal.returns-clause-items
returns-clause-items g c =
    rw (← c.self.view_is, c.remove-number.ensures.items, ← bare-items c.unlink.new.list.items c.self.inside.list.items c.unlink.ensures.bare) (map-remove (λ numbered. numbered.item) c.unlink.new.list.items c.args.place)
