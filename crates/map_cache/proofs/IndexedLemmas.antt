-- The ends and numbers of mappings, once one of them is put in or taken away.
use Rattle.std.proofs.Common.{◌≡◌, ◌<◌, ℕ, ◌&&◌, ◌||◌, not, List, All, length, remove, slice_index_or, Some, sym, ap, ap₂, subst, ◌∙◌, arith}
use Rattle.std.specs.List.{list_any}
use Rattle.std.proofs.lemmas.List.Elements.{All-map}
use Rattle.lisp_settings.specs.declared.settings.LimitItem.{LimitItem}
use Rattle.mapping_records.specs.Orders.{eid_order, put_in_order}
use Rattle.mapping_records.specs.declared.eid.Eid.{Eid}
use Rattle.ordered_set.specs.Keys.{has}
use Rattle.map_cache.specs.Cache.{exact, learned_in, without_eid}
use Rattle.map_cache.specs.Indexed.{ending_order, ends_as, for_each, with_one, Counted, IsIndexed}
use Rattle.map_cache.specs.Lists.{IsAscending}
use Rattle.map_cache.specs.declared.keys.Ending.{Ending}
use Rattle.map_cache.specs.declared.mapping.Mapping.{Mapping}
use Rattle.map_cache.proofs.CountLemmas.{for_each-same, learned_in-few, learned_in-put, learned_in-remove}
use Rattle.map_cache.proofs.EndingLemmas.{any-put, ends-left, remove-there}
use Rattle.map_cache.proofs.PlaceOfLemmas.{exact-at, place_in}

module _ (mappings : List Mapping) (endings : List Ending) (counts : Counted) (is : IsIndexed mappings endings counts) where
  -- none has learned more than there are
  pub counted-few : (most : ℕ) → length mappings < most → All (λ n. n < most) counts.learned
  counted-few most few =
      subst (All (λ n. n < most)) (sym is.counted) (All-map (λ n. n < most) (λ (limit : LimitItem). learned_in limit.iid mappings) counts.limits (λ k d within. omega (arith, few, learned_in-few (slice_index_or counts.limits k d).iid mappings)))

  -- a mapping that is found counts
  pub counted-there : (eid : Eid) (x : Mapping) → IsAscending mappings → exact mappings eid ≡ Some x → counts.learned ≡ for_each (with_one x (λ iid. learned_in iid (without_eid eid mappings))) counts.limits
  counted-there eid x ascending found =
      let at = exact-at eid mappings x ascending found in
      let left = remove-there eid mappings (place_in eid mappings) at.1 in
      is.counted
      ∙ for_each-same (λ iid. learned_in iid mappings) (with_one x (λ iid. learned_in iid (remove mappings (place_in eid mappings)))) (λ iid. learned_in-remove iid mappings (place_in eid mappings) x at.0) counts.limits
      ∙ ap (λ (l : List Mapping). for_each (with_one x (λ iid. learned_in iid l)) counts.limits) left

module _ (mappings new : List Mapping) (endings now_endings : List Ending) (counts now_counts : Counted) (is : IsIndexed mappings endings counts) (limits : now_counts.limits ≡ counts.limits) (x : Mapping) where
  -- a mapping is put in
  pub indexed-entered : new ≡ put_in_order (λ i. i.eid) eid_order x mappings
      → ((key : Ending) → has ending_order key now_endings ≡ (ends_as key x || has ending_order key endings))
      → ((number : ℕ → ℕ) → counts.learned ≡ for_each number counts.limits → now_counts.learned ≡ for_each (with_one x number) counts.limits)
      → IsIndexed new now_endings now_counts
  indexed-entered put ends counted = record {
    ends = λ key.
        ends key
        ∙ ap (λ b. ends_as key x || b) (is.ends key)
        ∙ sym (ap (list_any (ends_as key)) put ∙ any-put (ends_as key) x mappings);
    counted =
        counted (λ iid. learned_in iid mappings) is.counted
        ∙ for_each-same (with_one x (λ iid. learned_in iid mappings)) (λ iid. learned_in iid new) (λ iid. sym (ap (learned_in iid) put ∙ learned_in-put iid x mappings)) counts.limits
        ∙ ap (for_each (λ iid. learned_in iid new)) (sym limits);
  }

  -- the mapping of an EID is taken away
  pub indexed-dropped : (eid : Eid) → IsAscending mappings → exact mappings eid ≡ Some x
      → new ≡ without_eid eid mappings
      → ((key : Ending) → has ending_order key now_endings ≡ (not (ends_as key x) && has ending_order key endings))
      → ((number : ℕ → ℕ) → counts.learned ≡ for_each (with_one x number) counts.limits → now_counts.learned ≡ for_each number counts.limits)
      → IsIndexed new now_endings now_counts
  indexed-dropped eid ascending found left ends counted =
      let at = exact-at eid mappings x ascending found in
      record {
        ends = λ key.
            ends key
            ∙ ap (λ b. not (ends_as key x) && b) (is.ends key)
            ∙ sym (ap (list_any (ends_as key)) left ∙ ends-left eid key mappings (place_in eid mappings) x at.1 at.0);
        counted =
            counted (λ iid. learned_in iid (without_eid eid mappings)) (counted-there mappings endings counts is eid x ascending found)
            ∙ ap₂ (λ (l : List Mapping) limits. for_each (λ iid. learned_in iid l) limits) (sym left) (sym limits);
      }
