-- Items of a key that are changed, those with the greatest numbers first.
use Rattle.std.proofs.Common.{◌≡◌, ℕ, ◌<◌, ◌&&◌, Bool, true, cond, List, [], ◌∷◌, map, nat_le, slice_get, slice_set, Some, None, inl, inr, refl, sym, ap, subst, ◌∙◌, arith}
use Rattle.std.specs.Option.{option_map}
use Rattle.std.proofs.lemmas.Bool.{and_from, and_left, and_parts, and_right, both_ways, cases_Bool, cases_lt, le-leb, lt-leb, lt-ltb}
use Rattle.std.proofs.lemmas.Option.{same_Some, slice_get-map}
use Rattle.keyed_list.specs.Keyed.{Ascends, changed_with, is_below, is_key, last_of}
use Rattle.keyed_list.specs.Lists.{last_where}
use Rattle.keyed_list.specs.declared.key.Key.{Key}
use Rattle.keyed_list.specs.declared.keyed.Marks.{Marks}
use Rattle.keyed_list.specs.declared.keyed.Numbered.{Numbered}
use Rattle.keyed_list.proofs.AmongLemmas.{among-at}
use Rattle.keyed_list.proofs.EditLemmas.{map-same, map-stays, set-map}
use Rattle.keyed_list.proofs.FitsLemmas.{below-number}
use Rattle.keyed_list.proofs.LastLemmas.{none-last, IsLast}
use Rattle.keyed_list.proofs.SetLemmas.{made, same-place}
use Rattle.keyed_list.proofs.WalkLemmas.{above, below-start}

module _ {T : Type 0} (marks_of : T → Marks) (key : Key) where
  -- the item has the key, and this or a greater number
  abbrev is_from : ℕ → Numbered T → Bool
  is_from bound x = is_key marks_of key x.item && nat_le bound x.number

  abbrev changed_if : (T → T) → Bool → Numbered T → Numbered T
  changed_if changed told x = made x (cond told (changed x.item) x.item)

  -- the item, which was changed where it has the key, and this or a greater number
  abbrev pub changed_from : ℕ → (T → T) → Numbered T → Numbered T
  changed_from bound changed x = changed_if changed (is_from bound x) x

  -- an item with a lower number isn't changed
  below-same : (bound : ℕ) (changed : T → T) (x : Numbered T) → x.number < bound → changed_from bound changed x ≡ x
  below-same bound changed x less =
      ap (λ b. changed_if changed b x) (and_right (is_key marks_of key x.item) (nat_le bound x.number) (lt-leb _ _ less))

  -- from above the last item of the key on, none is changed
  pub none-changed : (items : List (Numbered T)) → Ascends items → (changed : T → T) → items ≡ map (changed_from (above (last_of marks_of key items)) changed) items
  none-changed items ascends changed =
      sym (map-stays (changed_from (above (last_of marks_of key items)) changed) items (λ k x at. elim (cases_Bool (is_key marks_of key x.item)) [
        | inl has ↦
            below-same (above (last_of marks_of key items)) changed x (below-start marks_of key items ascends x (among-at items k x at) has)
        | inr lacks ↦ ap (λ b. changed_if changed b x) (and_left _ _ lacks)
      ]))

  module _ (bound : ℕ) (changed : T → T) (old items : List (Numbered T)) (are : items ≡ map (changed_from bound changed) old) where
    now-at : (k : ℕ) (z : Numbered T) → slice_get old k ≡ Some z → slice_get items k ≡ Some (changed_from bound changed z)
    now-at k z at =
        ap (λ l. slice_get l k) are ∙ slice_get-map (changed_from bound changed) old k ∙ ap (option_map (changed_from bound changed)) at

    -- an item that has the key and a lower number is below
    is-below : (z : Numbered T) → is_key marks_of key z.item ≡ true → z.number < bound → is_below marks_of key bound (changed_from bound changed z) ≡ true
    is-below z has less = ap (is_below marks_of key bound) (below-same bound changed z less) ∙ and_from _ _ has (lt-ltb _ _ less)

    module _ (place : ℕ) (x : Numbered T) (at : slice_get items place ≡ Some x) (ascends : Ascends items) (last : IsLast (is_below marks_of key bound) (λ a b. a.number < b.number) items x) where
      less : x.number < bound
      less = below-number marks_of key bound x last.passes

      -- from the last one below on, the same are changed, but for that one
      told-same : (k : ℕ) (z : Numbered T) → slice_get old k ≡ Some z → (k ≡ place → ⊥) → is_from bound z ≡ is_from x.number z
      told-same k z there apart = elim (cases_Bool (is_key marks_of key z.item)) [
        | inr lacks ↦ and_left _ _ lacks ∙ sym (and_left _ _ lacks)
        | inl has ↦ elim (cases_lt z.number x.number) [
          | inl lower ↦ and_right _ _ (lt-leb bound z.number (omega (arith, lower, less))) ∙ sym (and_right _ _ (lt-leb _ _ lower))
          | inr least ↦ elim (cases_lt z.number bound) [
            | inr from ↦ and_from _ _ has (le-leb _ _ from) ∙ sym (and_from _ _ has (le-leb _ _ least))
            | inl below ↦ elim (last.others (changed_from bound changed z) (among-at items k _ (now-at k z there)) (is-below z has below)) [
              | inl same ↦ absurd (apart (same-place items k place (changed_from bound changed z) x ascends (now-at k z there) at (ap (λ (y : Numbered T). y.number) same)))
              | inr lower ↦ absurd (omega (arith, least, lower))
            ]
          ]
        ]
      ]

      changed-there : (new : T) → new ≡ changed x.item → (z : Numbered T) → slice_get old place ≡ Some z → made x new ≡ changed_from x.number changed z
      changed-there new is z there =
          let now : changed_from bound changed z ≡ x = same_Some _ x (sym (now-at place z there) ∙ at) in
          let lower : z.number < bound = subst (λ n. n < bound) (sym (ap (λ (y : Numbered T). y.number) now)) less in
          subst (λ (y : Numbered T). made x new ≡ changed_from x.number changed y) (sym now ∙ below-same bound changed z lower)
          (ap (made x) is ∙ sym (ap (λ b. changed_if changed b x) (and_from _ _ (and_parts _ _ last.passes).0 (le-leb x.number x.number (omega arith)))))

      -- once the last one below is changed, those with its number and greater ones are
      pub changed-next : (new : T) → new ≡ changed x.item → slice_set items place (made x new) ≡ map (changed_from x.number changed) old
      changed-next new is =
          ap (λ l. slice_set l place (made x new)) are
          ∙ set-map (changed_from bound changed) (changed_from x.number changed) old place (made x new) (changed-there new is) (λ k z there apart. ap (λ b. changed_if changed b z) (told-same k z there apart))

    -- where none below has the key, all that do are changed
    pub all-changed : None ≡ last_where (is_below marks_of key bound) items → map (λ y. y.item) items ≡ map (changed_with marks_of key changed) (map (λ y. y.item) old)
    all-changed none =
        ap (map (λ y. y.item)) are
        ∙ map-map (λ y. y.item) (changed_from bound changed) old
        ∙ map-same (λ z. (changed_from bound changed z).item) (λ z. changed_with marks_of key changed z.item) old each
        ∙ sym (map-map (changed_with marks_of key changed) (λ y. y.item) old)
      where
        map-map : {A B C : Type 0} (f : B → C) (g : A → B) (items : List A) → map f (map g items) ≡ map (λ x. f (g x)) items
        map-map f g [] = refl
        map-map f g (y ∷ items) = ap (λ more. f (g y) ∷ more) (map-map f g items)

        told : (k : ℕ) (z : Numbered T) → slice_get old k ≡ Some z → is_from bound z ≡ is_key marks_of key z.item
        told k z there = elim (cases_Bool (is_key marks_of key z.item)) [
          | inr lacks ↦ and_left _ _ lacks ∙ sym lacks
          | inl has ↦ elim (cases_lt z.number bound) [
            | inl below ↦ absurd (both_ways _ (none-last (is_below marks_of key bound) items (sym none) _ (among-at items k _ (now-at k z there))) (is-below z has below))
            | inr from ↦ and_from _ _ has (le-leb _ _ from) ∙ sym has
          ]
        ]

        each : (k : ℕ) (z : Numbered T) → slice_get old k ≡ Some z → (changed_from bound changed z).item ≡ changed_with marks_of key changed z.item
        each k z there = ap (λ b. cond b (changed z.item) z.item) (told k z there)
