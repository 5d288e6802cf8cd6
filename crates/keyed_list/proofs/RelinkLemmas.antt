-- One item of a key is linked anew: other keys lead where they led.
use Rattle.std.proofs.Common.{◌≡◌, ℕ, ◌&&◌, ◌||◌, Bool, true, false, cond, List, [], ◌∷◌, map, remove, slice_get, slice_set, Option, None, Some, IfSome, refl, sym, ap, ap₂, subst, ◌∙◌}
use Rattle.std.specs.Option.{option_map}
use Rattle.std.proofs.lemmas.Bool.{and_from, and_parts, and_right, both_ways, eq-eqb, ne_eqb}
use Rattle.std.proofs.lemmas.Option.{same_Some, slice_get-map}
use Rattle.keyed_list.specs.Keyed.{Ascends, bare, is_key, is_number, is_other, link_of, relinked, with_link, IsFound, IsLink, IsLinked, IsRelinked, IsUnlinked}
use Rattle.keyed_list.specs.Keys.{same_key}
use Rattle.keyed_list.specs.declared.key.Key.{Key}
use Rattle.keyed_list.specs.declared.key.Mark.{Mark}
use Rattle.keyed_list.specs.declared.keyed.Link.{Link}
use Rattle.keyed_list.specs.declared.keyed.Marks.{Marks}
use Rattle.keyed_list.specs.declared.keyed.Numbered.{Numbered}
use Rattle.keyed_list.proofs.EditLemmas.{map-remove, map-stays}
use Rattle.keyed_list.proofs.MapLemmas.{found-mapped, linked-at, linked-mapped}
use Rattle.keyed_list.proofs.OrderLemmas.{same-back, same-both}
use Rattle.keyed_list.proofs.SetLemmas.{set-stays}

other-both : (o : Option Key) (a b : Key) → is_other o a ≡ true → is_other o b ≡ true → same_key a b ≡ true
other-both None a b first second = absurd (cc first)
other-both (Some key) a b first second = same-both a b key (same-back key a first) (same-back key b second)

second-true : (a b : Bool) → a ≡ false → (a || b) ≡ true → b ≡ true
second-true true b apart either = absurd (cc apart)
second-true false b apart either = either

module _ {A B C : Type 0} (f : B → C) (g : A → B) where
  pub map-map : (items : List A) → map f (map g items) ≡ map (λ x. f (g x)) items
  map-map [] = refl
  map-map (y ∷ items) = ap (λ more. f (g y) ∷ more) (map-map items)

module _ {T : Type 0} (f : Numbered T → Numbered T) (same : (y : Numbered T) → bare (f y) ≡ bare y) where
  pub bare-map : (items : List (Numbered T)) → map bare (map f items) ≡ map bare items
  bare-map [] = refl
  bare-map (y ∷ items) = ap₂ (λ a b. a ∷ b) (same y) (bare-map items)

  pub bare-number : (y : Numbered T) → (f y).number ≡ y.number
  bare-number y = ap (λ (pair : ℕ × T). pair.0) (same y)

  pub bare-item : (y : Numbered T) → (f y).item ≡ y.item
  bare-item y = ap (λ (pair : ℕ × T). pair.1) (same y)

module _ {T : Type 0} (marks_of : T → Marks) (key : Key) where
  module _ (link : Link) where
    -- a link that was set is read
    pub link-with : (y : Numbered T) → link_of marks_of key (with_link marks_of key link y) ≡ link
    link-with y = by (same_key (marks_of y.item).key key)
      where
        by : (b : Bool) → cond b (cond b link y.link) (cond b y.other_link link) ≡ link
        by true = refl
        by false = refl

    -- by another key that the item has it is linked as before
    with-other : (other : Key) (y : Numbered T) → same_key key other ≡ false → is_key marks_of key y.item ≡ true → is_key marks_of other y.item ≡ true
        → link_of marks_of other (with_link marks_of key link y) ≡ link_of marks_of other y
    with-other other y apart has also = by (same_key first key) (same_key first other) refl refl
      where
        first : Key
        first = (marks_of y.item).key

        by : (a b : Bool) → same_key first key ≡ a → same_key first other ≡ b
            → cond b (cond a link y.link) (cond a y.other_link link) ≡ cond b y.link y.other_link
        by true true one two =
            absurd (both_ways _ apart (same-both key other first (same-back first key one) (same-back first other two)))
        by true false one two = refl
        by false true one two = refl
        by false false one two =
            absurd (both_ways _ apart (other-both (marks_of y.item).other key other (second-true _ _ one has) (second-true _ _ two also)))

  module _ (number : Option ℕ) (change : Link → Link) where
    abbrev new : Numbered T → Numbered T
    new y = relinked marks_of key number change y

    abbrev set : Numbered T → Numbered T
    set y = with_link marks_of key (change (link_of marks_of key y)) y

    pub bare-new : (y : Numbered T) → bare (new y) ≡ bare y
    bare-new y = by (is_key marks_of key y.item && is_number number y.number)
      where
        by : (b : Bool) → bare (cond b (set y) y) ≡ bare y
        by true = refl
        by false = refl

    pub link-own : (y : Numbered T) → is_key marks_of key y.item ≡ true → link_of marks_of key (new y) ≡ cond (is_number number y.number) (change (link_of marks_of key y)) (link_of marks_of key y)
    link-own y has =
        ap (λ b. link_of marks_of key (cond (b && is_number number y.number) (set y) y)) has
        ∙ by (is_number number y.number)
      where
        by : (b : Bool) → link_of marks_of key (cond b (set y) y) ≡ cond b (change (link_of marks_of key y)) (link_of marks_of key y)
        by true = link-with (change (link_of marks_of key y)) y
        by false = refl

    pub link-other : (other : Key) → same_key key other ≡ false → (y : Numbered T) → is_key marks_of other y.item ≡ true → link_of marks_of other (new y) ≡ link_of marks_of other y
    link-other other apart y also = by (is_key marks_of key y.item && is_number number y.number) refl
      where
        by : (b : Bool) → (is_key marks_of key y.item && is_number number y.number) ≡ b → link_of marks_of other (cond b (set y) y) ≡ link_of marks_of other y
        by true is =
            with-other (change (link_of marks_of key y)) other y apart (and_parts (is_key marks_of key y.item) _ is).0 also
        by false is = refl

    -- an item with another number stays
    pub new-stays : (y : Numbered T) → is_number number y.number ≡ false → new y ≡ y
    new-stays y apart = ap (λ b. cond b (set y) y) (and_right (is_key marks_of key y.item) _ apart)

    module _ (items : List (Numbered T)) where
      -- the item with that number is set
      pub relink-some : Ascends items → (place : ℕ) (x : Numbered T) → slice_get items place ≡ Some x → is_key marks_of key x.item ≡ true → number ≡ Some x.number → slice_set items place (set x) ≡ map new items
      relink-some ascends place x at has is =
          ap (slice_set items place) (sym here) ∙ set-stays items new place x ascends at others
        where
          here : new x ≡ set x
          here =
              ap (λ b. cond b (set x) x) (and_from _ _ has (ap (λ (o : Option ℕ). is_number o x.number) is ∙ eq-eqb x.number x.number refl))

          others : (z : Numbered T) → (z.number ≡ x.number → ⊥) → new z ≡ z
          others z apart =
              new-stays z (ap (λ (o : Option ℕ). is_number o z.number) is ∙ ne_eqb x.number z.number (λ same. apart (sym same)))

      pub relink-held : Ascends items → (place : ℕ) (x : Numbered T) → slice_get items place ≡ Some x → (y : Numbered T) → slice_get items place ≡ Some y → is_key marks_of key y.item ≡ true → {n : ℕ} → number ≡ Some n → y.number ≡ n → slice_set items place (set x) ≡ map new items
      relink-held ascends place x at y there has is same =
          let one : x ≡ y = same_Some x y (sym at ∙ there) in
          relink-some ascends place x at (ap (λ (z : Numbered T). is_key marks_of key z.item) one ∙ has)
          (is ∙ ap (λ (k : ℕ). Some k) (sym (ap (λ (z : Numbered T). z.number) one ∙ same)))

      -- or none
      pub relink-none : number ≡ None → items ≡ map new items
      relink-none is =
          sym (map-stays new items (λ k y at. new-stays y (ap (λ (o : Option ℕ). is_number o y.number) is)))

module _ {T : Type 0} (marks_of : T → Marks) where
  -- items are found and linked by a key
  pub record IsReady (key : Key) (items : List (Numbered T)) (index : List Mark) : Type 0 where
    pub found : IsFound marks_of key items index
    pub linked : IsLinked marks_of key items

  module _ (key : Key) (items new : List (Numbered T)) (done : IsRelinked marks_of key items new) where
    pub bare-done : map bare new ≡ map bare items
    bare-done = ap (map bare) done.are ∙ bare-map done.change done.same items

    -- the item at a place has the same keys
    pub has-new : (place : ℕ) (x : Numbered T) → slice_get items place ≡ Some x → (other : Key) → is_key marks_of other x.item ≡ true → IfSome (slice_get new place) (λ y. is_key marks_of other y.item ≡ true)
    has-new place x at other has =
        subst (λ o. IfSome o (λ (y : Numbered T). is_key marks_of other y.item ≡ true))
        (sym (ap (λ l. slice_get l place) done.are ∙ slice_get-map done.change items place ∙ ap (option_map done.change) at))
        (ap (is_key marks_of other) (bare-item done.change done.same x) ∙ has)

  module _ (key : Key) (place : ℕ) (items new : List (Numbered T)) (index new_index : List Mark) (done : IsUnlinked marks_of key place items new index new_index) (other : Key) (apart : same_key key other ≡ false) where
    abbrev change : Numbered T → Numbered T
    change = done.relinked.change

    ready-map : (some : List (Numbered T)) → IsReady other some index → IsReady other (map change some) new_index
    ready-map some is = record {
      found =
          done.others other apart
          ∙ found-mapped marks_of change some (λ y among. bare-number change done.relinked.same y) (λ y among. ap marks_of (bare-item change done.relinked.same y)) other index is.found;
      linked =
          linked-mapped marks_of change some (λ y among. bare-number change done.relinked.same y) (λ y among. ap marks_of (bare-item change done.relinked.same y)) other (λ z among has.
          subst (λ (o : Link). IsLink marks_of other some z o) (sym (done.relinked.others other apart z has)) (linked-at marks_of other some is.linked z among has));
    }

    pub ready-new : IsReady other items index → IsReady other new new_index
    ready-new is =
        subst (λ (l : List (Numbered T)). IsReady other l new_index) (sym done.relinked.are) (ready-map items is)

    pub ready-left : IsReady other (remove items place) index → IsReady other (remove new place) new_index
    ready-left is =
        subst (λ (l : List (Numbered T)). IsReady other l new_index)
        (map-remove change items place ∙ ap (λ (l : List (Numbered T)). remove l place) (sym done.relinked.are))
        (ready-map (remove items place) is)
