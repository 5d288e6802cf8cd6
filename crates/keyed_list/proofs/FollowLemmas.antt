-- The last item of each key of an item is linked to it.
use Rattle.std.proofs.Common.{◌≡◌, ℕ, ◌<◌, ◌&&◌, ◌||◌, Bool, true, false, cond, List, map, All, Option, None, Some, IfSome, Equal, refl, sym, ap, subst, ◌∙◌, arith}
use Rattle.std.specs.Option.{option_map}
use Rattle.std.proofs.lemmas.Bool.{ne_eqb}
use Rattle.keyed_list.specs.Keyed.{Ascends, has_key, is_key, is_number, is_other, last_of, link_of, relinked, with_behind, Holds, IsFollowed}
use Rattle.keyed_list.specs.Keys.{key_order, same_key}
use Rattle.keyed_list.specs.declared.key.Key.{Key}
use Rattle.keyed_list.specs.declared.keyed.Link.{Link}
use Rattle.keyed_list.specs.declared.keyed.Marks.{Marks}
use Rattle.keyed_list.specs.declared.keyed.Numbered.{Numbered}
use Rattle.keyed_list.proofs.AmongLemmas.{among-all}
use Rattle.keyed_list.proofs.BareLemmas.{bare-ascends}
use Rattle.keyed_list.proofs.LastLemmas.{last-among, last-same}
use Rattle.keyed_list.proofs.LinkLemmas.{last-holds}
use Rattle.keyed_list.proofs.MapLemmas.{next-mapped}
use Rattle.keyed_list.proofs.MarkLemmas.{only-key}
use Rattle.keyed_list.proofs.OrderLemmas.{has_key-alike, same-right, ties}
use Rattle.keyed_list.proofs.RelinkLemmas.{bare-item, bare-map, bare-new, bare-number, link-other, link-own, map-map, new-stays}

module _ {T : Type 0} (marks_of : T → Marks) (number : ℕ) (items : List (Numbered T)) where
  abbrev to : Link → Link
  to = with_behind (Some number)

  abbrev last : Key → Option ℕ
  last key = option_map (λ y. y.number) (last_of marks_of key items)

  module _ (first : Key) (before : Option ℕ) (is : before ≡ last first) where
    abbrev new : Numbered T → Numbered T
    new y = relinked marks_of first before to y

    new-links : (key : Key) (y : Numbered T) → is_key marks_of key y.item ≡ true → link_of marks_of key (new y) ≡ cond (same_key first key && is_number (last key) y.number) (to (link_of marks_of key y)) (link_of marks_of key y)
    new-links key y has = by (same_key first key) refl
      where
        by : (b : Bool) → same_key first key ≡ b → link_of marks_of key (new y) ≡ cond (b && is_number (last key) y.number) (to (link_of marks_of key y)) (link_of marks_of key y)
        by false apart = link-other marks_of first before to key apart y has
        by true same =
            let tied : key_order first key ≡ Equal = ties first key same in
            let alike : (z : Numbered T) → link_of marks_of first z ≡ link_of marks_of key z = λ z. ap (λ (same : Bool). cond same z.link z.other_link) (same-right first key (marks_of z.item).key tied) in
            let lasts : before ≡ last key = is ∙ ap (option_map (λ z. z.number)) (last-same (λ z. is_key marks_of first z.item) (λ z. is_key marks_of key z.item) None items (λ z among. has_key-alike (marks_of z.item) first key tied)) in
            sym (alike (new y))
            ∙ link-own marks_of first before to y (has_key-alike (marks_of y.item) first key tied ∙ has)
            ∙ ap (λ (l : Link). cond (is_number before y.number) (to l) l) (alike y)
            ∙ ap (λ (o : Option ℕ). cond (is_number o y.number) (to (link_of marks_of key y)) (link_of marks_of key y)) lasts

    new-same : (y : Numbered T) → All (λ z. z.number < y.number) items → new y ≡ y
    new-same y all =
        new-stays marks_of first before to y (ap (λ (o : Option ℕ). is_number o y.number) is ∙ by (last_of marks_of first items) refl)
      where
        by : (o : Option (Numbered T)) → last_of marks_of first items ≡ o → is_number (option_map (λ z. z.number) o) y.number ≡ false
        by None none = refl
        by (Some z) some =
            let less = among-all (λ (z : Numbered T). z.number < y.number) items z all (last-among (λ z. is_key marks_of first z.item) items z some) in
            ne_eqb z.number y.number (λ same. absurd (omega (arith, less, same)))

    pub holds-first : IfSome before (Holds marks_of first items)
    holds-first = last-holds marks_of first items (λ y. is_key marks_of first y.item) (λ y passes. passes) before is

  module _ (marks : Marks) (before : Option ℕ) (first : before ≡ last marks.key) where
    abbrev one : Numbered T → Numbered T
    one y = relinked marks_of marks.key before to y

    pub followed-one : marks.other ≡ None → (some : List (Numbered T)) → some ≡ map one items → IsFollowed marks_of marks number items some
    followed-one none some are = record {
      change = one;
      same = bare-new marks_of marks.key before to;
      links = λ key y has.
          new-links marks.key before first key y has
          ∙ ap (λ b. cond (b && is_number (last key) y.number) (to (link_of marks_of key y)) (link_of marks_of key y)) (only-key marks none key);
      stays = new-same marks.key before first;
      are = are;
    }

    module _ (other : Key) (is : marks.other ≡ Some other) (other_before : Option ℕ) (second : IfSome marks.other (λ other. other_before ≡ last other)) (mid : List (Numbered T)) (mid_are : mid ≡ map one items) where
      second-is : other_before ≡ last other
      second-is = subst (λ (o : Option Key). IfSome o (λ other. other_before ≡ last other)) is second

      same-one : (y : Numbered T) → (one y).number ≡ y.number
      same-one y = bare-number one (bare-new marks_of marks.key before to) y

      item-one : (y : Numbered T) → (one y).item ≡ y.item
      item-one y = bare-item one (bare-new marks_of marks.key before to) y

      pub ascends-mid : Ascends items → Ascends mid
      ascends-mid ascends =
          bare-ascends mid items (ap (map _) mid_are ∙ bare-map one (bare-new marks_of marks.key before to) items) ascends

      pub holds-second : IfSome other_before (Holds marks_of other mid)
      holds-second =
          subst (λ (l : List (Numbered T)). IfSome other_before (Holds marks_of other l)) (sym mid_are)
          (next-mapped marks_of one items (λ y among. same-one y) (λ y among. ap marks_of (item-one y)) other other_before (holds-first other other_before second-is))

      abbrev two : Numbered T → Numbered T
      two y = relinked marks_of other other_before to y

      pub followed-two : (some : List (Numbered T)) → some ≡ map two mid → IsFollowed marks_of marks number items some
      followed-two some are = record {
        change = λ y. two (one y);
        same = λ y. bare-new marks_of other other_before to (one y) ∙ bare-new marks_of marks.key before to y;
        links = links;
        stays = λ y all. ap two (new-same marks.key before first y all) ∙ new-same other other_before second-is y all;
        are = are ∙ ap (map two) mid_are ∙ map-map two one items;
      }
        where
          both : (a b c : Bool) (l : Link) → cond (b && c) (to (cond (a && c) (to l) l)) (cond (a && c) (to l) l) ≡ cond ((a || b) && c) (to l) l
          both true true true l = refl
          both true true false l = refl
          both true false true l = refl
          both true false false l = refl
          both false true true l = refl
          both false true false l = refl
          both false false c l = refl

          links : (key : Key) (y : Numbered T) → is_key marks_of key y.item ≡ true → link_of marks_of key (two (one y)) ≡ cond (has_key marks key && is_number (last key) y.number) (to (link_of marks_of key y)) (link_of marks_of key y)
          links key y has =
              new-links other other_before second-is key (one y) (ap (is_key marks_of key) (item-one y) ∙ has)
              ∙ ap (λ (l : Link). cond (same_key other key && is_number (last key) (one y).number) (to l) l) (new-links marks.key before first key y has)
              ∙ ap (λ (n : ℕ). cond (same_key other key && is_number (last key) n) (to (cond (same_key marks.key key && is_number (last key) y.number) (to (link_of marks_of key y)) (link_of marks_of key y))) (cond (same_key marks.key key && is_number (last key) y.number) (to (link_of marks_of key y)) (link_of marks_of key y))) (same-one y)
              ∙ both (same_key marks.key key) (same_key other key) (is_number (last key) y.number) (link_of marks_of key y)
              ∙ ap (λ (o : Option Key). cond ((same_key marks.key key || is_other o key) && is_number (last key) y.number) (to (link_of marks_of key y)) (link_of marks_of key y)) (sym is)
