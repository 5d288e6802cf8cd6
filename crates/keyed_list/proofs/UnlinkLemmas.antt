-- A key that leads past an item that goes.
use Rattle.std.proofs.Common.{◌≡◌, ℕ, ◌<◌, ◌&&◌, Bool, true, false, cond, List, map, remove, slice_get, Option, None, Some, IfSome, is_some, inl, inr, refl, sym, ap, subst, ◌∙◌, arith}
use Rattle.std.specs.Option.{option_map}
use Rattle.std.proofs.Math.Bool.{and-true}
use Rattle.std.proofs.lemmas.Bool.{and_parts, both_ways}
use Rattle.std.proofs.lemmas.Option.{same_Some}
use Rattle.keyed_list.specs.Keyed.{bare, Ascends, is_below, is_key, is_number, is_under, last_of, link_of, number_of, relinked, with_before, with_behind, Holds, IsFound, IsLink, IsLinked, IsRelinked, IsUnlinked}
use Rattle.keyed_list.specs.Keys.{same_key}
use Rattle.keyed_list.specs.Lists.{last_where}
use Rattle.keyed_list.specs.declared.key.Key.{Key}
use Rattle.keyed_list.specs.declared.key.Mark.{Mark}
use Rattle.keyed_list.specs.declared.keyed.Link.{Link}
use Rattle.keyed_list.specs.declared.keyed.Marks.{Marks}
use Rattle.keyed_list.specs.declared.keyed.Numbered.{Numbered}
use Rattle.keyed_list.proofs.AmongLemmas.{among-at, among-remove, Among}
use Rattle.keyed_list.proofs.BareLemmas.{bare-ascends}
use Rattle.keyed_list.proofs.EditLemmas.{map-remove}
use Rattle.keyed_list.proofs.FitsLemmas.{below-number}
use Rattle.keyed_list.proofs.LastLemmas.{last-among, last-passes, last-same, some-last}
use Rattle.keyed_list.proofs.LinkLemmas.{apart-left, behind-is, holder, is-number, last-holds, last-under, next-left, none-behind, number-is}
use Rattle.keyed_list.proofs.MapLemmas.{found-mapped, linked-at, linked-mapped, next-mapped}
use Rattle.keyed_list.proofs.NumberLemmas.{last-left, same-number, Lower}
use Rattle.keyed_list.proofs.OrderLemmas.{same_key-itself}
use Rattle.keyed_list.proofs.RelinkLemmas.{bare-item, bare-map, bare-new, bare-number, link-other, link-own, map-map}

pub not-some : (o : Option ℕ) → is_some o ≡ false → o ≡ None
not-some None none = refl
not-some (Some n) none = absurd (cc none)

module _ {T : Type 0} (marks_of : T → Marks) (key : Key) (items : List (Numbered T)) (place : ℕ) (x : Numbered T) (ascends : Ascends items) (at : slice_get items place ≡ Some x) (linked : IsLinked marks_of key items) (has : is_key marks_of key x.item ≡ true) (link : Link) (link_is : link ≡ link_of marks_of key x) where
  abbrev left : List (Numbered T)
  left = remove items place

  is : IsLink marks_of key items x link
  is =
      subst (λ (l : Link). IsLink marks_of key items x l) (sym link_is) (linked-at marks_of key items linked x (among-at items place x at) has)

  -- ### the neighbours

  abbrev one : Numbered T → Numbered T
  one y = relinked marks_of key link.before (with_behind link.behind) y

  abbrev two : Numbered T → Numbered T
  two y = relinked marks_of key link.behind (with_before link.before) y

  abbrev mid : List (Numbered T)
  mid = map one items

  pub holds-before : IfSome link.before (Holds marks_of key items)
  holds-before =
      last-holds marks_of key items (is_below marks_of key x.number) (λ y passes. (and_parts (is_key marks_of key y.item) _ passes).0) link.before is.before

  pub holds-behind : IfSome link.behind (Holds marks_of key mid)
  holds-behind =
      next-mapped marks_of one items (λ y among. bare-number one (bare-new marks_of key link.before (with_behind link.behind)) y) (λ y among. ap marks_of (bare-item one (bare-new marks_of key link.before (with_behind link.behind)) y)) key link.behind is.next

  pub ascends-mid : Ascends mid
  ascends-mid =
      bare-ascends mid items (bare-map one (bare-new marks_of key link.before (with_behind link.behind)) items) ascends

  -- the link of an item, once the neighbours are linked to each other
  abbrev passed : Numbered T → Link
  passed z = record {
    before = cond (is_number link.behind z.number) link.before (link_of marks_of key z).before;
    behind = cond (is_number link.before z.number) link.behind (link_of marks_of key z).behind;
  }

  link-passed : (z : Numbered T) → is_key marks_of key z.item ≡ true → link_of marks_of key (two (one z)) ≡ passed z
  link-passed z held =
      link-own marks_of key link.behind (with_before link.before) (one z) (ap (is_key marks_of key) (bare-item one (bare-new marks_of key link.before (with_behind link.behind)) z) ∙ held)
      ∙ ap (λ (l : Link). cond (is_number link.behind (one z).number) (with_before link.before l) l) (link-own marks_of key link.before (with_behind link.behind) z held)
      ∙ ap (λ n. cond (is_number link.behind n) (with_before link.before (cond (is_number link.before z.number) (with_behind link.behind now) now)) (cond (is_number link.before z.number) (with_behind link.behind now) now)) (bare-number one (bare-new marks_of key link.before (with_behind link.behind)) z)
      ∙ by (is_number link.behind z.number) (is_number link.before z.number)
    where
      now : Link
      now = link_of marks_of key z

      by : (a b : Bool) → cond a (with_before link.before (cond b (with_behind link.behind now) now)) (cond b (with_behind link.behind now) now) ≡ record { before = cond a link.before now.before; behind = cond b link.behind now.behind }
      by true true = refl
      by true false = refl
      by false true = refl
      by false false = refl

  module _ (z : Numbered T) (among : Among z left) (held : is_key marks_of key z.item ≡ true) where
    there : Among z items
    there = among-remove items place z among

    old : IsLink marks_of key items z (link_of marks_of key z)
    old = linked-at marks_of key items linked z there held

    passed-before : (b : Bool) → is_number link.behind z.number ≡ b → cond b link.before (link_of marks_of key z).before ≡ option_map (λ y. y.number) (last_where (is_below marks_of key z.number) left)
    passed-before true to =
        is.before
        ∙ sym (ap (option_map (λ y. y.number)) (last-under marks_of key items ascends place x at (Some z.number) (subst (λ (o : Option ℕ). last_where (λ y. is_key marks_of key y.item && is_under o y.number) items ≡ Some x) (number-is link.behind z.number to) is.behind)))
    passed-before false to =
        old.before
        ∙ sym (ap (option_map (λ y. y.number)) (last-left items place x ascends at (is_below marks_of key z.number) (λ last.
        both_ways _ to (is-number link.behind z.number (behind-is marks_of key items ascends x z link is there held last)))))

    -- the last one before the item that goes
    is-before : link.before ≡ Some z.number → last_where (is_below marks_of key x.number) items ≡ Some z
    is-before to = by (last_where (is_below marks_of key x.number) items) refl
      where
        by : (o : Option (Numbered T)) → last_where (is_below marks_of key x.number) items ≡ o → o ≡ Some z
        by None none = absurd (cc (sym to ∙ is.before ∙ ap (option_map (λ y. y.number)) none))
        by (Some y) some =
            ap (λ (y : Numbered T). Some y)
            (same-number items y z ascends (last-among (is_below marks_of key x.number) items y some) there
            (same_Some y.number z.number (sym (sym to ∙ is.before ∙ ap (option_map (λ y. y.number)) some))))

    passed-behind : (b : Bool) → is_number link.before z.number ≡ b → last_where (λ y. is_key marks_of key y.item && is_under (cond b link.behind (link_of marks_of key z).behind) y.number) left ≡ Some z
    passed-behind true to =
        last-under marks_of key items ascends place x at link.behind is.behind ∙ is-before (number-is link.before z.number to)
    passed-behind false to =
        last-left items place x ascends at (λ y. is_key marks_of key y.item && is_under (link_of marks_of key z).behind y.number) (λ last. apart-left marks_of key items ascends place x at z among (sym old.behind ∙ last))
        ∙ old.behind

    passed-next : (b : Bool) → is_number link.before z.number ≡ b → IfSome (cond b link.behind (link_of marks_of key z).behind) (Holds marks_of key left)
    passed-next true to = next-left marks_of key items ascends place x at link.behind is.next (λ itself.
        let last = subst (λ (o : Option ℕ). last_where (λ y. is_key marks_of key y.item && is_under o y.number) items ≡ Some x) itself is.behind in
        let less : x.number < x.number = below-number marks_of key x.number x (last-passes (is_below marks_of key x.number) items x last) in
        omega (arith, less))
    passed-next false to = next-left marks_of key items ascends place x at (link_of marks_of key z).behind old.next (λ here.
        let last = subst (λ (o : Option ℕ). last_where (λ y. is_key marks_of key y.item && is_under o y.number) items ≡ Some z) here old.behind in
        both_ways _ to (is-number link.before z.number (is.before ∙ ap (option_map (λ y. y.number)) last)))

    passed-is : IsLink marks_of key left z (link_of marks_of key (two (one z)))
    passed-is = subst (λ (l : Link). IsLink marks_of key left z l) (sym (link-passed z held)) (record {
      before = passed-before (is_number link.behind z.number) refl;
      behind = passed-behind (is_number link.before z.number) refl;
      next = passed-next (is_number link.before z.number) refl;
    })

  -- ### the mark

  -- where there is none behind, the key has a mark
  pub marked : (index : List Mark) → IsFound marks_of key items index → link.behind ≡ None → is_some (number_of key index) ≡ true
  marked index found none =
      ap is_some (found ∙ ap (option_map (λ y. y.number)) (none-behind marks_of key items x link is none))

  left-last : link.behind ≡ None → option_map (λ y. y.number) (last_of marks_of key left) ≡ link.before
  left-last none =
      ap (option_map (λ y. y.number)) (last-same (λ y. is_key marks_of key y.item) (λ y. is_key marks_of key y.item && true) None left (λ y among. sym (and-true (is_key marks_of key y.item))))
      ∙ ap (option_map (λ y. y.number)) (last-under marks_of key items ascends place x at None (subst (λ (o : Option ℕ). last_where (λ y. is_key marks_of key y.item && is_under o y.number) items ≡ Some x) none is.behind))
      ∙ sym is.before

  left-stays : (m : ℕ) → link.behind ≡ Some m → option_map (λ y. y.number) (last_of marks_of key left) ≡ option_map (λ y. y.number) (last_of marks_of key items)
  left-stays m some =
      ap (option_map (λ y. y.number)) (last-left items place x ascends at (λ y. is_key marks_of key y.item) (λ last.
      let next = holder marks_of key items m (subst (λ (o : Option ℕ). IfSome o (Holds marks_of key items)) some is.next) in
      let behind = subst (λ (o : Option ℕ). last_where (λ y. is_key marks_of key y.item && is_under o y.number) items ≡ Some x) some is.behind in
      let less : x.number < m = below-number marks_of key m x (last-passes (is_below marks_of key m) items x behind) in
      elim ((some-last (λ y. is_key marks_of key y.item) Lower items x ascends last).others next.item next.among next.has) [
        | inl same ↦ omega (arith, less, next.same, ap (λ (y : Numbered T). y.number) same)
        | inr lower ↦ omega (arith, less, next.same, lower)
      ]))

  -- ### all

  module _ (index new_index : List Mark) (new : List (Numbered T)) (are : new ≡ map two mid) where
    abbrev change : Numbered T → Numbered T
    change y = two (one y)

    same : (y : Numbered T) → bare (change y) ≡ bare y
    same y =
        bare-new marks_of key link.behind (with_before link.before) (one y) ∙ bare-new marks_of key link.before (with_behind link.behind) y

    changed : new ≡ map change items
    changed = are ∙ map-map two one items

    relinked-is : IsRelinked marks_of key items new
    relinked-is = record {
      change = change;
      same = same;
      others = λ other apart y has.
          link-other marks_of key link.behind (with_before link.before) other apart (one y) (ap (is_key marks_of other) (bare-item one (bare-new marks_of key link.before (with_behind link.behind)) y) ∙ has)
          ∙ link-other marks_of key link.before (with_behind link.behind) other apart y has;
      are = changed;
    }

    removed : map change left ≡ remove new place
    removed = map-remove change items place ∙ ap (λ (l : List (Numbered T)). remove l place) (sym changed)

    unlinked : ((other : Key) → same_key key other ≡ false → number_of other new_index ≡ number_of other index) → number_of key new_index ≡ option_map (λ y. y.number) (last_of marks_of key left) → IsUnlinked marks_of key place items new index new_index
    unlinked others found = record {
      relinked = relinked-is;
      others = others;
      found = subst (λ (l : List (Numbered T)). IsFound marks_of key l new_index) removed
          (found-mapped marks_of change left (λ y among. bare-number change same y) (λ y among. ap marks_of (bare-item change same y)) key new_index found);
      linked = subst (λ (l : List (Numbered T)). IsLinked marks_of key l) removed
          (linked-mapped marks_of change left (λ y among. bare-number change same y) (λ y among. ap marks_of (bare-item change same y)) key (λ z among held. passed-is z among held));
    }

    -- there is none behind: the mark turns back
    pub unlinked-last : link.behind ≡ None → ((other : Key) → number_of other new_index ≡ cond (same_key key other) link.before (number_of other index)) → IsUnlinked marks_of key place items new index new_index
    unlinked-last none numbers =
        unlinked (λ other apart. numbers other ∙ ap (λ b. cond b link.before (number_of other index)) apart)
        (numbers key ∙ ap (λ b. cond b link.before (number_of key index)) (same_key-itself key) ∙ sym (left-last none))

    -- or there is one
    pub unlinked-behind : IsFound marks_of key items index → is_some link.behind ≡ true → new_index ≡ index → IsUnlinked marks_of key place items new index new_index
    unlinked-behind found some same =
        unlinked (λ other apart. ap (number_of other) same) (ap (number_of key) same ∙ found ∙ by link.behind refl some)
      where
        by : (o : Option ℕ) → link.behind ≡ o → is_some o ≡ true → option_map (λ y. y.number) (last_of marks_of key items) ≡ option_map (λ y. y.number) (last_of marks_of key left)
        by None none some = absurd (cc some)
        by (Some m) is some = sym (left-stays m is)
