-- All keys lead past an item that goes.
use Rattle.std.proofs.Common.{◌≡◌, ℕ, ◌&&◌, ◌||◌, Bool, true, false, cond, List, remove, slice_get, Option, None, Some, IfSome, Equal, inl, inr, refl, sym, ap, subst, ◌∙◌, ◌==◌, nat_lt}
use Rattle.std.specs.Option.{option_map}
use Rattle.std.proofs.lemmas.Bool.{both_ways, cases_Bool}
use Rattle.keyed_list.specs.Keyed.{Ascends, has_key, is_below, is_key, is_other, is_under, link_of, Holds, IsLink, IsUnlinked}
use Rattle.keyed_list.specs.Keys.{key_order, same_key}
use Rattle.keyed_list.specs.declared.key.Key.{Key}
use Rattle.keyed_list.specs.declared.key.Mark.{Mark}
use Rattle.keyed_list.specs.declared.keyed.Link.{Link}
use Rattle.keyed_list.specs.declared.keyed.Marks.{Marks}
use Rattle.keyed_list.specs.declared.keyed.Numbered.{Numbered}
use Rattle.keyed_list.proofs.AmongLemmas.{among-any, any-among}
use Rattle.keyed_list.proofs.LastLemmas.{last-passes, last-same}
use Rattle.keyed_list.proofs.LinkLemmas.{linked-other}
use Rattle.keyed_list.proofs.MapLemmas.{linked-at, linked-each}
use Rattle.keyed_list.proofs.MarkLemmas.{number-alike}
use Rattle.keyed_list.proofs.NumberLemmas.{last-left}
use Rattle.keyed_list.proofs.OrderLemmas.{has_key-alike, same_key-itself, same-left, same-right, ties}
use Rattle.keyed_list.proofs.RelinkLemmas.{ready-left, ready-new, IsReady}

-- ### the keys of an item

first-true : (a b : Bool) → (a || b) ≡ true → b ≡ false → a ≡ true
first-true true b either apart = refl
first-true false b either apart = absurd (both_ways b apart either)

second-too : (a b : Bool) → b ≡ true → (a || b) ≡ true
second-too true b is = refl
second-too false b is = is

-- marks with one key
pub only-one : (marks : Marks) → marks.other ≡ None → (key : Key) → has_key marks key ≡ true → same_key marks.key key ≡ true
only-one marks is key has =
    first-true (same_key marks.key key) (is_other marks.other key) has (ap (λ (o : Option Key). is_other o key) is)

module _ (marks : Marks) (other : Key) (is : marks.other ≡ Some other) where
  told : (key : Key) → has_key marks key ≡ true → (same_key marks.key key || same_key other key) ≡ true
  told key has = sym (ap (λ (o : Option Key). same_key marks.key key || is_other o key) is) ∙ has

  pub has-other : has_key marks other ≡ true
  has-other =
      second-too (same_key marks.key other) (is_other marks.other other) (ap (λ (o : Option Key). is_other o other) is ∙ same_key-itself other)

  -- with two keys
  pub only-two : (key : Key) → has_key marks key ≡ true → same_key other key ≡ false → same_key marks.key key ≡ true
  only-two key has apart = first-true (same_key marks.key key) (same_key other key) (told key has) apart

  -- with two that tie
  pub only-same : same_key marks.key other ≡ true → (key : Key) → has_key marks key ≡ true → same_key marks.key key ≡ true
  only-same same key has = elim (cases_Bool (same_key other key)) [
    | inl second ↦ same-left marks.key other key (ties marks.key other same) ∙ second
    | inr apart ↦ only-two key has apart
  ]

-- ### found and linked

module _ {T : Type 0} (marks_of : T → Marks) where
  -- keys that tie lead alike
  module _ (a b : Key) (tied : key_order a b ≡ Equal) (items : List (Numbered T)) where
    key-alike : (y : Numbered T) → is_key marks_of a y.item ≡ is_key marks_of b y.item
    key-alike y = has_key-alike (marks_of y.item) a b tied

    link-alike : (y : Numbered T) → link_of marks_of a y ≡ link_of marks_of b y
    link-alike y = ap (λ same. cond same y.link y.other_link) (same-right a b (marks_of y.item).key tied)

    next-alike : (o : Option ℕ) → IfSome o (Holds marks_of a items) → IfSome o (Holds marks_of b items)
    next-alike None next = tt
    next-alike (Some number) next =
        let one = among-any (λ y. is_key marks_of a y.item && (y.number == number)) items next in
        any-among (λ y. is_key marks_of b y.item && (y.number == number)) items one.item
        (ap (λ has. has && ((one.item).number == number)) (sym (key-alike one.item)) ∙ one.passes) one.among

    pub ready-alike : (index : List Mark) → IsReady marks_of a items index → IsReady marks_of b items index
    ready-alike index is = record {
      found =
          sym (number-alike a b index tied)
          ∙ is.found
          ∙ ap (option_map (λ y. y.number)) (last-same (λ y. is_key marks_of a y.item) (λ y. is_key marks_of b y.item) None items (λ y among. key-alike y));
      linked = linked-each marks_of b items (λ y among has.
          let link = linked-at marks_of a items is.linked y among (key-alike y ∙ has) in
          subst (λ (o : Link). IsLink marks_of b items y o) (link-alike y) (record {
            before =
                link.before
                ∙ ap (option_map (λ z. z.number)) (last-same (is_below marks_of a y.number) (is_below marks_of b y.number) None items (λ z among. ap (λ has. has && nat_lt z.number y.number) (key-alike z)));
            behind =
                sym (last-same (λ z. is_key marks_of a z.item && is_under (link_of marks_of a y).behind z.number) (λ z. is_key marks_of b z.item && is_under (link_of marks_of a y).behind z.number) None items (λ z among. ap (λ has. has && is_under (link_of marks_of a y).behind z.number) (key-alike z)))
                ∙ link.behind;
            next = next-alike (link_of marks_of a y).behind link.next;
          }));
    }

  module _ (items : List (Numbered T)) (index : List Mark) (place : ℕ) (x : Numbered T) (ascends : Ascends items) (at : slice_get items place ≡ Some x) (ready : (key : Key) → IsReady marks_of key items index) where
    -- a key that the item doesn't have
    ready-without : (key : Key) → is_key marks_of key x.item ≡ false → IsReady marks_of key (remove items place) index
    ready-without key lacks = record {
      found =
          (ready key).found
          ∙ sym (ap (option_map (λ y. y.number)) (last-left items place x ascends at (λ y. is_key marks_of key y.item) (λ last. both_ways _ lacks (last-passes (λ y. is_key marks_of key y.item) items x last))));
      linked = linked-other marks_of key items ascends place x at (ready key).linked lacks;
    }

    module _ (first : Key) (mid : List (Numbered T)) (mid_index : List Mark) (one : IsUnlinked marks_of first place items mid index mid_index) where
      -- the item has one key
      pub one-key : ((key : Key) → is_key marks_of key x.item ≡ true → same_key first key ≡ true) → (key : Key) → IsReady marks_of key (remove mid place) mid_index
      one-key only key = elim (cases_Bool (same_key first key)) [
        | inl same ↦
            ready-alike first key (ties first key same) (remove mid place) mid_index (record { found = one.found; linked = one.linked })
        | inr apart ↦ ready-left marks_of first place items mid index mid_index one key apart (ready-without key (lacks key apart))
      ]
        where
          lacks : (key : Key) → same_key first key ≡ false → is_key marks_of key x.item ≡ false
          lacks key apart = elim (cases_Bool (is_key marks_of key x.item)) [
            | inl has ↦ absurd (both_ways _ apart (only key has))
            | inr never ↦ never
          ]

      -- once the first key leads past it, others lead where they led
      pub first-done : (key : Key) → same_key first key ≡ false → IsReady marks_of key mid mid_index
      first-done key apart = ready-new marks_of first place items mid index mid_index one key apart (ready key)

      -- the item has two
      pub two-keys : (second : Key) (new : List (Numbered T)) (new_index : List Mark) → IsUnlinked marks_of second place mid new mid_index new_index
          → ((key : Key) → is_key marks_of key x.item ≡ true → same_key second key ≡ false → same_key first key ≡ true)
          → (key : Key) → IsReady marks_of key (remove new place) new_index
      two-keys second new new_index two only key = elim (cases_Bool (same_key second key)) [
        | inl same ↦
            ready-alike second key (ties second key same) (remove new place) new_index (record { found = two.found; linked = two.linked })
        | inr apart ↦
            ready-left marks_of second place mid new mid_index new_index two key apart (by apart (same_key first key) refl)
      ]
        where
          by : same_key second key ≡ false → (b : Bool) → same_key first key ≡ b → IsReady marks_of key (remove mid place) mid_index
          by apart true same =
              ready-alike first key (ties first key same) (remove mid place) mid_index (record { found = one.found; linked = one.linked })
          by apart false other =
              ready-left marks_of first place items mid index mid_index one key other (ready-without key (elim (cases_Bool (is_key marks_of key x.item)) [
                | inl has ↦ absurd (both_ways _ other (only key has apart))
                | inr lacks ↦ lacks
              ]))
