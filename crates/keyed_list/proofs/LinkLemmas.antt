-- The links of items, where one of them goes.
use Rattle.std.proofs.Common.{◌≡◌, ℕ, ◌<◌, ◌==◌, ◌&&◌, Bool, true, false, List, remove, slice_get, Option, None, Some, IfSome, inl, inr, refl, sym, ap, subst, ◌∙◌, arith}
use Rattle.std.specs.Option.{option_map}
use Rattle.std.proofs.Math.Bool.{and-true}
use Rattle.std.proofs.lemmas.Bool.{and_from, and_parts, both_ways, cases_order, eq-eqb, eqb-true, lt-ltb, ltb-true}
use Rattle.std.proofs.lemmas.Option.{same_Some}
use Rattle.keyed_list.specs.Keyed.{Ascends, is_below, is_key, is_number, is_under, last_of, link_of, Holds, IsLink, IsLinked}
use Rattle.keyed_list.specs.Lists.{last_where}
use Rattle.keyed_list.specs.declared.key.Key.{Key}
use Rattle.keyed_list.specs.declared.keyed.Link.{Link}
use Rattle.keyed_list.specs.declared.keyed.Marks.{Marks}
use Rattle.keyed_list.specs.declared.keyed.Numbered.{Numbered}
use Rattle.keyed_list.proofs.AmongLemmas.{among-any, among-at, among-remove, any-among, Among}
use Rattle.keyed_list.proofs.FitsLemmas.{below-number}
use Rattle.keyed_list.proofs.LastLemmas.{last-among, last-passes, last-same, some-last, IsLast}
use Rattle.keyed_list.proofs.MapLemmas.{linked-at, linked-each}
use Rattle.keyed_list.proofs.NumberLemmas.{ascends-left, last-agree, last-left, left-other, other-number, same-number, Lower}

pub number-is : (o : Option ℕ) (number : ℕ) → is_number o number ≡ true → o ≡ Some number
number-is None number is = absurd (cc is)
number-is (Some n) number is = ap (λ (k : ℕ). Some k) (eqb-true n number is)

pub is-number : (o : Option ℕ) (number : ℕ) → o ≡ Some number → is_number o number ≡ true
is-number o number is = ap (λ (p : Option ℕ). is_number p number) is ∙ eq-eqb number number refl

under-lower : (bound : Option ℕ) (n m : ℕ) → n < m → is_under bound m ≡ true → is_under bound n ≡ true
under-lower None n m less is = refl
under-lower (Some bound) n m less is = let lower = ltb-true m bound is in lt-ltb n bound (omega (arith, less, lower))

module _ {T : Type 0} (marks_of : T → Marks) (key : Key) (items : List (Numbered T)) where
  -- the item that has a key and a number
  pub record IsHolder (number : ℕ) : Type 0 where
    pub item : Numbered T
    pub among : Among item items
    pub has : is_key marks_of key item.item ≡ true
    pub same : item.number ≡ number

  pub holder : (number : ℕ) → Holds marks_of key items number → IsHolder number
  holder number held =
      let one = among-any (λ y. is_key marks_of key y.item && (y.number == number)) items held in
      let parts = and_parts (is_key marks_of key (one.item).item) ((one.item).number == number) one.passes in
      record { item = one.item; among = one.among; has = parts.0; same = eqb-true _ _ parts.1 }

  pub held : (o : Option ℕ) → IfSome o (Holds marks_of key items) → (number : ℕ) → o ≡ Some number → IsHolder number
  held o is number some = holder number (subst (λ (o : Option ℕ). IfSome o (Holds marks_of key items)) some is)

  pub holds : (y : Numbered T) (number : ℕ) → Among y items → is_key marks_of key y.item ≡ true → y.number ≡ number → Holds marks_of key items number
  holds y number among has same =
      any-among (λ y. is_key marks_of key y.item && (y.number == number)) items y (and_from _ _ has (eq-eqb y.number number same)) among

  -- the last one of those that have the key and pass
  pub last-holds : (test : Numbered T → Bool) → ((y : Numbered T) → test y ≡ true → is_key marks_of key y.item ≡ true) → (o : Option ℕ) → o ≡ option_map (λ y. y.number) (last_where test items) → IfSome o (Holds marks_of key items)
  last-holds test has o is = subst (λ (o : Option ℕ). IfSome o (Holds marks_of key items)) (sym is) (by (last_where test items) refl)
    where
      by : (l : Option (Numbered T)) → last_where test items ≡ l → IfSome (option_map (λ y. y.number) l) (Holds marks_of key items)
      by None none = tt
      by (Some y) some = holds y y.number (last-among test items y some) (has y (last-passes test items y some)) refl

  -- the link of the item at a place, which has the key
  pub link-at : IsLinked marks_of key items → (place : ℕ) (x : Numbered T) → slice_get items place ≡ Some x → IfSome (slice_get items place) (λ y. is_key marks_of key y.item ≡ true) → (link : Link) → link ≡ link_of marks_of key x → IsLink marks_of key items x link
  link-at linked place x at has link is =
      subst (λ (l : Link). IsLink marks_of key items x l) (sym is)
      (linked-at marks_of key items linked x (among-at items place x at) (subst (λ (o : Option (Numbered T)). IfSome o (λ y. is_key marks_of key y.item ≡ true)) at has))

  -- where none is behind, the item is the last one
  pub none-behind : (x : Numbered T) (link : Link) → IsLink marks_of key items x link → link.behind ≡ None → last_of marks_of key items ≡ Some x
  none-behind x link is none =
      last-same (λ y. is_key marks_of key y.item) (λ y. is_key marks_of key y.item && true) None items (λ y among. sym (and-true (is_key marks_of key y.item)))
      ∙ subst (λ (o : Option ℕ). last_where (λ y. is_key marks_of key y.item && is_under o y.number) items ≡ Some x) none is.behind

  abbrev below : ℕ → Numbered T → Bool
  below bound = is_below marks_of key bound

  abbrev under : Option ℕ → Numbered T → Bool
  under bound y = is_key marks_of key y.item && is_under bound y.number

  module _ (ascends : Ascends items) where
    -- of an item that has the key, the link behind is that of the one before it
    pub behind-is : (z k : Numbered T) (link : Link) → IsLink marks_of key items z link → Among k items → is_key marks_of key k.item ≡ true → last_where (below k.number) items ≡ Some z → link.behind ≡ Some k.number
    behind-is z k link is among has last = by link.behind refl
      where
        lower : z.number < k.number
        lower = below-number marks_of key k.number z (last-passes (below k.number) items z last)

        by : (o : Option ℕ) → link.behind ≡ o → o ≡ Some k.number
        by None none =
            elim ((some-last (under None) Lower items z ascends (subst (λ (o : Option ℕ). last_where (under o) items ≡ Some z) none is.behind)).others k among (and_from _ _ has refl)) [
              | inl same ↦ absurd (omega (arith, lower, ap (λ (y : Numbered T). y.number) same))
              | inr less ↦ absurd (omega (arith, lower, less))
            ]
        by (Some m) some =
            let one = holder m (subst (λ (o : Option ℕ). IfSome o (Holds marks_of key items)) some is.next) in
            let behind : last_where (under (Some m)) items ≡ Some z = subst (λ (o : Option ℕ). last_where (under o) items ≡ Some z) some is.behind in
            let less : z.number < m = below-number marks_of key m z (last-passes (below m) items z behind) in
            elim (cases_order m k.number) [
              | inl same ↦ ap (λ (n : ℕ). Some n) same
              | inr apart ↦ elim apart [
                | inl early ↦ elim ((some-last (below k.number) Lower items z ascends last).others one.item one.among (and_from _ _ one.has (lt-ltb _ _ (omega (arith, early, one.same))))) [
                  | inl same ↦ absurd (omega (arith, less, one.same, ap (λ (y : Numbered T). y.number) same))
                  | inr lesser ↦ absurd (omega (arith, less, one.same, lesser))
                ]
                | inr late ↦ elim ((some-last (under (Some m)) Lower items z ascends behind).others k among (and_from _ _ has (lt-ltb k.number m late))) [
                  | inl same ↦ absurd (omega (arith, lower, ap (λ (y : Numbered T). y.number) same))
                  | inr lesser ↦ absurd (omega (arith, lower, lesser))
                ]
              ]
            ]

    module _ (place : ℕ) (x : Numbered T) (at : slice_get items place ≡ Some x) where
      abbrev left : List (Numbered T)
      left = remove items place

      -- the last one of those below a bound goes: the one before it is the last
      pub last-under : (bound : Option ℕ) → last_where (under bound) items ≡ Some x → last_where (under bound) left ≡ last_where (below x.number) items
      last-under bound is =
          last-agree (under bound) (below x.number) left items (ascends-left items place x ascends at) ascends
          (λ y among passes.
          let there = among-remove items place y among in
          (there, and_from _ _ (and_parts (is_key marks_of key y.item) _ passes).0 (lt-ltb y.number x.number (lower y among there passes))))
          (λ y among passes.
          let less : y.number < x.number = below-number marks_of key x.number y passes in (
            left-other items place x ascends at y (λ same. absurd (omega (arith, same, less))) among,
            and_from _ _ (and_parts (is_key marks_of key y.item) _ passes).0 (under-lower bound y.number x.number less (and_parts (is_key marks_of key x.item) _ last.passes).1),
          ))
        where
          last : IsLast (under bound) Lower items x
          last = some-last (under bound) Lower items x ascends is

          lower : (y : Numbered T) → Among y left → Among y items → under bound y ≡ true → y.number < x.number
          lower y among there passes = elim (last.others y there passes) [
            | inl same ↦ absurd (other-number items place x ascends at y among (ap (λ (z : Numbered T). z.number) same))
            | inr less ↦ less
          ]

      pub holds-left : (number : ℕ) → Holds marks_of key items number → (number ≡ x.number → ⊥) → Holds marks_of key left number
      holds-left number held apart =
          let one = holder number held in
          any-among (λ y. is_key marks_of key y.item && (y.number == number)) left one.item (and_from _ _ one.has (eq-eqb _ _ one.same)) (left-other items place x ascends at one.item (λ same. apart (sym one.same ∙ same)) one.among)

      pub next-left : (o : Option ℕ) → IfSome o (Holds marks_of key items) → (o ≡ Some x.number → ⊥) → IfSome o (Holds marks_of key left)
      next-left None next apart = tt
      next-left (Some number) next apart = holds-left number next (λ same. apart (ap (λ (n : ℕ). Some n) same))

      -- another item isn't the one that goes
      pub apart-left : (z : Numbered T) → Among z left → Some z ≡ Some x → ⊥
      apart-left z among same =
          other-number items place x ascends at z among (ap (λ (y : Numbered T). y.number) (same_Some z x same))

      -- links by a key that the item doesn't have stay
      pub linked-other : IsLinked marks_of key items → is_key marks_of key x.item ≡ false → IsLinked marks_of key left
      linked-other linked lacks =
          linked-each marks_of key left (λ z among has.
          let is = linked-at marks_of key items linked z (among-remove items place z among) has in
          record {
            before =
                is.before
                ∙ sym (ap (option_map (λ y. y.number)) (last-left items place x ascends at (below z.number) (λ last.
                both_ways _ lacks (and_parts (is_key marks_of key x.item) _ (last-passes (below z.number) items x last)).0)));
            behind =
                last-left items place x ascends at (under (link_of marks_of key z).behind) (λ last.
                apart-left z among (sym is.behind ∙ last))
                ∙ is.behind;
            next = next-left (link_of marks_of key z).behind is.next (λ to.
                let one = holder x.number (subst (λ (o : Option ℕ). IfSome o (Holds marks_of key items)) to is.next) in
                both_ways _ lacks (ap (λ (y : Numbered T). is_key marks_of key y.item) (sym (same-number items one.item x ascends one.among (among-at items place x at) one.same)) ∙ one.has));
          })
