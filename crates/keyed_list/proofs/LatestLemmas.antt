-- The greatest moment of the items that have a key, found from the greatest number down.
use Rattle.std.proofs.Common.{◌≡◌, ◌⊎◌, ℕ, ◌<◌, ◌≤◌, ◌==◌, ◌&&◌, max, nat_lt, Bool, true, false, cond, List, [], ◌∷◌, fold, map, Option, None, Some, IfSome, inl, inr, refl, sym, ap, subst, ◌∙◌, arith}
use Rattle.std.specs.List.{list_any}
use Rattle.std.proofs.lemmas.Bool.{and_from, and_parts, cases_lt, eq-eqb, eqb-true, le-ltb, ltb-false}
use Rattle.std.proofs.lemmas.Option.{same_Some}
use Rattle.keyed_list.specs.Keyed.{Ascends, greater, is_below, is_key, later_moment, latest}
use Rattle.keyed_list.specs.Lists.{last_where}
use Rattle.keyed_list.specs.declared.key.Key.{Key}
use Rattle.keyed_list.specs.declared.keyed.Marks.{Marks}
use Rattle.keyed_list.specs.declared.keyed.Numbered.{Numbered}
use Rattle.keyed_list.proofs.AmongLemmas.{among-any, any-among, Among}
use Rattle.keyed_list.proofs.FitsLemmas.{fits, last-item, none-fits, none-from-last, NoneFrom}
use Rattle.keyed_list.proofs.LastLemmas.{none-last, IsLast}

-- a moment is past the greatest so far
abbrev pub exceeds : Option ℕ → ℕ → Bool
exceeds None moment = true
exceeds (Some best) moment = nat_lt best moment

-- the greatest so far is no less than a moment
abbrev Covers : Option ℕ → ℕ → Type 0
Covers None moment = ⊥
Covers (Some best) moment = moment ≤ best

greater-le : (best : Option ℕ) (moment : ℕ) → moment ≤ greater best moment
greater-le None moment = omega arith
greater-le (Some best) moment = omega arith

exceeds-itself : (best : Option ℕ) (moment : ℕ) → exceeds (Some (greater best moment)) moment ≡ false
exceeds-itself best moment = le-ltb _ _ (greater-le best moment)

exceeds-less : (has : Bool) (best : Option ℕ) (n moment : ℕ) → (has && exceeds best moment) ≡ false → (has && exceeds (Some (greater best n)) moment) ≡ false
exceeds-less false best n moment is = refl
exceeds-less true None n moment is = absurd (cc is)
exceeds-less true (Some best) n moment is = le-ltb _ _ (omega (arith, ltb-false best moment is))

module _ {T : Type 0} (marks_of : T → Marks) (key : Key) where
  -- the item is past the greatest so far
  abbrev pub beyond : Option ℕ → T → Bool
  beyond best item = exceeds best (marks_of item).moment

  -- it has the key, and came then
  abbrev pub came : ℕ → T → Bool
  came moment item = is_key marks_of key item && ((marks_of item).moment == moment)

  -- one of the items that have the key came then
  abbrev pub IsReached : Option ℕ → List T → Type 0
  IsReached best items = IfSome best (λ moment. list_any (came moment) items ≡ true)

  grows : (items : List T) (best moment : ℕ) → moment ≤ best → Covers (fold (later_moment marks_of key) (Some best) items) moment
  grows [] best moment least = least
  grows (x ∷ items) best moment least =
      by (is_key marks_of key x) (grows items (max best (marks_of x).moment) moment (omega (arith, least))) (grows items best moment least)
    where
      by : (b : Bool) → Covers (fold (later_moment marks_of key) (Some (max best (marks_of x).moment)) items) moment → Covers (fold (later_moment marks_of key) (Some best) items) moment
          → Covers (fold (later_moment marks_of key) (cond b (Some (max best (marks_of x).moment)) (Some best)) items) moment
      by true more same = more
      by false more same = same

  covers : (items : List T) (before : Option ℕ) (x : T) → Among x items → is_key marks_of key x ≡ true → Covers (fold (later_moment marks_of key) before items) (marks_of x).moment
  covers [] before x among has = absurd among
  covers (y ∷ items) before x among has = elim among [
    | inl here ↦
        let held : is_key marks_of key y ≡ true = ap (is_key marks_of key) here ∙ has in
        let grown = grows items (greater before (marks_of y).moment) (marks_of x).moment (omega (arith, greater-le before (marks_of y).moment, ap (λ (z : T). (marks_of z).moment) here)) in
        subst (λ (b : Bool). Covers (fold (later_moment marks_of key) (cond b (Some (greater before (marks_of y).moment)) before) items) (marks_of x).moment) (sym held) grown
    | inr later ↦ covers items (later_moment marks_of key before y) x later has
  ]

  -- an item with the key that came then
  record Came (moment : ℕ) (items : List T) : Type 0 where
    item : T
    among : Among item items
    has : is_key marks_of key item ≡ true
    then_came : (marks_of item).moment ≡ moment

  reached : (items : List T) (before : Option ℕ) (moment : ℕ) → fold (later_moment marks_of key) before items ≡ Some moment → (before ≡ Some moment) ⊎ Came moment items
  reached [] before moment is = inl is
  reached (y ∷ items) before moment is = elim (reached items (later_moment marks_of key before y) moment is) [
    | inl now ↦ by (is_key marks_of key y) before refl now
    | inr later ↦ inr (record { item = later.item; among = inr later.among; has = later.has; then_came = later.then_came })
  ]
    where
      by : (b : Bool) (o : Option ℕ) → is_key marks_of key y ≡ b → cond b (Some (greater o (marks_of y).moment)) o ≡ Some moment → (o ≡ Some moment) ⊎ Came moment (y ∷ items)
      by false o has now = inl now
      by true None has now = inr (record { item = y; among = inl refl; has = has; then_came = same_Some _ _ now })
      by true (Some best) has now = elim (cases_lt best (marks_of y).moment) [
        | inl less ↦
            let most : max best (marks_of y).moment ≡ moment = same_Some _ _ now in
            inr (record { item = y; among = inl refl; has = has; then_came = omega (arith, less, most) })
        | inr least ↦
            let most : max best (marks_of y).moment ≡ moment = same_Some _ _ now in
            inl (ap (λ (n : ℕ). Some n) (omega (arith, least, most)))
      ]

  none-left : (items : List T) → ((x : T) → Among x items → is_key marks_of key x ≡ false) → None ≡ latest marks_of key items
  none-left [] each = refl
  none-left (x ∷ items) each =
      none-left items (λ y among. each y (inr among))
      ∙ ap (λ b. fold (later_moment marks_of key) (cond b (Some (marks_of x).moment) None) items) (sym (each x (inl refl)))

  -- what is reached, while none is past it, is the greatest
  latest-is : (items : List T) (best : Option ℕ) → ((x : T) → Among x items → (is_key marks_of key x && beyond best x) ≡ false) → IsReached best items → best ≡ latest marks_of key items
  latest-is items None none is = none-left items (λ x among. without (is_key marks_of key x) (none x among))
    where
      without : (b : Bool) → (b && true) ≡ false → b ≡ false
      without true is = is
      without false is = refl
  latest-is items (Some best) none is =
      let x = among-any (came best) items is in
      let parts = and_parts _ _ x.passes in
      by (latest marks_of key items) refl (subst (Covers (latest marks_of key items)) (eqb-true _ _ parts.1) (covers items None x.item x.among parts.0))
    where
      by : (o : Option ℕ) → latest marks_of key items ≡ o → Covers o best → Some best ≡ o
      by None now least = absurd least
      by (Some most) now least = elim (reached items None most now) [
        | inl never ↦ absurd (cc never)
        | inr y ↦
            let short : nat_lt best (marks_of y.item).moment ≡ false = ap (λ b. b && nat_lt best (marks_of y.item).moment) (sym y.has) ∙ none y.item y.among in
            ap (λ (n : ℕ). Some n) (omega (arith, least, y.then_came, ltb-false _ _ short))
      ]

  module _ (bound : ℕ) (best : Option ℕ) (items : List (Numbered T)) (none : NoneFrom (fits marks_of key (λ y. beyond best y.item)) bound items) where
    -- none below has the key: the greatest so far is the greatest
    pub latest-end : None ≡ last_where (is_below marks_of key bound) items → IsReached best (map (λ y. y.item) items) → best ≡ latest marks_of key (map (λ y. y.item) items)
    latest-end is reached =
        latest-is (map (λ y. y.item) items) best (none-last (λ item. is_key marks_of key item && beyond best item) (map (λ y. y.item) items) (sym (last-item marks_of key (beyond best) items None (none-fits marks_of key bound (λ y. beyond best y.item) items none is)))) reached

    module _ (x : Numbered T) (ascends : Ascends items) (last : IsLast (is_below marks_of key bound) (λ a b. a.number < b.number) items x) where
      -- after a look at the last one below none from it on is past the greatest so far
      pub latest-next : NoneFrom (fits marks_of key (λ y. beyond (Some (greater best (marks_of x.item).moment)) y.item)) x.number items
      latest-next =
          none-from-last marks_of key bound (λ y. beyond (Some (greater best (marks_of x.item).moment)) y.item) items (λ y among least. exceeds-less (is_key marks_of key y.item) best (marks_of x.item).moment (marks_of y.item).moment (none y among least)) x ascends last (exceeds-itself best (marks_of x.item).moment)

      among-map : (some : List (Numbered T)) → Among x some → Among x.item (map (λ y. y.item) some)
      among-map [] among = among
      among-map (y ∷ some) among = elim among [
        | inl here ↦ inl (ap (λ (z : Numbered T). z.item) here)
        | inr later ↦ inr (among-map some later)
      ]

      -- and it is reached
      pub reached-next : IsReached best (map (λ y. y.item) items) → IsReached (Some (greater best (marks_of x.item).moment)) (map (λ y. y.item) items)
      reached-next reached = by best reached
        where
          has : is_key marks_of key x.item ≡ true
          has = (and_parts _ _ last.passes).0

          own : (moment : ℕ) → (marks_of x.item).moment ≡ moment → list_any (came moment) (map (λ y. y.item) items) ≡ true
          own moment is =
              any-among (came moment) (map (λ y. y.item) items) x.item (and_from _ _ has (eq-eqb _ _ is)) (among-map items last.among)

          by : (o : Option ℕ) → IsReached o (map (λ y. y.item) items) → list_any (came (greater o (marks_of x.item).moment)) (map (λ y. y.item) items) ≡ true
          by None is = own (marks_of x.item).moment refl
          by (Some most) is = elim (cases_lt most (marks_of x.item).moment) [
            | inl less ↦ own (max most (marks_of x.item).moment) (omega (arith, less))
            | inr least ↦
                subst (λ (n : ℕ). list_any (came n) (map (λ y. y.item) items) ≡ true) (omega (arith, least)) is
          ]
