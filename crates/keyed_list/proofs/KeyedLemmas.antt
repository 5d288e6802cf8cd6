-- What finds items still does, once one of them comes or goes.
use Rattle.std.proofs.Common.{◌≡◌, ℕ, zero, suc, ◌+◌, ◌<◌, ◌&&◌, ◌||◌, not, Bool, true, false, cond, List, [], ◌∷◌, ◌++◌, drop, eqb-true, insert, length, map, remove, slice_get, take, All, AllPairs, Option, None, Some, IfSome, inl, inr, refl, sym, ap, ap₂, subst, ◌∙◌, arith}
use Rattle.std.specs.List.{list_any}
use Rattle.std.specs.Option.{option_map}
use Rattle.std.proofs.Math.Bool.{or-false, or_comm}
use Rattle.std.proofs.lemmas.Bool.{and_parts, cases_Bool}
use Rattle.std.proofs.lemmas.List.{drop_all, length-append, take_all}
use Rattle.std.proofs.lemmas.List.Elements.{All-append, All-cons, All-drop, All-nil, All-take, All-weaker}
use Rattle.std.proofs.lemmas.List.Folds.{list_any-append}
use Rattle.std.proofs.lemmas.List.Kept.{AllPairs-cons}
use Rattle.std.proofs.lemmas.Option.{same_Some}
use Rattle.ordered_set.specs.Keys.{has}
use Rattle.keyed_list.specs.Keyed.{bare, has_age, has_key, last_of, link_of, number_of, IsFound, IsKeyed, IsLinked, IsPut}
use Rattle.keyed_list.specs.Keys.{age_order, same_key}
use Rattle.keyed_list.specs.declared.key.Age.{Age}
use Rattle.keyed_list.specs.declared.key.Key.{Key}
use Rattle.keyed_list.specs.declared.key.Mark.{Mark}
use Rattle.keyed_list.specs.declared.keyed.Link.{Link}
use Rattle.keyed_list.specs.declared.keyed.Marks.{Marks}
use Rattle.keyed_list.specs.declared.keyed.Numbered.{Numbered}
use Rattle.keyed_list.proofs.AmongLemmas.{among-any, among-at, pairs-behind_first, pairs-tail}
use Rattle.keyed_list.proofs.BareLemmas.{bare-any, bare-ascends, bare-items, bare-length, bare-less}
use Rattle.keyed_list.proofs.MapLemmas.{found-mapped}
use Rattle.keyed_list.proofs.MarkLemmas.{links-of}
use Rattle.keyed_list.proofs.RelinkLemmas.{bare-item, bare-map, bare-number}
use Rattle.keyed_list.proofs.NumberLemmas.{ascends-left}
use Rattle.keyed_list.proofs.OrderLemmas.{has_age-is}
use Rattle.keyed_list.proofs.PushLemmas.{found-push, linked-push}

-- ### lists

in_front : (e a b : Bool) → (e ≡ true → b ≡ false) → a ≡ e → b ≡ (not e && (a || b))
in_front true a b none same = none refl
in_front false a b none same = sym (ap (λ x. x || b) same)

further : (e a b : Bool) → (e ≡ true → a ≡ false) → (a || (not e && b)) ≡ (not e && (a || b))
further true a b none = ap (λ x. x || false) (none refl)
further false a b none = refl

module _ {A : Type 0} where
  -- a test of a list without an item, where of two in R no more than one passes
  any-remove : (test : A → Bool) (R : A → A → Type 0) → ((a b : A) → R a b → test a ≡ true → test b ≡ true → ⊥)
      → (items : List A) (place : ℕ) (x : A) → AllPairs R items → slice_get items place ≡ Some x → list_any test (remove items place) ≡ (not (test x) && list_any test items)
  any-remove test R apart [] place x pairs at = absurd (cc at)
  any-remove test R apart (y ∷ items) zero x pairs at =
      let same : test y ≡ test x = ap test (same_Some y x at) in
      in_front (test x) (test y) (list_any test items) (λ is. elim (cases_Bool (list_any test items)) [
        | inl some ↦
            let other = among-any test items some in
            absurd (apart y other.item (pairs-behind_first R y items other.item pairs other.among) (same ∙ is) other.passes)
        | inr none ↦ none
      ]) same
  any-remove test R apart (y ∷ items) (suc place) x pairs at =
      ap (λ b. test y || b) (any-remove test R apart items place x (pairs-tail R y items pairs) at)
      ∙ further (test x) (test y) (list_any test items) (λ is. elim (cases_Bool (test y)) [
        | inl also ↦ absurd (apart y x (pairs-behind_first R y items x pairs (among-at items place x at)) also is)
        | inr fails ↦ fails
      ])

  pub insert-end : (items : List A) (n : ℕ) (x : A) → n ≡ length items → insert items n x ≡ items ++ x ∷ []
  insert-end items n x is = ap₂ (λ a b. a ++ x ∷ b) (take_all n items (omega (arith, is))) (drop_all n items (omega (arith, is)))

  pairs-push : (R : A → A → Type 0) (items : List A) (x : A) → AllPairs R items → All (λ y. R y x) items → AllPairs R (items ++ x ∷ [])
  pairs-push R [] x pairs before = AllPairs-cons R x [] (All-nil (R x)) pairs
  pairs-push R (y ∷ items) x pairs before =
      let least : All (R y) items = λ k d within. pairs zero (suc k) d (omega arith) (omega (arith, within)) in
      let rest : All (λ z. R z x) items = λ k d within. before (suc k) d (omega (arith, within)) in
      AllPairs-cons R y (items ++ x ∷ [])
      (All-append (R y) items (x ∷ []) least (All-cons (R y) x [] (before zero y (omega arith)) (All-nil (R y))))
      (pairs-push R items x (pairs-tail R y items pairs) rest)

-- ### numbers

module _ {T : Type 0} (items : List (Numbered T)) where
  pub less-push : (x : Numbered T) → All (λ y. y.number < x.number) items → All (λ y. y.number < x.number + 1) (items ++ x ∷ [])
  less-push x all =
      All-append (λ y. y.number < x.number + 1) items (x ∷ [])
      (All-weaker (λ y. y.number < x.number) (λ y. y.number < x.number + 1) (λ y less. omega (arith, less)) items all)
      (All-cons (λ y. y.number < x.number + 1) x [] (omega arith) (All-nil (λ y. y.number < x.number + 1)))

  pub less-remove : (place bound : ℕ) → All (λ y. y.number < bound) items → All (λ y. y.number < bound) (remove items place)
  less-remove place bound all =
      All-append (λ y. y.number < bound) (take place items) (drop (suc place) items)
      (All-take (λ y. y.number < bound) place items all) (All-drop (λ y. y.number < bound) (suc place) items all)

age-number : (age : Age) (number : ℕ) (marks : Marks) → has_age age number marks ≡ true → number ≡ age.number
age-number age number marks is = eqb-true _ _ (and_parts _ _ (sym (has_age-is age number marks) ∙ is)).1

map-end : {A B : Type 0} (f : A → B) (items : List A) (x : A) → map f (items ++ x ∷ []) ≡ map f items ++ f x ∷ []
map-end f [] x = refl
map-end f (y ∷ items) x = ap (λ more. f y ∷ more) (map-end f items x)

-- ### an item comes, with a greater number than all

module _ {T : Type 0} {marks_of : T → Marks} {items : List (Numbered T)} (item : T) (number : ℕ) (before other_before : Option ℕ) (new : List (Numbered T)) (is_put : IsPut marks_of item number before other_before items new) (all : All (λ y. y.number < number) items) where
  abbrev newest : Numbered T
  newest = record { number = number; item = item; link = record { before = before; behind = None }; other_link = record { before = other_before; behind = None } }

  abbrev linked_on : Numbered T → Numbered T
  linked_on = is_put.followed.change

  abbrev with_newest : List (Numbered T)
  with_newest = items ++ newest ∷ []

  pub put-is : new ≡ map linked_on with_newest
  put-is =
      is_put.are
      ∙ ap₂ (λ (a : List (Numbered T)) (b : Numbered T). a ++ b ∷ []) is_put.followed.are (sym (is_put.followed.stays newest all))
      ∙ sym (map-end linked_on items newest)

  put-bare : map bare (map linked_on with_newest) ≡ map bare with_newest
  put-bare = bare-map linked_on is_put.followed.same with_newest

  pub put-items : map (λ y. y.item) new ≡ map (λ y. y.item) items ++ item ∷ []
  put-items =
      ap (map (λ y. y.item)) put-is ∙ bare-items (map linked_on with_newest) with_newest put-bare ∙ map-end (λ y. y.item) items newest

  pub put-less : All (λ y. y.number < number + 1) new
  put-less =
      subst (λ (l : List (Numbered T)). All (λ y. y.number < number + 1) l) (sym put-is) (bare-less (map linked_on with_newest) with_newest put-bare (number + 1) (less-push items newest all))

  pub put-length : length new ≡ length items + 1
  put-length = ap length put-is ∙ bare-length (map linked_on with_newest) with_newest put-bare ∙ length-append items (newest ∷ [])

-- the number of a second key's mark is that of the last item with the key
pub other-found : {T : Type 0} (marks_of : T → Marks) (items : List (Numbered T)) (index : List Mark) → ((key : Key) → IsFound marks_of key items index) → (number : Option ℕ) (o : Option Key) → IfSome o (λ other. number ≡ number_of other index)
    → IfSome o (λ other. number ≡ option_map (λ y. y.number) (last_of marks_of other items))
other-found marks_of items index found number None second = tt
other-found marks_of items index found number (Some other) second = second ∙ found other

-- ### what finds items

module _ {T : Type 0} {marks_of : T → Marks} {items : List (Numbered T)} {index : List Mark} {ages : List Age} (now_index : List Mark) (now_ages : List Age) (keyed : IsKeyed marks_of items index ages) (item : T) (number : ℕ) (before other_before : Option ℕ) (new : List (Numbered T)) (is_put : IsPut marks_of item number before other_before items new) (all : All (λ y. y.number < number) items) where
  abbrev last : Numbered T
  last = record { number = number; item = item; link = record { before = before; behind = None }; other_link = record { before = other_before; behind = None } }

  abbrev change : Numbered T → Numbered T
  change = is_put.followed.change

  abbrev more : List (Numbered T)
  more = items ++ last ∷ []

  bare-more : map bare (map change more) ≡ map bare more
  bare-more = bare-map change is_put.followed.same more

  keyed-item : before ≡ number_of (marks_of item).key index → IfSome (marks_of item).other (λ other. other_before ≡ number_of other index)
      → ((key : Key) → number_of key now_index ≡ cond (has_key (marks_of item) key) (Some number) (number_of key index))
      → ((age : Age) → has age_order age now_ages ≡ (has_age age number (marks_of item) || has age_order age ages))
      → IsKeyed marks_of new now_index now_ages
  keyed-item first second numbers aged =
      let ascends = pairs-push (λ a b. a.number < b.number) items last keyed.ascends all in
      subst (λ (l : List (Numbered T)). IsKeyed marks_of l now_index now_ages) (sym (put-is item number before other_before new is_put all)) (record {
        ascends = bare-ascends (map change more) more bare-more ascends;
        found = λ key.
            found-mapped marks_of change more (λ y among. bare-number change is_put.followed.same y) (λ y among. ap marks_of (bare-item change is_put.followed.same y)) key now_index (found-push marks_of key items last index now_index (keyed.found key) (numbers key));
        linked = λ key. linked-push marks_of key items last all keyed.ascends (keyed.linked key) is_put.linked is_put.followed (link key);
        aged = λ age.
            aged age
            ∙ ap (λ b. has_age age number (marks_of item) || b) (keyed.aged age)
            ∙ last_first (λ y. has_age age y.number (marks_of y.item))
            ∙ sym (bare-any (map change more) more bare-more (λ pair. has_age age pair.0 (marks_of pair.1)));
      })
    where
      last_first : (test : Numbered T → Bool) → (test last || list_any test items) ≡ list_any test more
      last_first test =
          or_comm (test last) (list_any test items)
          ∙ ap (λ b. list_any test items || b) (sym (or-false (test last)))
          ∙ sym (list_any-append test items (last ∷ []))

      led : Option ℕ → Link
      led o = record { before = o; behind = None }

      either : (b : Bool) → cond b (led before) (led other_before) ≡ led (cond b before other_before)
      either true = refl
      either false = refl

      link : (key : Key) → has_key (marks_of item) key ≡ true → link_of marks_of key last ≡ led (option_map (λ y. y.number) (last_of marks_of key items))
      link key held =
          either (same_key (marks_of item).key key)
          ∙ ap led (links-of (marks_of item) index before other_before first second key held ∙ keyed.found key)

  pub keyed-push : (marks : Marks) → marks ≡ marks_of item → before ≡ number_of marks.key index → IfSome marks.other (λ other. other_before ≡ number_of other index)
      → ((key : Key) → number_of key now_index ≡ cond (has_key marks key) (Some number) (number_of key index))
      → ((age : Age) → has age_order age now_ages ≡ (has_age age number marks || has age_order age ages))
      → IsKeyed marks_of new now_index now_ages
  keyed-push marks is =
      subst (λ (m : Marks). before ≡ number_of m.key index → IfSome m.other (λ other. other_before ≡ number_of other index)
      → ((key : Key) → number_of key now_index ≡ cond (has_key m key) (Some number) (number_of key index))
      → ((age : Age) → has age_order age now_ages ≡ (has_age age number m || has age_order age ages))
      → IsKeyed marks_of new now_index now_ages) (sym is) keyed-item

module _ {T : Type 0} {marks_of : T → Marks} {items : List (Numbered T)} {index now_index : List Mark} {ages now_ages : List Age} where
  -- an item goes, once all keys lead past it
  pub keyed-remove : IsKeyed marks_of items index ages → (new : List (Numbered T)) → map bare new ≡ map bare items → (place : ℕ) (x : Numbered T) (marks : Marks) → slice_get new place ≡ Some x → marks ≡ marks_of x.item
      → ((key : Key) → IsFound marks_of key (remove new place) now_index)
      → ((key : Key) → IsLinked marks_of key (remove new place))
      → ((age : Age) → has age_order age now_ages ≡ (not (has_age age x.number marks) && has age_order age ages))
      → IsKeyed marks_of (remove new place) now_index now_ages
  keyed-remove keyed new same place x marks at is found linked aged =
      let ascends = bare-ascends new items same keyed.ascends in
      record {
        ascends = ascends-left new place x ascends at;
        found = found;
        linked = linked;
        aged = λ age.
            aged age
            ∙ ap₂ (λ m b. not (has_age age x.number m) && b) is (keyed.aged age ∙ sym (bare-any new items same (λ pair. has_age age pair.0 (marks_of pair.1))))
            ∙ sym (any-remove (λ y. has_age age y.number (marks_of y.item)) (λ a b. a.number < b.number) (λ a b less first second. omega (arith, less, age-number age a.number (marks_of a.item) first, age-number age b.number (marks_of b.item) second)) new place x ascends at);
      }
