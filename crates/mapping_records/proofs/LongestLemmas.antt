-- The longest EID that covers a prefix: one of the list, and no other that covers it is longer.
use Rattle.std.proofs.Common.{◌≡◌, ◌≢◌, ◌⊎◌, ◌↔◌, ℕ, ◌≤◌, nat_le, Bool, false, IsTrue, IsFalse, List, [], ◌∷◌, fold, None, Some, IfSome, refl, inl, inr, leb-false, leb-true, arith}
use Rattle.std.proofs.lemmas.Bool.{cases_Bool}
use Rattle.std.proofs.lemmas.List.Elements.{All-cons, All-head, All-nil, All-tail, Contains-append_left, Contains-append_right, Contains-push}
use Rattle.std.proofs.lemmas.Option.{IfSome_then}
use Rattle.std.specs.List.{All, Contains, filter}
use Rattle.ip_headers.specs.declared.addr.Addr.{Addr}
use Rattle.mapping_records.specs.Eids.{covers_prefix, longer, longest, IsLongest}
use Rattle.mapping_records.specs.declared.eid.Eid.{Eid}

-- an item that passes the test is no longer than the best
abbrev IsBelow : {A : Type 0} → (A → Eid) → (A → Bool) → A → A → Type 0
IsBelow key test best item = IsTrue (test item) → (key item).prefix.len ≤ (key best).prefix.len

-- the longest of the first, and of the items that pass the test
record IsBest {A : Type 0} (key : A → Eid) (test : A → Bool) (first : A) (items : List A) (best : A) : Type 0 where
  one : (best ≡ first) ⊎ (Contains items best × IsTrue (test best))
  from_first : (key first).prefix.len ≤ (key best).prefix.len
  below : All (IsBelow key test best) items

contains_first : {A : Type 0} (item : A) (items : List A) → Contains (item ∷ items) item
contains_first item items = Contains-append_left (item ∷ []) items item (Contains-push [] item)

contains_later : {A : Type 0} (item best : A) (items : List A) → Contains items best → Contains (item ∷ items) best
contains_later item best items among = Contains-append_right (item ∷ []) items best among

later : {A : Type 0} (test : A → Bool) (first best item : A) (items : List A) → (best ≡ first) ⊎ (Contains items best × IsTrue (test best)) → (best ≡ first) ⊎ (Contains (item ∷ items) best × IsTrue (test best))
later test first best item items one = elim one [ inl e ↦ inl e | inr at ↦ inr (contains_later item best items at.0, at.1) ]

-- an item that doesn't count changes nothing
passed : {A : Type 0} (key : A → Eid) (test : A → Bool) (first item : A) (items : List A) (best : A) → IsBelow key test best item → IsBest key test first items best → IsBest key test first (item ∷ items) best
passed key test first item items best low is = record {
  one = later test first best item items is.one;
  from_first = is.from_first;
  below = All-cons (IsBelow key test best) item items low is.below;
}

-- an item that is longer takes the place of the first
taken : {A : Type 0} (key : A → Eid) (test : A → Bool) (first item : A) (items : List A) (best : A) → IsTrue (test item) → (key first).prefix.len ≤ (key item).prefix.len → IsBest key test item items best → IsBest key test first (item ∷ items) best
taken key test first item items best passes longer_one is = record {
  one = elim is.one [ inl e ↦ inr (rw e (contains_first item items), rw e passes) | inr at ↦ inr (contains_later item best items at.0, at.1) ];
  from_first = omega (arith, longer_one, is.from_first);
  below = All-cons (IsBelow key test best) item items (λ _. is.from_first) is.below;
}

-- the best of the first, an item that passes, and the items behind it
best_from : {A : Type 0} (key : A → Eid) (test : A → Bool) (items : List A) (first item : A) → IsTrue (test item) → ((first : A) → IfSome (fold (longer key) (Some first) (filter test items)) (IsBest key test first items)) → IfSome (fold (longer key) (longer key (Some first) item) (filter test items)) (IsBest key test first (item ∷ items))
best_from key test items first item passes best_of = elim (cases_Bool (nat_le (key item).prefix.len (key first).prefix.len)) [
  | inl short ↦ rw short (IfSome_then _ (best_of first) (λ best is. passed key test first item items best (λ _. omega (arith, leb-true _ _ short, is.from_first)) is))
  | inr long ↦ rw long (IfSome_then _ (best_of item) (λ best is. taken key test first item items best passes (omega (arith, leb-false _ _ long)) is))
]

-- the best of the first and the items
best_of : {A : Type 0} (key : A → Eid) (test : A → Bool) (items : List A) (first : A) → IfSome (fold (longer key) (Some first) (filter test items)) (IsBest key test first items)
best_of key test [] first = record { one = inl refl; from_first = omega arith; below = All-nil (IsBelow key test first) }
best_of key test (item ∷ items) first = elim (cases_Bool (test item)) [
  | inl passes ↦ rw passes (best_from key test items first item passes (best_of key test items))
  | inr fails ↦ rw fails (IfSome_then _ (best_of key test items first) (λ best is. passed key test first item items best (λ passes. grind (arith, passes, fails)) is))
]

-- the best of the items alone
record IsFound {A : Type 0} (key : A → Eid) (test : A → Bool) (items : List A) (best : A) : Type 0 where
  one : Contains items best
  passes : IsTrue (test best)
  below : All (IsBelow key test best) items

found_first : {A : Type 0} (key : A → Eid) (test : A → Bool) (item : A) (items : List A) (best : A) → IsTrue (test item) → IsBest key test item items best → IsFound key test (item ∷ items) best
found_first key test item items best passes is = record {
  one = elim is.one [ inl e ↦ rw e (contains_first item items) | inr at ↦ contains_later item best items at.0 ];
  passes = elim is.one [ inl e ↦ rw e passes | inr at ↦ at.1 ];
  below = All-cons (IsBelow key test best) item items (λ _. is.from_first) is.below;
}

found_later : {A : Type 0} (key : A → Eid) (test : A → Bool) (item : A) (items : List A) (best : A) → test item ≡ false → IsFound key test items best → IsFound key test (item ∷ items) best
found_later key test item items best fails is = record {
  one = contains_later item best items is.one;
  passes = is.passes;
  below = All-cons (IsBelow key test best) item items (λ passes. grind (arith, passes, fails)) is.below;
}

found_in : {A : Type 0} (key : A → Eid) (test : A → Bool) (items : List A) → IfSome (fold (longer key) None (filter test items)) (IsFound key test items)
found_in key test [] = tt
found_in key test (item ∷ items) = elim (cases_Bool (test item)) [
  | inl passes ↦ rw passes (IfSome_then _ (best_of key test items item) (λ best is. found_first key test item items best passes is))
  | inr fails ↦ rw fails (IfSome_then _ (found_in key test items) (λ best is. found_later key test item items best fails is))
]

-- the longest is among the items, covers, and none that covers is longer
pub longest_is : {A : Type 0} (key : A → Eid) (items : List A) (iid : ℕ) (addr : Addr) (len : ℕ) → IfSome (longest key items iid addr len) (IsLongest key items iid addr len)
longest_is key items iid addr len =
    IfSome_then _ {Q = IsLongest key items iid addr len} (found_in key (λ item. covers_prefix (key item) iid addr len) items) (λ best is. record { one = is.one; covering = is.passes; none_longer = is.below })

some_stays : {A : Type 0} (key : A → Eid) (items : List A) (first : A) → fold (longer key) (Some first) items ≢ None
some_stays key [] first e = grind (arith, e)
some_stays key (item ∷ items) first e = elim (cases_Bool (nat_le (key item).prefix.len (key first).prefix.len)) [
  | inl short ↦ some_stays key items first (rw short at e)
  | inr long ↦ some_stays key items item (rw long at e)
]

-- where none is found, none passes the test
none_passes : {A : Type 0} (key : A → Eid) (test : A → Bool) (items : List A) → fold (longer key) None (filter test items) ≡ None → All (λ item. IsFalse (test item)) items
none_passes key test [] none = All-nil (λ item. IsFalse (test item))
none_passes key test (item ∷ items) none = elim (cases_Bool (test item)) [
  | inl passes ↦ grind (arith, some_stays key (filter test items) item (rw passes at none))
  | inr fails ↦ All-cons (λ item. IsFalse (test item)) item items fails (none_passes key test items (rw fails at none))
]

none_found : {A : Type 0} (key : A → Eid) (test : A → Bool) (items : List A) → All (λ item. IsFalse (test item)) items → fold (longer key) None (filter test items) ≡ None
none_found key test [] all = refl
none_found key test (item ∷ items) all =
    rw (All-head (λ item. IsFalse (test item)) item items all) (none_found key test items (All-tail (λ item. IsFalse (test item)) item items all))

-- none is found exactly where none covers
pub longest-none : {A : Type 0} (key : A → Eid) (items : List A) (iid : ℕ) (addr : Addr) (len : ℕ) → (longest key items iid addr len ≡ None) ↔ All (λ item. IsFalse (covers_prefix (key item) iid addr len)) items
longest-none key items iid addr len =
    (none_passes key (λ item. covers_prefix (key item) iid addr len) items, none_found key (λ item. covers_prefix (key item) iid addr len) items)
