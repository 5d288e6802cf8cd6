-- Items in order of coming, and the keys and ages by which they are found.
use Rattle.std.specs.Prelude.{◌≡◌, ◌≤◌, ◌<◌, ◌-◌, ◌*◌, ◌==◌, ◌&&◌, ◌||◌, [], ◌∷◌, ◌++◌, ℕ, nat_lt, Bool, true, false, List, Option, None, Some, IfSome, All, AllPairs, drop, fold, length, map, max, slice_get, take, if◌then◌else◌}
use Rattle.std.specs.List.{list_any, remove}
use Rattle.std.specs.Option.{option_map}
use Rattle.std.specs.Ordering.{is_eq}
use Rattle.ordered_set.specs.Keys.{has}
use Rattle.keyed_list.specs.Limits.{most_items}
use Rattle.keyed_list.specs.Lists.{last_where}
use Rattle.keyed_list.specs.Keys.{age_order, same_key}
use Rattle.keyed_list.specs.declared.key.Age.{Age}
use Rattle.keyed_list.specs.declared.key.Key.{Key}
use Rattle.keyed_list.specs.declared.key.Mark.{Mark}
use Rattle.keyed_list.specs.declared.keyed.Link.{Link}
use Rattle.keyed_list.specs.declared.keyed.Marks.{Marks}
use Rattle.keyed_list.specs.declared.keyed.Numbered.{Numbered}

-- a keyed list as contracts see it: its items, the oldest first, for how many more there is room, for how many keys
-- there is place in all, and how many items its vectors have
pub record Kept (T : Type 0) : Type 0 where
  pub items : List T
  pub room : ℕ
  pub places : ℕ
  pub kept : ℕ

-- whether there is a second key, and it is that one
abbrev pub is_other : Option Key → Key → Bool
is_other None key = false
is_other (Some other) key = same_key other key

-- whether an item with those marks has a key
abbrev pub has_key : Marks → Key → Bool
has_key marks key = same_key marks.key key || is_other marks.other key

-- the greater of a moment and the greatest one so far, if there is one
abbrev pub greater : Option ℕ → ℕ → ℕ
greater None moment = moment
greater (Some best) moment = max best moment

module _ {T : Type 0} (marks_of : T → Marks) where
  -- whether an item has a key
  abbrev pub is_key : Key → T → Bool
  is_key key item = has_key (marks_of item) key

  -- whether an item is younger than so many nanoseconds at a moment
  abbrev pub is_young : ℕ → ℕ → T → Bool
  is_young now life item = nat_lt (now - (marks_of item).moment) life

  -- an item, which was changed where it has the key
  abbrev pub changed_with : Key → (T → T) → T → T
  changed_with key changed item = if is_key key item then changed item else item

  -- an item, which was changed where there is a second key and the item has it
  abbrev pub changed_like : Option Key → (T → T) → T → T
  changed_like None changed item = item
  changed_like (Some key) changed item = changed_with key changed item

  -- the greatest moment so far, with that of an item where it has the key
  abbrev pub later_moment : Key → Option ℕ → T → Option ℕ
  later_moment key best item = if is_key key item then Some (greater best (marks_of item).moment) else best

  -- the greatest moment of the items that have a key, or None
  abbrev pub latest : Key → List T → Option ℕ
  latest key items = fold (later_moment key) None items

-- ### how items are found; no public clause cites what follows

-- whether there is a number, and it is that one
abbrev pub is_number : Option ℕ → ℕ → Bool
is_number None number = false
is_number (Some other) number = other == number

-- the number of a key's mark, or None
abbrev pub number_of : Key → List Mark → Option ℕ
number_of key index = option_map (λ mark. mark.number) (last_where (λ mark. same_key mark.key key) index)

-- the number of a mark, if there is one, and it is that of a key
abbrev pub number_at : Key → Option Mark → Option ℕ
number_at key None = None
number_at key (Some mark) = if same_key mark.key key then Some mark.number else None

-- whether an age is that of an item's moment and its number
abbrev pub has_age : Age → ℕ → Marks → Bool
has_age age number marks = is_eq (age_order (record { moment = marks.moment; number = number }) age)

-- the numbers of items ascend
abbrev pub Ascends : {T : Type 0} → List (Numbered T) → Type 0
Ascends items = AllPairs (λ a b. a.number < b.number) items

-- the place of a number among items: those with lower numbers stand before it, those with this and greater ones at it
-- and behind
pub record IsPlace {T : Type 0} (number : ℕ) (items : List (Numbered T)) (place : ℕ) : Type 0 where
  pub within : place ≤ length items
  pub before : All (λ item. item.number < number) (take place items)
  pub behind : All (λ item. number ≤ item.number) (drop place items)

-- the item at a place, or None
abbrev pub item_at : {A : Type 0} → List A → Option ℕ → Option A
item_at items None = None
item_at items (Some place) = slice_get items place

-- whether a number lies below a bound, or there is none
abbrev pub is_under : Option ℕ → ℕ → Bool
is_under None number = true
is_under (Some bound) number = nat_lt number bound

-- a link with another neighbour before
abbrev pub with_before : Option ℕ → Link → Link
with_before number link = record { before = number; behind = link.behind }

-- a link with another neighbour behind
abbrev pub with_behind : Option ℕ → Link → Link
with_behind number link = record { before = link.before; behind = number }

-- an item and its number, without its links
abbrev pub bare : {T : Type 0} → Numbered T → ℕ × T
bare item = (item.number, item.item)

module _ {T : Type 0} (marks_of : T → Marks) where
  -- whether an item has the key, and a number below a bound
  abbrev pub is_below : Key → ℕ → Numbered T → Bool
  is_below key bound numbered = is_key marks_of key numbered.item && nat_lt numbered.number bound

  -- the last item that has a key, or None
  abbrev pub last_of : Key → List (Numbered T) → Option (Numbered T)
  last_of key items = last_where (λ item. is_key marks_of key item.item) items

  -- the neighbours of an item by a key of its own
  abbrev pub link_of : Key → Numbered T → Link
  link_of key item = if same_key (marks_of item.item).key key then item.link else item.other_link

  -- an item with other neighbours by a key of its own
  abbrev pub with_link : Key → Link → Numbered T → Numbered T
  with_link key link item =
      let first : Bool = same_key (marks_of item.item).key key in
      record { number = item.number; item = item.item; link = if first then link else item.link; other_link = if first then item.other_link else link }

  -- an item, whose link by a key was changed where it has the key and that number
  abbrev pub relinked : Key → Option ℕ → (Link → Link) → Numbered T → Numbered T
  relinked key number change item = if is_key marks_of key item.item && is_number number item.number then with_link key (change (link_of key item)) item else item

  -- items differ in their links by a key alone
  pub record IsRelinked (key : Key) (items new : List (Numbered T)) : Type 0 where
    pub change : Numbered T → Numbered T
    pub same : (item : Numbered T) → bare (change item) ≡ bare item
    pub others : (other : Key) → same_key key other ≡ false → (item : Numbered T) → is_key marks_of other item.item ≡ true → link_of other (change item) ≡ link_of other item
    pub are : new ≡ map change items

  -- an item that has the key has that number
  abbrev pub Holds : Key → List (Numbered T) → ℕ → Type 0
  Holds key items number = list_any (λ item. is_key marks_of key item.item && (item.number == number)) items ≡ true

  -- the mark of a key has the number of the last item that has the key
  abbrev pub IsFound : Key → List (Numbered T) → List Mark → Type 0
  IsFound key items index = number_of key index ≡ option_map (λ item. item.number) (last_of key items)

  -- a link has the numbers of the last item with the key that stands before, and of the first one that stands behind:
  -- the item is the last one before that, or of all where there is none
  pub record IsLink (key : Key) (items : List (Numbered T)) (item : Numbered T) (link : Link) : Type 0 where
    pub before : link.before ≡ option_map (λ other. other.number) (last_where (is_below key item.number) items)
    pub behind : last_where (λ other. is_key marks_of key other.item && is_under link.behind other.number) items ≡ Some item
    pub next : IfSome link.behind (Holds key items)

  -- the items that have a key are linked by it
  abbrev pub IsLinked : Key → List (Numbered T) → Type 0
  IsLinked key items = All (λ item. is_key marks_of key item.item ≡ true → IsLink key items item (link_of key item)) items

  -- the numbers of items ascend, marks and links lead to the items of each key, and the ages are those of the items
  pub record IsKeyed (items : List (Numbered T)) (index : List Mark) (ages : List Age) : Type 0 where
    pub ascends : Ascends items
    pub found : (key : Key) → IsFound key items index
    pub linked : (key : Key) → IsLinked key items
    pub aged : (age : Age) → has age_order age ages ≡ list_any (λ numbered. has_age age numbered.number (marks_of numbered.item)) items

  -- a key leads past the item at a place: those without it are found by the key and linked by it, and other keys lead
  -- where they led
  pub record IsUnlinked (key : Key) (place : ℕ) (items new : List (Numbered T)) (index new_index : List Mark) : Type 0 where
    pub relinked : IsRelinked key items new
    pub others : (other : Key) → same_key key other ≡ false → number_of other new_index ≡ number_of other index
    pub found : IsFound key (remove new place) new_index
    pub linked : IsLinked key (remove new place)

  -- the last item of each key of the marks is linked to a number behind it
  pub record IsFollowed (marks : Marks) (number : ℕ) (items new : List (Numbered T)) : Type 0 where
    pub change : Numbered T → Numbered T
    pub same : (item : Numbered T) → bare (change item) ≡ bare item
    pub links : (key : Key) (item : Numbered T) → is_key marks_of key item.item ≡ true → link_of key (change item)
        ≡ (if has_key marks key && is_number (option_map (λ last. last.number) (last_of key items)) item.number then with_behind (Some number) (link_of key item) else link_of key item)
    pub stays : (item : Numbered T) → All (λ other. other.number < item.number) items → change item ≡ item
    pub are : new ≡ map change items

  -- an item comes under a number, and is linked to those before
  pub record IsPut (item : T) (number : ℕ) (before other_before : Option ℕ) (items new : List (Numbered T)) : Type 0 where
    pub linked : List (Numbered T)
    pub followed : IsFollowed (marks_of item) number items linked
    pub are : new ≡ linked ++ record { number = number; item = item; link = record { before = before; behind = None }; other_link = record { before = other_before; behind = None } } ∷ []

-- for each item that is there, or for which there is room, there are two places for keys and one for its age
pub record HasPlaces (all for_keys for_ages : ℕ) : Type 0 where
  pub few : all ≤ most_items
  pub keys : 2 * all ≤ for_keys
  pub ages : all ≤ for_ages
