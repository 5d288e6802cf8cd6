-- Keys in ascending order.
use Rattle.std.specs.Prelude.{◌≡◌, ◌≤◌, ◌<◌, ◌-◌, ℕ, Bool, true, false, List, AllPairs, length, slice_get, Option, None, Some, IfSome}
use Rattle.std.specs.List.{list_any}
use Rattle.std.specs.Ordering.{is_eq, is_lt}
use Rattle.std.specs.declared.cmp.Ordering.{Ordering}
use Rattle.std.specs.declared.cmp.Ordering.TheVariants.{Less}

module _ {K : Type 0} (order : K → K → Ordering) where
  -- whether the key is one of the keys
  abbrev pub has : K → List K → Bool
  has key keys = list_any (λ other. is_eq (order other key)) keys

  -- the keys ascend: each is below all behind it
  abbrev pub Ascends : List K → Type 0
  Ascends keys = AllPairs (λ a b. order a b ≡ Less) keys

-- a set as contracts see it: its keys in order, for how many more keys there is room, how many items its vectors have
-- in all, and for how many names of keys there is place
pub record Keys (K : Type 0) : Type 0 where
  pub keys : List K
  pub spare : ℕ
  pub kept : ℕ
  pub places : ℕ

-- ### where a key stands

module _ {K : Type 0} (order : K → K → Ordering) (key : K) where
  -- whether there is a key, and it ties with the given one
  abbrev pub ties : Option K → Bool
  ties None = false
  ties (Some other) = is_eq (order other key)

  -- a place in ascending keys: the key before it is below the given one, and the key at it isn't
  pub record IsPlace (keys : List K) (place : ℕ) : Type 0 where
    pub ascends : Ascends order keys
    pub within : place ≤ length keys
    pub before : 0 < place → IfSome (slice_get keys (place - 1)) (λ other. is_lt (order other key) ≡ true)
    pub behind : IfSome (slice_get keys place) (λ other. is_lt (order other key) ≡ false)
