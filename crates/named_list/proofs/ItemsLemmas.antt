-- The nodes of names, in order.
use Rattle.std.proofs.Common.{◌≡◌, ℕ, zero, suc, ◌<◌, ◌==◌, true, cond, if◌then◌else◌, List, [], ◌∷◌, ◌++◌, length, get_or, take, drop, slice_get, Option, Some, None, is_some, All, inl, inr, refl, sym, ap, ◌∙◌, arith}
use Rattle.std.proofs.lemmas.Bool.{cases_Bool, eqb-true}
use Rattle.std.proofs.lemmas.List.Elements.{All-head, All-tail}
use Rattle.node_store.specs.Store.{Store, node_at, IsLive}
use Rattle.named_list.specs.Named.{before, items_at, item_named}

module _ {T : Type 0} where
  pub live_some : (node : Option T) → is_some node ≡ true → (item : T) × (node ≡ Some item)
  live_some None is = absurd (cc (is))
  live_some (Some item) is = (item, refl)

  -- a first name whose node is known
  pub items_at-more : (store : Store T) (name : ℕ) (names : List ℕ) (item : T) → node_at store name ≡ Some item → items_at store (name ∷ names) ≡ item ∷ items_at store names
  items_at-more store name names item is = ap (λ node. before node (items_at store names)) is

  pub length-items_at : (store : Store T) (names : List ℕ) → All (IsLive store) names → length (items_at store names) ≡ length names
  length-items_at store [] each = refl
  length-items_at store (name ∷ names) each =
      let first = live_some (node_at store name) (All-head (IsLive store) name names each) in
      ap length (items_at-more store name names first.0 first.1) ∙ ap suc (length-items_at store names (All-tail (IsLive store) name names each))

  -- the item at a place is the node of the name there
  pub slice_get-items_at : (store : Store T) (names : List ℕ) (i name : ℕ) → All (IsLive store) names → i < length names → name ≡ get_or names i name → slice_get (items_at store names) i ≡ node_at store name
  slice_get-items_at store [] i name each within is = absurd (omega (arith, within))
  slice_get-items_at store (first ∷ names) zero name each within is =
      let node = live_some (node_at store first) (All-head (IsLive store) first names each) in
      ap (λ items. slice_get items 0) (items_at-more store first names node.0 node.1) ∙ sym node.1 ∙ ap (node_at store) (sym is)
  slice_get-items_at store (first ∷ names) (suc i) name each within is =
      let node = live_some (node_at store first) (All-head (IsLive store) first names each) in
      ap (λ items. slice_get items (suc i)) (items_at-more store first names node.0 node.1) ∙ slice_get-items_at store names i name (All-tail (IsLive store) first names each) (omega (arith, within)) is

  -- the same, where the name is looked up
  pub place-items_at : (store : Store T) (names : List ℕ) (i name : ℕ) → All (IsLive store) names → slice_get names i ≡ Some name → slice_get (items_at store names) i ≡ node_at store name
  place-items_at store [] i name each is = absurd (cc is)
  place-items_at store (first ∷ names) zero name each is =
      let node = live_some (node_at store first) (All-head (IsLive store) first names each) in
      ap (λ items. slice_get items 0) (items_at-more store first names node.0 node.1) ∙ sym node.1 ∙ ap (node_at store) (cc is)
  place-items_at store (first ∷ names) (suc i) name each is =
      let node = live_some (node_at store first) (All-head (IsLive store) first names each) in
      ap (λ items. slice_get items (suc i)) (items_at-more store first names node.0 node.1) ∙ place-items_at store names i name (All-tail (IsLive store) first names each) is

  pub take-items_at : (store : Store T) (i : ℕ) (names : List ℕ) → All (IsLive store) names → take i (items_at store names) ≡ items_at store (take i names)
  take-items_at store zero names each = refl
  take-items_at store (suc i) [] each = refl
  take-items_at store (suc i) (first ∷ names) each =
      let node = live_some (node_at store first) (All-head (IsLive store) first names each) in
      ap (take (suc i)) (items_at-more store first names node.0 node.1) ∙ ap (λ items. node.0 ∷ items) (take-items_at store i names (All-tail (IsLive store) first names each)) ∙ sym (items_at-more store first (take i names) node.0 node.1)

  pub drop-items_at : (store : Store T) (i : ℕ) (names : List ℕ) → All (IsLive store) names → drop i (items_at store names) ≡ items_at store (drop i names)
  drop-items_at store zero names each = refl
  drop-items_at store (suc i) [] each = refl
  drop-items_at store (suc i) (first ∷ names) each =
      let node = live_some (node_at store first) (All-head (IsLive store) first names each) in
      ap (drop (suc i)) (items_at-more store first names node.0 node.1) ∙ drop-items_at store i names (All-tail (IsLive store) first names each)

  before-append : (node : Option T) (front behind : List T) → before node (front ++ behind) ≡ before node front ++ behind
  before-append None front behind = refl
  before-append (Some item) front behind = refl

  pub items_at-append : (store : Store T) (front behind : List ℕ) → items_at store (front ++ behind) ≡ items_at store front ++ items_at store behind
  items_at-append store [] behind = refl
  items_at-append store (name ∷ front) behind =
      ap (before (node_at store name)) (items_at-append store front behind) ∙ before-append (node_at store name) (items_at store front) (items_at store behind)

  -- names whose nodes stayed have the same items
  pub items_at-same : (old new : Store T) (names : List ℕ) → All (λ name. node_at new name ≡ node_at old name) names → items_at new names ≡ items_at old names
  items_at-same old new [] same = refl
  items_at-same old new (name ∷ names) same =
      ap (λ node. before node (items_at new names)) (All-head (λ n. node_at new n ≡ node_at old n) name names same) ∙ ap (before (node_at old name)) (items_at-same old new names (All-tail (λ n. node_at new n ≡ node_at old n) name names same))

  -- where the first name is another one, the item is one of those behind
  named-first : (store : Store T) (first : ℕ) (names : List ℕ) (name : ℕ) (item : T) → node_at store first ≡ Some item → item_named (first ∷ names) (items_at store (first ∷ names)) name ≡ (if first == name then Some item else item_named names (items_at store names) name)
  named-first store first names name item is = ap (λ items. item_named (first ∷ names) items name) (items_at-more store first names item is)

  -- a name without a node is no item's
  pub item_named-dead : (store : Store T) (names : List ℕ) (name : ℕ) → All (IsLive store) names → node_at store name ≡ None → item_named names (items_at store names) name ≡ None
  item_named-dead store [] name each dead = refl
  item_named-dead store (first ∷ names) name each dead =
      let node = live_some (node_at store first) (All-head (IsLive store) first names each) in
      let step = named-first store first names name node.0 node.1 in
      elim (cases_Bool (first == name)) [
        | inl same ↦ absurd (cc (sym node.1 ∙ ap (node_at store) (eqb-true first name same) ∙ dead))
        | inr differ ↦ step ∙ ap (λ b. cond b (Some node.0) (item_named names (items_at store names) name)) differ ∙ item_named-dead store names name (All-tail (IsLive store) first names each) dead
      ]

  -- there are so many names as items
  pub names_within : (store : Store T) (names : List ℕ) (i : ℕ) → All (IsLive store) names → i < length (items_at store names) → i < length names
  names_within store names i each within = omega (arith, within, length-items_at store names each)
