-- Roots in order: one gets another name, one is put into its gap, one goes.
use Rattle.std.proofs.Common.{◌≡◌, ◌≢◌, ℕ, ◌+◌, ◌-◌, ◌<◌, ◌≤◌, List, length, get_or, set, take, drop, All, inl, inr, sym, ap, ◌∙◌, arith, subst}
use Rattle.std.specs.List.{insert, remove}
use Rattle.std.proofs.lemmas.Bool.{cases_eq}
use Rattle.std.proofs.lemmas.List.{get_or-set_same, get_or-set_other, length-set, get_or-take, get_or-drop, length-take-le, length-drop}
use Rattle.std.proofs.lemmas.List.Edits.{length-insert, get_or-insert_below, get_or-insert_at, get_or-insert_above, length-remove, get_or-remove_below, get_or-remove_above}
use Rattle.std.proofs.lemmas.List.Elements.{All-from_get_or}
use Rattle.prefix_table.specs.declared.node.Root.{Root}
use Rattle.prefix_table.specs.Roots.{root_at, Rises, IsAt, IsGapFor}

abbrev no_root : Root
no_root = record { key = 0; name = 0 }

-- roots stay in order where one gets another name
pub rises_set : (roots : List Root) (key at name : ℕ) → Rises roots → IsAt roots key at → Rises (set roots at (record { key = key; name = name }))
rises_set roots key at name rises found i j less in_range =
    let new = set roots at (record { key = key; name = name }) in
    let same_len = length-set roots at (record { key = key; name = name }) in
    let here : (k : ℕ) → k ≡ at → root_at new k ≡ root_at roots k = λ k is. rw is (ap (λ (r : Root). r.key) (get_or-set_same roots at (record { key = key; name = name }) no_root found.in_range) ∙ sym found.has_key) in
    let other : (k : ℕ) → k ≢ at → root_at new k ≡ root_at roots k = λ k differs. ap (λ (r : Root). r.key) (get_or-set_other roots at k (record { key = key; name = name }) no_root differs) in
    let stays : (k : ℕ) → root_at new k ≡ root_at roots k = λ k. elim (cases_eq k at) [ inl is ↦ here k is | inr differs ↦ other k differs ] in
    omega (arith, stays i, stays j, rises i j less (omega (arith, in_range, same_len)))

-- and where one is put into its gap
pub rises_insert : (roots : List Root) (key at name : ℕ) → Rises roots → IsGapFor roots key at → Rises (insert roots at (record { key = key; name = name }))
rises_insert l k at name sorted gap i j lt in_range =
    let r : Root = record { key = k; name = name } in
    let new = insert l at r in
    let length_new = length-insert l at r gap.in_range in
    let key = λ (x : Root). x.key in
    let key_below : (i : ℕ) → i < at → root_at new i ≡ root_at l i = λ i below. ap key (get_or-insert_below l at r no_root i below gap.in_range) in
    let key_here : (i : ℕ) → i ≡ at → root_at new i ≡ k = λ i here. rw here (ap key (get_or-insert_at l at r no_root gap.in_range)) in
    let key_above : (i : ℕ) → at < i → root_at new i ≡ root_at l (i - 1) = λ i above. subst (λ q. root_at new q ≡ root_at l (i - 1)) {x = i - 1 + 1} (omega arith) (ap key (get_or-insert_above l at r no_root (i - 1) (omega arith) gap.in_range)) in
    grind (arith, key_below i, key_here i, key_above i, key_below j, key_here j, key_above j, sorted i j, sorted i (j - 1), sorted (i - 1) (j - 1), gap.smaller_before i, gap.greater_after (j - 1))

-- and where one goes
pub rises_remove : (roots : List Root) (at : ℕ) → Rises roots → at < length roots → Rises (remove roots at)
rises_remove l at sorted within i j lt in_range =
    let length_new = length-remove l at within in
    let key = λ (x : Root). x.key in
    let key_below : (i : ℕ) → i < at → root_at (remove l at) i ≡ root_at l i = λ i below. ap key (get_or-remove_below l at no_root i below within) in
    let key_above : (i : ℕ) → at ≤ i → root_at (remove l at) i ≡ root_at l (i + 1) = λ i above. ap key (get_or-remove_above l at no_root i above within) in
    grind (arith, key_below i, key_above i, key_below j, key_above j, sorted i j, sorted i (j + 1), sorted (i + 1) (j + 1))

pub gap_lower : (roots : List Root) (key at : ℕ) → IsGapFor roots key at → All (λ r. r.key < key) (take at roots)
gap_lower roots key at gap =
    All-from_get_or (λ r. r.key < key) (take at roots) no_root (λ i in_range.
    let below : i < at = omega (arith, in_range, length-take-le at roots gap.in_range) in
    let read : (get_or (take at roots) i no_root).key ≡ root_at roots i = ap (λ (r : Root). r.key) (get_or-take at roots i no_root below) in
    omega (arith, read, gap.smaller_before i below))

pub gap_upper : (roots : List Root) (key at : ℕ) → IsGapFor roots key at → All (λ r. key < r.key) (drop at roots)
gap_upper roots key at gap =
    All-from_get_or (λ r. key < r.key) (drop at roots) no_root (λ i in_range.
    let inside : at + i < length roots = omega (arith, in_range, length-drop at roots) in
    let read : (get_or (drop at roots) i no_root).key ≡ root_at roots (at + i) = ap (λ (r : Root). r.key) (get_or-drop at roots i no_root) in
    omega (arith, read, gap.greater_after (at + i) (omega arith) inside))
