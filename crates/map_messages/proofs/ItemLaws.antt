-- Items one after another: what is spelled is read, what is read is spelled, and what is written is spelled.
use Rattle.std.proofs.Common.{◌≡◌, ℕ, zero, suc, ◌+◌, List, [], ◌∷◌, ◌++◌, length, drop, None, All, flat_map, refl, sym, ap, subst, ◌∙◌, append_assoc, arith}
use Rattle.std.proofs.lemmas.List.{drop_at, length-append}
use Rattle.std.proofs.lemmas.List.Concat.{flat_map-cons}
use Rattle.std.proofs.lemmas.List.Elements.{All-head, All-tail}
use Rattle.octets.specs.Rules.{first_failing}
use Rattle.octets.proofs.RuleLemmas.{first_failing-append}
use Rattle.mapping_records.proofs.SpelledRecord.{back_passes, front_passes}
use Rattle.map_messages.specs.Items.{items_rules, items_size, AreItems, EachAt, SpellItems}
use Rattle.map_messages.proofs.ItemsLemmas.{Rules, Size}

-- an item that obeys the rules, with its value and its octets
pub record ItemRead {T : Type 0} (Is : List ℕ → T → Type 0) (rules : Rules) (size : Size) (octets : List ℕ) (item : T) (n : ℕ) : Type 0 where
  pub pass : (base : ℕ) → first_failing (rules base octets) ≡ None
  pub value : Is octets item
  pub end : size octets ≡ n

-- items that obey the rules, with their values and their octets
pub record ItemsRead {T : Type 0} (Is : List ℕ → T → Type 0) (rules : Rules) (size : Size) (octets : List ℕ) (items : List T) (n : ℕ) : Type 0 where
  pub pass : (base : ℕ) → first_failing (items_rules rules size (length items) base octets) ≡ None
  pub each : EachAt Is size octets items
  pub end : items_size size (length items) octets ≡ n

-- what is spelled is read
pub spelled_items : {T : Type 0} (Is : List ℕ → T → Type 0) (rules : Rules) (size : Size) (Spells : List ℕ → T → ℕ → Type 0)
    → ((octets : List ℕ) (item : T) (n : ℕ) → Spells octets item n → ItemRead Is rules size octets item n)
    → (octets : List ℕ) (items : List T) (n : ℕ) → SpellItems Spells octets items n → ItemsRead Is rules size octets items n
spelled_items Is rules size Spells one octets [] n s = record { pass = λ base. refl; each = tt; end = sym s }
spelled_items Is rules size Spells one octets (item ∷ items) n (m, others, first, rest, whole) =
    let read = one octets item m first in
    let moved : drop m octets ≡ drop (size octets) octets = ap (λ (k : ℕ). drop k octets) (sym read.end) in
    let behind = spelled_items Is rules size Spells one (drop (size octets) octets) items others (subst (λ (d : List ℕ). SpellItems Spells d items others) moved rest) in
    record {
      pass = λ base. first_failing-append (rules base octets) (items_rules rules size (length items) (base + size octets) (drop (size octets) octets)) (read.pass base)
          ∙ behind.pass (base + size octets);
      each = (read.value, behind.each);
      end = ap (λ (k : ℕ). size octets + k) behind.end ∙ ap (λ (k : ℕ). k + others) read.end ∙ sym whole;
    }

-- what is read is spelled
items_are_spelled : {T : Type 0} (Is : List ℕ → T → Type 0) (rules : Rules) (size : Size) (Spells : List ℕ → T → ℕ → Type 0)
    → ((base : ℕ) (octets : List ℕ) (item : T) → first_failing (rules base octets) ≡ None → Is octets item → Spells octets item (size octets))
    → (base : ℕ) (octets : List ℕ) (items : List T) → first_failing (items_rules rules size (length items) base octets) ≡ None
    → EachAt Is size octets items → SpellItems Spells octets items (items_size size (length items) octets)
items_are_spelled Is rules size Spells one base octets [] none each = refl
items_are_spelled Is rules size Spells one base octets (item ∷ items) none each =
    let rest : List ℕ = drop (size octets) octets in
    let front = front_passes (rules base octets) (items_rules rules size (length items) (base + size octets) rest) none in
    let back = back_passes (rules base octets) (items_rules rules size (length items) (base + size octets) rest) none in (
      size octets,
      items_size size (length items) rest,
      one base octets item front each.0,
      items_are_spelled Is rules size Spells one (base + size octets) rest items back each.1,
      refl,
    )

-- items are there
pub some_items : {T : Type 0} (Is : List ℕ → T → Type 0) (rules : Rules) (size : Size)
    → ((base : ℕ) (octets : List ℕ) → first_failing (rules base octets) ≡ None → (item : T) × Is octets item)
    → (count base : ℕ) (octets : List ℕ) → first_failing (items_rules rules size count base octets) ≡ None → (items : List T) × AreItems Is size count octets items
some_items Is rules size one zero base octets none = ([], record { number = refl; each = tt })
some_items Is rules size one (suc count) base octets none =
    let rest : List ℕ = drop (size octets) octets in
    let first = one base octets (front_passes (rules base octets) (items_rules rules size count (base + size octets) rest) none) in
    let others = some_items Is rules size one count (base + size octets) rest (back_passes (rules base octets) (items_rules rules size count (base + size octets) rest) none) in
    (first.0 ∷ others.0, record { number = ap suc others.1.number; each = (first.1, others.1.each) })

-- the items at their places are the same
pub same_items : {T : Type 0} (Is : List ℕ → T → Type 0) (size : Size)
    → ((octets : List ℕ) (a b : T) → Is octets a → Is octets b → a ≡ b)
    → (octets : List ℕ) (a b : List T) → EachAt Is size octets a → EachAt Is size octets b → length a ≡ length b → a ≡ b
same_items Is size one octets [] [] s t number = refl
same_items Is size one octets (x ∷ a) (y ∷ b) s t number =
    ap (λ (first : _). first ∷ a) (one octets x y s.0 t.0)
    ∙ ap (λ (others : _). y ∷ others) (same_items Is size one (drop (size octets) octets) a b s.1 t.1 (omega (arith, number)))
same_items Is size one octets [] (y ∷ b) s t number = absurd (omega (arith, number))
same_items Is size one octets (x ∷ a) [] s t number = absurd (omega (arith, number))

-- what is written is spelled
pub items_spell : {T : Type 0} (Spells : List ℕ → T → ℕ → Type 0) (canonical : T → List ℕ) (Lawful : T → Type 0)
    → ((item : T) (rest : List ℕ) → Lawful item → Spells (canonical item ++ rest) item (length (canonical item)))
    → (items : List T) (rest : List ℕ) → All Lawful items → SpellItems Spells (flat_map canonical items ++ rest) items (length (flat_map canonical items))
items_spell Spells canonical Lawful one [] rest lawful = refl
items_spell Spells canonical Lawful one (item ∷ items) rest lawful =
    let first : List ℕ = canonical item in
    let others : List ℕ = flat_map canonical items in
    let cons = flat_map-cons canonical item items in
    let split : flat_map canonical (item ∷ items) ++ rest ≡ first ++ (others ++ rest) =
    ap (λ (t : List ℕ). t ++ rest) cons ∙ append_assoc first others rest in
    let moved : drop (length first) (first ++ (others ++ rest)) ≡ others ++ rest = drop_at first (others ++ rest) (length first) refl in
    let behind : SpellItems Spells (drop (length first) (first ++ (others ++ rest))) items (length others) =
    subst (λ (d : List ℕ). SpellItems Spells d items (length others)) (sym moved) (items_spell Spells canonical Lawful one items rest (All-tail Lawful item items lawful)) in
    let size : length (flat_map canonical (item ∷ items)) ≡ length first + length others = ap (λ (t : List ℕ). length t) cons ∙ length-append first others in
    subst (λ (d : List ℕ). SpellItems Spells d (item ∷ items) (length (flat_map canonical (item ∷ items)))) (sym split)
    (length first, length others, one item (others ++ rest) (All-head Lawful item items lawful), behind, size)

-- so many items that are read are spelled
pub are_spelled : {T : Type 0} (Is : List ℕ → T → Type 0) (rules : Rules) (size : Size) (Spells : List ℕ → T → ℕ → Type 0)
    → ((base : ℕ) (octets : List ℕ) (item : T) → first_failing (rules base octets) ≡ None → Is octets item → Spells octets item (size octets))
    → (count base : ℕ) (octets : List ℕ) (items : List T) → first_failing (items_rules rules size count base octets) ≡ None
    → AreItems Is size count octets items → SpellItems Spells octets items (items_size size count octets)
are_spelled Is rules size Spells one count base octets items none are =
    let pass : first_failing (items_rules rules size (length items) base octets) ≡ None = ap (λ (n : ℕ). first_failing (items_rules rules size n base octets)) are.number ∙ none in
    subst (λ (n : ℕ). SpellItems Spells octets items (items_size size n octets)) are.number (items_are_spelled Is rules size Spells one base octets items pass are.each)
