-- Copies of records, one after another.
use Rattle.std.proofs.Common.{◌≡◌, ◌-◌, ◌≤◌, ℕ, suc, List, [], ◌∷◌, length, drop, take, sym, ap, refl, subst, ◌∙◌, arith}
use Rattle.std.specs.List.{All}
use Rattle.std.proofs.lemmas.List.{take_all}
use Rattle.std.proofs.lemmas.List.Elements.{All-drop}
use Rattle.mapping_records.specs.declared.record.Record.{Record}
use Rattle.router_core.specs.Copies.{all_copies}
use Rattle.router_core.specs.declared.copies.Copies.{Copies}

-- what is behind the first
behind : (records : List Record) → take (length records - 1) (drop 1 records) ≡ drop 1 records
behind [] = refl
behind (first ∷ others) = take_all (length (first ∷ others) - 1) others (omega arith)

copies-behind : (records : List Record) → drop 1 (all_copies records) ≡ all_copies (drop 1 records)
copies-behind [] = refl
copies-behind (first ∷ others) = refl

-- once the first copy is taken
pub copies-left : (records : List Record) (items left : List Copies) → items ≡ all_copies records → left ≡ drop 1 items → left ≡ all_copies (take (length records - 1) (drop 1 records))
copies-left records items left are is = is ∙ ap (drop 1) are ∙ copies-behind records ∙ ap all_copies (sym (behind records))

pub all-left : (P : Record → Type 0) (records : List Record) → All P records → All P (take (length records - 1) (drop 1 records))
all-left P records all = subst (All P) (sym (behind records)) (All-drop P 1 records all)

pub length-left : (records : List Record) → 1 ≤ length records → length (take (length records - 1) (drop 1 records)) ≡ length records - 1
length-left [] some = absurd (omega (arith, some))
length-left (first ∷ others) some = ap (λ (l : List Record). length l) (behind (first ∷ others)) ∙ one (length others)
  where
    one : (n : ℕ) → n ≡ suc n - 1
    one n = omega arith
