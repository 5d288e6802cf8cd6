-- Keys and items of TOML values.
use Rattle.std.proofs.Common.{◌≡◌, Bool, ◌||◌, true, false, not, List, [], ◌∷◌, map, Option, Some, None, option_map, String, Global, string_bytes, bytes_eq, cond, Bor, refl, ap, ℕ, IfSome, inl, inr, ◌∙◌}
use Rattle.std.proofs.lemmas.Bool.{cases_Bool}
use Rattle.std.proofs.lemmas.Cmp.{nat_list_cmp_total}
use Rattle.std.specs.Cmp.Lexicographic.{slice_cmp}
use Rattle.std.specs.List.{list_any, find, AllByRecursion}
use Rattle.std.specs.List.Sorted.{IsStrictlySortedBy}
use Rattle.std.specs.Ordering.{nat_cmp, ordering_reverse}
use Rattle.std.specs.String.{string_cmp}
use Rattle.std.specs.declared.cmp.Ordering.TheVariants.{Less, Greater}
use Rattle.std.specs.Map.{keys_of}
use Rattle.toml.specs.View.{members_view}
use Rattle.toml.specs.declared.value.Value.{Value}
use Rattle.lisp_settings.specs.Fields.{lesser, unknown_key}

-- a test of what references point to
pub list_any-map_now : (test : List ℕ → Bool) (keys : List (Bor (List ℕ))) → list_any (λ key. test key.now) keys ≡ list_any test (map (λ key. key.now) keys)
list_any-map_now test [] = refl
list_any-map_now test (key ∷ keys) = ap (λ (rest : Bool). test key.now || rest) (list_any-map_now test keys)

-- what holds of each key holds of the one that is found
found_holds : (P : String Global → Type 0) (test : String Global → Bool) (keys : List (String Global)) → AllByRecursion P keys → IfSome (find test keys) P
found_holds P test [] all = tt
found_holds P test (key ∷ keys) all = elim (cases_Bool (test key)) [
  | inl passes ↦ rw passes all.0
  | inr fails ↦ rw fails (found_holds P test keys all.1)
]

-- a key that comes before another is the lesser one
lesser_first : (key : String Global) (other : Option (String Global)) → IfSome other (λ q. string_cmp key q ≡ Less) → lesser (string_bytes key) (option_map string_bytes other) ≡ string_bytes key
lesser_first key None before = refl
lesser_first key (Some other) before =
    let after : slice_cmp nat_cmp (string_bytes other) (string_bytes key) ≡ Greater =
    nat_list_cmp_total.antisymm (string_bytes other) (string_bytes key) ∙ ap ordering_reverse before in
    rw after refl

chosen : (known : Bool) (key : String Global) (first : Option (String Global)) (others : Option (List ℕ)) → others ≡ option_map string_bytes first → lesser (string_bytes key) others ≡ string_bytes key → cond known others (Some (lesser (string_bytes key) others)) ≡ option_map string_bytes (cond (not known) (Some key) first)
chosen true key first others same least = same
chosen false key first others same least = ap Some least

-- the first key of a map that isn't one of these is the least such key, since keys ascend
pub unknown_key-members : (known : List (List ℕ)) (entries : List (String Global × Value)) → IsStrictlySortedBy string_cmp (keys_of entries) → unknown_key known (members_view entries) ≡ option_map string_bytes (find (λ key. not (list_any (λ k. bytes_eq k (string_bytes key)) known)) (keys_of entries))
unfolding IsStrictlySortedBy
unknown_key-members known [] ascend = refl
unknown_key-members known (entry ∷ entries) ascend =
    let test : String Global → Bool = λ key. not (list_any (λ k. bytes_eq k (string_bytes key)) known) in
    let others = unknown_key-members known entries ascend.1 in
    let least = ap (lesser (string_bytes entry.0)) others ∙ lesser_first entry.0 (find test (keys_of entries)) (found_holds (λ q. string_cmp entry.0 q ≡ Less) test (keys_of entries) ascend.0) in
    chosen (list_any (λ k. bytes_eq k (string_bytes entry.0)) known) entry.0 (find test (keys_of entries)) (unknown_key known (members_view entries)) others least

-- one function after another
pub option_map-both : {A B C : Type 0} (f : B → C) (g : A → B) (o : Option A) → option_map (λ x. f (g x)) o ≡ option_map f (option_map g o)
option_map-both f g None = refl
option_map-both f g (Some x) = refl
