-- Decimal digits, as std's parser reads them.
use Rattle.std.proofs.Common.{◌≡◌, ◌≢◌, ℕ, ◌<◌, ◌≤◌, List, [], ◌∷◌, Bool, true, false, ◌&&◌, ◌||◌, ◌==◌, ◌^◌, ◌-◌, drop, get_or, take, length, map, Bor, String, Global, ap, nat_le, None, refl, ◌∙◌, inl, inr, arith}
use Rattle.std.specs.List.{list_all, list_any}
use Rattle.std.specs.Prelude.{string_bytes}
use Rattle.std.specs.Str.Parse.{AllDigits, IsNumeral, digits_value, without_leading_plus}
use Rattle.std.proofs.lemmas.Bool.{and_parts, cases_lt}
use Rattle.std.proofs.lemmas.Bool.Decides.{nat_tests}
use Rattle.std.proofs.lemmas.List.{take_all}
use Rattle.std.proofs.lemmas.Str.Parse.{without_leading_plus_none}
use Rattle.std.specs.Char.{digit_value}
use Rattle.command_words.specs.Words.{are_options, is_decimal, is_digit, is_option, number_in, value_of}

digit : (octet : ℕ) → is_digit octet ≡ true → digit_value octet < 10
digit octet is = grind (arith, nat_tests)

digits : (text : List ℕ) → list_all is_digit text ≡ true → AllDigits 10 text
digits [] all = tt
digits (octet ∷ text) all =
    let (first, rest) = and_parts (is_digit octet) (list_all is_digit text) all in
    (digit octet first, digits text rest)

pub all_digits : (first : ℕ) (rest : List ℕ) → is_digit first ≡ true → list_all is_digit rest ≡ true → AllDigits 10 (first ∷ rest)
all_digits first rest is all = (digit first is, digits rest all)

no_plus : (first : ℕ) → is_digit first ≡ true → first ≢ 43
no_plus first is plus = grind (arith, nat_tests)

-- what std's parser reads of decimal digits
pub decimal : (text : List ℕ) → is_decimal text ≡ true → IsNumeral 10 text × (without_leading_plus text ≡ text)
decimal [] is = cc
decimal (first ∷ rest) is =
    let (front, alone) = and_parts (is_digit first && list_all is_digit rest) _ is in
    let (here, all) = and_parts (is_digit first) (list_all is_digit rest) front in
    ((omega arith, all_digits first rest here all), without_leading_plus_none (first ∷ rest) (no_plus first here))

-- digits that are too many for the type are past any greatest of it
pub too_large : (least greatest : ℕ) (text : List ℕ) → greatest < 2 ^ 32 → is_decimal text ≡ true → ¬ (IsNumeral 10 (without_leading_plus text) × (digits_value 10 (without_leading_plus text) < 2 ^ 32))
    → None ≡ number_in least greatest text
too_large least greatest text fits is none =
    let (numeral, same) = decimal text is in
    elim (cases_lt (digits_value 10 text) (2 ^ 32)) [
      | inl small ↦ absurd (none (rw same (numeral, small)))
      | inr large ↦
          let past : nat_le (digits_value 10 text) greatest ≡ false = grind (arith, nat_tests) in
          rw (is, past, and_false (nat_le least (digits_value 10 text))) refl
    ]
  where
    and_false : (b : Bool) → (b && false) ≡ false
    and_false true = refl
    and_false false = refl

-- behind a single word there is no value
pub value_of-short : (name : List ℕ) (words : List (String Global)) → length words < 2 → value_of name (map string_bytes words) ≡ None
value_of-short name [] short = refl
value_of-short name (word ∷ []) short = refl
value_of-short name (word ∷ (other ∷ more)) short = absurd (omega arith)

-- a single word is no option
pub are_options-short : (names : List (List ℕ)) (words : List (String Global)) → length words < 2 → are_options names (map string_bytes words) ≡ (length words == 0)
are_options-short names [] short = refl
are_options-short names (word ∷ []) short = refl
are_options-short names (word ∷ (other ∷ more)) short = absurd (omega arith)

-- a test of what references point to
pub list_any-map_now : (test : List ℕ → Bool) (names : List (Bor (List ℕ))) → list_any (λ name. test name.now) names ≡ list_any test (map (λ name. name.now) names)
list_any-map_now test [] = refl
list_any-map_now test (name ∷ names) = ap (λ (rest : Bool). test name.now || rest) (list_any-map_now test names)

-- the two words in front, and those behind them
pub are_options-more : (names : List (List ℕ)) (words : List (String Global)) (first second : String Global) (name value : List ℕ) → 2 ≤ length words → first ≡ get_or words 0 first → second ≡ get_or words 1 second
    → name ≡ string_bytes first → value ≡ string_bytes second
    → are_options names (map string_bytes words)
    ≡ (is_option names name value (map string_bytes (take (length words - 2) (drop 2 words))) && are_options names (map string_bytes (take (length words - 2) (drop 2 words))))
are_options-more names [] first second name value long is next named valued = absurd (omega arith)
are_options-more names (word ∷ []) first second name value long is next named valued = absurd (omega arith)
are_options-more names (word ∷ (other ∷ more)) first second name value long is next named valued =
    let one : name ≡ string_bytes word = named ∙ ap string_bytes is in
    let two : value ≡ string_bytes other = valued ∙ ap string_bytes next in
    let all : take (length (word ∷ (other ∷ more)) - 2) (drop 2 (word ∷ (other ∷ more))) ≡ more = take_all (length (word ∷ (other ∷ more)) - 2) more (omega arith) in
    rw (one, two, all) refl
