-- Options, read one by one.
use Rattle.std.proofs.Common.{◌≡◌, ◌≤◌, ◌<◌, ◌+◌, ◌&&◌, ◌||◌, eqb, leb, ℕ, zero, suc, Bool, true, false, List, [], ◌∷◌, ◌++◌, length, slice_index, Option, Some, None, option_map, is_some, unwrap_or, if◌then◌else◌, inl, inr, refl, sym, ap, ◌∙◌, arith, length-append, length-drop}
use Rattle.std.proofs.lemmas.Bool.{cases_Bool, leb-true}
use Rattle.ip_headers.proofs.CutPacket.{both_hold}
use Rattle.split_v4.specs.Options.{are_options, begins_well, behind_option, copied_in, copied_of, ends_options, first_option, is_copied, options_in, options_within, size_in}

-- a size that is right for one octet, or for two and more
size_facts : (one : Bool) (second size : ℕ) → ((one || leb 2 second) && leb (if one then 1 else second) size) ≡ true
    → (1 ≤ (if one then 1 else second)) × ((if one then 1 else second) ≤ size)
size_facts true second size is = (omega arith, leb-true 1 size is)
size_facts false second size is =
    let both = both_hold (leb 2 second) (leb second size) is in
    (omega (arith, leb-true 2 second both.0), leb-true second size both.1)

-- a well formed option has some octets, and fits
pub well_facts : (octets : List ℕ) → begins_well octets ≡ true → (1 ≤ size_in octets) × (size_in octets ≤ length octets)
well_facts octets well = size_facts (eqb (slice_index octets 0) 1) (slice_index octets 1) (length octets) well

-- fewer octets are left behind an option
pub behind-less : (octets behind : List ℕ) → begins_well octets ≡ true → behind ≡ behind_option octets → length behind < length octets
behind-less octets behind well is =
    let facts = well_facts octets well in
    omega (arith, facts.0, facts.1, length-drop (size_in octets) octets, ap length is)

-- as many options as there are octets are enough
enough : (n m : ℕ) (octets : List ℕ) → length octets ≤ n → length octets ≤ m → options_within n octets ≡ options_within m octets
unfolding options_within
enough zero zero octets a b = refl
enough zero (suc m) [] a b = refl
enough zero (suc m) (x ∷ octets) a b = absurd (omega arith)
enough (suc n) zero [] a b = refl
enough (suc n) zero (x ∷ octets) a b = absurd (omega arith)
enough (suc n) (suc m) [] a b = refl
enough (suc n) (suc m) (x ∷ octets) a b =
    let l = x ∷ octets in
    elim (cases_Bool (begins_well l)) [
      | inl well ↦ let less = behind-less l (behind_option l) well refl in
          ap (λ (others : Option (List (List ℕ))). if ends_options l then Some [] else if begins_well l then option_map (λ (options : List (List ℕ)). first_option l ∷ options) others else None)
          (enough n m (behind_option l) (omega (arith, less)) (omega (arith, less)))
      | inr bad ↦ rw bad refl
    ]

-- no option
pub options-end : (octets : List ℕ) → ends_options octets ≡ true → options_in octets ≡ Some []
unfolding options_within
options-end [] ends = refl
options-end (x ∷ octets) ends = rw ends refl

-- an option that isn't well formed
pub options-bad : (octets : List ℕ) → ends_options octets ≡ false → begins_well octets ≡ false → options_in octets ≡ None
unfolding options_within
options-bad [] some bad = cc
options-bad (x ∷ octets) some bad = rw (some, bad) refl

-- the option at the front, and then the others
pub options-step : (octets : List ℕ) → ends_options octets ≡ false → begins_well octets ≡ true
    → options_in octets ≡ option_map (λ (options : List (List ℕ)). first_option octets ∷ options) (options_in (behind_option octets))
unfolding options_within
options-step [] some well = cc
options-step (x ∷ octets) some well =
    let l = x ∷ octets in
    let less = behind-less l (behind_option l) well refl in
    rw (some, well) (ap (option_map (λ (options : List (List ℕ)). first_option l ∷ options)) (enough (length octets) (length (behind_option l)) (behind_option l) (omega (arith, less)) (omega arith)))

-- what an option adds to those that are copied
abbrev pub piece : List ℕ → List ℕ
piece option = if is_copied option then option else []

-- how many octets are copied of options
abbrev pub copied_size : Option (List (List ℕ)) → Option ℕ
copied_size options = option_map (λ options. length (copied_of options)) options

size-more : (first : List ℕ) (others : Option (List (List ℕ)))
    → copied_size (option_map (λ (options : List (List ℕ)). first ∷ options) others) ≡ option_map (λ (n : ℕ). length (piece first) + n) (copied_size others)
size-more first None = refl
size-more first (Some others) = ap Some (length-append (piece first) (copied_of others))

-- the octets of the copied ones, option by option
pub size-step : (octets option behind : List ℕ) → ends_options octets ≡ false → begins_well octets ≡ true → option ≡ first_option octets → behind ≡ behind_option octets
    → copied_size (options_in octets) ≡ option_map (λ (n : ℕ). length (piece option) + n) (copied_size (options_in behind))
size-step octets option behind some well is rest =
    rw (is, rest, options-step octets some well) (size-more (first_option octets) (options_in (behind_option octets)))

-- the copied ones, option by option
copied-more : (first : List ℕ) (others : Option (List (List ℕ))) → is_some (option_map (λ (options : List (List ℕ)). first ∷ options) others) ≡ true
    → (copied_of (unwrap_or (option_map (λ (options : List (List ℕ)). first ∷ options) others) []) ≡ piece first ++ copied_of (unwrap_or others [])) × (is_some others ≡ true)
copied-more first None are = cc
copied-more first (Some others) are = (refl, refl)

pub copied-step : (octets option behind : List ℕ) → ends_options octets ≡ false → begins_well octets ≡ true → are_options octets ≡ true → option ≡ first_option octets → behind ≡ behind_option octets
    → (copied_in octets ≡ piece option ++ copied_in behind) × (are_options behind ≡ true)
copied-step octets option behind some well are is rest =
    let step = options-step octets some well in
    rw (is, rest, step) (copied-more (first_option octets) (options_in (behind_option octets)) (ap is_some (sym step) ∙ are))

-- well formed options begin with one, unless they are at their end
pub begins : (octets : List ℕ) → ends_options octets ≡ false → are_options octets ≡ true → begins_well octets ≡ true
begins octets some are =
    elim (cases_Bool (begins_well octets)) [
      | inl well ↦ well
      | inr bad ↦ let none = options-bad octets some bad in let stopped = ap is_some none in absurd (cc)
    ]
