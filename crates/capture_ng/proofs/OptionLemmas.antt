-- Options, read one by one.
use Rattle.std.proofs.Common.{◌≡◌, ◌≤◌, ◌<◌, ◌+◌, ◌&&◌, ◌||◌, nat_le, ℕ, zero, suc, Bool, true, false, List, [], ◌∷◌, length, Option, Some, None, if◌then◌else◌, refl, sym, ap, ◌∙◌, arith, ◌^◌}
use Rattle.std.proofs.Math.Nat.{pow-suc, pow-zero}
use Rattle.std.specs.List.{list_all}
use Rattle.std.proofs.lemmas.List.{length-drop}
use Rattle.capture_ng.specs.Interfaces.{NgOption, behind_option, clock_after, clock_on, ends_options, first_option, fit_within, is_proper, options_fit, options_in, options_within, padded, set_by, size_in}
use Rattle.capture_ng.specs.declared.interface.Clock.{Clock}
use Rattle.capture_io.specs.declared.order.Order.{Order}

-- as many options as there are octets are enough
enough : (n m : ℕ) (order : Order) (octets : List ℕ) → length octets ≤ n → length octets ≤ m → options_within n order octets ≡ options_within m order octets
unfolding options_within
enough zero zero order octets a b = refl
enough zero (suc m) order [] a b = refl
enough zero (suc m) order (x ∷ octets) a b = absurd (omega arith)
enough (suc n) zero order [] a b = refl
enough (suc n) zero order (x ∷ octets) a b = absurd (omega arith)
enough (suc n) (suc m) order [] a b = refl
enough (suc n) (suc m) order (x ∷ octets) a b =
    let l = x ∷ octets in
    let less = length-drop (4 + padded (size_in order l)) l in
    ap (λ (options : List NgOption). if ends_options order l then [] else first_option order l ∷ options) (enough n m order (behind_option order l) (omega (arith, less)) (omega (arith, less)))

enough_fit : (n m : ℕ) (order : Order) (octets : List ℕ) → length octets ≤ n → length octets ≤ m → fit_within n order octets ≡ fit_within m order octets
unfolding fit_within
enough_fit zero zero order octets a b = refl
enough_fit zero (suc m) order [] a b = refl
enough_fit zero (suc m) order (x ∷ octets) a b = absurd (omega arith)
enough_fit (suc n) zero order [] a b = refl
enough_fit (suc n) zero order (x ∷ octets) a b = absurd (omega arith)
enough_fit (suc n) (suc m) order [] a b = refl
enough_fit (suc n) (suc m) order (x ∷ octets) a b =
    let l = x ∷ octets in
    let less = length-drop (4 + padded (size_in order l)) l in
    ap (λ (fit : Bool). ends_options order l || (nat_le (4 + size_in order l) (length l) && fit)) (enough_fit n m order (behind_option order l) (omega (arith, less)) (omega (arith, less)))

-- the option at the front, and then the others
options-step : (order : Order) (octets : List ℕ) → ends_options order octets ≡ false → options_in order octets ≡ first_option order octets ∷ options_in order (behind_option order octets)
unfolding options_within
options-step order [] some = cc
options-step order (x ∷ octets) some =
    let l = x ∷ octets in
    let less = length-drop (4 + padded (size_in order l)) l in
    rw some (ap (λ (options : List NgOption). first_option order l ∷ options) (enough (length octets) (length (behind_option order l)) order (behind_option order l) (omega (arith, less)) (omega arith)))

fit-step : (order : Order) (octets : List ℕ) → ends_options order octets ≡ false → options_fit order octets ≡ (nat_le (4 + size_in order octets) (length octets) && options_fit order (behind_option order octets))
unfolding fit_within
fit-step order [] some = cc
fit-step order (x ∷ octets) some =
    let l = x ∷ octets in
    let less = length-drop (4 + padded (size_in order l)) l in
    rw some (ap (λ (fit : Bool). nat_le (4 + size_in order l) (length l) && fit) (enough_fit (length octets) (length (behind_option order l)) order (behind_option order l) (omega (arith, less)) (omega arith)))

options-end : (order : Order) (octets : List ℕ) → ends_options order octets ≡ true → options_in order octets ≡ []
unfolding options_within
options-end order [] ends = refl
options-end order (x ∷ octets) ends = rw ends refl

fit-end : (order : Order) (octets : List ℕ) → ends_options order octets ≡ true → options_fit order octets ≡ true
unfolding fit_within
fit-end order [] ends = refl
fit-end order (x ∷ octets) ends = rw ends refl

-- no option
pub clock_on-end : (order : Order) (clock : Clock) (octets : List ℕ) → ends_options order octets ≡ true → clock_on order clock octets ≡ Some clock
clock_on-end order clock octets ends = rw (fit-end order octets ends, options-end order octets ends) refl

-- an option whose value doesn't fit
pub clock_on-unfit : (order : Order) (clock : Clock) (octets : List ℕ) → ends_options order octets ≡ false → nat_le (4 + size_in order octets) (length octets) ≡ false → clock_on order clock octets ≡ None
clock_on-unfit order clock octets some long = rw (fit-step order octets some, long) refl

-- the tests of an option and of the others
joined : {X : Type 0} (fit proper others : Bool) (some none : X) → (if (fit && (proper && others)) then some else none) ≡ (if proper then (if (fit && others) then some else none) else none)
joined true true others some none = refl
joined true false others some none = refl
joined false true others some none = refl
joined false false others some none = refl

-- an option whose value fits, and then the others
pub clock_on-step : (order : Order) (clock : Clock) (octets : List ℕ) → ends_options order octets ≡ false → nat_le (4 + size_in order octets) (length octets) ≡ true
    → clock_on order clock octets ≡ (if is_proper order (first_option order octets) then clock_on order (set_by order (first_option order octets) clock) (behind_option order octets) else None)
clock_on-step order clock octets some fits =
    let one = first_option order octets in
    let more = options_in order (behind_option order octets) in
    rw (fit-step order octets some, fits, options-step order octets some)
    (joined (options_fit order (behind_option order octets)) (is_proper order one) (list_all (is_proper order) more) (Some (clock_after order (set_by order one clock) more)) None)

-- a proper option, which sets the clock
sets : (proper : Bool) (one next : Clock) (on : Clock → Option Clock) → Some next ≡ (if proper then Some one else None) → (if proper then on one else None) ≡ on next
sets true one next on is = let same : next ≡ one = cc in ap on (sym same)
sets false one next on is = cc

pub clock_on-sets : (order : Order) (clock next : Clock) (option : NgOption) (octets behind : List ℕ) → ends_options order octets ≡ false → nat_le (4 + size_in order octets) (length octets) ≡ true
    → option ≡ first_option order octets → behind ≡ behind_option order octets
    → Some next ≡ (if is_proper order option then Some (set_by order option clock) else None)
    → clock_on order clock octets ≡ clock_on order next behind
clock_on-sets order clock next option octets behind some fits is rest sets_it =
    let one = first_option order octets in
    let of_one : Some next ≡ (if is_proper order one then Some (set_by order one clock) else None) =
    sets_it ∙ ap (λ (o : NgOption). if is_proper order o then Some (set_by order o clock) else None) is in
    clock_on-step order clock octets some fits
    ∙ sets (is_proper order one) (set_by order one clock) next (λ c. clock_on order c (behind_option order octets)) of_one
    ∙ ap (clock_on order next) (sym rest)

-- an option that isn't proper
refuses : (proper : Bool) (one : Clock) (other : Option Clock) → None ≡ (if proper then Some one else None) → (if proper then other else None) ≡ None
refuses true one other is = cc
refuses false one other is = refl

pub clock_on-refuses : (order : Order) (clock : Clock) (option : NgOption) (octets : List ℕ) → ends_options order octets ≡ false → nat_le (4 + size_in order octets) (length octets) ≡ true
    → option ≡ first_option order octets
    → None ≡ (if is_proper order option then Some (set_by order option clock) else None)
    → clock_on order clock octets ≡ None
clock_on-refuses order clock option octets some fits is refused =
    let one = first_option order octets in
    let of_one : None ≡ (if is_proper order one then Some (set_by order one clock) else None) =
    refused ∙ ap (λ (o : NgOption). if is_proper order o then Some (set_by order o clock) else None) is in
    clock_on-step order clock octets some fits
    ∙ refuses (is_proper order one) (set_by order one clock) (clock_on order (set_by order one clock) (behind_option order octets)) of_one

-- fewer octets are left behind an option
pub behind-less : (order : Order) (octets behind : List ℕ) → ends_options order octets ≡ false → behind ≡ behind_option order octets → length behind < length octets
behind-less order [] behind some is = cc
behind-less order (x ∷ octets) behind some is =
    let less = length-drop (4 + padded (size_in order (x ∷ octets))) (x ∷ octets) in
    omega (arith, less, ap (λ (l : List ℕ). length l) is)

-- a power of ten is some number
pub ten_some : (k : ℕ) → 0 < 10 ^ k
ten_some zero = omega (arith, pow-zero 10)
ten_some (suc k) = let fewer = ten_some k in omega (arith, fewer, pow-suc 10 k)
