-- What stands in the front of a list is read of the front alone.
use Rattle.std.proofs.Common.{◌≡◌, ℕ, ◌+◌, ◌-◌, ◌≤◌, ◌<◌, slice_index, List, take, drop, ap, ◌∙◌, arith}
use Rattle.std.proofs.lemmas.List.{drop-take, get_or-take}
use Rattle.byteorder.specs.Numbers.{little_from-take, big_from-take}
use Rattle.octets.specs.Numbers.{big, little}

-- the rest of a front is the front of the rest
pub drop-front : (at size : ℕ) (octets : List ℕ) → at ≤ size → drop at (take size octets) ≡ take (size - at) (drop at octets)
drop-front at size octets within =
    let split : size ≡ at + (size - at) = omega arith in
    ap (λ (k : ℕ). drop at (take k octets)) split ∙ drop-take at (size - at) octets

pub little-take : (n at size : ℕ) (octets : List ℕ) → at + n ≤ size → little n (take size octets) at ≡ little n octets at
little-take n at size octets within =
    ap (λ (front : List ℕ). little n front 0) (drop-front at size octets (omega arith)) ∙ little_from-take 0 n (size - at) (drop at octets) (omega arith)

pub big-take : (n at size : ℕ) (octets : List ℕ) → at + n ≤ size → big n (take size octets) at ≡ big n octets at
big-take n at size octets within =
    ap (λ (front : List ℕ). big n front 0) (drop-front at size octets (omega arith)) ∙ big_from-take 0 n (size - at) (drop at octets) (omega arith)

pub slice_index-take : (size at : ℕ) (octets : List ℕ) → at < size → slice_index (take size octets) at ≡ slice_index octets at
slice_index-take size at octets within = get_or-take size octets at 0 within
