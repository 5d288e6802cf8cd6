-- The options of an IPv4 header, RFC 791 section 3.1.
use Rattle.std.specs.Prelude.{ℕ, zero, suc, ◌-◌, ◌%◌, ◌==◌, ◌||◌, ◌&&◌, nat_le, Bool, List, [], ◌∷◌, ◌++◌, length, take, drop, replicate, slice_index, Option, Some, None, is_some, option_map, unwrap_or, if◌then◌else◌}
use Rattle.std.specs.List.{flat_map}

-- no option is left: type 0, or the end of the octets
abbrev pub ends_options : List ℕ → Bool
ends_options octets = length octets == 0 || slice_index octets 0 == 0

-- the octets of the option at the front: one for type 1, else as many as its second octet gives
abbrev pub size_in : List ℕ → ℕ
size_in octets = if slice_index octets 0 == 1 then 1 else slice_index octets 1

-- the option at the front is well formed: of type 1, or at least its type and its length, and it fits
abbrev pub begins_well : List ℕ → Bool
begins_well octets =
    (slice_index octets 0 == 1 || nat_le 2 (slice_index octets 1)) && nat_le (size_in octets) (length octets)

-- the option at the front
abbrev pub first_option : List ℕ → List ℕ
first_option octets = take (size_in octets) octets

-- the octets behind the option at the front
abbrev pub behind_option : List ℕ → List ℕ
behind_option octets = drop (size_in octets) octets

-- the options in octets before their end, at most n, each as its octets; none where one isn't well formed
unfoldable pub options_within : ℕ → List ℕ → Option (List (List ℕ))
options_within zero octets = Some []
options_within (suc n) octets =
    if ends_options octets then Some []
    else if begins_well octets
    then option_map (λ options. first_option octets ∷ options) (options_within n (behind_option octets))
    else None

-- the options in octets before their end
abbrev pub options_in : List ℕ → Option (List (List ℕ))
options_in octets = options_within (length octets) octets

-- the options in octets are well formed
abbrev pub are_options : List ℕ → Bool
are_options octets = is_some (options_in octets)

-- the option stands in each fragment: the highest bit of its type is set
abbrev pub is_copied : List ℕ → Bool
is_copied option = nat_le 128 (slice_index option 0)

-- the copied options among these, joined
abbrev pub copied_of : List (List ℕ) → List ℕ
copied_of options = flat_map (λ option. if is_copied option then option else []) options

-- the copied options in octets
abbrev pub copied_in : List ℕ → List ℕ
copied_in octets = copied_of (unwrap_or (options_in octets) [])

-- how many zeros lead to the next place of four octets
abbrev pub padding : ℕ → ℕ
padding size = (4 - size % 4) % 4

-- octets with the zeros that lead to the next place of four octets
abbrev pub padded : List ℕ → List ℕ
padded octets = octets ++ replicate (padding (length octets)) 0
