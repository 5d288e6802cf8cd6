-- Hexadecimal digits of either case.
use Rattle.std.specs.Prelude.{ℕ, ◌+◌, ◌*◌, ◌-◌, ◌==◌, ◌&&◌, nat_le, Bool, List, [], ◌∷◌, length, Option, Some, None, option_map, if◌then◌else◌}
use Rattle.std.specs.Int.{w64, from_be_bytes}
use Rattle.lisp_settings.specs.AddressText.{◌>>=◌}

-- whether an octet lies from the first to the last one
abbrev pub lies_within : ℕ → ℕ → ℕ → Bool
lies_within first last octet = nat_le first octet && nat_le octet last

-- the value of a hexadecimal digit
abbrev pub digit : ℕ → Option ℕ
digit octet =
    if lies_within 48 57 octet then Some (octet - 48)
    else (if lies_within 65 70 octet then Some (octet - 55)
    else (if lies_within 97 102 octet then Some (octet - 87) else None))

-- the octet that two hexadecimal digits spell, the high one first
abbrev pub octet_of : ℕ → ℕ → Option ℕ
octet_of first second = do
  high ← digit first
  low ← digit second
  Some (high * 16 + low)

-- the octets that a text spells, two digits each
abbrev pub octets_in : List ℕ → Option (List ℕ)
octets_in [] = Some []
octets_in (first ∷ []) = None
octets_in (first ∷ (second ∷ more)) = do
  octet ← octet_of first second
  option_map (λ octets. octet ∷ octets) (octets_in more)

-- the n octets that a text of 2 n digits spells
abbrev pub hex_octets : ℕ → List ℕ → Option (List ℕ)
hex_octets n text = if length text == 2 * n then octets_in text else None

-- the number that a text of 16 digits spells
abbrev pub hex_number : List ℕ → Option ℕ
hex_number text = option_map (λ octets. from_be_bytes w64 octets) (hex_octets 8 text)
