-- The texts that std's parsers take, and what the definitions read in them.
use Rattle.std.proofs.Common.{◌≡◌, ◌≢◌, ◌⊎◌, ℕ, ◌^◌, ◌<◌, ◌≤◌, List, [], ◌∷◌, length, get_or, drop, Some, None, option_map, decimal, refl, sym, ap, ◌∙◌, subst, arith, inl, inr, append-nil, lit≤, ne_eqb, eq-eqb, length-drop}
use Rattle.std.proofs.lemmas.Bool.{cases_lt}
use Rattle.std.proofs.lemmas.Fmt.{decimal_is_IsNumeral, decimal_digit, first_decimal, decimal-digits_value}
use Rattle.std.proofs.lemmas.Str.Parse.{numerals_by_value, tells_digits}
use Rattle.std.proofs.NetLemmas.Ipv4.{read_octet_complete, read_octet_sound, read_ipv4_complete, read_ipv4_sound}
use Rattle.std.proofs.NetLemmas.Ipv6.{read_ipv6_complete, read_ipv6_sound, EndsGroups-nil}
use Rattle.std.specs.Int.{w32, w128, from_be_bytes}
use Rattle.std.specs.Net.Addr.{ipv4_octets, ipv4_bits, ipv6_segments, ipv6_bits, octets_of}
use Rattle.std.specs.Net.Grammar.{IsIpv4Text, IsIpv6Text}
use Rattle.std.specs.Net.Reader.{Read, read_octet, read_ipv4, read_ipv6, whole_value}
use Rattle.std.specs.Str.Parse.{IsNumeral, digits_value, without_leading_plus}
use Rattle.std.specs.declared.net.ipv4_addr.Ipv4Addr.{Ipv4Addr}
use Rattle.std.specs.declared.net.ipv6_addr.Ipv6Addr.{Ipv6Addr}
use Rattle.ip_headers.specs.declared.addr.Addr.TheVariants.{V4, V6}
use Rattle.lisp_settings.specs.AddressText.{ipv4_address, ipv6_address, length_of}

-- where no value is read with nothing left over, there is no whole value
whole_value-none : {A : Type 0} (read : Read A) → ((value : A) → read ≡ Some (value, []) → ⊥) → whole_value read ≡ None
whole_value-none None refused = refl
whole_value-none (Some (value, [])) refused = absurd (refused value refl)
whole_value-none (Some (value, octet ∷ rest)) refused = rw (ne_eqb (length (octet ∷ rest)) 0 (omega arith))

-- a text by std's grammar of IPv4 is that address
pub ipv4_address-taken : (text : List ℕ) (address : Ipv4Addr) → IsIpv4Text text address → ipv4_address text ≡ Some (V4 (ipv4_bits address))
unfolding ipv4_bits
ipv4_address-taken text address spells =
    let read = rw append-nil at (read_ipv4_complete text (ipv4_octets address) [] spells (lit≤ tt)) in
    ap (λ r. option_map (λ octets. V4 (from_be_bytes w32 octets)) (whole_value r)) read

-- and no other text is one
pub ipv4_address-refused : (text : List ℕ) → ((address : Ipv4Addr) → ¬ (IsIpv4Text text address)) → ipv4_address text ≡ None
ipv4_address-refused text refused =
    ap (option_map (λ octets. V4 (from_be_bytes w32 octets))) (whole_value-none (read_ipv4 text) (λ octets read.
    let (front, split, spells) = read_ipv4_sound text octets [] read in
    refused (record { octets = octets }) (subst (λ t. IsIpv4Text t (record { octets = octets })) (sym (split ∙ append-nil front)) spells)))

-- a text by std's grammar of IPv6 is that address
pub ipv6_address-taken : (text : List ℕ) (address : Ipv6Addr) → IsIpv6Text text address → ipv6_address text ≡ Some (V6 (ipv6_bits address))
unfolding ipv6_bits
ipv6_address-taken text address spells =
    let read = rw append-nil at (read_ipv6_complete text (ipv6_segments address) [] spells EndsGroups-nil) in
    ap (λ r. option_map (λ groups. V6 (from_be_bytes w128 (octets_of groups))) (whole_value r)) read

-- and no other text is one
pub ipv6_address-refused : (text : List ℕ) → ((address : Ipv6Addr) → ¬ (IsIpv6Text text address)) → ipv6_address text ≡ None
ipv6_address-refused text refused =
    ap (option_map (λ groups. V6 (from_be_bytes w128 (octets_of groups)))) (whole_value-none (read_ipv6 text) (λ segments read.
    let (front, split, spells) = read_ipv6_sound text segments [] read in
    refused (record { segments = segments }) (subst (λ t. IsIpv6Text t (record { segments = segments })) (sym (split ∙ append-nil front)) spells)))

-- the decimal text of a number below 256 is a length
pub length_of-decimal : (n : ℕ) → n < 256 → length_of (decimal n) ≡ Some n
unfolding length_of
length_of-decimal n small = ap whole_value (rw append-nil at (read_octet_complete n [] small (lit≤ tt)))

-- and nothing else is one
length_of-none : (text : List ℕ) → ((n : ℕ) → n < 256 → text ≡ decimal n → ⊥) → length_of text ≡ None
unfolding length_of
length_of-none text refused = whole_value-none (read_octet text) (λ n read.
    let (small, split, stop) = read_octet_sound text [] n read in
    refused n small (split ∙ append-nil (decimal n)))

-- the first octet of a decimal text: a digit, and 0 only alone
first-decimal : (n : ℕ) → n < 256 → (48 ≤ get_or (decimal n) 0 0) × (get_or (decimal n) 0 0 ≡ 48 → length (decimal n) ≡ 1)
first-decimal n small =
    let wide : n < 2 ^ 64 = omega arith in
    elim (cases_lt n 10) [
      | inl one ↦ rw (decimal_digit n one) (omega arith, λ zero. refl)
      | inr more ↦ let first = first_decimal n (omega arith) wide in (omega arith, λ zero. absurd (omega arith))
    ]

pub length_of-empty : length_of [] ≡ None
length_of-empty = length_of-none [] (λ n small is. absurd (omega (arith, ap length is, (decimal_is_IsNumeral n (omega arith)).0.0)))

-- a zero or a plus stands before other octets
abbrev pub IsPadded : List ℕ → Type 0
IsPadded text = (1 < length text) × ((get_or text 0 0 ≡ 48) ⊎ (get_or text 0 0 ≡ 43))

-- a decimal text isn't padded
pub length_of-padded : (text : List ℕ) → IsPadded text → length_of text ≡ None
length_of-padded text padded = length_of-none text (λ n small is.
    let (digit, alone) = first-decimal n small in
    let same = ap (λ t. get_or t 0 0) is in
    elim padded.1 [
      | inl zero ↦ absurd (omega (arith, padded.0, ap length is, alone (sym same ∙ zero)))
      | inr plus ↦ absurd (omega (arith, digit, same, plus))
    ])

-- where no plus stands first, none is left out
without_plus : (text : List ℕ) → get_or text 0 0 ≢ 43 → without_leading_plus text ≡ text
without_plus text other = rw (ne_eqb (get_or text 0 0) 43 other) refl

-- a plus alone, or before other octets, is no number that isn't padded
plus_alone : (text : List ℕ) → ¬ (IsPadded text) → get_or text 0 0 ≡ 43 → IsNumeral 10 (without_leading_plus text) → ⊥
plus_alone text plain plus numeral =
    elim (cases_lt 1 (length text)) [
      | inl more ↦ plain (more, inr plus)
      | inr one ↦
          let left : without_leading_plus text ≡ drop 1 text = rw (eq-eqb (get_or text 0 0) 43 plus) refl in
          omega (arith, (rw left at numeral).0, length-drop 1 text)
    ]

-- digits that aren't padded are a length
pub length_of-digits : (text : List ℕ) → ¬ (IsPadded text) → IsNumeral 10 (without_leading_plus text) → digits_value 10 (without_leading_plus text) < 256 → length_of text ≡ Some (digits_value 10 (without_leading_plus text))
length_of-digits text plain numeral small =
    let no_plus : get_or text 0 0 ≢ 43 = λ plus. plus_alone text plain plus numeral in
    let same = without_plus text no_plus in
    let (some, digits) = rw same at numeral in
    let below = rw same at small in
    let alone : get_or text 0 0 ≡ 48 → length text ≡ 1 = λ zero. elim (cases_lt 1 (length text)) [ inl more ↦ absurd (plain (more, inl zero)) | inr one ↦ omega arith ] in
    let spelled = decimal-digits_value (numerals_by_value _ tells_digits) text digits some alone (omega arith) in
    rw same (subst (λ t. length_of t ≡ Some (digits_value 10 text)) spelled (length_of-decimal (digits_value 10 text) below))

-- what isn't digits below 256 is no length
pub length_of-other : (text : List ℕ) → ¬ (IsNumeral 10 (without_leading_plus text) × (digits_value 10 (without_leading_plus text) < 2 ^ 8)) → length_of text ≡ None
length_of-other text other = length_of-none text (λ n small is.
    let (numeral, value) = decimal_is_IsNumeral n (omega arith) in
    let no_plus : get_or text 0 0 ≢ 43 = omega (arith, (first-decimal n small).0, ap (λ t. get_or t 0 0) is) in
    let same : without_leading_plus text ≡ decimal n = without_plus text no_plus ∙ is in
    other (rw same (numeral, omega (arith, value))))
