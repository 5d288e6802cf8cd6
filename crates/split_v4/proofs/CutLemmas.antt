-- Where a packet is cut, and which are.
use Rattle.std.proofs.Common.{◌≡◌, ◌≤◌, ◌<◌, ◌+◌, ◌-◌, ◌/◌, ◌&&◌, not, leb, ltb, le-leb, ℕ, Bool, true, false, List, length, replicate, Option, Some, None, is_some, unwrap_or, [], if◌then◌else◌, refl, sym, ap, ◌∙◌, arith, length-append, length-drop}
use Rattle.std.proofs.lemmas.Bool.{lt-leb, lt-ltb}
use Rattle.std.proofs.lemmas.List.{length-replicate}
use Rattle.ip_headers.specs.Ip.{header_at, header_len, is_v4, v4_at}
use Rattle.ip_headers.specs.declared.header.IpHeader.TheVariants.{V4, V6}
use Rattle.ip_headers.specs.declared.header.V4Header.{V4Header}
use Rattle.split_v4.specs.declared.cutting.Cut.{Cut}
use Rattle.split_v4.specs.Halves.{copied_options, cut_above, cut_in, first_eighths, option_octets}
use Rattle.split_v4.specs.Limits.{most_offset}
use Rattle.split_v4.specs.Options.{are_options, copied_in, copied_of, options_in, padded, padding}
use Rattle.split_v4.proofs.OptionLemmas.{copied_size}

-- an IPv4 header is that of an IPv4 packet
by_version : (octets : List ℕ) (h : V4Header) (four : Bool) → is_v4 octets ≡ four → V4 h ≡ header_at octets → (is_v4 octets ≡ true) × (h ≡ v4_at octets)
by_version octets h true four is = let same : V4 h ≡ V4 (v4_at octets) = rw four at is in (four, cc)
by_version octets h false four is = let same : V4 h ≡ V6 _ = rw four at is in absurd (cc)

pub header_is : (octets : List ℕ) (h : V4Header) → V4 h ≡ header_at octets → (is_v4 octets ≡ true) × (h ≡ v4_at octets)
header_is octets h is = by_version octets h (is_v4 octets) refl is

-- half of the payload, by the lengths of packet and header
pub eighths-is : (octets : List ℕ) → first_eighths octets ≡ (length octets - header_len octets + 15) / 16
eighths-is octets = ap (λ (n : ℕ). (n + 15) / 16) (length-drop (header_len octets) octets)

-- the tests of a packet that is cut, of which one or none fails
refused : (a b c d e : Bool) (cut : Cut) → d ≡ false → None ≡ (if a && (b && (c && (d && e))) then Some cut else None)
refused false b c d e cut near = refl
refused true false c d e cut near = refl
refused true true false d e cut near = refl
refused true true true true e cut near = cc
refused true true true false e cut near = refl

taken : (a b c d e : Bool) (cut : Cut) → a ≡ true → b ≡ true → c ≡ true → d ≡ true → e ≡ true → Some cut ≡ (if a && (b && (c && (d && e))) then Some cut else None)
taken a b c d e cut p q r s t = rw (p, q, r, s, t) refl

-- past the most offset a packet isn't split
pub cut-far : (most : ℕ) (octets : List ℕ) (h : V4Header) → V4 h ≡ header_at octets
    → most_offset < h.offset + (length octets - h.header_len + 15) / 16 → None ≡ cut_above most octets
cut-far most octets h is far =
    let same = (header_is octets h is).1 in
    let offset = ap (λ (x : V4Header). x.offset) same in
    let size = ap (λ (x : V4Header). x.header_len) same in
    let eighths : first_eighths octets ≡ (length octets - h.header_len + 15) / 16 = eighths-is octets ∙ ap (λ (n : ℕ). (length octets - n + 15) / 16) (sym size) in
    let near = lt-leb ((v4_at octets).offset + first_eighths octets) most_offset (omega (arith, offset, eighths)) in
    refused (ltb most (length octets)) (is_v4 octets) (not (v4_at octets).dont_fragment) (leb ((v4_at octets).offset + first_eighths octets) most_offset) (are_options (option_octets octets)) (cut_in octets) near

-- how many octets are copied
some-size : (options : Option (List (List ℕ))) (copied : ℕ) → Some copied ≡ copied_size options → (is_some options ≡ true) × (length (copied_of (unwrap_or options [])) ≡ copied)
some-size None copied is = cc
some-size (Some options) copied is = (refl, cc)

-- the same with their padding
padded-size : (octets : List ℕ) (copied : ℕ) → length octets ≡ copied → length (padded octets) ≡ copied + padding copied
padded-size octets copied is =
    rw (← is) (length-append octets (replicate (padding (length octets)) 0) ∙ ap (λ (n : ℕ). length octets + n) (length-replicate (padding (length octets)) 0))

-- where a packet is cut
pub cut-is : (most : ℕ) (octets : List ℕ) (h : V4Header) (copied : ℕ) → V4 h ≡ header_at octets → most < length octets → h.dont_fragment ≡ false
    → h.offset + (length octets - h.header_len + 15) / 16 ≤ most_offset → Some copied ≡ copied_size (options_in (option_octets octets))
    → Some (record { header_len = h.header_len; copied_len = copied + padding copied; eighths = (length octets - h.header_len + 15) / 16 }) ≡ cut_above most octets
cut-is most octets h copied is large may near well =
    let of_v4 = header_is octets h is in
    let same = of_v4.1 in
    let offset = ap (λ (x : V4Header). x.offset) same in
    let size : h.header_len ≡ header_len octets = ap (λ (x : V4Header). x.header_len) same in
    let eighths : (length octets - h.header_len + 15) / 16 ≡ first_eighths octets = ap (λ (n : ℕ). (length octets - n + 15) / 16) size ∙ sym (eighths-is octets) in
    let options = some-size (options_in (option_octets octets)) copied well in
    let copies : copied + padding copied ≡ length (copied_options octets) = sym (padded-size (copied_in (option_octets octets)) copied options.1) in
    rw (copies, eighths, size)
    (taken (ltb most (length octets)) (is_v4 octets) (not (v4_at octets).dont_fragment) (leb ((v4_at octets).offset + first_eighths octets) most_offset) (are_options (option_octets octets)) (cut_in octets)
    (lt-ltb most (length octets) large) of_v4.0 (ap not (ap (λ (x : V4Header). x.dont_fragment) (sym same) ∙ may)) (le-leb _ _ (omega (arith, offset, eighths))) options.0)
