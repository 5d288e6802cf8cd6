-- The texts of addresses and prefixes that are written, as they are read.
use Rattle.std.proofs.Common.{◌≡◌, ◌||◌, ℕ, zero, suc, ◌+◌, ◌-◌, ◌*◌, ◌/◌, ◌%◌, ◌^◌, ◌<◌, ◌≤◌, Bool, true, false, nat_le, IsTrue, List, [], ◌∷◌, ◌++◌, length, get_or, Some, decimal, refl, sym, ap, ◌∙◌, arith, inl, inr, ne_eqb, eqb-true, leb-true, take, drop, take_at, drop_at, append_assoc, length-append}
use Rattle.std.proofs.Math.Nat.{div-add-mod'}
use Rattle.std.proofs.lemmas.Bool.{and_parts, or_parts}
use Rattle.std.proofs.lemmas.List.Elements.{All-weaker}
use Rattle.std.proofs.lemmas.List.Folds.{list_any-append, list_any_none}
use Rattle.std.proofs.lemmas.Nat.{from_be_bytes-to_be_bytes_4}
use Rattle.std.proofs.NetLemmas.Alphabet.{IsDigitOrDot, IsHexOrColon, All-ipv4_text, All-hex_groups_text}
use Rattle.std.proofs.NetLemmas.Texts.{AllSegments, IsDotted-ipv4_text, IsColonHex-hex_groups_text}
use Rattle.std.specs.Int.{w32, w128, byte_at, bytes_high_first, from_be_bytes, to_be_bytes}
use Rattle.std.specs.List.{list_any, before_first, after_first, position_or_len}
use Rattle.std.specs.Net.Addr.{ipv4_octets, ipv4_bits, ipv6_segments, ipv6_bits, octets_of, segments_of, IsIpv4OfBits, IsIpv6OfBits}
use Rattle.std.specs.Net.Text.{ipv4_text, hex_groups_text}
use Rattle.std.specs.declared.net.ipv4_addr.Ipv4Addr.{Ipv4Addr}
use Rattle.std.specs.declared.net.ipv6_addr.Ipv6Addr.{Ipv6Addr}
use Rattle.octets.specs.Numbers.{big}
use Rattle.ip_headers.specs.Addr.{width, cleared, is_prefix}
use Rattle.ip_headers.specs.declared.addr.Addr.{Addr}
use Rattle.ip_headers.specs.declared.addr.Addr.TheVariants.{V4, V6}
use Rattle.ip_headers.specs.declared.prefix.Prefix.{Prefix}
use Rattle.mapping_records.proofs.EidLemmas.{back}
use Rattle.lisp_settings.specs.AddressText.{is_dot, is_slash, address_of, prefix_of, prefix_with_length, lawful_prefix}
use Rattle.lisp_settings.proofs.PrefixLemmas.{lawful_prefix-parts, prefix_of-parts}
use Rattle.lisp_settings.proofs.TextLemmas.{ipv4_address-taken, ipv6_address-taken, length_of-decimal}

-- octets of an address are no slash, and in an IPv6 address no dot
digit_or_dot-no_slash : (c : ℕ) → IsDigitOrDot c → is_slash c ≡ false
digit_or_dot-no_slash c (inl digit) = ne_eqb c 47 (omega arith)
digit_or_dot-no_slash c (inr dot) = ne_eqb c 47 (omega arith)

hex_or_colon-no_slash : (c : ℕ) → IsHexOrColon c → is_slash c ≡ false
hex_or_colon-no_slash c (inl low) = ne_eqb c 47 (omega arith)
hex_or_colon-no_slash c (inr high) = ne_eqb c 47 (omega arith)

hex_or_colon-no_dot : (c : ℕ) → IsHexOrColon c → is_dot c ≡ false
hex_or_colon-no_dot c (inl low) = ne_eqb c 46 (omega arith)
hex_or_colon-no_dot c (inr high) = ne_eqb c 46 (omega arith)

-- octets of a number
byte_at-small : (i n : ℕ) → byte_at i n < 256
byte_at-small zero n = omega arith
byte_at-small (suc i) n = omega arith

octets-small : (k n i : ℕ) → get_or (bytes_high_first k n) i 0 < 256
octets-small zero n i = omega arith
octets-small (suc k) n zero = byte_at-small k n
octets-small (suc k) n (suc i) = octets-small k n i

or_true : (b : Bool) → (b || true) ≡ true
or_true true = refl
or_true false = refl

-- a dot among octets
has_dot : (front back : List ℕ) → list_any is_dot ((front ++ 46 ∷ []) ++ back) ≡ true
has_dot front back =
    list_any-append is_dot (front ++ 46 ∷ []) back ∙ ap (λ (b : Bool). b || list_any is_dot back) (list_any-append is_dot front (46 ∷ []) ∙ or_true (list_any is_dot front))

-- the text of an IPv4 address is read as it
pub ipv4_text-reads : (address : Ipv4Addr) (bits : ℕ) → IsIpv4OfBits address bits → bits < 2 ^ 32 → address_of (ipv4_text (ipv4_octets address)) ≡ Some (V4 bits)
unfolding IsIpv4OfBits ipv4_bits address_of
ipv4_text-reads address bits same fits =
    let four : length (ipv4_octets address) ≡ 4 = ap length same in
    let small : (k : ℕ) → get_or (ipv4_octets address) k 0 < 2 ^ 8 = λ k. rw same (octets-small 4 bits k) in
    let number : ipv4_bits address ≡ bits = ap (from_be_bytes w32) same ∙ from_be_bytes-to_be_bytes_4 bits fits in
    rw (has_dot _ (decimal (get_or (ipv4_octets address) 3 0))) (ipv4_address-taken (ipv4_text (ipv4_octets address)) address (IsDotted-ipv4_text (ipv4_octets address) four small) ∙ ap (λ n. Some (V4 n)) number)

-- it has no slash
pub ipv4_text-no_slash : (address : Ipv4Addr) (bits : ℕ) → IsIpv4OfBits address bits → list_any is_slash (ipv4_text (ipv4_octets address)) ≡ false
unfolding IsIpv4OfBits
ipv4_text-no_slash address bits same =
    let small : (k : ℕ) → get_or (ipv4_octets address) k 0 < 2 ^ 8 = λ k. rw same (octets-small 4 bits k) in
    list_any_none is_slash (ipv4_text (ipv4_octets address)) (All-weaker IsDigitOrDot (λ c. is_slash c ≡ false) digit_or_dot-no_slash _ (All-ipv4_text (ipv4_octets address) small))

-- twice as many
abbrev double : ℕ → ℕ
double zero = zero
double (suc n) = suc (suc (double n))

-- the octets of a number in pairs, and apart again
octets_of-segments_of : (k n : ℕ) → octets_of (segments_of (bytes_high_first (double k) n)) ≡ bytes_high_first (double k) n
octets_of-segments_of zero n = refl
octets_of-segments_of (suc k) n =
    let a = byte_at (suc (double k)) n in
    let b = byte_at (double k) n in
    let small : b < 256 = byte_at-small (double k) n in
    let high : (a * 256 + b) / 256 ≡ a = omega arith in
    let low : (a * 256 + b) % 256 ≡ b = omega arith in
    rw (high, low, octets_of-segments_of k n) refl

-- each pair has 16 bits
segments-small : (k n : ℕ) → AllSegments (segments_of (bytes_high_first (double k) n))
segments-small zero n i = omega arith
segments-small (suc k) n zero = omega (arith, byte_at-small (suc (double k)) n, byte_at-small (double k) n)
segments-small (suc k) n (suc i) = segments-small k n i

-- std's number of sixteen octets
big-from_be_bytes : (octets : List ℕ) → from_be_bytes w128 octets ≡ big 16 octets 0
big-from_be_bytes octets = omega arith

from_be_bytes-to_be_bytes_16 : (n : ℕ) → n < 2 ^ 128 → from_be_bytes w128 (to_be_bytes w128 n) ≡ n
from_be_bytes-to_be_bytes_16 n fits = big-from_be_bytes (to_be_bytes w128 n) ∙ back 16 n [] (omega arith)

-- the text of groups is read as their IPv6 address
pub hex_groups_text-reads : (address : Ipv6Addr) (bits : ℕ) → IsIpv6OfBits address bits → bits < 2 ^ 128 → address_of (hex_groups_text (ipv6_segments address)) ≡ Some (V6 bits)
unfolding IsIpv6OfBits ipv6_bits address_of
hex_groups_text-reads address bits same fits =
    let eight : length (ipv6_segments address) ≡ 8 = ap length same in
    let small : AllSegments (ipv6_segments address) = λ k. rw same (segments-small 8 bits k) in
    let number : ipv6_bits address ≡ bits = ap (λ s. from_be_bytes w128 (octets_of s)) same ∙ ap (from_be_bytes w128) (octets_of-segments_of 8 bits) ∙ from_be_bytes-to_be_bytes_16 bits fits in
    let plain = list_any_none is_dot (hex_groups_text (ipv6_segments address)) (All-weaker IsHexOrColon (λ c. is_dot c ≡ false) hex_or_colon-no_dot _ (All-hex_groups_text (ipv6_segments address) small)) in
    rw plain (ipv6_address-taken (hex_groups_text (ipv6_segments address)) address (IsColonHex-hex_groups_text (ipv6_segments address) eight small) ∙ ap (λ n. Some (V6 n)) number)

-- it has no slash
pub hex_groups_text-no_slash : (address : Ipv6Addr) (bits : ℕ) → IsIpv6OfBits address bits → list_any is_slash (hex_groups_text (ipv6_segments address)) ≡ false
unfolding IsIpv6OfBits
hex_groups_text-no_slash address bits same =
    let small : AllSegments (ipv6_segments address) = λ k. rw same (segments-small 8 bits k) in
    list_any_none is_slash (hex_groups_text (ipv6_segments address)) (All-weaker IsHexOrColon (λ c. is_slash c ≡ false) hex_or_colon-no_slash _ (All-hex_groups_text (ipv6_segments address) small))

-- the first slash
slash_behind : (front back : List ℕ) → list_any is_slash front ≡ false → position_or_len is_slash (front ++ 47 ∷ back) ≡ length front
slash_behind [] back none = refl
slash_behind (c ∷ front) back none =
    let (first, more) = or_parts (is_slash c) (list_any is_slash front) none in
    rw first (omega (arith, slash_behind front back more))

-- bits that are 0 stay
cleared-own : (addr : Addr) (len : ℕ) → IsTrue (is_prefix addr len) → cleared addr len ≡ addr
cleared-own (V4 n) len lawful =
    let rest : n % 2 ^ (32 - len) ≡ 0 = eqb-true _ 0 (and_parts (nat_le len 32) _ lawful).1 in
    ap V4 (omega (arith, rest, div-add-mod' n (2 ^ (32 - len))))
cleared-own (V6 n) len lawful =
    let rest : n % 2 ^ (128 - len) ≡ 0 = eqb-true _ 0 (and_parts (nat_le len 128) _ lawful).1 in
    ap V6 (omega (arith, rest, div-add-mod' n (2 ^ (128 - len))))

width-small : (addr : Addr) → width addr ≤ 128
width-small (V4 n) = omega arith
width-small (V6 n) = omega arith

-- no prefix is longer than an IPv6 address
prefix-short : (prefix : Prefix) → prefix.len < 256
prefix-short prefix =
    let within = leb-true prefix.len (width prefix.addr) (and_parts (nat_le prefix.len (width prefix.addr)) _ prefix.lawful).0 in
    omega (arith, within, width-small prefix.addr)

-- the parts of a prefix make it
prefix_with_length-own : (prefix : Prefix) → prefix_with_length prefix.addr prefix.len ≡ Some prefix
unfolding prefix_with_length
prefix_with_length-own prefix = ap (λ addr. lawful_prefix addr prefix.len) (cleared-own prefix.addr prefix.len prefix.lawful) ∙ lawful_prefix-parts prefix

-- an address, a slash and a length are read as the prefix
pub prefix_text-reads : (prefix : Prefix) (text address : List ℕ) → text ≡ address ++ 47 ∷ decimal prefix.len → address_of address ≡ Some prefix.addr → list_any is_slash address ≡ false → prefix_of text ≡ Some prefix
prefix_text-reads prefix text address is reads whole =
    let place : position_or_len is_slash text ≡ length address = ap (position_or_len is_slash) is ∙ slash_behind address (decimal prefix.len) whole in
    let front : address ≡ before_first is_slash text = sym (ap (λ n. take n text) place ∙ ap (take (length address)) is ∙ take_at address (47 ∷ decimal prefix.len) (length address) refl) in
    let back : decimal prefix.len ≡ after_first is_slash text = sym (ap (λ n. drop (n + 1) text) place ∙ ap (drop (length address + 1)) (is ∙ sym (append_assoc address (47 ∷ []) (decimal prefix.len))) ∙ drop_at (address ++ 47 ∷ []) (decimal prefix.len) (length address + 1) (length-append address (47 ∷ []))) in
    prefix_of-parts text address (decimal prefix.len) front back (Some prefix.addr) (sym reads) (Some prefix.len) (sym (length_of-decimal prefix.len (prefix-short prefix))) ∙ prefix_with_length-own prefix
