-- Hexadecimal texts, read octet by octet.
use Rattle.std.proofs.Common.{◌≡◌, ℕ, suc, ◌+◌, ◌*◌, ◌/◌, ◌%◌, ◌<◌, List, [], ◌∷◌, ◌++◌, length, get_or, take, drop, Option, Some, None, option_map, option_and_then, refl, sym, ap, ◌∙◌, arith, append_assoc, append-nil, eq-eqb, drop-cons}
use Rattle.std.proofs.Math.ListN.{set}
use Rattle.std.proofs.lemmas.List.{take_more_set, take_all, drop_all}
use Rattle.lisp_settings.specs.Hex.{digit, octet_of, octets_in, hex_octets}

-- the octet of the next two digits, and those after it
octets_in-next : (text : List ℕ) (a b n : ℕ) → b ≡ a + 1 → n ≡ a + 2 → b < length text → octets_in (drop a text) ≡ option_and_then (λ octet. option_map (λ octets. octet ∷ octets) (octets_in (drop n text))) (octet_of (get_or text a 0) (get_or text b 0))
octets_in-next text a b n b_is n_is below =
    let second : suc a ≡ b = omega arith in
    let third : suc b ≡ n = omega arith in
    let tail : drop b text ≡ get_or text b 0 ∷ drop n text = drop-cons text b 0 below ∙ ap (λ m. get_or text b 0 ∷ drop m text) third in
    let split : drop a text ≡ get_or text a 0 ∷ (get_or text b 0 ∷ drop n text) = drop-cons text a 0 (omega arith) ∙ ap (λ m. get_or text a 0 ∷ drop m text) second ∙ ap (λ t. get_or text a 0 ∷ t) tail in
    ap octets_in split

-- one octet moves from what is left to what is read
option_map-append : (a b : List ℕ) (v : ℕ) (r : Option (List ℕ)) → b ≡ a ++ v ∷ [] → option_map (λ more. a ++ more) (option_map (λ more. v ∷ more) r) ≡ option_map (λ more. b ++ more) r
option_map-append a b v None same = refl
option_map-append a b v (Some more) same = ap Some (sym (ap (λ l. l ++ more) same ∙ append_assoc a (v ∷ []) more))

-- one more octet is read
pub octets_in-more : (text out : List ℕ) (i v : ℕ) → 2 * i + 1 < length text → i < length out → octet_of (get_or text (2 * i) 0) (get_or text (2 * i + 1) 0) ≡ Some v → octets_in text ≡ option_map (λ more. take i out ++ more) (octets_in (drop (2 * i) text)) → octets_in text ≡ option_map (λ more. take (i + 1) (set out i v) ++ more) (octets_in (drop (2 * (i + 1)) text))
octets_in-more text out i v below room octet read =
    let next = octets_in-next text (2 * i) (2 * i + 1) (2 * (i + 1)) refl (omega arith) below in
    let taken = next ∙ ap (option_and_then (λ octet. option_map (λ octets. octet ∷ octets) (octets_in (drop (2 * (i + 1)) text)))) octet in
    read ∙ ap (option_map (λ more. take i out ++ more)) taken ∙ option_map-append (take i out) (take (i + 1) (set out i v)) v (octets_in (drop (2 * (i + 1)) text)) (take_more_set out i v room)

-- two digits that are none
pub octets_in-none : (text out : List ℕ) (i : ℕ) → 2 * i + 1 < length text → octet_of (get_or text (2 * i) 0) (get_or text (2 * i + 1) 0) ≡ None → octets_in text ≡ option_map (λ more. take i out ++ more) (octets_in (drop (2 * i) text)) → octets_in text ≡ None
octets_in-none text out i below octet read =
    let next = octets_in-next text (2 * i) (2 * i + 1) (2 * (i + 1)) refl (omega arith) below in
    read ∙ ap (option_map (λ more. take i out ++ more)) (next ∙ ap (option_and_then (λ octet. option_map (λ octets. octet ∷ octets) (octets_in (drop (2 * (i + 1)) text)))) octet)

-- a text of this length
pub hex_octets-read : (n : ℕ) (text : List ℕ) (octets : Option (List ℕ)) → length text ≡ 2 * n → octets_in text ≡ octets → hex_octets n text ≡ octets
hex_octets-read n text octets same read = rw (eq-eqb (length text) (2 * n) same) read

-- all octets are read
pub octets_in-all : (text out : List ℕ) (i : ℕ) → length text ≡ 2 * i → length out ≡ i → octets_in text ≡ option_map (λ more. take i out ++ more) (octets_in (drop (2 * i) text)) → octets_in text ≡ Some out
octets_in-all text out i size room read =
    read ∙ ap (λ t. option_map (λ more. take i out ++ more) (octets_in t)) (drop_all (2 * i) text (omega arith)) ∙ ap Some (append-nil (take i out) ∙ take_all i out (omega arith))

-- an octet behind others that were read
pushed_behind : (o : Option ℕ) (r s : Option (List ℕ)) (octets : List ℕ) (v : ℕ) → ((known : List ℕ) → r ≡ Some known → s ≡ Some (known ++ v ∷ [])) → option_and_then (λ octet. option_map (λ more. octet ∷ more) r) o ≡ Some octets → option_and_then (λ octet. option_map (λ more. octet ∷ more) s) o ≡ Some (octets ++ v ∷ [])
pushed_behind None r s octets v pushed read = cc
pushed_behind (Some octet) None s octets v pushed read = cc
pushed_behind (Some octet) (Some more) s octets v pushed read =
    let all : octet ∷ more ≡ octets = cc in
    ap (option_map (λ more. octet ∷ more)) (pushed more refl) ∙ ap (λ l. Some (l ++ v ∷ [])) all

-- two digits more are one octet more
pub octets_in-push : (text octets : List ℕ) (a b v : ℕ) → octet_of a b ≡ Some v → octets_in text ≡ Some octets → octets_in (text ++ a ∷ b ∷ []) ≡ Some (octets ++ v ∷ [])
octets_in-push [] octets a b v octet read =
    let none : [] ≡ octets = cc in
    ap (option_and_then (λ o. option_map (λ more. o ∷ more) (Some []))) octet ∙ ap (λ l. Some (l ++ v ∷ [])) none
octets_in-push (first ∷ []) octets a b v octet read = cc
octets_in-push (first ∷ second ∷ more) octets a b v octet read =
    pushed_behind (octet_of first second) (octets_in more) (octets_in (more ++ a ∷ b ∷ [])) octets v (λ known is. octets_in-push more known a b v octet is) read

-- an octet more in front
counted_behind : (o : Option ℕ) (r : Option (List ℕ)) (octets : List ℕ) (n : ℕ) → ((known : List ℕ) → r ≡ Some known → n ≡ 2 * length known) → option_and_then (λ octet. option_map (λ more. octet ∷ more) r) o ≡ Some octets → suc (suc n) ≡ 2 * length octets
counted_behind None r octets n counted read = cc
counted_behind (Some octet) None octets n counted read = cc
counted_behind (Some octet) (Some more) octets n counted read =
    let all : octet ∷ more ≡ octets = cc in
    omega (arith, counted more refl, ap length all)

-- two digits for each octet
octets_in-length : (text octets : List ℕ) → octets_in text ≡ Some octets → length text ≡ 2 * length octets
octets_in-length [] octets read = let none : [] ≡ octets = cc in omega (arith, ap length none)
octets_in-length (first ∷ []) octets read = cc
octets_in-length (first ∷ second ∷ more) octets read =
    counted_behind (octet_of first second) (octets_in more) octets (length more) (λ known is. octets_in-length more known is) read

-- a text of digits alone
pub hex_octets-digits : (text octets : List ℕ) → octets_in text ≡ Some octets → hex_octets (length octets) text ≡ Some octets
hex_octets-digits text octets read = hex_octets-read (length octets) text (Some octets) (octets_in-length text octets read) read

-- the two digits of an octet behind others
pub octets_in-digits : (text middle new known : List ℕ) (a b octet : ℕ) → middle ≡ text ++ a ∷ [] → new ≡ middle ++ b ∷ [] → digit a ≡ Some (octet / 16) → digit b ≡ Some (octet % 16) → octets_in text ≡ Some known → octets_in new ≡ Some (known ++ octet ∷ [])
octets_in-digits text middle new known a b octet first second high low read =
    let all : new ≡ text ++ a ∷ b ∷ [] = second ∙ ap (λ l. l ++ b ∷ []) first ∙ append_assoc text (a ∷ []) (b ∷ []) in
    let value : octet / 16 * 16 + octet % 16 ≡ octet = omega arith in
    let pair : octet_of a b ≡ Some octet = rw (high, low) (ap Some value) in
    ap octets_in all ∙ octets_in-push text known a b octet pair read
