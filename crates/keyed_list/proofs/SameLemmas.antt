-- Which items have the key of a nonce, of a locator, of an EID, or of both.
use Rattle.std.proofs.Common.{◌≡◌, ℕ, ◌==◌, ◌&&◌, ◌^◌, ◌%◌, ◌/◌, Bool, true, false, Ordering, Less, Equal, Greater, is_eq, nat_cmp, refl, ap, ap₂, ◌∙◌, arith}
use Rattle.std.specs.Ordering.{ordering_then}
use Rattle.std.proofs.lemmas.Bool.Decides.{nat_tests}
use Rattle.std.proofs.Math.Nat.{div-add-mod}
use Rattle.ip_headers.specs.declared.addr.Addr.{Addr}
use Rattle.ip_headers.specs.declared.addr.Addr.TheVariants.{V4, V6}
use Rattle.mapping_records.specs.Eids.{same_address, same_eid}
use Rattle.mapping_records.specs.declared.eid.Eid.{Eid}
use Rattle.keyed_list.specs.Keys.{eid_key, family_of, high_of, locator_key, low_of, nonce_key, same_key, told_key}
use Rattle.keyed_list.proofs.OrderLemmas.{is_eq-nat, is_eq-then}

-- ### addresses

halves : (m n : ℕ) → ((m % 2 ^ 64 == n % 2 ^ 64) && (true && (m / 2 ^ 64 == n / 2 ^ 64))) ≡ (m == n)
halves m n = grind (arith, nat_tests, div-add-mod m (2 ^ 64), div-add-mod n (2 ^ 64))

-- the test of the parts of two addresses
abbrev are_alike : Addr → Addr → Bool
are_alike a b = (low_of a == low_of b) && ((family_of a == family_of b) && (high_of a == high_of b))

and-true : (a : Bool) → (a && true) ≡ a
and-true true = refl
and-true false = refl

and-false : (a : Bool) → (a && false) ≡ false
and-false true = refl
and-false false = refl

alike : (a b : Addr) → are_alike a b ≡ same_address a b
alike (V4 m) (V4 n) = and-true (m == n)
alike (V4 m) (V6 n) = and-false (m == n % 2 ^ 64)
alike (V6 m) (V4 n) = and-false (m % 2 ^ 64 == n)
alike (V6 m) (V6 n) = halves m n

-- ### keys of two kinds

never-less : (a : Ordering) → is_eq (ordering_then a Less) ≡ false
never-less Less = refl
never-less Equal = refl
never-less Greater = refl

never-greater : (a : Ordering) → is_eq (ordering_then a Greater) ≡ false
never-greater Less = refl
never-greater Equal = refl
never-greater Greater = refl

pub locator-nonce : (rloc : Addr) (nonce : ℕ) → same_key (locator_key rloc) (nonce_key nonce) ≡ false
locator-nonce rloc nonce = never-greater (nat_cmp (low_of rloc) nonce)

pub nonce-locator : (nonce : ℕ) (rloc : Addr) → same_key (nonce_key nonce) (locator_key rloc) ≡ false
nonce-locator nonce rloc = never-less (nat_cmp nonce (low_of rloc))

pub eid-nonce : (eid : Eid) (nonce : ℕ) → same_key (eid_key eid) (nonce_key nonce) ≡ false
eid-nonce eid nonce = never-greater (nat_cmp (low_of eid.prefix.addr) nonce)

pub nonce-eid : (nonce : ℕ) (eid : Eid) → same_key (nonce_key nonce) (eid_key eid) ≡ false
nonce-eid nonce eid = never-less (nat_cmp nonce (low_of eid.prefix.addr))

-- ### keys of one kind

then-Equal : (a : Ordering) → is_eq (ordering_then a Equal) ≡ is_eq a
then-Equal a = is_eq-then a Equal ∙ and-true (is_eq a)

pub same-nonce : (a b : ℕ) → same_key (nonce_key a) (nonce_key b) ≡ (a == b)
same-nonce a b = then-Equal (nat_cmp a b) ∙ is_eq-nat a b

is_eq-two : (m n p q : ℕ) → is_eq (ordering_then (nat_cmp m n) (nat_cmp p q)) ≡ ((m == n) && (p == q))
is_eq-two m n p q = is_eq-then (nat_cmp m n) (nat_cmp p q) ∙ ap₂ (λ x y. x && y) (is_eq-nat m n) (is_eq-nat p q)

pub same-locator : (a b : Addr) → same_key (locator_key a) (locator_key b) ≡ same_address a b
same-locator a b =
    let rest = ordering_then (nat_cmp (family_of a) (family_of b)) (nat_cmp (high_of a) (high_of b)) in
    is_eq-then (nat_cmp (low_of a) (low_of b)) (ordering_then rest Equal)
    ∙ ap₂ (λ x y. x && y) (is_eq-nat (low_of a) (low_of b)) (then-Equal rest ∙ is_eq-two (family_of a) (family_of b) (high_of a) (high_of b))
    ∙ alike a b

turned-eid : (l r i n : Bool) → (l && (r && (i && n))) ≡ (i && ((l && r) && n))
turned-eid true true i n = refl
turned-eid true false true n = refl
turned-eid true false false n = refl
turned-eid false r true n = refl
turned-eid false r false n = refl

pub same-eid : (a b : Eid) → same_key (eid_key a) (eid_key b) ≡ same_eid a b
same-eid a b =
    let p = a.prefix.addr in
    let q = b.prefix.addr in
    let rest = ordering_then (nat_cmp (family_of p) (family_of q)) (nat_cmp (high_of p) (high_of q)) in
    let last = ordering_then (nat_cmp a.iid b.iid) (nat_cmp a.prefix.len b.prefix.len) in
    is_eq-then (nat_cmp (low_of p) (low_of q)) (ordering_then rest (ordering_then last Equal))
    ∙ ap₂ (λ x y. x && y) (is_eq-nat (low_of p) (low_of q))
    (is_eq-then rest (ordering_then last Equal)
    ∙ ap₂ (λ x y. x && y) (is_eq-two (family_of p) (family_of q) (high_of p) (high_of q)) (then-Equal last ∙ is_eq-two a.iid b.iid a.prefix.len b.prefix.len))
    ∙ turned-eid (low_of p == low_of q) ((family_of p == family_of q) && (high_of p == high_of q)) (a.iid == b.iid) (a.prefix.len == b.prefix.len)
    ∙ ap (λ s. (a.iid == b.iid) && (s && (a.prefix.len == b.prefix.len))) (alike p q)

turned-told : (l r i n f h o : Bool) → (l && (r && ((i && n) && (f && (h && o))))) ≡ ((l && r) && (i && ((o && (f && h)) && n)))
turned-told true true true true true true o = sym-and o
  where
    sym-and : (o : Bool) → o ≡ ((o && true) && true)
    sym-and true = refl
    sym-and false = refl
turned-told true true true true true false true = refl
turned-told true true true true true false false = refl
turned-told true true true true false h true = refl
turned-told true true true true false h false = refl
turned-told true true true false f h o = by (o && (f && h))
  where
    by : (b : Bool) → false ≡ (b && false)
    by true = refl
    by false = refl
turned-told true true false n f h o = refl
turned-told true false i n f h o = refl
turned-told false r i n f h o = refl

pub same-told : (a : Addr) (d : Eid) (b : Addr) (e : Eid) → same_key (told_key a d) (told_key b e) ≡ (same_address a b && same_eid d e)
same-told a d b e =
    let p = d.prefix.addr in
    let q = e.prefix.addr in
    let rest = ordering_then (nat_cmp (family_of a) (family_of b)) (nat_cmp (high_of a) (high_of b)) in
    let last = ordering_then (nat_cmp d.iid e.iid) (nat_cmp d.prefix.len e.prefix.len) in
    let halves = ordering_then (nat_cmp (high_of p) (high_of q)) (nat_cmp (low_of p) (low_of q)) in
    let other = ordering_then (nat_cmp (family_of p) (family_of q)) halves in
    is_eq-then (nat_cmp (low_of a) (low_of b)) (ordering_then rest (ordering_then last other))
    ∙ ap₂ (λ x y. x && y) (is_eq-nat (low_of a) (low_of b))
    (is_eq-then rest (ordering_then last other)
    ∙ ap₂ (λ x y. x && y) (is_eq-two (family_of a) (family_of b) (high_of a) (high_of b))
    (is_eq-then last other
    ∙ ap₂ (λ x y. x && y) (is_eq-two d.iid e.iid d.prefix.len e.prefix.len)
    (is_eq-then (nat_cmp (family_of p) (family_of q)) halves
    ∙ ap₂ (λ x y. x && y) (is_eq-nat (family_of p) (family_of q)) (is_eq-two (high_of p) (high_of q) (low_of p) (low_of q)))))
    ∙ turned-told (low_of a == low_of b) ((family_of a == family_of b) && (high_of a == high_of b)) (d.iid == e.iid) (d.prefix.len == e.prefix.len) (family_of p == family_of q) (high_of p == high_of q) (low_of p == low_of q)
    ∙ ap₂ (λ s t. s && ((d.iid == e.iid) && (t && (d.prefix.len == e.prefix.len)))) (alike a b) (alike p q)
