-- What ties in the ascending orders is the same.
use Rattle.std.proofs.Common.{◌≡◌, ℕ, ◌==◌, ◌&&◌, true, Ordering, Less, Equal, Greater, is_eq, nat_cmp, refl, sym, ap, ap₂, ◌∙◌, arith}
use Rattle.std.proofs.lemmas.Cmp.{eq_by_cmp_equiv, tied_itself}
use Rattle.std.specs.Ordering.{eq_by_cmp, ordering_then}
use Rattle.std.proofs.lemmas.Bool.Decides.{nat_tests}
use Rattle.std.proofs.Math.Path.{fun_ext}
use Rattle.ip_headers.specs.declared.addr.Addr.{Addr}
use Rattle.ip_headers.specs.declared.addr.Addr.TheVariants.{V4, V6}
use Rattle.ip_headers.specs.declared.prefix.Prefix.{Prefix}
use Rattle.mapping_records.specs.declared.eid.Eid.{Eid}
use Rattle.mapping_records.proofs.EqualValue as same
use Rattle.mapping_records.proofs.OrderLemmas.{eid_order-total}
use Rattle.mapping_records.specs.Orders.{addr_order, prefix_order, eid_order}
use Rattle.mapping_records.specs.Eids.{same_address, same_eid}

-- what ties is one EID
then-equal : (a b : Ordering) → ordering_then a b ≡ Equal → (a ≡ Equal) × (b ≡ Equal)
then-equal Less b is = (cc, cc)
then-equal Equal b is = (refl, is)
then-equal Greater b is = (cc, cc)

nat-equal : (x y : ℕ) → nat_cmp x y ≡ Equal → x ≡ y
nat-equal x y is = grind (arith, nat_tests)

addr-equal : (a b : Addr) → addr_order a b ≡ Equal → a ≡ b
addr-equal (V4 m) (V4 n) is = ap V4 (nat-equal m n is)
addr-equal (V4 m) (V6 n) is = cc
addr-equal (V6 m) (V4 n) is = cc
addr-equal (V6 m) (V6 n) is = ap V6 (nat-equal m n is)

prefix-equal : (a b : Prefix) → prefix_order a b ≡ Equal → a ≡ b
prefix-equal a b is =
    let parts = then-equal (addr_order a.addr b.addr) (nat_cmp a.len b.len) is in
    same.equal_prefix a b (addr-equal a.addr b.addr parts.0) (nat-equal a.len b.len parts.1)

pub eid-equal : (a b : Eid) → eid_order a b ≡ Equal → a ≡ b
eid-equal a b is =
    let parts = then-equal (nat_cmp a.iid b.iid) (prefix_order a.prefix b.prefix) is in
    same.equal_eid a b (nat-equal a.iid b.iid parts.0) (prefix-equal a.prefix b.prefix parts.1)

is_eq-equal : (r : Ordering) → is_eq r ≡ true → r ≡ Equal
is_eq-equal Less is = cc
is_eq-equal Equal is = refl
is_eq-equal Greater is = cc

is_eq-then : (a b : Ordering) → is_eq (ordering_then a b) ≡ (is_eq a && is_eq b)
is_eq-then Less b = refl
is_eq-then Equal b = refl
is_eq-then Greater b = refl

is_eq-nat : (x y : ℕ) → is_eq (nat_cmp x y) ≡ (x == y)
is_eq-nat x y = grind (arith, nat_tests)

is_eq-addr : (a b : Addr) → is_eq (addr_order a b) ≡ same_address a b
is_eq-addr (V4 m) (V4 n) = is_eq-nat m n
is_eq-addr (V4 m) (V6 n) = refl
is_eq-addr (V6 m) (V4 n) = refl
is_eq-addr (V6 m) (V6 n) = is_eq-nat m n

-- the same EID is one that ties
tied-eid : (a b : Eid) → eq_by_cmp eid_order a b ≡ same_eid a b
tied-eid a b =
    is_eq-then (nat_cmp a.iid b.iid) (prefix_order a.prefix b.prefix)
    ∙ ap₂ (λ p q. p && q) (is_eq-nat a.iid b.iid)
    (is_eq-then (addr_order a.prefix.addr b.prefix.addr) (nat_cmp a.prefix.len b.prefix.len)
    ∙ ap₂ (λ p q. p && q) (is_eq-addr a.prefix.addr b.prefix.addr) (is_eq-nat a.prefix.len b.prefix.len))

pub same_eid-tied : eq_by_cmp eid_order ≡ same_eid
same_eid-tied = fun_ext (λ a. fun_ext (λ b. tied-eid a b))

pub same_eid-is : (a b : Eid) → same_eid a b ≡ true → a ≡ b
same_eid-is a b is = eid-equal a b (is_eq-equal (eid_order a b) (tied-eid a b ∙ is))

pub same_eid-symm : (a b : Eid) → same_eid a b ≡ same_eid b a
same_eid-symm a b = sym (tied-eid a b) ∙ (eq_by_cmp_equiv eid_order-total).symm a b ∙ tied-eid b a

pub same_eid-itself : (a : Eid) → same_eid a a ≡ true
same_eid-itself a = sym (tied-eid a a) ∙ ap is_eq (tied_itself eid_order-total a)
