-- The same EID is one that ties in order, and so is the same name.
use Rattle.std.proofs.Common.{◌≡◌, ℕ, ◌==◌, ◌&&◌, Ordering, Less, Equal, Greater, is_eq, nat_cmp, refl, ap₂, ◌∙◌, arith}
use Rattle.std.specs.Ordering.{ordering_then}
use Rattle.std.proofs.lemmas.Bool.Decides.{nat_tests}
use Rattle.ip_headers.specs.declared.addr.Addr.{Addr}
use Rattle.ip_headers.specs.declared.addr.Addr.TheVariants.{V4, V6}
use Rattle.mapping_records.specs.Eids.{same_address, same_eid}
use Rattle.mapping_records.specs.Orders.{addr_order, eid_order, prefix_order}
use Rattle.mapping_records.specs.declared.eid.Eid.{Eid}
use Rattle.map_cache.specs.Indexed.{name_order}
use Rattle.map_cache.specs.declared.keys.Name.{Name}

pub is_eq-then : (a b : Ordering) → is_eq (ordering_then a b) ≡ (is_eq a && is_eq b)
is_eq-then Less b = refl
is_eq-then Equal b = refl
is_eq-then Greater b = refl

pub is_eq-nat : (x y : ℕ) → is_eq (nat_cmp x y) ≡ (x == y)
is_eq-nat x y = grind (arith, nat_tests)

pub is_eq-addr : (a b : Addr) → is_eq (addr_order a b) ≡ same_address a b
is_eq-addr (V4 m) (V4 n) = is_eq-nat m n
is_eq-addr (V4 m) (V6 n) = refl
is_eq-addr (V6 m) (V4 n) = refl
is_eq-addr (V6 m) (V6 n) = is_eq-nat m n

-- two EIDs are the same exactly where they tie
pub is_eq-eid : (a b : Eid) → is_eq (eid_order a b) ≡ same_eid a b
is_eq-eid a b =
    is_eq-then (nat_cmp a.iid b.iid) (prefix_order a.prefix b.prefix)
    ∙ ap₂ (λ p q. p && q) (is_eq-nat a.iid b.iid)
    (is_eq-then (addr_order a.prefix.addr b.prefix.addr) (nat_cmp a.prefix.len b.prefix.len)
    ∙ ap₂ (λ p q. p && q) (is_eq-addr a.prefix.addr b.prefix.addr) (is_eq-nat a.prefix.len b.prefix.len))

-- two names are the same exactly where they tie
pub is_eq-name : (a b : Name) → is_eq (name_order a b) ≡ (same_address a.addr b.addr && same_eid a.eid b.eid)
is_eq-name a b =
    is_eq-then (addr_order a.addr b.addr) (eid_order a.eid b.eid)
    ∙ ap₂ (λ p q. p && q) (is_eq-addr a.addr b.addr) (is_eq-eid a.eid b.eid)
