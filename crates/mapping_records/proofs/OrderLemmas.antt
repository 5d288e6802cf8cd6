-- The ascending orders are total.
use Rattle.std.proofs.Common.{◌≡◌, Less, Equal, refl}
use Rattle.std.proofs.lemmas.Cmp.{nat_cmp_total, on_total, then_total}
use Rattle.std.specs.Cmp.{IsTotalOrder}
use Rattle.std.specs.Ordering.{ordering_reverse}
use Rattle.ip_headers.specs.declared.addr.Addr.{Addr}
use Rattle.ip_headers.specs.declared.addr.Addr.TheVariants.{V4, V6}
use Rattle.mapping_records.specs.Orders.{addr_order, prefix_order, eid_order}

pub addr_order-total : IsTotalOrder addr_order
addr_order-total = record { antisymm = antisymm; trans = trans; congr = congr }
  where
    antisymm : (x y : Addr) → addr_order x y ≡ ordering_reverse (addr_order y x)
    antisymm (V4 m) (V4 n) = nat_cmp_total.antisymm m n
    antisymm (V4 m) (V6 n) = refl
    antisymm (V6 m) (V4 n) = refl
    antisymm (V6 m) (V6 n) = nat_cmp_total.antisymm m n

    trans : (x y z : Addr) → addr_order x y ≡ Less → addr_order y z ≡ Less → addr_order x z ≡ Less
    trans (V4 m) (V4 n) (V4 o) h k = nat_cmp_total.trans m n o h k
    trans (V4 m) (V4 n) (V6 o) h k = refl
    trans (V4 m) (V6 n) (V4 o) h k = cc
    trans (V4 m) (V6 n) (V6 o) h k = refl
    trans (V6 m) (V4 n) z h k = cc
    trans (V6 m) (V6 n) (V4 o) h k = cc
    trans (V6 m) (V6 n) (V6 o) h k = nat_cmp_total.trans m n o h k

    congr : (x y z : Addr) → addr_order x y ≡ Equal → addr_order x z ≡ addr_order y z
    congr (V4 m) (V4 n) (V4 o) h = nat_cmp_total.congr m n o h
    congr (V4 m) (V4 n) (V6 o) h = refl
    congr (V4 m) (V6 n) z h = cc
    congr (V6 m) (V4 n) z h = cc
    congr (V6 m) (V6 n) (V4 o) h = refl
    congr (V6 m) (V6 n) (V6 o) h = nat_cmp_total.congr m n o h

pub prefix_order-total : IsTotalOrder prefix_order
prefix_order-total = then_total (on_total (λ p. p.addr) addr_order-total) (on_total (λ p. p.len) nat_cmp_total)

pub eid_order-total : IsTotalOrder eid_order
eid_order-total = then_total (on_total (λ eid. eid.iid) nat_cmp_total) (on_total (λ eid. eid.prefix) prefix_order-total)
