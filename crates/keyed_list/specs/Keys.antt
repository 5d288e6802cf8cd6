-- Keys of items, and the orders of keys, marks and ages.
use Rattle.std.specs.Prelude.{◌%◌, ◌/◌, ◌^◌, ℕ, Bool}
use Rattle.std.specs.Cmp.{IsTotalOrder}
use Rattle.std.specs.Ordering.{is_eq, nat_cmp, ordering_then}
use Rattle.std.specs.declared.cmp.Ordering.{Ordering}
use Rattle.std.proofs.lemmas.Cmp.{nat_cmp_total, on_total, then_total}
use Rattle.ip_headers.specs.declared.addr.Addr.{Addr}
use Rattle.ip_headers.specs.declared.addr.Addr.TheVariants.{V4, V6}
use Rattle.mapping_records.specs.declared.eid.Eid.{Eid}
use Rattle.keyed_list.specs.declared.key.Age.{Age}
use Rattle.keyed_list.specs.declared.key.Key.{Key}
use Rattle.keyed_list.specs.declared.key.Kind.{Kind}
use Rattle.keyed_list.specs.declared.key.Kind.TheVariants.{Nonce, Locator, Endpoint, Told}
use Rattle.keyed_list.specs.declared.key.Mark.{Mark}

-- ### keys

-- the halves of an address, and a number for its family
abbrev pub low_of : Addr → ℕ
low_of (V4 bits) = bits
low_of (V6 bits) = bits % 2 ^ 64

abbrev pub high_of : Addr → ℕ
high_of (V4 bits) = 0
high_of (V6 bits) = bits / 2 ^ 64

abbrev pub family_of : Addr → ℕ
family_of (V4 bits) = 0
family_of (V6 bits) = 1

-- a key of an address alone, of a kind
abbrev pub address_key : Kind → Addr → Key
address_key kind addr = record { low = low_of addr; kind = kind; family = family_of addr; high = high_of addr; iid = 0; len = 0; other_family = 0; other_high = 0; other_low = 0 }

abbrev pub nonce_key : ℕ → Key
nonce_key nonce = address_key Nonce (V4 nonce)

abbrev pub locator_key : Addr → Key
locator_key rloc = address_key Locator rloc

abbrev pub eid_key : Eid → Key
eid_key eid = record (address_key Endpoint eid.prefix.addr) { iid = eid.iid; len = eid.prefix.len }

-- the key of a locator that was solicited for an EID
abbrev pub told_key : Addr → Eid → Key
told_key rloc eid =
    record (address_key Told rloc) { iid = eid.iid; len = eid.prefix.len; other_family = family_of eid.prefix.addr; other_high = high_of eid.prefix.addr; other_low = low_of eid.prefix.addr }

abbrev pub kind_rank : Kind → ℕ
kind_rank kind = elim kind [ Nonce ↦ 0 | Locator ↦ 1 | Endpoint ↦ 2 | Told ↦ 3 ]

-- the order of two keys by all parts but the first
abbrev pub rest_order : Key → Key → Ordering
rest_order a b =
    ordering_then (nat_cmp (kind_rank a.kind) (kind_rank b.kind))
    (ordering_then (ordering_then (nat_cmp a.family b.family) (nat_cmp a.high b.high))
    (ordering_then (ordering_then (nat_cmp a.iid b.iid) (nat_cmp a.len b.len))
    (ordering_then (nat_cmp a.other_family b.other_family) (ordering_then (nat_cmp a.other_high b.other_high) (nat_cmp a.other_low b.other_low)))))

-- the order of two keys, part by part
abbrev pub key_order : Key → Key → Ordering
key_order a b = ordering_then (nat_cmp a.low b.low) (rest_order a b)

pub key_order-total : IsTotalOrder key_order
key_order-total =
    then_total (on_total (λ key. key.low) nat_cmp_total)
    (then_total (on_total (λ key. kind_rank key.kind) nat_cmp_total)
    (then_total (then_total (on_total (λ key. key.family) nat_cmp_total) (on_total (λ key. key.high) nat_cmp_total))
    (then_total (then_total (on_total (λ key. key.iid) nat_cmp_total) (on_total (λ key. key.len) nat_cmp_total))
    (then_total (on_total (λ key. key.other_family) nat_cmp_total) (then_total (on_total (λ key. key.other_high) nat_cmp_total) (on_total (λ key. key.other_low) nat_cmp_total))))))

abbrev pub same_key : Key → Key → Bool
same_key a b = is_eq (key_order a b)

-- ### what finds items

-- the order of marks: that of their keys
abbrev pub mark_order : Mark → Mark → Ordering
mark_order a b = key_order a.key b.key

pub mark_order-total : IsTotalOrder mark_order
mark_order-total = on_total (λ mark. mark.key) key_order-total

-- the order of ages: by moment, then by number
abbrev pub age_order : Age → Age → Ordering
age_order a b = ordering_then (nat_cmp a.moment b.moment) (nat_cmp a.number b.number)

pub age_order-total : IsTotalOrder age_order
age_order-total = then_total (on_total (λ age. age.moment) nat_cmp_total) (on_total (λ age. age.number) nat_cmp_total)
