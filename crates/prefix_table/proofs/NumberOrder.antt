-- The order of EIDs, said of their numbers.
use Rattle.std.proofs.Common.{◌≡◌, ℕ, ◌==◌, nat_lt, Bool, cond, inl, inr, refl, ap, ◌∙◌, arith}
use Rattle.std.specs.Ordering.{is_lt, nat_cmp, ordering_then}
use Rattle.std.specs.declared.cmp.Ordering.{Ordering}
use Rattle.std.proofs.lemmas.Bool.{eq-eqb, ne_eqb, lt-ltb, le-ltb, cases_order}
use Rattle.ip_headers.specs.Addr.{number, width}
use Rattle.ip_headers.specs.declared.addr.Addr.{Addr}
use Rattle.ip_headers.specs.declared.addr.Addr.TheVariants.{V4, V6}
use Rattle.mapping_records.specs.Orders.{addr_order}
use Rattle.mapping_records.specs.declared.eid.Eid.{Eid}
use Rattle.prefix_table.specs.Keys.{key_width, key_len}
use Rattle.prefix_table.specs.Pairs.{is_below}

-- by instance, width, number, length
abbrev pub numbers_below : Eid → Eid → Bool
numbers_below a b =
    cond (a.iid == b.iid)
    (cond (key_width a == key_width b)
    (cond (number a.prefix.addr == number b.prefix.addr) (nat_lt (key_len a) (key_len b)) (nat_lt (number a.prefix.addr) (number b.prefix.addr)))
    (nat_lt (key_width a) (key_width b)))
    (nat_lt a.iid b.iid)

lt_then : (m n : ℕ) (rest : Ordering) → is_lt (ordering_then (nat_cmp m n) rest) ≡ cond (m == n) (is_lt rest) (nat_lt m n)
lt_then m n rest =
    elim (cases_order m n) [
      | inl same ↦ rw (le-ltb m n (omega (arith, same)), eq-eqb m n same) refl
      | inr differs ↦ elim differs [
        | inl less ↦ rw (lt-ltb m n less, ne_eqb m n (λ e. absurd (omega (arith, e, less)))) refl
        | inr more ↦ rw (le-ltb m n (omega (arith, more)), ne_eqb m n (λ e. absurd (omega (arith, e, more)))) refl
      ]
    ]

lt_addr : (a b : Addr) (rest : Ordering) → is_lt (ordering_then (addr_order a b) rest) ≡ cond (width a == width b) (cond (number a == number b) (is_lt rest) (nat_lt (number a) (number b))) (nat_lt (width a) (width b))
lt_addr (V4 m) (V4 n) rest = lt_then m n rest
lt_addr (V4 m) (V6 n) rest = refl
lt_addr (V6 m) (V4 n) rest = refl
lt_addr (V6 m) (V6 n) rest = lt_then m n rest

lt_len : (m n : ℕ) → is_lt (nat_cmp m n) ≡ nat_lt m n
lt_len m n =
    elim (cases_order m n) [
      | inl same ↦ rw (le-ltb m n (omega (arith, same)), eq-eqb m n same) refl
      | inr differs ↦ elim differs [
        | inl less ↦ rw (lt-ltb m n less) refl
        | inr more ↦ rw (le-ltb m n (omega (arith, more)), ne_eqb m n (λ e. absurd (omega (arith, e, more)))) refl
      ]
    ]

pub is_below-numbers : (a b : Eid) → is_below a b ≡ numbers_below a b
is_below-numbers a b =
    lt_then a.iid b.iid (ordering_then (addr_order a.prefix.addr b.prefix.addr) (nat_cmp a.prefix.len b.prefix.len))
    ∙ ap (λ rest. cond (a.iid == b.iid) rest (nat_lt a.iid b.iid))
    (lt_addr a.prefix.addr b.prefix.addr (nat_cmp a.prefix.len b.prefix.len)
    ∙ ap (λ rest. cond (key_width a == key_width b) (cond (number a.prefix.addr == number b.prefix.addr) rest (nat_lt (number a.prefix.addr) (number b.prefix.addr))) (nat_lt (key_width a) (key_width b))) (lt_len a.prefix.len b.prefix.len))
