-- The order of EIDs, and the values of EIDs in pairs.
use Rattle.std.proofs.Common.{◌≡◌, ◌⊎◌, ◌&&◌, Bool, true, false, cond, List, [], ◌∷◌, None, Some, Ordering, Less, Equal, Greater, is_eq, is_lt, nat_cmp, inl, inr, refl, sym, ap, ap₂, subst, ◌∙◌, arith, true≢false}
use Rattle.std.specs.Ordering.{ordering_reverse}
use Rattle.std.proofs.lemmas.Bool.{and_parts, cases_Bool, eqb-true}
use Rattle.std.proofs.lemmas.Cmp.{tied_itself}
use Rattle.std.proofs.lemmas.Option.{same_Some}
use Rattle.ip_headers.specs.Addr.{number, width}
use Rattle.ip_headers.specs.declared.addr.Addr.{Addr}
use Rattle.ip_headers.specs.declared.addr.Addr.TheVariants.{V4, V6}
use Rattle.keyed_list.proofs.AmongLemmas.{Among, pairs-behind_first, pairs-tail}
use Rattle.mapping_records.proofs.EqualValue.{equal_eid, equal_prefix}
use Rattle.mapping_records.proofs.OrderLemmas.{eid_order-total}
use Rattle.mapping_records.specs.Eids.{same_address, same_eid}
use Rattle.mapping_records.specs.Orders.{addr_order, eid_order, prefix_order}
use Rattle.mapping_records.specs.declared.eid.Eid.{Eid}
use Rattle.prefix_table.specs.Pairs.{is_below, with_pair, without_pair, value_in, Ascends}
use Rattle.request_queue.proofs.FoundLemmas.{is_eq-addr, is_eq-nat, is_eq-then}

-- ### the order of EIDs

same_addr : (a b : Addr) → width a ≡ width b → number a ≡ number b → a ≡ b
same_addr (V4 m) (V4 n) w is = ap (λ x. V4 x) is
same_addr (V6 m) (V6 n) w is = ap (λ x. V6 x) is
same_addr (V4 m) (V6 n) w is = absurd (omega (arith, w))
same_addr (V6 m) (V4 n) w is = absurd (omega (arith, w))

equal-address : (a b : Addr) → same_address a b ≡ true → a ≡ b
equal-address a b same =
    let parts = and_parts _ _ same in
    same_addr a b (eqb-true (width a) (width b) parts.0) (eqb-true (number a) (number b) parts.1)

-- the same EIDs are equal
pub equal-same : (a b : Eid) → same_eid a b ≡ true → a ≡ b
equal-same a b same =
    let outer = and_parts _ _ same in
    let inner = and_parts _ _ outer.1 in
    equal_eid a b (eqb-true a.iid b.iid outer.0) (equal_prefix a.prefix b.prefix (equal-address a.prefix.addr b.prefix.addr inner.0) (eqb-true a.prefix.len b.prefix.len inner.1))

is_eq-eid : (a b : Eid) → is_eq (eid_order a b) ≡ same_eid a b
is_eq-eid a b =
    is_eq-then (nat_cmp a.iid b.iid) (prefix_order a.prefix b.prefix)
    ∙ ap₂ (λ p q. p && q) (is_eq-nat a.iid b.iid)
    (is_eq-then (addr_order a.prefix.addr b.prefix.addr) (nat_cmp a.prefix.len b.prefix.len)
    ∙ ap₂ (λ p q. p && q) (is_eq-addr a.prefix.addr b.prefix.addr) (is_eq-nat a.prefix.len b.prefix.len))

pub same-self : (a : Eid) → same_eid a a ≡ true
same-self a = sym (is_eq-eid a a) ∙ ap is_eq (tied_itself eid_order-total a)

-- the first comes before the second
abbrev Lt : Eid → Eid → Type 0
Lt a b = eid_order a b ≡ Less

is_greater : (a b : Eid) → Lt a b → eid_order b a ≡ Greater
is_greater a b less = eid_order-total.antisymm b a ∙ ap ordering_reverse less

apart : (a b : Eid) → Lt a b → same_eid a b ≡ false
apart a b less = sym (is_eq-eid a b) ∙ ap is_eq less

apart-back : (a b : Eid) → Lt a b → same_eid b a ≡ false
apart-back a b less = sym (is_eq-eid b a) ∙ ap is_eq (is_greater a b less)

pub is_less : (a b : Eid) → is_below a b ≡ true → Lt a b
is_less a b is = by (eid_order a b) is
  where
    by : (o : Ordering) → is_lt o ≡ true → o ≡ Less
    by Less lt = refl
    by Equal lt = absurd (true≢false (sym lt))
    by Greater lt = absurd (true≢false (sym lt))

compare : (a b : Eid) → Lt a b ⊎ (Lt b a ⊎ (a ≡ b))
compare a b = by (eid_order a b) refl
  where
    by : (o : Ordering) → eid_order a b ≡ o → Lt a b ⊎ (Lt b a ⊎ (a ≡ b))
    by Less is = inl is
    by Equal is = inr (inr (equal-same a b (sym (is_eq-eid a b) ∙ ap is_eq is)))
    by Greater is = inr (inl (eid_order-total.antisymm b a ∙ ap ordering_reverse is))

-- ### the value of an EID

module _ {V : Type 0} (eid : Eid) where
  module _ (key : Eid) (old : V) (rest : List (Eid × V)) where
    value-past : Lt key eid → value_in eid ((key, old) ∷ rest) ≡ value_in eid rest
    value-past less = rw (less) refl

    value-over : Lt eid key → value_in eid ((key, old) ∷ rest) ≡ None
    value-over less = rw (is_greater eid key less, less) refl

    with-past : (value : V) → Lt key eid → with_pair eid value ((key, old) ∷ rest) ≡ (key, old) ∷ with_pair eid value rest
    with-past value less = rw (less) refl

    with-over : (value : V) → Lt eid key → with_pair eid value ((key, old) ∷ rest) ≡ (eid, value) ∷ ((key, old) ∷ rest)
    with-over value less = rw (is_greater eid key less, less) refl

    without-past : Lt key eid → without_pair eid ((key, old) ∷ rest) ≡ (key, old) ∷ without_pair eid rest
    without-past less = rw (less) refl

    without-over : Lt eid key → without_pair eid ((key, old) ∷ rest) ≡ (key, old) ∷ rest
    without-over less = rw (is_greater eid key less, less) refl

  module _ (old : V) (rest : List (Eid × V)) where
    value-here : value_in eid ((eid, old) ∷ rest) ≡ Some old
    value-here = rw (tied_itself eid_order-total eid) refl

    with-here : (value : V) → with_pair eid value ((eid, old) ∷ rest) ≡ (eid, value) ∷ rest
    with-here value = rw (tied_itself eid_order-total eid) refl

    without-here : without_pair eid ((eid, old) ∷ rest) ≡ rest
    without-here = rw (tied_itself eid_order-total eid) refl

module _ {V : Type 0} where
  -- what is put in is found, and all else as before
  pub value_in-with : (eid : Eid) (value : V) (e : Eid) (pairs : List (Eid × V)) → value_in e (with_pair eid value pairs) ≡ cond (same_eid eid e) (Some value) (value_in e pairs)
  value_in-with eid value e [] = elim (compare eid e) [
    | inl less ↦ value-past e eid value [] less ∙ sym (ap (λ b. cond b (Some value) None) (apart eid e less))
    | inr others ↦ elim others [
      | inl more ↦ value-over e eid value [] more ∙ sym (ap (λ b. cond b (Some value) None) (apart-back e eid more))
      | inr same ↦ subst (λ k. value_in k ((eid, value) ∷ []) ≡ cond (same_eid eid k) (Some value) None) same (value-here eid value [] ∙ sym (ap (λ b. cond b (Some value) None) (same-self eid)))
    ]
  ]
  value_in-with eid value e ((key, old) ∷ pairs) = elim (compare key eid) [
    | inl below ↦
        ap (value_in e) (with-past eid key old pairs value below)
        ∙ elim (compare key e) [
          | inl less ↦
              value-past e key old (with_pair eid value pairs) less
              ∙ value_in-with eid value e pairs
              ∙ ap (cond (same_eid eid e) (Some value)) (sym (value-past e key old pairs less))
          | inr others ↦ elim others [
            | inl more ↦
                value-over e key old (with_pair eid value pairs) more
                ∙ ap₂ (λ b o. cond b (Some value) o) (sym (apart-back e eid (eid_order-total.trans e key eid more below))) (sym (value-over e key old pairs more))
            | inr same ↦
                subst (λ k. value_in k ((key, old) ∷ with_pair eid value pairs) ≡ cond (same_eid eid k) (Some value) (value_in k ((key, old) ∷ pairs))) same
                (value-here key old (with_pair eid value pairs) ∙ ap₂ (λ b o. cond b (Some value) o) (sym (apart-back key eid below)) (sym (value-here key old pairs)))
          ]
        ]
    | inr cases ↦ elim cases [
      | inl above ↦
          ap (value_in e) (with-over eid key old pairs value above)
          ∙ elim (compare eid e) [
            | inl less ↦
                value-past e eid value ((key, old) ∷ pairs) less
                ∙ sym (ap (λ b. cond b (Some value) (value_in e ((key, old) ∷ pairs))) (apart eid e less))
            | inr others ↦ elim others [
              | inl more ↦
                  value-over e eid value ((key, old) ∷ pairs) more
                  ∙ ap₂ (λ b o. cond b (Some value) o) (sym (apart-back e eid more)) (sym (value-over e key old pairs (eid_order-total.trans e eid key more above)))
              | inr same ↦
                  subst (λ k. value_in k ((eid, value) ∷ (key, old) ∷ pairs) ≡ cond (same_eid eid k) (Some value) (value_in k ((key, old) ∷ pairs))) same
                  (value-here eid value ((key, old) ∷ pairs) ∙ sym (ap (λ b. cond b (Some value) (value_in eid ((key, old) ∷ pairs))) (same-self eid)))
            ]
          ]
      | inr there ↦
          subst (λ k. value_in e (with_pair k value ((key, old) ∷ pairs)) ≡ cond (same_eid k e) (Some value) (value_in e ((key, old) ∷ pairs))) there
          (ap (value_in e) (with-here key old pairs value)
          ∙ elim (compare key e) [
            | inl less ↦
                value-past e key value pairs less
                ∙ ap₂ (λ b o. cond b (Some value) o) (sym (apart key e less)) (sym (value-past e key old pairs less))
            | inr others ↦ elim others [
              | inl more ↦
                  value-over e key value pairs more
                  ∙ ap₂ (λ b o. cond b (Some value) o) (sym (apart-back e key more)) (sym (value-over e key old pairs more))
              | inr same ↦
                  subst (λ k. value_in k ((key, value) ∷ pairs) ≡ cond (same_eid key k) (Some value) (value_in k ((key, old) ∷ pairs))) same
                  (value-here key value pairs ∙ sym (ap (λ b. cond b (Some value) (value_in key ((key, old) ∷ pairs))) (same-self key)))
            ]
          ])
    ]
  ]

  -- before the first there is none
  value-before : (e key : Eid) (old : V) (pairs : List (Eid × V)) → Ascends ((key, old) ∷ pairs) → Lt e key ⊎ (key ≡ e) → value_in e pairs ≡ None
  value-before e key old [] ascends least = refl
  value-before e key old ((next, other) ∷ pairs) ascends least =
      let below : Lt key next = is_less key next (pairs-behind_first (λ a b. is_below a.0 b.0 ≡ true) (key, old) ((next, other) ∷ pairs) (next, other) ascends (inl refl)) in
      elim least [
        | inl less ↦ value-over e next other pairs (eid_order-total.trans e key next less below)
        | inr same ↦ value-over e next other pairs (subst (λ k. Lt k next) same below)
      ]

  -- what is taken out isn't found, and all else as before
  pub value_in-without : (eid e : Eid) (pairs : List (Eid × V)) → Ascends pairs → value_in e (without_pair eid pairs) ≡ cond (same_eid eid e) None (value_in e pairs)
  value_in-without eid e [] ascends = by (same_eid eid e)
    where
      by : (b : Bool) → value_in {V = V} e [] ≡ cond b None (value_in {V = V} e [])
      by true = refl
      by false = refl
  value_in-without eid e ((key, old) ∷ pairs) ascends = elim (compare key eid) [
    | inl below ↦
        ap (value_in e) (without-past eid key old pairs below)
        ∙ elim (compare key e) [
          | inl less ↦
              value-past e key old (without_pair eid pairs) less
              ∙ value_in-without eid e pairs (pairs-tail (λ a b. is_below a.0 b.0 ≡ true) (key, old) pairs ascends)
              ∙ ap (cond (same_eid eid e) None) (sym (value-past e key old pairs less))
          | inr others ↦ elim others [
            | inl more ↦
                value-over e key old (without_pair eid pairs) more
                ∙ ap₂ (λ b o. cond b None o) (sym (apart-back e eid (eid_order-total.trans e key eid more below))) (sym (value-over e key old pairs more))
            | inr same ↦
                subst (λ k. value_in k ((key, old) ∷ without_pair eid pairs) ≡ cond (same_eid eid k) None (value_in k ((key, old) ∷ pairs))) same
                (value-here key old (without_pair eid pairs) ∙ ap₂ (λ b o. cond b None o) (sym (apart-back key eid below)) (sym (value-here key old pairs)))
          ]
        ]
    | inr cases ↦ elim cases [
      | inl above ↦
          ap (value_in e) (without-over eid key old pairs above)
          ∙ elim (cases_Bool (same_eid eid e)) [
            | inl same ↦
                value-over e key old pairs (subst (λ k. Lt k key) (equal-same eid e same) above)
                ∙ sym (ap (λ b. cond b None (value_in e ((key, old) ∷ pairs))) same)
            | inr other ↦ sym (ap (λ b. cond b None (value_in e ((key, old) ∷ pairs))) other)
          ]
      | inr there ↦
          subst (λ k. value_in e (without_pair k ((key, old) ∷ pairs)) ≡ cond (same_eid k e) None (value_in e ((key, old) ∷ pairs))) there
          (ap (value_in e) (without-here key old pairs)
          ∙ elim (compare key e) [
            | inl less ↦ ap₂ (λ b o. cond b None o) (sym (apart key e less)) (sym (value-past e key old pairs less))
            | inr others ↦ elim others [
              | inl more ↦
                  value-before e key old pairs ascends (inl more)
                  ∙ ap₂ (λ b o. cond b None o) (sym (apart-back e key more)) (sym (value-over e key old pairs more))
              | inr same ↦
                  value-before e key old pairs ascends (inr same)
                  ∙ sym (ap (λ b. cond b None (value_in e ((key, old) ∷ pairs))) (ap (same_eid key) (sym same) ∙ same-self key))
            ]
          ])
    ]
  ]

  -- a pair is found by its EID
  pub value-among : (eid : Eid) (v : V) (pairs : List (Eid × V)) → Ascends pairs → Among (eid, v) pairs → value_in eid pairs ≡ Some v
  value-among eid v [] ascends among = absurd among
  value-among eid v ((key, old) ∷ pairs) ascends among = elim among [
    | inl here ↦
        ap (λ (p : Eid × V). value_in eid (p ∷ pairs)) here ∙ value-here eid v pairs
    | inr later ↦
        value-past eid key old pairs (is_less key eid (pairs-behind_first (λ a b. is_below a.0 b.0 ≡ true) (key, old) pairs (eid, v) ascends later))
        ∙ value-among eid v pairs (pairs-tail (λ a b. is_below a.0 b.0 ≡ true) (key, old) pairs ascends) later
  ]

  -- what is found stands there
  pub among-value : (eid : Eid) (v : V) (pairs : List (Eid × V)) → value_in eid pairs ≡ Some v → Among (eid, v) pairs
  among-value eid v [] is = absurd (cc is)
  among-value eid v ((key, old) ∷ pairs) is = elim (compare key eid) [
    | inl less ↦ inr (among-value eid v pairs (sym (value-past eid key old pairs less) ∙ is))
    | inr others ↦ elim others [
      | inl more ↦ absurd (cc (sym (value-over eid key old pairs more) ∙ is))
      | inr same ↦
          inl (ap₂ (λ (k : Eid) (o : V). (k, o)) same (same_Some old v (sym (ap (λ k. value_in k ((key, old) ∷ pairs)) (sym same) ∙ value-here key old pairs) ∙ is)))
    ]
  ]
