-- Terms of requests, and how many of an instance wait.
use Rattle.std.proofs.Common.{◌≡◌, ℕ, suc, ◌+◌, ◌-◌, ◌<◌, ◌≤◌, ◌==◌, ◌&&◌, ◌||◌, not, Bool, true, false, cond, List, [], ◌∷◌, ◌++◌, count_by, filter, length, map, remove, slice_get, Some, IfSome, Less, is_eq, nat_cmp, refl, sym, ap, ap₂, subst, ◌∙◌, arith}
use Rattle.std.specs.List.{list_any, AllByRecursion, IsDistinct}
use Rattle.std.specs.Ordering.{eq_by_cmp, ordering_then}
use Rattle.std.specs.Set.{is_member}
use Rattle.std.proofs.lemmas.Bool.{and_parts, and_right, eqb-true, not-true, or_parts}
use Rattle.std.proofs.lemmas.Bool.Decides.{nat_tests}
use Rattle.std.proofs.lemmas.Cmp.{eq_by_cmp_equiv}
use Rattle.std.proofs.lemmas.List.{length-map}
use Rattle.std.proofs.lemmas.List.Sums.{length-filter}
use Rattle.std.proofs.lemmas.Map.Keys.{IsDistinct-from_sorted}
use Rattle.std.proofs.lemmas.Map.Made.{is_member-filter, length-from_same_keys, length-le_from_is_member}
use Rattle.keyed_list.proofs.FewLemmas.{member-has, sorted}
use Rattle.ordered_set.specs.Keys.{has, Ascends}
use Rattle.router_log.specs.Moments.{younger}
use Rattle.request_queue.specs.Limits.{request_seconds}
use Rattle.request_queue.specs.Lists.{are_distinct, has_nonce}
use Rattle.request_queue.specs.Queue.{is_waiting, once_more, open_in, sent_again, waiting}
use Rattle.request_queue.specs.Terms.{has_term, is_past, is_upto, term_of, term_order, term_order-total, AreTerms}
use Rattle.request_queue.specs.declared.request.Request.{Request}
use Rattle.request_queue.specs.declared.term.Term.{Term}
use Rattle.request_queue.proofs.CountLemmas.{apart-filter, count-parts, count-place}
use Rattle.request_queue.proofs.DistinctLemmas.{apart-left, eq-flip}
use Rattle.request_queue.proofs.EidLemmas.{any-left, any-map_is, either}
use Rattle.request_queue.proofs.FoundLemmas.{is_eq-nat, is_eq-then}
use Rattle.request_queue.proofs.OpenLemmas.{count-both}

-- ### the order of terms

is_eq-term : (a b : Term) → is_eq (term_order a b) ≡ (((a.iid == b.iid) && (a.start == b.start)) && (a.nonce == b.nonce))
is_eq-term a b =
    is_eq-then (ordering_then (nat_cmp a.iid b.iid) (nat_cmp a.start b.start)) (nat_cmp a.nonce b.nonce)
    ∙ ap₂ (λ p q. p && q)
    (is_eq-then (nat_cmp a.iid b.iid) (nat_cmp a.start b.start) ∙ ap₂ (λ p q. p && q) (is_eq-nat a.iid b.iid) (is_eq-nat a.start b.start))
    (is_eq-nat a.nonce b.nonce)

-- what ties is the same
same-term : (a b : Term) → is_eq (term_order a b) ≡ true → a ≡ b
same-term a b is =
    let both = and_parts _ _ (sym (is_eq-term a b) ∙ is) in
    let front = and_parts _ _ both.0 in
    equal (eqb-true a.iid b.iid front.0) (eqb-true a.start b.start front.1) (eqb-true a.nonce b.nonce both.1)
  where
    equal : a.iid ≡ b.iid → a.start ≡ b.start → a.nonce ≡ b.nonce → a ≡ b
    equal iids starts nonces = λ t. record { iid = iids t; start = starts t; nonce = nonces t }

lesser-iid : (a b : Term) → term_order a b ≡ Less → a.iid ≤ b.iid
lesser-iid a b less = grind (arith, nat_tests, less)

lesser-start : (a b : Term) → term_order a b ≡ Less → a.iid ≡ b.iid → a.start ≤ b.start
lesser-start a b less same = grind (arith, nat_tests, less, same)

-- ### requests come and go

any-push : {A : Type 0} (test : A → Bool) (items : List A) (x : A) → list_any test (items ++ x ∷ []) ≡ (test x || list_any test items)
any-push test [] x = refl
any-push test (y ∷ items) x = ap (λ b. test y || b) (any-push test items x) ∙ either (test y) (test x) (list_any test items)

-- one more
pub terms-pushed : (terms new : List Term) (requests : List Request) (x : Request) → ((term : Term) → has term_order term new ≡ (is_eq (term_order (term_of x) term) || has term_order term terms)) → AreTerms terms requests → AreTerms new (requests ++ x ∷ [])
terms-pushed terms new requests x members are term =
    members term
    ∙ ap (λ b. is_eq (term_order (term_of x) term) || b) (are term)
    ∙ sym (any-push (λ request. is_eq (term_order (term_of request) term)) requests x)

-- a term of another nonce isn't there
no-term : (term : Term) (requests : List Request) → has_nonce term.nonce requests ≡ false → has_term term requests ≡ false
no-term term [] none = refl
no-term term (x ∷ requests) none =
    let both = or_parts _ _ none in
    ap₂ (λ a b. a || b) (is_eq-term (term_of x) term ∙ and_right _ _ both.0) (no-term term requests both.1)

-- one less
pub terms-left : (terms new : List Term) (requests : List Request) (place : ℕ) (x : Request) → ((term : Term) → has term_order term new ≡ (not (is_eq (term_order (term_of x) term)) && has term_order term terms)) → are_distinct requests ≡ true → slice_get requests place ≡ Some x → AreTerms terms requests → AreTerms new (remove requests place)
terms-left terms new requests place x members distinct at are term =
    by (is_eq (term_order (term_of x) term)) refl
  where
    among : has term_order term terms ≡ (is_eq (term_order (term_of x) term) || has_term term (remove requests place))
    among = are term ∙ any-left (λ request. is_eq (term_order (term_of request) term)) requests place x at

    by : (b : Bool) → is_eq (term_order (term_of x) term) ≡ b → has term_order term new ≡ has_term term (remove requests place)
    by true is =
        let same : x.nonce ≡ term.nonce = ap (λ (t : Term). t.nonce) (same-term (term_of x) term is) in
        members term
        ∙ ap (λ b. not b && has term_order term terms) is
        ∙ sym (no-term term (remove requests place) (subst (λ (n : ℕ). has_nonce n (remove requests place) ≡ false) same (apart-left requests place x distinct at)))
    by false is =
        members term
        ∙ ap (λ b. not b && has term_order term terms) is
        ∙ among
        ∙ ap (λ b. b || has_term term (remove requests place)) is

-- what is sent again keeps its term
pub terms-again : (nonce : ℕ) (terms : List Term) (requests : List Request) → AreTerms terms requests → AreTerms terms (sent_again nonce requests)
terms-again nonce terms requests are term = are term ∙ sym (from requests)
  where
    from : (some : List Request) → has_term term (sent_again nonce some) ≡ has_term term some
    from [] = refl
    from (x ∷ some) = ap₂ (λ a b. a || b) (by (x.nonce == nonce)) (from some)
      where
        by : (b : Bool) → is_eq (term_order (term_of (cond b (once_more x) x)) term) ≡ is_eq (term_order (term_of x) term)
        by true = refl
        by false = refl

-- ### how many there are

terms-had : (term : Term) (requests : List Request) → has term_order term (map term_of requests) ≡ has_term term requests
terms-had term requests = any-map_is term_of (λ other. is_eq (term_order other term)) requests

-- each is there once
terms-distinct : (requests : List Request) → are_distinct requests ≡ true → IsDistinct (eq_by_cmp term_order) (map term_of requests)
unfolding IsDistinct
terms-distinct [] distinct = tt
terms-distinct (x ∷ requests) distinct =
    let both = and_parts _ _ distinct in
    (apart requests (not-true _ both.0), terms-distinct requests both.1)
  where
    apart : (some : List Request) → has_nonce x.nonce some ≡ false → AllByRecursion (λ a. eq_by_cmp term_order (term_of x) a ≡ false) (map term_of some)
    apart [] none = tt
    apart (y ∷ some) none =
        let both = or_parts _ _ none in
        (is_eq-term (term_of x) (term_of y) ∙ and_right _ _ (eq-flip x.nonce y.nonce ∙ both.0), apart some both.1)

module _ (terms : List Term) (requests : List Request) (ascends : Ascends term_order terms) (are : AreTerms terms requests) where
  -- there are no more terms than requests
  pub terms-few : length terms ≤ length requests
  terms-few =
      let few = length-le_from_is_member (eq_by_cmp_equiv term_order-total) terms (map term_of requests) (IsDistinct-from_sorted term_order terms (sorted term_order term_order-total terms ascends)) (λ q is. member-has term_order term_order-total (map term_of requests) q ∙ terms-had q requests ∙ sym (are q) ∙ sym (member-has term_order term_order-total terms q) ∙ is) in
      omega (arith, few, length-map requests term_of)

  module _ (test : Term → Bool) where
    alike : (q x : Term) → eq_by_cmp term_order q x ≡ true → test q ≡ test x
    alike q x same = ap test (same-term q x same)

    -- a term is among those that pass exactly where it is among those of the requests
    members : (q : Term) → is_member (eq_by_cmp term_order) (filter test terms) q ≡ is_member (eq_by_cmp term_order) (filter test (map term_of requests)) q
    members q =
        is_member-filter (eq_by_cmp_equiv term_order-total) test q (alike q) terms
        ∙ ap (λ b. b && test q) (member-has term_order term_order-total terms q ∙ are q ∙ sym (terms-had q requests) ∙ sym (member-has term_order term_order-total (map term_of requests) q))
        ∙ sym (is_member-filter (eq_by_cmp_equiv term_order-total) test q (alike q) (map term_of requests))

    same-length : are_distinct requests ≡ true → length (filter test terms) ≡ length (filter test (map term_of requests))
    same-length distinct =
        length-from_same_keys (eq_by_cmp_equiv term_order-total) (filter test terms) (filter test (map term_of requests))
        (apart-filter (eq_by_cmp term_order) test terms (IsDistinct-from_sorted term_order terms (sorted term_order term_order-total terms ascends)))
        (apart-filter (eq_by_cmp term_order) test (map term_of requests) (terms-distinct requests distinct))
        members

    of-requests : (some : List Request) → length (filter test (map term_of some)) ≡ length (filter (λ request. test (term_of request)) some)
    of-requests [] = refl
    of-requests (x ∷ some) = by (test (term_of x)) (of-requests some)
      where
        by : (b : Bool) → length (filter test (map term_of some)) ≡ length (filter (λ request. test (term_of request)) some)
            → length (cond b (term_of x ∷ filter test (map term_of some)) (filter test (map term_of some))) ≡ length (cond b (x ∷ filter (λ request. test (term_of request)) some) (filter (λ request. test (term_of request)) some))
        by true is = ap suc is
        by false is = is

    -- as many terms pass as requests do by their terms
    terms-count : are_distinct requests ≡ true → count_by test terms ≡ count_by (λ request. test (term_of request)) requests
    terms-count distinct =
        sym (length-filter test terms)
        ∙ same-length distinct
        ∙ of-requests requests
        ∙ length-filter (λ (request : Request). test (term_of request)) requests

-- ### those of an instance that wait

module _ (terms : List Term) (ascends : Ascends term_order terms) (m iid : ℕ) where
  -- of this instance, and waits
  abbrev is_open : Term → Bool
  is_open term = (term.iid == iid) && younger m request_seconds term.start

  past-lesser : (a b : Term) → term_order a b ≡ Less → is_past m iid b ≡ true → is_past m iid a ≡ true
  past-lesser a b less is =
      let iids = lesser-iid a b less in
      let starts = lesser-start a b less in
      grind (arith, nat_tests, iids, starts, is)

  upto-lesser : (a b : Term) → term_order a b ≡ Less → is_upto iid b ≡ true → is_upto iid a ≡ true
  upto-lesser a b less is = let iids = lesser-iid a b less in grind (arith, nat_tests, iids, is)

  parts : (term : Term) → is_upto iid term ≡ (is_past m iid term || is_open term)
  parts term = grind (arith, nat_tests)

  apart : (term : Term) → (is_past m iid term && is_open term) ≡ false
  apart term = grind (arith, nat_tests)

  module _ (first end : ℕ) (first_within : first ≤ length terms) (first_before : 0 < first → IfSome (slice_get terms (first - 1)) (λ a. is_past m iid a ≡ true)) (first_behind : IfSome (slice_get terms first) (λ a. is_past m iid a ≡ false)) (end_within : end ≤ length terms) (end_before : 0 < end → IfSome (slice_get terms (end - 1)) (λ a. is_upto iid a ≡ true)) (end_behind : IfSome (slice_get terms end) (λ a. is_upto iid a ≡ false)) where
    -- they stand between the two places
    pub open-between : end ≡ first + count_by is_open terms
    open-between =
        let lower = count-place term_order (is_past m iid) past-lesser terms first ascends first_within first_before first_behind in
        let upper = count-place term_order (is_upto iid) upto-lesser terms end ascends end_within end_before end_behind in
        omega (arith, lower, upper, count-parts (is_upto iid) (is_past m iid) is_open terms parts apart)

    -- so many requests of the instance wait
    pub open-counted : (requests : List Request) → AreTerms terms requests → are_distinct requests ≡ true → end - first ≡ open_in iid (waiting m requests)
    open-counted requests are distinct =
        let both = count-both (λ (request : Request). request.eid.iid == iid) (is_waiting m) requests in
        omega (arith, open-between, terms-count terms requests ascends are is_open distinct, both)
