-- Requests of which no two have one nonce.
use Rattle.std.proofs.Common.{◌≡◌, ℕ, ◌==◌, ◌&&◌, ◌||◌, Bool, true, false, not, cond, List, [], ◌∷◌, ◌++◌, filter, remove, slice_get, Some, zero, suc, refl, sym, subst, ap, ap₂, ◌∙◌, arith}
use Rattle.std.proofs.lemmas.Bool.{and_from, and_parts, not-true, or_from, or_parts, not_from_false}
use Rattle.std.proofs.lemmas.Bool.Decides.{nat_tests}
use Rattle.std.proofs.lemmas.Option.{same_Some}
use Rattle.request_queue.specs.Lists.{are_distinct, has_nonce}
use Rattle.request_queue.specs.Queue.{once_more, sent_again, without_nonce}
use Rattle.request_queue.specs.declared.request.Request.{Request}
use Rattle.request_queue.proofs.EidLemmas.{any-left}

has_nonce-filter : (test : Request → Bool) (nonce : ℕ) (requests : List Request) → has_nonce nonce requests ≡ false → has_nonce nonce (filter test requests) ≡ false
has_nonce-filter test nonce [] is = refl
has_nonce-filter test nonce (x ∷ requests) is =
    let both = or_parts _ _ is in
    by (test x) both.0 (has_nonce-filter test nonce requests both.1)
  where
    by : (b : Bool) → (x.nonce == nonce) ≡ false → has_nonce nonce (filter test requests) ≡ false → has_nonce nonce (cond b (x ∷ filter test requests) (filter test requests)) ≡ false
    by true first h = or_from _ _ first h
    by false first h = h

-- those that are left are distinct
pub distinct-filter : (test : Request → Bool) (requests : List Request) → are_distinct requests ≡ true → are_distinct (filter test requests) ≡ true
distinct-filter test [] is = refl
distinct-filter test (x ∷ requests) is =
    let both = and_parts _ _ is in
    by (test x) (has_nonce-filter test x.nonce requests (not-true _ both.0)) (distinct-filter test requests both.1)
  where
    by : (b : Bool) → has_nonce x.nonce (filter test requests) ≡ false → are_distinct (filter test requests) ≡ true → are_distinct (cond b (x ∷ filter test requests) (filter test requests)) ≡ true
    by true apart h = and_from _ _ (not_from_false _ apart) h
    by false apart h = h

-- none is left with the nonce that was taken away
pub none-without : (nonce : ℕ) (requests : List Request) → has_nonce nonce (without_nonce nonce requests) ≡ false
none-without nonce [] = refl
none-without nonce (x ∷ requests) = by (x.nonce == nonce) refl (none-without nonce requests)
  where
    by : (b : Bool) → (x.nonce == nonce) ≡ b → has_nonce nonce (without_nonce nonce requests) ≡ false → has_nonce nonce (cond (not b) (x ∷ without_nonce nonce requests) (without_nonce nonce requests)) ≡ false
    by true is h = h
    by false is h = or_from _ _ is h

pub eq-flip : (a b : ℕ) → (a == b) ≡ (b == a)
eq-flip a b = grind (arith, nat_tests)

has_nonce-push : (nonce : ℕ) (requests : List Request) (x : Request) → has_nonce nonce requests ≡ false → (x.nonce == nonce) ≡ false → has_nonce nonce (requests ++ x ∷ []) ≡ false
has_nonce-push nonce [] x is apart = or_from _ _ apart refl
has_nonce-push nonce (y ∷ requests) x is apart =
    let both = or_parts _ _ is in
    or_from _ _ both.0 (has_nonce-push nonce requests x both.1 apart)

-- one with a nonce of its own leaves them distinct
pub distinct-push : (requests : List Request) (x : Request) → are_distinct requests ≡ true → has_nonce x.nonce requests ≡ false → are_distinct (requests ++ x ∷ []) ≡ true
distinct-push [] x is apart = refl
distinct-push (y ∷ requests) x is apart =
    let both = and_parts _ _ is in
    let others = or_parts _ _ apart in
    and_from _ _ (not_from_false _ (has_nonce-push y.nonce requests x (not-true _ both.0) (eq-flip x.nonce y.nonce ∙ others.0)))
    (distinct-push requests x both.1 others.1)

pub nonce-again : (nonce : ℕ) (x : Request) → (cond (x.nonce == nonce) (once_more x) x).nonce ≡ x.nonce
nonce-again nonce x = by (x.nonce == nonce)
  where
    by : (b : Bool) → (cond b (once_more x) x).nonce ≡ x.nonce
    by true = refl
    by false = refl

has_nonce-sent_again : (k nonce : ℕ) (requests : List Request) → has_nonce k (sent_again nonce requests) ≡ has_nonce k requests
has_nonce-sent_again k nonce [] = refl
has_nonce-sent_again k nonce (x ∷ requests) = ap₂ (λ (n : ℕ) (b : Bool). (n == k) || b) (nonce-again nonce x) (has_nonce-sent_again k nonce requests)

-- what is sent again keeps its nonce
pub distinct-sent_again : (nonce : ℕ) (requests : List Request) → are_distinct (sent_again nonce requests) ≡ are_distinct requests
distinct-sent_again nonce [] = refl
distinct-sent_again nonce (x ∷ requests) =
    ap₂ (λ (a b : Bool). not a && b)
    (has_nonce-sent_again (cond (x.nonce == nonce) (once_more x) x).nonce nonce requests ∙ ap (λ (n : ℕ). has_nonce n requests) (nonce-again nonce x))
    (distinct-sent_again nonce requests)

-- ### one less

-- each nonce is that of the request that goes, or of one that is left
nonce-left : (nonce : ℕ) (requests : List Request) (place : ℕ) (x : Request) → slice_get requests place ≡ Some x → has_nonce nonce requests ≡ ((x.nonce == nonce) || has_nonce nonce (remove requests place))
nonce-left nonce requests place x at = any-left (λ request. request.nonce == nonce) requests place x at

-- none that is left has its nonce
pub apart-left : (requests : List Request) (place : ℕ) (x : Request) → are_distinct requests ≡ true → slice_get requests place ≡ Some x → has_nonce x.nonce (remove requests place) ≡ false
apart-left [] place x distinct at = absurd (cc at)
apart-left (y ∷ requests) zero x distinct at =
    subst (λ (r : Request). has_nonce r.nonce requests ≡ false) (same_Some y x at) (not-true _ (and_parts _ _ distinct).0)
apart-left (y ∷ requests) (suc place) x distinct at =
    let both = and_parts _ _ distinct in
    let other = or_parts _ _ (sym (nonce-left y.nonce requests place x at) ∙ not-true _ both.0) in
    or_from _ _ (eq-flip y.nonce x.nonce ∙ other.0) (apart-left requests place x both.1 at)

-- those that are left are distinct
pub distinct-left : (requests : List Request) (place : ℕ) (x : Request) → are_distinct requests ≡ true → slice_get requests place ≡ Some x → are_distinct (remove requests place) ≡ true
distinct-left [] place x distinct at = absurd (cc at)
distinct-left (y ∷ requests) zero x distinct at = (and_parts _ _ distinct).1
distinct-left (y ∷ requests) (suc place) x distinct at =
    let both = and_parts _ _ distinct in
    let other = or_parts _ _ (sym (nonce-left y.nonce requests place x at) ∙ not-true _ both.0) in
    and_from _ _ (not_from_false _ other.1) (distinct-left requests place x both.1 at)
