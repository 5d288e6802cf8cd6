-- The request with a nonce, and those asked after it, where nonces are distinct.
use Rattle.std.proofs.Common.{◌≡◌, ◌⊎◌, ℕ, ◌==◌, ◌&&◌, ◌||◌, nat_lt, Bool, true, false, not, cond, List, [], ◌∷◌, filter, Option, None, Some, IsTrue, IfSome, refl, sym, subst, ap, ◌∙◌, inl, inr, arith}
use Rattle.std.proofs.lemmas.Bool.{and_from, and_parts, eq-eqb, eqb-true, not-true, or_parts}
use Rattle.std.proofs.lemmas.Bool.Decides.{nat_tests}
use Rattle.std.specs.List.{slice_get}
use Rattle.std.specs.Option.{option_map_or}
use Rattle.request_queue.specs.Lists.{all_may_again, are_distinct, has_nonce}
use Rattle.request_queue.specs.Queue.{all_due, asked_after, behind, due, is_waiting, may_send_again, once_more, sent_again, with_nonce}
use Rattle.request_queue.specs.declared.request.Request.{Request}

-- a request is one of them
abbrev IsIn : Request → List Request → Type 0
IsIn request [] = ⊥
IsIn request (x ∷ requests) = (x ≡ request) ⊎ IsIn request requests

IsIn-filter : (test : Request → Bool) (request : Request) (requests : List Request) → IsIn request (filter test requests) → IsIn request requests × (test request ≡ true)
IsIn-filter test request [] is = absurd is
IsIn-filter test request (x ∷ requests) is = by (test x) refl is (IsIn-filter test request requests)
  where
    by : (b : Bool) → test x ≡ b → IsIn request (cond b (x ∷ filter test requests) (filter test requests)) → (IsIn request (filter test requests) → IsIn request requests × (test request ≡ true)) → IsIn request (x ∷ requests) × (test request ≡ true)
    by true passes (inl e) h = (inl e, subst (λ (r : Request). test r ≡ true) e passes)
    by true passes (inr others) h = (inr (h others).0, (h others).1)
    by false fails others h = (inr (h others).0, (h others).1)

IsIn-behind : (nonce : ℕ) (request : Request) (requests : List Request) → IsIn request (behind nonce requests) → IsIn request requests
IsIn-behind nonce request [] is = is
IsIn-behind nonce request (x ∷ requests) is = by (x.nonce == nonce) is (IsIn-behind nonce request requests)
  where
    by : (b : Bool) → IsIn request (cond b requests (behind nonce requests)) → (IsIn request (behind nonce requests) → IsIn request requests) → IsIn request (x ∷ requests)
    by true others h = inr others
    by false others h = inr (h others)

IsIn-after : (after : Option ℕ) (request : Request) (requests : List Request) → IsIn request (asked_after after requests) → IsIn request requests
IsIn-after None request requests is = is
IsIn-after (Some nonce) request requests is = IsIn-behind nonce request requests is

IsIn-first : (request : Request) (requests : List Request) → slice_get requests 0 ≡ Some request → IsIn request requests
IsIn-first request [] is = cc
IsIn-first request (x ∷ requests) is = inl (cc)

-- what has a nonce of its own isn't one of them
apart-from : (nonce : ℕ) (request : Request) (requests : List Request) → has_nonce nonce requests ≡ false → IsIn request requests → (nonce == request.nonce) ≡ false
apart-from nonce request [] apart is = absurd is
apart-from nonce request (x ∷ requests) apart is = by is (or_parts _ _ apart) (apart-from nonce request requests)
  where
    by : IsIn request (x ∷ requests) → ((x.nonce == nonce) ≡ false) × (has_nonce nonce requests ≡ false) → (has_nonce nonce requests ≡ false → IsIn request requests → (nonce == request.nonce) ≡ false) → (nonce == request.nonce) ≡ false
    by (inl e) both h = let here : (request.nonce == nonce) ≡ false = subst (λ (r : Request). (r.nonce == nonce) ≡ false) e both.0 in grind (arith, nat_tests, here)
    by (inr others) both h = h both.1 others

-- one of them is found by its nonce
found : (request : Request) (requests : List Request) → are_distinct requests ≡ true → IsIn request requests → with_nonce requests request.nonce ≡ Some request
found request [] distinct is = absurd is
found request (x ∷ requests) distinct is = by is (and_parts _ _ distinct) (found request requests)
  where
    by : IsIn request (x ∷ requests) → (not (has_nonce x.nonce requests) ≡ true) × (are_distinct requests ≡ true) → (are_distinct requests ≡ true → IsIn request requests → with_nonce requests request.nonce ≡ Some request) → with_nonce (x ∷ requests) request.nonce ≡ Some request
    by (inl e) both h = subst (λ (r : Request). with_nonce (x ∷ requests) r.nonce ≡ Some r) e (ap (λ b. cond b (Some x) (with_nonce requests x.nonce)) (eq-eqb x.nonce x.nonce refl))
    by (inr others) both h = ap (λ b. cond b (Some x) (with_nonce requests request.nonce)) (apart-from x.nonce request requests (not-true _ both.0) others) ∙ h both.1 others

-- the first that passes, and then those behind it
first-rest : (test : Request → Bool) (request : Request) (requests : List Request) → are_distinct requests ≡ true → slice_get (filter test requests) 0 ≡ Some request → filter test requests ≡ request ∷ filter test (behind request.nonce requests)
first-rest test request [] distinct is = cc
first-rest test request (x ∷ requests) distinct is = by (test x) refl is (and_parts _ _ distinct) (first-rest test request requests)
  where
    by : (b : Bool) → test x ≡ b → slice_get (cond b (x ∷ filter test requests) (filter test requests)) 0 ≡ Some request
        → (not (has_nonce x.nonce requests) ≡ true) × (are_distinct requests ≡ true)
        → (are_distinct requests ≡ true → slice_get (filter test requests) 0 ≡ Some request → filter test requests ≡ request ∷ filter test (behind request.nonce requests))
        → cond b (x ∷ filter test requests) (filter test requests) ≡ request ∷ filter test (behind request.nonce (x ∷ requests))
    by true passes first both h =
        let same : x ≡ request = cc in
        subst (λ (r : Request). x ∷ filter test requests ≡ r ∷ filter test (behind r.nonce (x ∷ requests))) same
        (ap (λ b. x ∷ filter test (cond b requests (behind x.nonce requests))) (sym (eq-eqb x.nonce x.nonce refl)))
    by false fails first both h =
        let among = (IsIn-filter test request requests (IsIn-first request (filter test requests) first)).0 in
        h both.1 first ∙ ap (λ b. request ∷ filter test (cond b requests (behind request.nonce requests))) (sym (apart-from x.nonce request requests (not-true _ both.0) among))

-- behind one of those behind a nonce lies the same as behind it in the whole list
behind-behind : (nonce : ℕ) (request : Request) (requests : List Request) → are_distinct requests ≡ true → IsIn request (behind nonce requests) → behind request.nonce (behind nonce requests) ≡ behind request.nonce requests
behind-behind nonce request [] distinct is = refl
behind-behind nonce request (x ∷ requests) distinct is = by (x.nonce == nonce) is (and_parts _ _ distinct) (behind-behind nonce request requests)
  where
    passed : (not (has_nonce x.nonce requests) ≡ true) → IsIn request requests → behind request.nonce requests ≡ behind request.nonce (x ∷ requests)
    passed apart among = ap (λ b. cond b requests (behind request.nonce requests)) (sym (apart-from x.nonce request requests (not-true _ apart) among))

    by : (b : Bool) → IsIn request (cond b requests (behind nonce requests))
        → (not (has_nonce x.nonce requests) ≡ true) × (are_distinct requests ≡ true)
        → (are_distinct requests ≡ true → IsIn request (behind nonce requests) → behind request.nonce (behind nonce requests) ≡ behind request.nonce requests)
        → behind request.nonce (cond b requests (behind nonce requests)) ≡ behind request.nonce (x ∷ requests)
    by true among both h = passed both.0 among
    by false among both h = h both.1 among ∙ passed both.0 (IsIn-behind nonce request requests among)

distinct-behind : (nonce : ℕ) (requests : List Request) → are_distinct requests ≡ true → are_distinct (behind nonce requests) ≡ true
distinct-behind nonce [] is = refl
distinct-behind nonce (x ∷ requests) is = by (x.nonce == nonce) (and_parts _ _ is) (distinct-behind nonce requests)
  where
    by : (b : Bool) → (not (has_nonce x.nonce requests) ≡ true) × (are_distinct requests ≡ true) → (are_distinct requests ≡ true → are_distinct (behind nonce requests) ≡ true) → are_distinct (cond b requests (behind nonce requests)) ≡ true
    by true both h = both.1
    by false both h = h both.1

after-behind : (after : Option ℕ) (request : Request) (requests : List Request) → are_distinct requests ≡ true → IsIn request (asked_after after requests) → behind request.nonce (asked_after after requests) ≡ behind request.nonce requests
after-behind None request requests distinct is = refl
after-behind (Some nonce) request requests distinct is = behind-behind nonce request requests distinct is

distinct-after : (after : Option ℕ) (requests : List Request) → are_distinct requests ≡ true → are_distinct (asked_after after requests) ≡ true
distinct-after None requests is = is
distinct-after (Some nonce) requests is = distinct-behind nonce requests is

-- it waits and is to be sent again
abbrev waits_due : ℕ → Request → Bool
waits_due m request = is_waiting m request && due m request

all_due-once : (m : ℕ) (requests : List Request) → all_due m requests ≡ filter (waits_due m) requests
all_due-once m [] = refl
all_due-once m (x ∷ requests) = by (is_waiting m x) (all_due-once m requests)
  where
    by : (b : Bool) → all_due m requests ≡ filter (waits_due m) requests → filter (due m) (cond b (x ∷ filter (is_waiting m) requests) (filter (is_waiting m) requests)) ≡ cond (b && due m x) (x ∷ filter (waits_due m) requests) (filter (waits_due m) requests)
    by true h = ap (λ l. cond (due m x) (x ∷ l) l) h
    by false h = h

-- the first that is to be sent again, and then those asked after it
pub due-rest : (after : Option ℕ) (m : ℕ) (request : Request) (requests : List Request) → are_distinct requests ≡ true → slice_get (all_due m (asked_after after requests)) 0 ≡ Some request → all_due m (asked_after after requests) ≡ request ∷ all_due m (asked_after (Some request.nonce) requests)
due-rest after m request requests distinct is =
    let left : List Request = asked_after after requests in
    let first : slice_get (filter (waits_due m) left) 0 ≡ Some request = ap (λ (l : List Request). slice_get l 0) (sym (all_due-once m left)) ∙ is in
    let among = (IsIn-filter (waits_due m) request left (IsIn-first request (filter (waits_due m) left) first)).0 in
    all_due-once m left
    ∙ first-rest (waits_due m) request left (distinct-after after requests distinct) first
    ∙ ap (λ (l : List Request). request ∷ filter (waits_due m) l) (after-behind after request requests distinct among)
    ∙ ap (λ (l : List Request). request ∷ l) (sym (all_due-once m (behind request.nonce requests)))

due-few : (m : ℕ) (request : Request) → due m request ≡ true → nat_lt request.sent_again 2 ≡ true
due-few m request is = grind (arith, nat_tests, is)

-- it may be sent again
pub due-may : (after : Option ℕ) (m : ℕ) (request : Request) (requests : List Request) → are_distinct requests ≡ true → slice_get (all_due m (asked_after after requests)) 0 ≡ Some request → may_send_again request.nonce requests ≡ true
due-may after m request requests distinct is =
    let left : List Request = asked_after after requests in
    let first : slice_get (filter (waits_due m) left) 0 ≡ Some request = ap (λ (l : List Request). slice_get l 0) (sym (all_due-once m left)) ∙ is in
    let among = IsIn-filter (waits_due m) request left (IsIn-first request (filter (waits_due m) left) first) in
    ap (λ (o : Option Request). option_map_or (λ (r : Request). nat_lt r.sent_again 2) o false) (found request requests distinct (IsIn-after after request requests among.0))
    ∙ due-few m request (and_parts _ _ among.1).1

-- both clauses, of what was found
pub due-clauses : (after : Option ℕ) (m : ℕ) (best : Option Request) (requests : List Request) → are_distinct requests ≡ true → best ≡ slice_get (all_due m (asked_after after requests)) 0
    → IfSome best (λ request. all_due m (asked_after after requests) ≡ request ∷ all_due m (asked_after (Some request.nonce) requests)) × IfSome best (λ request. IsTrue (may_send_again request.nonce requests))
due-clauses after m None requests distinct is = (tt, tt)
due-clauses after m (Some request) requests distinct is = (due-rest after m request requests distinct (sym is), due-may after m request requests distinct (sym is))

none-has : (nonce : ℕ) (requests : List Request) → has_nonce nonce requests ≡ false → all_may_again nonce requests ≡ true
none-has nonce [] is = refl
none-has nonce (x ∷ requests) is =
    let both = or_parts _ _ is in
    and_from _ _ (ap (λ b. not b || nat_lt x.sent_again 2) both.0) (none-has nonce requests both.1)

-- where the one with the nonce may be sent again, each may
pub all_may : (nonce : ℕ) (requests : List Request) → are_distinct requests ≡ true → may_send_again nonce requests ≡ true → all_may_again nonce requests ≡ true
all_may nonce [] distinct may = refl
all_may nonce (x ∷ requests) distinct may = by (x.nonce == nonce) refl may (and_parts _ _ distinct) (all_may nonce requests)
  where
    by : (b : Bool) → (x.nonce == nonce) ≡ b → option_map_or (λ (r : Request). nat_lt r.sent_again 2) (cond b (Some x) (with_nonce requests nonce)) false ≡ true
        → (not (has_nonce x.nonce requests) ≡ true) × (are_distinct requests ≡ true)
        → (are_distinct requests ≡ true → may_send_again nonce requests ≡ true → all_may_again nonce requests ≡ true)
        → ((not b || nat_lt x.sent_again 2) && all_may_again nonce requests) ≡ true
    by true is few both h = and_from _ _ few (none-has nonce requests (subst (λ (n : ℕ). has_nonce n requests ≡ false) (eqb-true x.nonce nonce is) (not-true _ both.0)))
    by false is few both h = h both.1 few

none-again : (nonce : ℕ) (requests : List Request) → has_nonce nonce requests ≡ false → sent_again nonce requests ≡ requests
none-again nonce [] is = refl
none-again nonce (x ∷ requests) is =
    let both = or_parts _ _ is in
    ap (λ b. cond b (once_more x) x ∷ sent_again nonce requests) both.0 ∙ ap (λ (l : List Request). x ∷ l) (none-again nonce requests both.1)

-- those asked after it stay as they are
pub behind-sent_again : (nonce : ℕ) (requests : List Request) → are_distinct requests ≡ true → behind nonce (sent_again nonce requests) ≡ behind nonce requests
behind-sent_again nonce [] distinct = refl
behind-sent_again nonce (x ∷ requests) distinct = by (x.nonce == nonce) refl (and_parts _ _ distinct) (behind-sent_again nonce requests)
  where
    by : (b : Bool) → (x.nonce == nonce) ≡ b → (not (has_nonce x.nonce requests) ≡ true) × (are_distinct requests ≡ true)
        → (are_distinct requests ≡ true → behind nonce (sent_again nonce requests) ≡ behind nonce requests)
        → cond ((cond b (once_more x) x).nonce == nonce) (sent_again nonce requests) (behind nonce (sent_again nonce requests)) ≡ cond b requests (behind nonce requests)
    by true is both h =
        ap (λ b. cond b (sent_again nonce requests) (behind nonce (sent_again nonce requests))) is
        ∙ none-again nonce requests (subst (λ (n : ℕ). has_nonce n requests ≡ false) (eqb-true x.nonce nonce is) (not-true _ both.0))
    by false is both h =
        ap (λ b. cond b (sent_again nonce requests) (behind nonce (sent_again nonce requests))) is ∙ h both.1
