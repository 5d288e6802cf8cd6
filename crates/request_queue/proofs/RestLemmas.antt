-- Requests that aren't to be sent again before a moment.
use Rattle.std.proofs.Common.{◌≡◌, ℕ, ◌≤◌, ◌<◌, ◌+◌, ◌-◌, ◌==◌, ◌&&◌, ◌||◌, nat_lt, Bool, true, false, not, cond, List, [], ◌∷◌, ◌++◌, filter, Option, None, Some, refl, ap, ◌∙◌, arith}
use Rattle.std.proofs.lemmas.Bool.{and_from, and_parts, not-true}
use Rattle.std.proofs.lemmas.Bool.Decides.{nat_tests}
use Rattle.request_queue.specs.Lists.{all_rest, rests}
use Rattle.request_queue.specs.Queue.{all_due, asked_after, behind, due, is_waiting, once_more, sent_again, waiting}
use Rattle.request_queue.specs.declared.request.Request.{Request}

younger-before : (m n start age : ℕ) → m ≤ n → not (nat_lt (n - start) age) ≡ false → not (nat_lt (m - start) age) ≡ false
younger-before m n start age le is = grind (arith, nat_tests, le, is)

both-before : (a b x y u v : Bool) → (x ≡ false → u ≡ false) → (y ≡ false → v ≡ false) → (a && x || b && y) ≡ false → (a && u || b && v) ≡ false
both-before true true x y u v f g is = grind (arith, f, g, is)
both-before true false x y u v f g is = grind (arith, f, g, is)
both-before false true x y u v f g is = g is
both-before false false x y u v f g is = refl

-- what isn't to be sent again at a moment isn't before it
due-before : (m n : ℕ) (request : Request) → m ≤ n → due n request ≡ false → due m request ≡ false
due-before m n request le is =
    both-before (request.sent_again == 0) (request.sent_again == 1) _ _ _ _
    (younger-before m n request.start 1000000000 le)
    (younger-before m n request.start 3000000000 le)
    is

-- what rests before a moment rests before an earlier one
pub rests-lower : (low wake : ℕ) (request : Request) → low ≤ wake → rests wake request ≡ true → rests low request ≡ true
rests-lower low wake request le is = ap not (due-before (low - 1) (wake - 1) request (omega (arith, le)) (not-true _ is))

pub all_rest-lower : (low wake : ℕ) (requests : List Request) → low ≤ wake → all_rest wake requests ≡ true → all_rest low requests ≡ true
all_rest-lower low wake [] le is = refl
all_rest-lower low wake (x ∷ requests) le is =
    let both = and_parts _ _ is in
    and_from _ _ (rests-lower low wake x le both.0) (all_rest-lower low wake requests le both.1)

-- what is left rests too
pub all_rest-filter : (test : Request → Bool) (wake : ℕ) (requests : List Request) → all_rest wake requests ≡ true → all_rest wake (filter test requests) ≡ true
all_rest-filter test wake [] is = refl
all_rest-filter test wake (x ∷ requests) is =
    let both = and_parts _ _ is in
    by (test x) both.0 (all_rest-filter test wake requests both.1)
  where
    by : (b : Bool) → rests wake x ≡ true → all_rest wake (filter test requests) ≡ true → all_rest wake (cond b (x ∷ filter test requests) (filter test requests)) ≡ true
    by true first h = and_from _ _ first h
    by false first h = h

all_rest-behind : (nonce wake : ℕ) (requests : List Request) → all_rest wake requests ≡ true → all_rest wake (behind nonce requests) ≡ true
all_rest-behind nonce wake [] is = refl
all_rest-behind nonce wake (x ∷ requests) is =
    let both = and_parts _ _ is in
    by (x.nonce == nonce) both.1 (all_rest-behind nonce wake requests both.1)
  where
    by : (b : Bool) → all_rest wake requests ≡ true → all_rest wake (behind nonce requests) ≡ true → all_rest wake (cond b requests (behind nonce requests)) ≡ true
    by true others h = others
    by false others h = h

all_rest-after : (after : Option ℕ) (wake : ℕ) (requests : List Request) → all_rest wake requests ≡ true → all_rest wake (asked_after after requests) ≡ true
all_rest-after None wake requests is = is
all_rest-after (Some nonce) wake requests is = all_rest-behind nonce wake requests is

-- before the moment none is to be sent again
none-due : (m wake : ℕ) (requests : List Request) → m < wake → all_rest wake requests ≡ true → filter (due m) requests ≡ []
none-due m wake [] less is = refl
none-due m wake (x ∷ requests) less is =
    let both = and_parts _ _ is in
    let rests_here : due m x ≡ false = due-before m (wake - 1) x (omega (arith, less)) (not-true _ both.0) in
    ap (λ b. cond b (x ∷ filter (due m) requests) (filter (due m) requests)) rests_here ∙ none-due m wake requests less both.1

pub none-due-after : (after : Option ℕ) (m wake : ℕ) (requests : List Request) → m < wake → all_rest wake requests ≡ true → all_due m (asked_after after requests) ≡ []
none-due-after after m wake requests less is =
    none-due m wake (waiting m (asked_after after requests)) less
    (all_rest-filter (is_waiting m) wake (asked_after after requests) (all_rest-after after wake requests is))

-- what was sent again rests longer
once_more-rests : (wake : ℕ) (request : Request) → rests wake request ≡ true → rests wake (once_more request) ≡ true
once_more-rests wake request is = grind (arith, nat_tests, is)

pub all_rest-sent_again : (nonce wake : ℕ) (requests : List Request) → all_rest wake requests ≡ true → all_rest wake (sent_again nonce requests) ≡ true
all_rest-sent_again nonce wake [] is = refl
all_rest-sent_again nonce wake (x ∷ requests) is =
    let both = and_parts _ _ is in
    and_from _ _ (by (x.nonce == nonce) both.0) (all_rest-sent_again nonce wake requests both.1)
  where
    by : (b : Bool) → rests wake x ≡ true → rests wake (cond b (once_more x) x) ≡ true
    by true h = once_more-rests wake x h
    by false h = h

pub all_rest-push : (wake : ℕ) (requests : List Request) (x : Request) → all_rest wake requests ≡ true → rests wake x ≡ true → all_rest wake (requests ++ x ∷ []) ≡ true
all_rest-push wake [] x is last = and_from _ _ last refl
all_rest-push wake (y ∷ requests) x is last =
    let both = and_parts _ _ is in
    and_from _ _ both.0 (all_rest-push wake requests x both.1 last)

pub fresh-rests : (low : ℕ) (x : Request) → x.sent_again ≡ 0 → low ≤ x.start + 1000000000 → rests low x ≡ true
fresh-rests low x new le = grind (arith, nat_tests, new, le)
