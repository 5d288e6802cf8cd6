-- Requests that are found by nonce or by EID.
use Rattle.std.proofs.Common.{◌≡◌, ℕ, zero, suc, ◌<◌, ◌+◌, ◌==◌, ◌&&◌, ◌||◌, min, nat_lt, Bool, true, false, not, cond, List, [], ◌∷◌, drop, filter, fold, length, map, slice_get, Option, None, Some, IfSome, is_some, Ordering, Less, Equal, Greater, is_eq, nat_cmp, option_copied, Bor, refl, sym, ap, ap₂, subst, ◌∙◌, add-one, arith, true≢false}
use Rattle.std.specs.List.{list_any}
use Rattle.std.specs.Ordering.{ordering_then}
use Rattle.std.proofs.lemmas.Bool.{and_parts, eqb-true, ltb-true, not-true, or_parts}
use Rattle.std.proofs.lemmas.Bool.Decides.{nat_tests}
use Rattle.std.proofs.lemmas.Option.{same_Some}
use Rattle.ip_headers.specs.declared.addr.Addr.{Addr}
use Rattle.ip_headers.specs.declared.addr.Addr.TheVariants.{V4, V6}
use Rattle.keyed_list.specs.Keyed.{changed_with, is_key}
use Rattle.keyed_list.specs.Keys.{eid_key, nonce_key}
use Rattle.keyed_list.proofs.SameLemmas.{eid-nonce, nonce-eid, same-eid, same-nonce}
use Rattle.keyed_list.specs.Lists.{last_where, later}
use Rattle.request_queue.proofs.PassingLemmas.{last-passes, none-passes, NonePasses}
use Rattle.mapping_records.specs.Eids.{same_address, same_eid}
use Rattle.mapping_records.specs.Orders.{addr_order}
use Rattle.mapping_records.specs.declared.eid.Eid.{Eid}
use Rattle.request_queue.specs.Found.{request_marks}
use Rattle.request_queue.specs.Lists.{all_may_again, are_distinct, has_nonce}
use Rattle.request_queue.specs.Queue.{all_due, behind, due, is_waiting, once_more, sent_again, waiting, with_nonce, without_nonce}
use Rattle.request_queue.specs.declared.request.Request.{Request}

-- ### keys

pub is_eq-then : (a b : Ordering) → is_eq (ordering_then a b) ≡ (is_eq a && is_eq b)
is_eq-then Less b = refl
is_eq-then Equal b = refl
is_eq-then Greater b = refl

pub is_eq-nat : (x y : ℕ) → is_eq (nat_cmp x y) ≡ (x == y)
is_eq-nat x y = grind (arith, nat_tests)

pub is_eq-addr : (a b : Addr) → is_eq (addr_order a b) ≡ same_address a b
is_eq-addr (V4 m) (V4 n) = is_eq-nat m n
is_eq-addr (V4 m) (V6 n) = refl
is_eq-addr (V6 m) (V4 n) = refl
is_eq-addr (V6 m) (V6 n) = is_eq-nat m n

or-false : (a : Bool) → (a || false) ≡ a
or-false true = refl
or-false false = refl

pub is_key-nonce : (nonce : ℕ) (request : Request) → is_key request_marks (nonce_key nonce) request ≡ (request.nonce == nonce)
is_key-nonce nonce request = ap₂ (λ x y. x || y) (same-nonce request.nonce nonce) (eid-nonce request.eid nonce) ∙ or-false _

pub is_key-eid : (eid : Eid) (request : Request) → is_key request_marks (eid_key eid) request ≡ same_eid request.eid eid
is_key-eid eid request = ap₂ (λ x y. x || y) (nonce-eid request.nonce eid) (same-eid request.eid eid)

-- ### the last that passes

module _ {A : Type 0} (test : A → Bool) where
  some-from : (before : Option A) (items : List A) → is_some (fold (later test) before items) ≡ (is_some before || list_any test items)
  some-from None [] = refl
  some-from (Some y) [] = refl
  some-from before (x ∷ items) = some-from (later test before x) items ∙ by before (test x)
    where
      by : (o : Option A) (b : Bool) → (is_some (cond b (Some x) o) || list_any test items) ≡ (is_some o || (b || list_any test items))
      by None true = refl
      by None false = refl
      by (Some y) true = refl
      by (Some y) false = refl

  last-same : (other : A → Bool) (before : Option A) (items : List A) → ((y : A) → test y ≡ other y) → fold (later test) before items ≡ fold (later other) before items
  last-same other before [] each = refl
  last-same other before (y ∷ items) each =
      ap (λ b. fold (later test) (cond b (Some y) before) items) (each y) ∙ last-same other (later other before y) items each

-- what is behind a reference is there where the reference is
pub some-copied : {A : Type 0} (o : Option (Bor A)) → is_some (option_copied o) ≡ is_some o
some-copied None = refl
some-copied (Some x) = refl

-- ### by nonce

later-apart : (nonce m : ℕ) (before : Option Request) (requests : List Request) → has_nonce nonce requests ≡ false → fold (later (λ request. (request.nonce == nonce) && is_waiting m request)) before requests ≡ before
later-apart nonce m before [] apart = refl
later-apart nonce m before (x ∷ requests) apart =
    let both = or_parts _ _ apart in
    ap (λ b. fold (later (λ request. (request.nonce == nonce) && is_waiting m request)) (cond (b && is_waiting m x) (Some x) before) requests) both.0
    ∙ later-apart nonce m before requests both.1

-- the last that has the nonce and waits is the first, since no two have one
last-waiting : (nonce m : ℕ) (requests : List Request) → are_distinct requests ≡ true → last_where (λ request. (request.nonce == nonce) && is_waiting m request) requests ≡ with_nonce (waiting m requests) nonce
last-waiting nonce m [] distinct = refl
last-waiting nonce m (x ∷ requests) distinct = by (x.nonce == nonce) (is_waiting m x) refl (and_parts _ _ distinct) (last-waiting nonce m requests)
  where
    by : (a b : Bool) → (x.nonce == nonce) ≡ a → (not (has_nonce x.nonce requests) ≡ true) × (are_distinct requests ≡ true)
        → (are_distinct requests ≡ true → last_where (λ request. (request.nonce == nonce) && is_waiting m request) requests ≡ with_nonce (waiting m requests) nonce)
        → fold (later (λ request. (request.nonce == nonce) && is_waiting m request)) (cond (a && b) (Some x) None) requests ≡ with_nonce (cond b (x ∷ waiting m requests) (waiting m requests)) nonce
    by true true is both h =
        later-apart nonce m (Some x) requests (subst (λ (n : ℕ). has_nonce n requests ≡ false) (eqb-true x.nonce nonce is) (not-true _ both.0))
        ∙ sym (ap (λ c. cond c (Some x) (with_nonce (waiting m requests) nonce)) is)
    by true false is both h = h both.1
    by false true is both h = h both.1 ∙ sym (ap (λ c. cond c (Some x) (with_nonce (waiting m requests) nonce)) is)
    by false false is both h = h both.1

pub last-found : (nonce m : ℕ) (requests : List Request) → are_distinct requests ≡ true → last_where (λ request. is_key request_marks (nonce_key nonce) request && is_waiting m request) requests ≡ with_nonce (waiting m requests) nonce
last-found nonce m requests distinct =
    last-same (λ request. is_key request_marks (nonce_key nonce) request && is_waiting m request) (λ request. (request.nonce == nonce) && is_waiting m request) None requests (λ y. ap (λ b. b && is_waiting m y) (is_key-nonce nonce y))
    ∙ last-waiting nonce m requests distinct

nonce-at : (nonce : ℕ) (requests : List Request) (place : ℕ) (x : Request) → slice_get requests place ≡ Some x → (x.nonce == nonce) ≡ true → has_nonce nonce requests ≡ true
nonce-at nonce [] place x at is = absurd (cc at)
nonce-at nonce (y ∷ requests) zero x at is = ap (λ b. b || has_nonce nonce requests) (ap (λ (r : Request). r.nonce == nonce) (same_Some y x at) ∙ is)
nonce-at nonce (y ∷ requests) (suc place) x at is = by (y.nonce == nonce) (nonce-at nonce requests place x at is)
  where
    by : (b : Bool) → has_nonce nonce requests ≡ true → (b || has_nonce nonce requests) ≡ true
    by true h = refl
    by false h = h

-- what stands behind the one with the nonce
behind-at : (nonce : ℕ) (requests : List Request) (place : ℕ) (x : Request) → are_distinct requests ≡ true → slice_get requests place ≡ Some x → (x.nonce == nonce) ≡ true → drop (suc place) requests ≡ behind nonce requests
behind-at nonce [] place x distinct at is = absurd (cc at)
behind-at nonce (y ∷ requests) zero x distinct at is =
    sym (ap (λ b. cond b requests (behind nonce requests)) (ap (λ (r : Request). r.nonce == nonce) (same_Some y x at) ∙ is))
behind-at nonce (y ∷ requests) (suc place) x distinct at is = by (y.nonce == nonce) refl (and_parts _ _ distinct) (nonce-at nonce requests place x at is) (λ others. behind-at nonce requests place x others at is)
  where
    by : (b : Bool) → (y.nonce == nonce) ≡ b → (not (has_nonce y.nonce requests) ≡ true) × (are_distinct requests ≡ true) → has_nonce nonce requests ≡ true → (are_distinct requests ≡ true → drop (suc place) requests ≡ behind nonce requests) → drop (suc place) requests ≡ cond b requests (behind nonce requests)
    by true here both has h = absurd (true≢false (sym has ∙ subst (λ (n : ℕ). has_nonce n requests ≡ false) (eqb-true y.nonce nonce here) (not-true _ both.0)))
    by false here both has h = h both.1

pub some-there : (requests : List Request) (place : ℕ) → place < length requests → slice_get requests place ≡ None → ⊥
some-there [] place within none = absurd (omega (arith, within))
some-there (x ∷ requests) zero within none = absurd (cc none)
some-there (x ∷ requests) (suc place) within none = some-there requests place (omega (arith, within)) none

pub behind-place : (nonce : ℕ) (requests : List Request) (place : ℕ) → are_distinct requests ≡ true → place < length requests → slice_get requests place ≡ last_where (is_key request_marks (nonce_key nonce)) requests → drop (place + 1) requests ≡ behind nonce requests
behind-place nonce requests place distinct within last = by (slice_get requests place) refl
  where
    by : (o : Option Request) → slice_get requests place ≡ o → drop (place + 1) requests ≡ behind nonce requests
    by None at = absurd (some-there requests place within at)
    by (Some x) at =
        ap (λ n. drop n requests) (add-one place)
        ∙ behind-at nonce requests place x distinct at (sym (is_key-nonce nonce x) ∙ last-passes (is_key request_marks (nonce_key nonce)) requests x (sym last ∙ at))

none-behind : (nonce : ℕ) (requests : List Request) → NonePasses (is_key request_marks (nonce_key nonce)) requests → drop (length requests) requests ≡ behind nonce requests
none-behind nonce [] none = refl
none-behind nonce (x ∷ requests) none =
    none-behind nonce requests (λ k y at. none (suc k) y at)
    ∙ sym (ap (λ b. cond b requests (behind nonce requests)) (sym (is_key-nonce nonce x) ∙ none 0 x refl))

pub behind-none : (nonce : ℕ) (requests : List Request) → None ≡ last_where (is_key request_marks (nonce_key nonce)) requests → drop (length requests) requests ≡ behind nonce requests
behind-none nonce requests is = none-behind nonce requests (none-passes (is_key request_marks (nonce_key nonce)) None requests (sym is)).1

-- the one at the place has the nonce
pub nonce-there : (nonce : ℕ) (requests : List Request) (place : ℕ) → slice_get requests place ≡ last_where (is_key request_marks (nonce_key nonce)) requests → IfSome (slice_get requests place) (λ x. not (x.nonce == nonce) ≡ false)
nonce-there nonce requests place last = by (slice_get requests place) refl
  where
    by : (o : Option Request) → slice_get requests place ≡ o → IfSome o (λ x. not (x.nonce == nonce) ≡ false)
    by None at = tt
    by (Some x) at = ap not (sym (is_key-nonce nonce x) ∙ last-passes (is_key request_marks (nonce_key nonce)) requests x (sym last ∙ at))

-- where none has it, all are left
pub all-without : (nonce : ℕ) (requests : List Request) → None ≡ last_where (is_key request_marks (nonce_key nonce)) requests → without_nonce nonce requests ≡ requests
all-without nonce requests last = from requests (none-passes (is_key request_marks (nonce_key nonce)) None requests (sym last)).1
  where
    from : (some : List Request) → NonePasses (is_key request_marks (nonce_key nonce)) some → without_nonce nonce some ≡ some
    from [] none = refl
    from (x ∷ some) none =
        ap₂ (λ b (l : List Request). cond (not b) (x ∷ l) l) (sym (is_key-nonce nonce x) ∙ none 0 x refl) (from some (λ k y at. none (suc k) y at))

-- ### a place

-- what is to come from a place on
pub drop-at : (requests : List Request) (place : ℕ) (x : Request) → slice_get requests place ≡ Some x → drop place requests ≡ x ∷ drop (place + 1) requests
drop-at requests place x at = from requests place at ∙ ap (λ n. x ∷ drop n requests) (sym (add-one place))
  where
    from : (some : List Request) (n : ℕ) → slice_get some n ≡ Some x → drop n some ≡ x ∷ drop (suc n) some
    from [] n is = absurd (cc is)
    from (y ∷ some) zero is = ap (λ (r : Request). r ∷ some) (same_Some y x is)
    from (y ∷ some) (suc n) is = from some n is

module _ (m : ℕ) (x : Request) (requests : List Request) where
  -- one that is due is the first
  pub due-here : true ≡ (is_waiting m x && due m x) → all_due m (x ∷ requests) ≡ x ∷ all_due m requests
  due-here is = by (is_waiting m x) (due m x) refl is
    where
      by : (a b : Bool) → due m x ≡ b → true ≡ (a && b) → filter (due m) (cond a (x ∷ waiting m requests) (waiting m requests)) ≡ x ∷ all_due m requests
      by true true due_is is = ap (λ b. cond b (x ∷ all_due m requests) (all_due m requests)) due_is
      by true false due_is is = absurd (true≢false is)
      by false b due_is is = absurd (true≢false is)

  pub due-later : false ≡ (is_waiting m x && due m x) → all_due m (x ∷ requests) ≡ all_due m requests
  due-later is = by (is_waiting m x) (due m x) refl is
    where
      by : (a b : Bool) → due m x ≡ b → false ≡ (a && b) → filter (due m) (cond a (x ∷ waiting m requests) (waiting m requests)) ≡ all_due m requests
      by true true due_is is = absurd (true≢false (sym is))
      by true false due_is is = ap (λ b. cond b (x ∷ all_due m requests) (all_due m requests)) due_is
      by false b due_is is = refl

-- ### sent again

abbrev pub counted_again : Request → Request
counted_again request = record request { sent_again = min (request.sent_again + 1) 255 }

-- where they may be sent again, none is sent 255 times
pub map-again : (nonce : ℕ) (requests : List Request) → all_may_again nonce requests ≡ true → map (changed_with request_marks (nonce_key nonce) counted_again) requests ≡ sent_again nonce requests
map-again nonce [] may = refl
map-again nonce (x ∷ requests) may =
    let both = and_parts _ _ may in
    ap₂ (λ (y : Request) (l : List Request). y ∷ l) (ap (λ b. cond b (counted_again x) x) (is_key-nonce nonce x) ∙ by (x.nonce == nonce) both.0) (map-again nonce requests both.1)
  where
    by : (b : Bool) → (not b || nat_lt x.sent_again 2) ≡ true → cond b (counted_again x) x ≡ cond b (once_more x) x
    by true less = let below = ltb-true x.sent_again 2 less in ap (λ (n : ℕ). record x { sent_again = n }) (omega (arith, below))
    by false less = refl
