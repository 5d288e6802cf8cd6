-- How many requests of each instance there are, and may be.
use Rattle.std.proofs.Common.{◌≡◌, ℕ, ◌≤◌, ◌<◌, ◌+◌, ◌==◌, ◌&&◌, nat_lt, not, Bool, true, false, cond, List, [], ◌∷◌, ◌++◌, count_by, filter, length, find, Some, refl, sym, ap, ap₂, subst, ◌∙◌, arith}
use Rattle.std.specs.Option.{option_map_or}
use Rattle.std.proofs.lemmas.Bool.{eq-eqb, eqb-true, ltb-false, ltb-true}
use Rattle.std.proofs.lemmas.List.Sums.{count_by-le-length, sum_by-cons, sum_by_push}
use Rattle.lisp_settings.specs.Instances.{all_requests, requests_in}
use Rattle.lisp_settings.specs.declared.settings.LimitItem.{LimitItem}
use Rattle.request_queue.specs.Lists.{KeepsLimits}
use Rattle.request_queue.specs.Queue.{is_waiting, once_more, open_in, sent_again, waiting}
use Rattle.request_queue.specs.declared.request.Request.{Request}

module _ {A : Type 0} (test : A → Bool) where
  -- one item more
  pub count-more : (x : A) (items : List A) → count_by test (x ∷ items) ≡ cond (test x) 1 0 + count_by test items
  count-more x items = sum_by-cons (λ y. cond (test y) 1 0) x items

  -- of those that are left there are no more
  pub count-filter : (left : A → Bool) (items : List A) → count_by test (filter left items) ≤ count_by test items
  count-filter left [] = omega arith
  count-filter left (x ∷ items) = by (left x) (count-filter left items)
    where
      by : (b : Bool) → count_by test (filter left items) ≤ count_by test items → count_by test (cond b (x ∷ filter left items) (filter left items)) ≤ count_by test (x ∷ items)
      by true less = omega (arith, less, count-more x items, count-more x (filter left items))
      by false less = omega (arith, less, count-more x items)

  -- of those that are left and pass there are as many as do both
  pub count-both : (left : A → Bool) (items : List A) → count_by test (filter left items) ≡ count_by (λ x. test x && left x) items
  count-both left [] = refl
  count-both left (x ∷ items) = by (left x) refl (count-both left items)
    where
      more : count_by (λ y. test y && left y) (x ∷ items) ≡ cond (test x && left x) 1 0 + count_by (λ y. test y && left y) items
      more = sum_by-cons (λ y. cond (test y && left y) 1 0) x items

      and_true : (b : Bool) → (b && true) ≡ b
      and_true true = refl
      and_true false = refl

      and_false : (b : Bool) → (b && false) ≡ false
      and_false true = refl
      and_false false = refl

      by : (b : Bool) → left x ≡ b → count_by test (filter left items) ≡ count_by (λ y. test y && left y) items
          → count_by test (cond b (x ∷ filter left items) (filter left items)) ≡ count_by (λ y. test y && left y) (x ∷ items)
      by true is same =
          let here : cond {A = ℕ} (test x && left x) 1 0 ≡ cond (test x) 1 0 = ap (λ b. cond {A = ℕ} b 1 0) (ap (λ b. test x && b) is ∙ and_true (test x)) in
          omega (arith, here, same, more, count-more x (filter left items))
      by false is same =
          let here : cond {A = ℕ} (test x && left x) 1 0 ≡ 0 = ap (λ b. cond {A = ℕ} b 1 0) (ap (λ b. test x && b) is ∙ and_false (test x)) in
          omega (arith, here, same, more)

-- what waits waits still
pub waiting-twice : (m : ℕ) (requests : List Request) → waiting m (waiting m requests) ≡ waiting m requests
waiting-twice m [] = refl
waiting-twice m (x ∷ requests) = by (is_waiting m x) refl (waiting-twice m requests)
  where
    by : (b : Bool) → is_waiting m x ≡ b → waiting m (waiting m requests) ≡ waiting m requests → waiting m (cond b (x ∷ waiting m requests) (waiting m requests)) ≡ cond b (x ∷ waiting m requests) (waiting m requests)
    by true is same = ap₂ (λ b (l : List Request). cond b (x ∷ l) l) is same
    by false is same = same

pub open-few : (iid : ℕ) (requests : List Request) → open_in iid requests ≤ length requests
open-few iid requests = count_by-le-length (λ request. request.eid.iid == iid) requests

-- what is sent again is of the same instance
pub open-again : (nonce iid : ℕ) (requests : List Request) → open_in iid (sent_again nonce requests) ≡ open_in iid requests
open-again nonce iid [] = refl
open-again nonce iid (x ∷ requests) = by (x.nonce == nonce) (open-again nonce iid requests)
  where
    test : Request → Bool
    test request = request.eid.iid == iid

    by : (b : Bool) → open_in iid (sent_again nonce requests) ≡ open_in iid requests → open_in iid (cond b (once_more x) x ∷ sent_again nonce requests) ≡ open_in iid (x ∷ requests)
    by true same =
        let left : open_in iid (once_more x ∷ sent_again nonce requests) ≡ cond (x.eid.iid == iid) 1 0 + open_in iid (sent_again nonce requests) = count-more (λ request. request.eid.iid == iid) (once_more x) (sent_again nonce requests) in
        left ∙ ap (λ n. cond (x.eid.iid == iid) 1 0 + n) same ∙ sym (count-more (λ request. request.eid.iid == iid) x requests)
    by false same =
        count-more (λ request. request.eid.iid == iid) x (sent_again nonce requests)
        ∙ ap (λ n. cond (x.eid.iid == iid) 1 0 + n) same
        ∙ sym (count-more (λ request. request.eid.iid == iid) x requests)

-- ### place in an instance

module _ (m iid : ℕ) (old purged : List Request) (were limits : List LimitItem) (left : purged ≡ waiting m old) (same : limits ≡ were) where
  -- what a purge at the moment leaves is judged as what there was
  judged : nat_lt (open_in iid (waiting m purged)) (requests_in limits iid) ≡ nat_lt (open_in iid (waiting m old)) (requests_in were iid)
  judged =
      ap₂ (λ (l : List Request) (limits : List LimitItem). nat_lt (open_in iid l) (requests_in limits iid))
      (ap (waiting m) left ∙ waiting-twice m old) same

  pub has-place : true ≡ nat_lt (open_in iid (waiting m purged)) (requests_in limits iid) → open_in iid (waiting m old) < requests_in were iid
  has-place is = ltb-true _ _ (sym judged ∙ sym is)

  pub no-place : false ≡ nat_lt (open_in iid (waiting m purged)) (requests_in limits iid) → requests_in were iid ≤ open_in iid (waiting m old)
  no-place is = ltb-false _ _ (sym judged ∙ sym is)

-- ### limits are kept

pub keeps-filter : (test : Request → Bool) (limits : List LimitItem) (requests : List Request) → KeepsLimits limits requests → KeepsLimits limits (filter test requests)
keeps-filter test limits requests keeps iid =
    omega (arith, keeps iid, count-filter (λ (request : Request). request.eid.iid == iid) test requests)

pub keeps-again : (nonce : ℕ) (limits : List LimitItem) (requests : List Request) → KeepsLimits limits requests → KeepsLimits limits (sent_again nonce requests)
keeps-again nonce limits requests keeps iid = omega (arith, keeps iid, open-again nonce iid requests)

-- one more, where there is place in its instance
pub keeps-push : (limits : List LimitItem) (requests : List Request) (x : Request) → KeepsLimits limits requests → open_in x.eid.iid requests < requests_in limits x.eid.iid → KeepsLimits limits (requests ++ x ∷ [])
keeps-push limits requests x keeps place iid = by (x.eid.iid == iid) refl
  where
    more : open_in iid (requests ++ x ∷ []) ≡ open_in iid requests + cond (x.eid.iid == iid) 1 0
    more = sum_by_push (λ (request : Request). cond (request.eid.iid == iid) 1 0) requests x

    by : (b : Bool) → (x.eid.iid == iid) ≡ b → open_in iid (requests ++ x ∷ []) ≤ requests_in limits iid
    by true is =
        let here : open_in iid requests < requests_in limits iid = subst (λ (n : ℕ). open_in n requests < requests_in limits n) (eqb-true x.eid.iid iid is) place in
        let one : cond {A = ℕ} (x.eid.iid == iid) 1 0 ≡ 1 = ap (λ b. cond {A = ℕ} b 1 0) is in
        omega (arith, here, one, more)
    by false is =
        let none : cond {A = ℕ} (x.eid.iid == iid) 1 0 ≡ 0 = ap (λ b. cond {A = ℕ} b 1 0) is in
        omega (arith, keeps iid, none, more)

-- ### so there are few in all

module _ (limit : LimitItem) where
  -- it is of another instance
  abbrev is_other : Request → Bool
  is_other request = not (request.eid.iid == limit.iid)

  -- those of the instance, and the others
  parted : (requests : List Request) → length requests ≡ open_in limit.iid requests + length (filter is_other requests)
  parted [] = refl
  parted (x ∷ requests) = by (x.eid.iid == limit.iid) refl (parted requests)
    where
      more : open_in limit.iid (x ∷ requests) ≡ cond (x.eid.iid == limit.iid) 1 0 + open_in limit.iid requests
      more = count-more (λ (request : Request). request.eid.iid == limit.iid) x requests

      by : (b : Bool) → (x.eid.iid == limit.iid) ≡ b → length requests ≡ open_in limit.iid requests + length (filter is_other requests)
          → length (x ∷ requests) ≡ open_in limit.iid (x ∷ requests) + length (cond (not b) (x ∷ filter is_other requests) (filter is_other requests))
      by true is same =
          let one : cond {A = ℕ} (x.eid.iid == limit.iid) 1 0 ≡ 1 = ap (λ b. cond {A = ℕ} b 1 0) is in
          omega (arith, same, one, more)
      by false is same =
          let none : cond {A = ℕ} (x.eid.iid == limit.iid) 1 0 ≡ 0 = ap (λ b. cond {A = ℕ} b 1 0) is in
          omega (arith, same, none, more)

  -- none of the others is of the instance
  none-left : (requests : List Request) → open_in limit.iid (filter is_other requests) ≡ 0
  none-left [] = refl
  none-left (x ∷ requests) = by (x.eid.iid == limit.iid) refl (none-left requests)
    where
      by : (b : Bool) → (x.eid.iid == limit.iid) ≡ b → open_in limit.iid (filter is_other requests) ≡ 0 → open_in limit.iid (cond (not b) (x ∷ filter is_other requests) (filter is_other requests)) ≡ 0
      by true is none = none
      by false is none =
          let here : cond {A = ℕ} (x.eid.iid == limit.iid) 1 0 ≡ 0 = ap (λ b. cond {A = ℕ} b 1 0) is in
          omega (arith, none, here, count-more (λ (request : Request). request.eid.iid == limit.iid) x (filter is_other requests))

  -- the others keep the other limits
  keeps-others : (limits : List LimitItem) (requests : List Request) → KeepsLimits (limit ∷ limits) requests → KeepsLimits limits (filter is_other requests)
  keeps-others limits requests keeps iid = by (limit.iid == iid) refl
    where
      by : (b : Bool) → (limit.iid == iid) ≡ b → open_in iid (filter is_other requests) ≤ requests_in limits iid
      by true is =
          let none = subst (λ (n : ℕ). open_in n (filter is_other requests) ≡ 0) (eqb-true limit.iid iid is) (none-left requests) in
          omega (arith, none)
      by false is =
          let past : requests_in (limit ∷ limits) iid ≡ requests_in limits iid = ap (λ b. option_map_or (λ (l : LimitItem). l.requests) (cond b (Some limit) (find (λ l. l.iid == iid) limits)) 0) is in
          omega (arith, past, keeps iid, count-filter (λ (request : Request). request.eid.iid == iid) is_other requests)

-- where there are no limits there is nothing
none-kept : (requests : List Request) → KeepsLimits [] requests → length requests ≡ 0
none-kept [] keeps = refl
none-kept (x ∷ requests) keeps =
    let here : cond {A = ℕ} (x.eid.iid == x.eid.iid) 1 0 ≡ 1 = ap (λ b. cond {A = ℕ} b 1 0) (eq-eqb x.eid.iid x.eid.iid refl) in
    absurd (omega (arith, keeps x.eid.iid, here, count-more (λ (request : Request). request.eid.iid == x.eid.iid) x requests))

-- there are no more in all than all limits
pub keeps-few : (limits : List LimitItem) (requests : List Request) → KeepsLimits limits requests → length requests ≤ all_requests limits
keeps-few [] requests keeps = omega (arith, none-kept requests keeps)
keeps-few (limit ∷ limits) requests keeps =
    let few = keeps-few limits (filter (is_other limit) requests) (keeps-others limit limits requests keeps) in
    let own : requests_in (limit ∷ limits) limit.iid ≡ limit.requests = ap (λ b. option_map_or (λ (l : LimitItem). l.requests) (cond b (Some limit) (find (λ l. l.iid == limit.iid) limits)) 0) (eq-eqb limit.iid limit.iid refl) in
    omega (arith, few, own, keeps limit.iid, parted limit requests, sum_by-cons (λ (l : LimitItem). l.requests) limit limits)
