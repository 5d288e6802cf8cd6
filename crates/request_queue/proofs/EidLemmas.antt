-- EIDs of requests, each with the latest start of its requests.
use Rattle.std.proofs.Common.{◌≡◌, ℕ, zero, suc, ◌≤◌, ◌<◌, ◌+◌, ◌-◌, ◌==◌, ◌&&◌, ◌||◌, Bool, true, false, cond, List, [], ◌∷◌, ◌++◌, filter, fold, length, map, max, remove, slice_get, slice_index_or, All, Contains, Option, None, Some, is_some, Less, MatchOption, inl, inr, refl, sym, ap, ap₂, ◌∙◌, arith, true≢false}
use Rattle.std.specs.List.{list_any}
use Rattle.std.specs.List.Sorted.{IsStrictlySortedBy}
use Rattle.std.specs.Ordering.{eq_by_cmp}
use Rattle.std.specs.Set.{is_member}
use Rattle.std.proofs.lemmas.Bool.Decides.{nat_tests}
use Rattle.std.proofs.lemmas.Bool.{and_parts, cases_Bool}
use Rattle.std.proofs.lemmas.Cmp.{eq_by_cmp_equiv}
use Rattle.std.proofs.lemmas.List.{length-map}
use Rattle.std.proofs.lemmas.List.Elements.{All-cons, All-nil, recursion_from_All}
use Rattle.std.proofs.lemmas.List.Sums.{fold-append}
use Rattle.std.proofs.lemmas.Map.Keys.{IsDistinct-from_sorted}
use Rattle.std.proofs.lemmas.Map.Made.{length-le_from_is_member}
use Rattle.std.proofs.lemmas.Option.{same_Some}
use Rattle.keyed_list.proofs.AmongLemmas.{Among, among-all, among-at, among-any, any-among, pairs-behind_first, pairs-tail, IsPassing}
use Rattle.keyed_list.specs.Keyed.{greater, later_moment}
use Rattle.keyed_list.specs.Keys.{eid_key}
use Rattle.mapping_records.proofs.OrderLemmas.{eid_order-total}
use Rattle.mapping_records.specs.Eids.{covers_eid, same_eid}
use Rattle.mapping_records.specs.Orders.{eid_order}
use Rattle.mapping_records.specs.declared.eid.Eid.{Eid}
use Rattle.prefix_table.specs.Longest.{IsLongestWhere, IsRefused}
use Rattle.prefix_table.specs.Pairs.{is_below, with_pair, value_in, Ascends}
use Rattle.router_log.specs.Moments.{younger}
use Rattle.request_queue.specs.Found.{asks_for, later_start, latest_start, request_marks, with_latest, AreEids}
use Rattle.request_queue.specs.Limits.{request_seconds}
use Rattle.request_queue.specs.Queue.{covered, is_waiting, once_more, sent_again, waiting}
use Rattle.request_queue.specs.declared.request.Request.{Request}
use Rattle.request_queue.proofs.FoundLemmas.{is_key-eid}
use Rattle.request_queue.proofs.PairLemmas.{among-value, equal-same, is_less, same-self, value-among, value_in-with, value_in-without}

-- ### lists

pub either : (a b c : Bool) → (a || (b || c)) ≡ (b || (a || c))
either true true c = refl
either true false c = refl
either false b c = refl

module _ {A : Type 0} where
  among-contains : (items : List A) (x : A) → Contains items x → Among x items
  among-contains items x there = from items there.0 x there.1 there.2
    where
      from : (some : List A) (k : ℕ) (z : A) → k < length some → slice_index_or some k z ≡ z → Among z some
      from [] k z within is = absurd (omega (arith, within))
      from (y ∷ some) zero z within is = inl is
      from (y ∷ some) (suc k) z within is = inr (from some k z (omega (arith, within)) is)

  among-filter : (test : A → Bool) (items : List A) (x : A) → test x ≡ true → Among x items → Among x (filter test items)
  among-filter test [] x passes among = absurd among
  among-filter test (y ∷ items) x passes among = by (test y) refl (among-filter test items x passes) among
    where
      by : (b : Bool) → test y ≡ b → (Among x items → Among x (filter test items)) → Among x (y ∷ items) → Among x (cond b (y ∷ filter test items) (filter test items))
      by true is rest (inl here) = inl here
      by true is rest (inr later) = inr (rest later)
      by false is rest (inl here) = absurd (true≢false (sym passes ∙ ap test (sym here) ∙ is))
      by false is rest (inr later) = rest later

  filter-among : (test : A → Bool) (items : List A) (x : A) → Among x (filter test items) → Among x items × (test x ≡ true)
  filter-among test [] x among = absurd among
  filter-among test (y ∷ items) x among = by (test y) refl (filter-among test items x) among
    where
      by : (b : Bool) → test y ≡ b → (Among x (filter test items) → Among x items × (test x ≡ true)) → Among x (cond b (y ∷ filter test items) (filter test items)) → Among x (y ∷ items) × (test x ≡ true)
      by true is rest (inl here) = (inl here, ap test (sym here) ∙ is)
      by true is rest (inr later) = (inr (rest later).0, (rest later).1)
      by false is rest later = (inr (rest later).0, (rest later).1)

  pub any-left : (test : A → Bool) (items : List A) (place : ℕ) (x : A) → slice_get items place ≡ Some x → list_any test items ≡ (test x || list_any test (remove items place))
  any-left test [] place x at = absurd (cc at)
  any-left test (y ∷ items) zero x at = ap (λ z. test z || list_any test items) (same_Some y x at)
  any-left test (y ∷ items) (suc place) x at =
      ap (λ b. test y || b) (any-left test items place x at) ∙ either (test y) (test x) (list_any test (remove items place))

  module _ {B : Type 0} (f : A → B) where
    pub any-map_is : (test : B → Bool) (items : List A) → list_any test (map f items) ≡ list_any (λ y. test (f y)) items
    any-map_is test [] = refl
    any-map_is test (y ∷ items) = ap (λ b. test (f y) || b) (any-map_is test items)

    any-map : (test : B → Bool) (items : List A) (x : A) → test (f x) ≡ true → Among x items → list_any test (map f items) ≡ true
    any-map test items x passes among = any-map_is test items ∙ any-among (λ y. test (f y)) items x passes among

    any-of_map : (test : B → Bool) (items : List A) → list_any test (map f items) ≡ true → IsPassing (λ y. test (f y)) items
    any-of_map test items is = among-any (λ y. test (f y)) items (sym (any-map_is test items) ∙ is)

    All-map-of : (P : B → Type 0) (items : List A) → ((x : A) → Among x items → P (f x)) → All P (map f items)
    All-map-of P [] each = All-nil P
    All-map-of P (y ∷ items) each = All-cons P (f y) (map f items) (each y (inl refl)) (All-map-of P items (λ x among. each x (inr among)))

-- ### EIDs of requests

-- a pair takes room where it is new
pub total-put : (was : Bool) (pairs spare new left : ℕ) → 0 < spare → left ≡ spare - cond was 0 1 → new ≡ pairs + cond was 0 1 → new + left ≡ pairs + spare
total-put true pairs spare new left room less more = omega (arith, less, more)
total-put false pairs spare new left room less more = omega (arith, room, less, more)

-- one of them is for an EID exactly where there is a latest start
starts-asked : (eid : Eid) (before : Option ℕ) (requests : List Request) → is_some (fold (later_start eid) before requests) ≡ (is_some before || asks_for eid requests)
starts-asked eid None [] = refl
starts-asked eid (Some start) [] = refl
starts-asked eid before (x ∷ requests) = starts-asked eid (later_start eid before x) requests ∙ by before (same_eid x.eid eid)
  where
    by : (o : Option ℕ) (b : Bool) → (is_some (cond b (Some (greater o x.start)) o) || asks_for eid requests) ≡ (is_some o || (b || asks_for eid requests))
    by None true = refl
    by None false = refl
    by (Some start) true = refl
    by (Some start) false = refl

pub asked-start : (eid : Eid) (requests : List Request) → is_some (latest_start eid requests) ≡ asks_for eid requests
asked-start eid requests = starts-asked eid None requests

-- a request of that start waits
abbrev waits : ℕ → Option ℕ → Bool
waits m None = false
waits m (Some start) = younger m request_seconds start

either-waits : (m a b : ℕ) → younger m request_seconds (max a b) ≡ (younger m request_seconds a || younger m request_seconds b)
either-waits m a b = grind (arith, nat_tests)

-- one of them waits exactly where one of the latest start does
starts-wait : (m : ℕ) (eid : Eid) (before : Option ℕ) (requests : List Request) → waits m (fold (later_start eid) before requests) ≡ (waits m before || list_any (λ request. same_eid request.eid eid && is_waiting m request) requests)
starts-wait m eid before [] = sym (or_false (waits m before))
  where
    or_false : (b : Bool) → (b || false) ≡ b
    or_false true = refl
    or_false false = refl
starts-wait m eid before (x ∷ requests) =
    starts-wait m eid (later_start eid before x) requests ∙ by before (same_eid x.eid eid)
  where
    rest : Bool
    rest = list_any (λ request. same_eid request.eid eid && is_waiting m request) requests

    joined : (a b c : Bool) → ((a || b) || c) ≡ (a || (b || c))
    joined true b c = refl
    joined false b c = refl

    by : (o : Option ℕ) (b : Bool) → (waits m (cond b (Some (greater o x.start)) o) || rest) ≡ (waits m o || ((b && is_waiting m x) || rest))
    by None true = refl
    by None false = refl
    by (Some start) true = ap (λ b. b || rest) (either-waits m start x.start) ∙ joined (younger m request_seconds start) (is_waiting m x) rest
    by (Some start) false = refl

-- what a list says of the latest start
pub latest-start : (eid : Eid) (before : Option ℕ) (requests : List Request) → fold (later_moment request_marks (eid_key eid)) before requests ≡ fold (later_start eid) before requests
latest-start eid before [] = refl
latest-start eid before (x ∷ requests) =
    ap (λ b. fold (later_moment request_marks (eid_key eid)) (cond b (Some (greater before x.start)) before) requests) (is_key-eid eid x)
    ∙ latest-start eid (later_start eid before x) requests

-- the same EID has the same latest start
starts-same : (a b : Eid) (requests : List Request) → same_eid a b ≡ true → latest_start a requests ≡ latest_start b requests
starts-same a b requests same = ap (λ k. latest_start k requests) (equal-same a b same)

-- without a request of another EID
starts-left : (eid : Eid) (before : Option ℕ) (requests : List Request) (place : ℕ) (x : Request) → slice_get requests place ≡ Some x → same_eid x.eid eid ≡ false → fold (later_start eid) before (remove requests place) ≡ fold (later_start eid) before requests
starts-left eid before [] place x at other = absurd (cc at)
starts-left eid before (y ∷ requests) zero x at other =
    sym (ap (λ b. fold (later_start eid) (cond b (Some (greater before y.start)) before) requests) (ap (λ (z : Request). same_eid z.eid eid) (same_Some y x at) ∙ other))
starts-left eid before (y ∷ requests) (suc place) x at other = starts-left eid (later_start eid before y) requests place x at other

module _ (pairs : List (Eid × ℕ)) (requests : List Request) (are : AreEids pairs requests) where
  -- a pair has the latest start of its EID
  pair-start : (pair : Eid × ℕ) → Among pair pairs → latest_start pair.0 requests ≡ Some pair.1
  pair-start (key, v) among = sym (are.each key) ∙ value-among key v pairs are.ascends among

  -- each pair is an EID for which there is a request
  pub each-pair : (pair : Eid × ℕ) → Among pair pairs → asks_for pair.0 requests ≡ true
  each-pair pair among = sym (asked-start pair.0 requests) ∙ ap is_some (pair-start pair among)

  -- one for the EID of a pair waits exactly where one of its start does
  pair-waits : (m : ℕ) (pair : Eid × ℕ) → Among pair pairs → younger m request_seconds pair.1 ≡ list_any (λ request. same_eid request.eid pair.0 && is_waiting m request) requests
  pair-waits m pair among = ap (waits m) (sym (pair-start pair among)) ∙ starts-wait m pair.0 None requests

  -- the EID of each request is there
  record PairOf (x : Request) : Type 0 where
    start : ℕ
    among : Among (x.eid, start) pairs

  pair-of : (x : Request) → Among x requests → PairOf x
  pair-of x among =
      by (latest_start x.eid requests) refl (asked-start x.eid requests ∙ any-among (λ request. same_eid request.eid x.eid) requests x (same-self x.eid) among)
    where
      by : (o : Option ℕ) → latest_start x.eid requests ≡ o → is_some (latest_start x.eid requests) ≡ true → PairOf x
      by None is some = absurd (true≢false (sym some ∙ ap is_some is))
      by (Some start) is some = record { start = start; among = among-value x.eid start pairs (are.each x.eid ∙ is) }

  -- a pair that covers, and of whose start a request waits: that request covers
  covered-some : (m : ℕ) (eid : Eid) (pair : Eid × ℕ) → Among pair pairs → covers_eid pair.0 eid ≡ true → younger m request_seconds pair.1 ≡ true → true ≡ covered (waiting m requests) eid
  covered-some m eid pair among covers young =
      let x = among-any (λ request. same_eid request.eid pair.0 && is_waiting m request) requests (sym (pair-waits m pair among) ∙ young) in
      let both = and_parts _ _ x.passes in
      let key : x.item.eid ≡ pair.0 = equal-same x.item.eid pair.0 both.0 in
      sym (any-among (λ request. covers_eid request.eid eid) (waiting m requests) x.item (ap (λ k. covers_eid k eid) key ∙ covers) (among-filter (is_waiting m) requests x.item both.1 x.among))

  -- where none of the starts of EIDs that cover waits, no request that waits covers
  covered-none : (m : ℕ) (eid : Eid) → All (λ pair. covers_eid pair.0 eid ≡ true → younger m request_seconds pair.1 ≡ false) pairs → false ≡ covered (waiting m requests) eid
  covered-none m eid refused = elim (cases_Bool (covered (waiting m requests) eid)) [
    | inl is ↦
        let x = among-any (λ request. covers_eid request.eid eid) (waiting m requests) is in
        let both = filter-among (is_waiting m) requests x.item x.among in
        let own = pair-of x.item both.0 in
        let told = among-all (λ pair. covers_eid pair.0 eid ≡ true → younger m request_seconds pair.1 ≡ false) pairs (x.item.eid, own.start) refused own.among x.passes in
        let asked = any-among (λ request. same_eid request.eid x.item.eid && is_waiting m request) requests x.item (ap₂ (λ a b. a && b) (same-self x.item.eid) both.1) both.0 in
        absurd (true≢false (sym asked ∙ sym (pair-waits m (x.item.eid, own.start) own.among) ∙ told))
    | inr isnt ↦ sym isnt
  ]

  -- one waits whose EID covers exactly where a pair was found
  pub covered-is : {X Refused : Type 0} (answers : ℕ → Bool → Type 0) (seen : X → Eid × ℕ) (m : ℕ) (eid : Eid) (found : Option X)
      → MatchOption found Refused (λ x. IsLongestWhere answers eid pairs (seen x)) → (Refused → All (IsRefused answers eid) pairs)
      → ((v : ℕ) (b : Bool) → answers v b → b ≡ younger m request_seconds v) → is_some found ≡ covered (waiting m requests) eid
  covered-is answers seen m eid None refused all says = covered-none m eid (λ k d within covers. sym (says _ false (all refused k d within covers)))
  covered-is answers seen m eid (Some x) longest all says =
      covered-some m eid (seen x) (among-contains pairs (seen x) longest.there) longest.covers (sym (says (seen x).1 true longest.passes))

  starts-again : (nonce : ℕ) (eid : Eid) (before : Option ℕ) (some : List Request) → fold (later_start eid) before (sent_again nonce some) ≡ fold (later_start eid) before some
  starts-again nonce eid before [] = refl
  starts-again nonce eid before (x ∷ some) =
      ap (λ o. fold (later_start eid) o (sent_again nonce some)) (by (x.nonce == nonce)) ∙ starts-again nonce eid (later_start eid before x) some
    where
      by : (b : Bool) → later_start eid before (cond b (once_more x) x) ≡ later_start eid before x
      by true = refl
      by false = refl

  -- what is sent again is for the same EIDs, and keeps its start
  pub are-again : (nonce : ℕ) → AreEids pairs (sent_again nonce requests)
  are-again nonce = record {
    ascends = are.ascends;
    each = λ eid. are.each eid ∙ sym (starts-again nonce eid None requests);
  }

  -- one request more: its EID has its start, where that is the latest
  pub are-pushed : (x : Request) (start : ℕ) → start ≡ greater (value_in x.eid pairs) x.start → Ascends (with_pair x.eid start pairs) → AreEids (with_pair x.eid start pairs) (requests ++ x ∷ [])
  are-pushed x start is ascends = record {
    ascends = ascends;
    each = λ eid.
        value_in-with x.eid start eid pairs
        ∙ by eid (same_eid x.eid eid) refl
        ∙ sym (fold-append (later_start eid) None requests (x ∷ []));
  }
    where
      by : (eid : Eid) (a : Bool) → same_eid x.eid eid ≡ a → cond a (Some start) (value_in eid pairs) ≡ cond a (Some (greater (latest_start eid requests) x.start)) (latest_start eid requests)
      by eid true same =
          ap (λ (n : ℕ). Some n) (is ∙ ap (λ o. greater o x.start) (are.each x.eid ∙ starts-same x.eid eid requests same))
      by eid false same = are.each eid

  -- the EID of a request that is there has a pair
  pub pair-there : (place : ℕ) (x : Request) → slice_get requests place ≡ Some x → is_some (value_in x.eid pairs) ≡ true
  pair-there place x at =
      ap is_some (are.each x.eid) ∙ asked-start x.eid requests ∙ any-among (λ request. same_eid request.eid x.eid) requests x (same-self x.eid) (among-at requests place x at)

  module _ (place : ℕ) (x : Request) (at : slice_get requests place ≡ Some x) where
    other-starts : (eid : Eid) → same_eid x.eid eid ≡ false → value_in eid pairs ≡ latest_start eid (remove requests place)
    other-starts eid other = are.each eid ∙ sym (starts-left eid None requests place x at other)

    -- one request less: its EID has the latest start of the others, or goes where there are none
    pub are-left : (latest : Option ℕ) → latest ≡ latest_start x.eid (remove requests place) → Ascends (with_latest x.eid latest pairs) → AreEids (with_latest x.eid latest pairs) (remove requests place)
    are-left None is ascends = record {
      ascends = ascends;
      each = λ eid. value_in-without x.eid eid pairs are.ascends ∙ by eid (same_eid x.eid eid) refl;
    }
      where
        by : (eid : Eid) (a : Bool) → same_eid x.eid eid ≡ a → cond a None (value_in eid pairs) ≡ latest_start eid (remove requests place)
        by eid true same = is ∙ starts-same x.eid eid (remove requests place) same
        by eid false same = other-starts eid same
    are-left (Some start) is ascends = record {
      ascends = ascends;
      each = λ eid. value_in-with x.eid start eid pairs ∙ by eid (same_eid x.eid eid) refl;
    }
      where
        by : (eid : Eid) (a : Bool) → same_eid x.eid eid ≡ a → cond a (Some start) (value_in eid pairs) ≡ latest_start eid (remove requests place)
        by eid true same = is ∙ starts-same x.eid eid (remove requests place) same
        by eid false same = other-starts eid same

  -- ### how many there are

  sorted : (some : List (Eid × ℕ)) → Ascends some → IsStrictlySortedBy eid_order (map (λ pair. pair.0) some)
  unfolding IsStrictlySortedBy
  sorted [] ascends = tt
  sorted (pair ∷ some) ascends = (
    recursion_from_All (λ other. eid_order pair.0 other ≡ Less) (map (λ p. p.0) some) (All-map-of (λ (p : Eid × ℕ). p.0) (λ other. eid_order pair.0 other ≡ Less) some (λ p among. is_less pair.0 p.0 (pairs-behind_first (λ a b. is_below a.0 b.0 ≡ true) pair some p ascends among))),
    sorted some (pairs-tail (λ a b. is_below a.0 b.0 ≡ true) pair some ascends),
  )

  -- there are no more EIDs than requests
  pub eids-few : length pairs ≤ length requests
  eids-few =
      let few = length-le_from_is_member (eq_by_cmp_equiv eid_order-total) (map (λ pair. pair.0) pairs) (map (λ request. request.eid) requests) (IsDistinct-from_sorted eid_order (map (λ pair. pair.0) pairs) (sorted pairs are.ascends)) member in
      omega (arith, few, length-map pairs (λ (pair : Eid × ℕ). pair.0), length-map requests (λ (request : Request). request.eid))
    where
      member : (eid : Eid) → is_member (eq_by_cmp eid_order) (map (λ pair. pair.0) pairs) eid ≡ true → is_member (eq_by_cmp eid_order) (map (λ request. request.eid) requests) eid ≡ true
      member eid is =
          let pair = any-of_map (λ (p : Eid × ℕ). p.0) (eq_by_cmp eid_order eid) pairs is in
          let x = among-any (λ request. same_eid request.eid pair.item.0) requests (each-pair pair.item pair.among) in
          any-map (λ (r : Request). r.eid) (eq_by_cmp eid_order eid) requests x.item (ap (eq_by_cmp eid_order eid) (equal-same x.item.eid pair.item.0 x.passes) ∙ pair.passes) x.among
