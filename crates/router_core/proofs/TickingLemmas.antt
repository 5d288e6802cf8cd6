-- A second, step by step: requests that are sent again, locators that are probed.
use Rattle.std.proofs.Common.{◌≡◌, ℕ, suc, ◌-◌, ◌^◌, ◌<◌, ◌≤◌, ◌==◌, ◌||◌, ◌&&◌, not, nat_lt, Bool, true, false, cond, IsTrue, List, [], ◌∷◌, ◌++◌, drop, filter, filter_map, get_or, length, slice_get, take, Option, Some, None, refl, sym, ap, subst, ap₂, ◌∙◌, arith}
use Rattle.std.specs.Option.{option_map_or}
use Rattle.std.proofs.lemmas.Bool.Decides.{nat_tests}
use Rattle.std.proofs.lemmas.Cmp.{nat_eq_equiv}
use Rattle.std.proofs.lemmas.List.{take_all}
use Rattle.std.proofs.lemmas.List.Sums.{count_by-le-length, length-filter}
use Rattle.lisp_settings.specs.Nonces.{nonce_of}
use Rattle.lisp_settings.specs.declared.settings.Settings.{Settings}
use Rattle.locator_state.specs.Probes.{probe_count}
use Rattle.locator_state.specs.declared.target.Target.{Target}
use Rattle.request_queue.specs.Lists.{are_distinct, has_nonce}
use Rattle.request_queue.specs.Queue.{all_due, due, is_waiting, may_send_again, waiting, with_nonce}
use Rattle.request_queue.specs.declared.request.Request.{Request}
use Rattle.router_log.specs.Moments.{younger}
use Rattle.router_log.specs.declared.emit.Emit.{Emit}
use Rattle.router_log.specs.declared.emit.Emit.TheVariants as emit
use Rattle.router_log.specs.declared.entry.Entry.{Entry}
use Rattle.router_log.specs.declared.entry.Entry.TheVariants.{Probed, Retried}
use Rattle.router_model.specs.Changes.{Change, each, next_nonce, unchanged}
use Rattle.router_model.specs.Parts.{Parts, absorbed, table, view_in, with_entry}
use Rattle.router_model.specs.Proper.{may_retry, suits}
use Rattle.router_model.specs.Requests.{request_step}
use Rattle.router_model.specs.Site.{reaches_resolver}
use Rattle.router_model.specs.Tick.{after_changes, retried_where, all_probed, all_retried, next_targets, probed, probed_with, retried}
use Rattle.router_core.specs.Table.{change_of}
use Rattle.router_core.specs.Ticking.{are_apart, AreOwed, IsOwed}
use Rattle.router_core.proofs.ChangeLemmas.{both, later, requests-now, taken}
use Rattle.router_core.proofs.HeldLemmas.{drawn-seen}

-- ### requests that may be sent again

-- one that is sent again is entered
pub retried-change : (settings : Settings) (m : ℕ) (r : Request) (p : Parts) (entries : List Entry) (emits : List Emit) → p.now ≤ m → p.count < 2 ^ 62 → IsOwed (waiting m p.requests) r
    → change_of (with_entry (Retried m r.nonce) p) (entries ++ Retried m r.nonce ∷ []) (emits ++ emit.Request r.eid r.source r.invoked r.nonce ∷ []) ≡ retried table settings m r (change_of p entries emits)
retried-change settings m r p entries emits after few owed =
    ap (λ (q : Parts). change_of q (entries ++ Retried m r.nonce ∷ []) (emits ++ emit.Request r.eid r.source r.invoked r.nonce ∷ []))
    (sym (taken p m (Retried m r.nonce) (refl, λ own steps. refl) after few suit))
  where
    suit : suits p.limits (view_in p m) (Retried m r.nonce) ≡ true
    suit = ap (λ l. may_retry (with_nonce l r.nonce)) (requests-now p m after) ∙ ap may_retry owed.found ∙ owed.again

-- it may be handed to the queue
pub owed-again : (waits : List Request) (r : Request) → IsOwed waits r → IsTrue (may_send_again r.nonce waits)
owed-again waits r owed = ap (λ (o : Option Request). option_map_or (λ (q : Request). nat_lt q.sent_again 2) o false) owed.found ∙ owed.again

-- ### those that are due may

apart-filter : (n : ℕ) (test : Request → Bool) (requests : List Request) → are_apart n requests ≡ true → are_apart n (filter test requests) ≡ true
apart-filter n test [] apart = refl
apart-filter n test (r ∷ rs) apart = let two = both (not (r.nonce == n)) _ apart in by (test r) two.0 (apart-filter n test rs two.1)
  where
    by : (b : Bool) → not (r.nonce == n) ≡ true → are_apart n (filter test rs) ≡ true → are_apart n (cond b (r ∷ filter test rs) (filter test rs)) ≡ true
    by true this rest = rw (this, rest) refl
    by false this rest = rest

without-apart : (n : ℕ) (requests : List Request) → has_nonce n requests ≡ false → are_apart n requests ≡ true
without-apart n [] none = refl
without-apart n (r ∷ rs) none = by (r.nonce == n) none (without-apart n rs)
  where
    by : (b : Bool) → (b || has_nonce n rs) ≡ false → (has_nonce n rs ≡ false → are_apart n rs ≡ true) → (not b && are_apart n rs) ≡ true
    by true none rest = cc
    by false none rest = rest none

-- what one of these has by its nonce it has with another before them
owed-more : (x : Request) (waits requests : List Request) → are_apart x.nonce requests ≡ true → AreOwed waits requests → AreOwed (x ∷ waits) requests
owed-more x waits [] apart owed = tt
owed-more x waits (r ∷ rs) apart owed =
    let two = both (not (r.nonce == x.nonce)) _ apart in
    (record { found = one (r.nonce == x.nonce) refl two.0; again = owed.0.again }, (owed.1.0, owed-more x waits rs two.1 owed.1.1))
  where
    one : (b : Bool) → (r.nonce == x.nonce) ≡ b → not b ≡ true → cond (x.nonce == r.nonce) (Some x) (with_nonce waits r.nonce) ≡ Some r
    one true is isn't = cc
    one false is isn't = rw (nat_eq_equiv.symm x.nonce r.nonce, is) owed.0.found

-- what is due was sent again less than twice
due-again : (m : ℕ) (r : Request) → due m r ≡ true → nat_lt r.sent_again 2 ≡ true
due-again m r is = by (r.sent_again == 0) (r.sent_again == 1) refl refl is
  where
    none : (r.sent_again == 0) ≡ true → nat_lt r.sent_again 2 ≡ true
    none zero = grind (arith, nat_tests)

    one : (r.sent_again == 1) ≡ true → nat_lt r.sent_again 2 ≡ true
    one once = grind (arith, nat_tests)

    by : (b c : Bool) → (r.sent_again == 0) ≡ b → (r.sent_again == 1) ≡ c → (b && not (younger m 1 r.start) || c && not (younger m 3 r.start)) ≡ true → nat_lt r.sent_again 2 ≡ true
    by true c zero once is = none zero
    by false true zero once is = one once
    by false false zero once is = cc

same-nonce : (n : ℕ) → (n == n) ≡ true
same-nonce n = grind (arith, nat_tests)

due-owed : (m : ℕ) (waits : List Request) → are_distinct waits ≡ true → AreOwed waits (filter (due m) waits)
due-owed m [] distinct = tt
due-owed m (r ∷ rs) distinct = by (due m r) refl (due-owed m rs two.1)
  where
    two : (not (has_nonce r.nonce rs) ≡ true) × (are_distinct rs ≡ true)
    two = both (not (has_nonce r.nonce rs)) _ distinct

    none : (b : Bool) → has_nonce r.nonce rs ≡ b → not b ≡ true → has_nonce r.nonce rs ≡ false
    none true is isn't = cc
    none false is isn't = is

    apart : are_apart r.nonce (filter (due m) rs) ≡ true
    apart = apart-filter r.nonce (due m) rs (without-apart r.nonce rs (none (has_nonce r.nonce rs) refl two.0))

    by : (b : Bool) → due m r ≡ b → AreOwed rs (filter (due m) rs) → AreOwed (r ∷ rs) (cond b (r ∷ filter (due m) rs) (filter (due m) rs))
    by true is rest = (record { found = rw (same-nonce r.nonce) refl; again = due-again m r is }, (apart, owed-more r rs (filter (due m) rs) apart rest))
    by false is rest = owed-more r rs (filter (due m) rs) apart rest

fewer-nonces : (n : ℕ) (test : Request → Bool) (requests : List Request) → not (has_nonce n requests) ≡ true → not (has_nonce n (filter test requests)) ≡ true
fewer-nonces n test [] none = refl
fewer-nonces n test (r ∷ rs) none = by (test r) (r.nonce == n) refl none (fewer-nonces n test rs)
  where
    by : (b e : Bool) → (r.nonce == n) ≡ e → not (e || has_nonce n rs) ≡ true → (not (has_nonce n rs) ≡ true → not (has_nonce n (filter test rs)) ≡ true) → not (has_nonce n (cond b (r ∷ filter test rs) (filter test rs))) ≡ true
    by b true is none rest = cc
    by true false is none rest = rw is (rest none)
    by false false is none rest = rest none

distinct-filter : (test : Request → Bool) (requests : List Request) → are_distinct requests ≡ true → are_distinct (filter test requests) ≡ true
distinct-filter test [] distinct = refl
distinct-filter test (r ∷ rs) distinct =
    let two = both (not (has_nonce r.nonce rs)) _ distinct in
    by (test r) (fewer-nonces r.nonce test rs two.0) (distinct-filter test rs two.1)
  where
    by : (b : Bool) → not (has_nonce r.nonce (filter test rs)) ≡ true → are_distinct (filter test rs) ≡ true → are_distinct (cond b (r ∷ filter test rs) (filter test rs)) ≡ true
    by true none rest = rw (none, rest) refl
    by false none rest = rest

-- those of a queue that are due may be sent again
pub all_due-owed : (m : ℕ) (requests : List Request) → are_distinct requests ≡ true → AreOwed (waiting m requests) (all_due m requests)
all_due-owed m requests distinct = due-owed m (waiting m requests) (distinct-filter (is_waiting m) requests distinct)

-- ### one that is sent again leaves the others

-- what waits once one was sent again
abbrev left : ℕ → ℕ → List Request → List Request
left m n waits = waiting m (filter_map (request_step (Retried m n)) waits)

still-found : (m n k : ℕ) (requests : List Request) → (k == n) ≡ false → with_nonce (left m n (waiting m requests)) k ≡ with_nonce (waiting m requests) k
still-found m n k [] other = refl
still-found m n k (r ∷ rs) other = by (is_waiting m r) refl (r.nonce == n) refl (still-found m n k rs other)
  where
    apart : (a b c : ℕ) → (a == b) ≡ true → (c == b) ≡ false → (a == c) ≡ false
    apart a b c same other = grind (arith, nat_tests)

    by : (w : Bool) → is_waiting m r ≡ w → (e : Bool) → (r.nonce == n) ≡ e → with_nonce (left m n (waiting m rs)) k ≡ with_nonce (waiting m rs) k
        → with_nonce (left m n (cond w (r ∷ waiting m rs) (waiting m rs))) k ≡ with_nonce (cond w (r ∷ waiting m rs) (waiting m rs)) k
    by false waits e is h = h
    by true waits true is h = rw (is, waits, apart r.nonce n k is other) h
    by true waits false is h = rw (is, waits, h) refl

pub still-owed : (m n : ℕ) (p : Parts) (requests : List Request) → are_apart n requests ≡ true → AreOwed (waiting m p.requests) requests → AreOwed (waiting m (with_entry (Retried m n) p).requests) requests
still-owed m n p [] apart owed = tt
still-owed m n p (r ∷ rs) apart owed =
    let two = both (not (r.nonce == n)) _ apart in
    (record { found = still-found m n r.nonce p.requests (no (r.nonce == n) two.0) ∙ owed.0.found; again = owed.0.again }, (owed.1.0, still-owed m n p rs two.1 owed.1.1))
  where
    no : (b : Bool) → not b ≡ true → b ≡ false
    no true isn't = cc
    no false isn't = refl

-- ### probes

-- how many there are, at a moment of now
pub count-now : (p : Parts) (m : ℕ) → p.now ≤ m → nat_lt (view_in p m).probe_count 9600 ≡ nat_lt (probe_count m p.observed.probes) 9600
unfolding view_in
count-now p m after = ap (λ (t : ℕ). nat_lt (probe_count t p.observed.probes) 9600) (later m p.now after)

-- one that is sent is entered
pub probed-so : (settings : Settings) (m : ℕ) (target : Target) (p : Parts) (entries : List Entry) (emits : List Emit) → p.now ≤ m → p.count < 2 ^ 62 → nat_lt (view_in p m).probe_count 9600 ≡ true
    → let nonce = nonce_of settings.seed settings.nonces p.drawn in change_of (with_entry (Probed m target.rloc nonce) p) (entries ++ Probed m target.rloc nonce ∷ []) (emits ++ emit.Probe target.rloc target.eid nonce ∷ []) ≡ probed table settings m target (change_of p entries emits)
probed-so settings m target p entries emits after few place =
    ap (λ (q : Parts). change_of q (entries ++ Probed m target.rloc nonce ∷ []) (emits ++ emit.Probe target.rloc target.eid nonce ∷ [])) (sym (taken p m (Probed m target.rloc nonce) (refl, λ own steps. refl) after few place))
    ∙ ap (λ (n : ℕ). change_of (absorbed p (Probed m target.rloc n)) (entries ++ Probed m target.rloc n ∷ []) (emits ++ emit.Probe target.rloc target.eid n ∷ [])) (ap (nonce_of settings.seed settings.nonces) (sym (drawn-seen p m)))
    ∙ sym (ap (λ b. cond b (probed_with table settings m (next_nonce table settings m (change_of p entries emits)) target (change_of p entries emits)) (change_of p entries emits)) place)
  where
    nonce : ℕ
    nonce = nonce_of settings.seed settings.nonces p.drawn

-- without room none is
pub probed-not : (settings : Settings) (m : ℕ) (target : Target) (change : Change Parts) → nat_lt (view_in change.after m).probe_count 9600 ≡ false → change ≡ probed table settings m target change
probed-not settings m target change full =
    sym (ap (λ b. cond b (probed_with table settings m (next_nonce table settings m change) target change) change) full)

-- ### lists, item by item

behind : {A : Type 0} (items : List A) → take (length items - 1) (drop 1 items) ≡ drop 1 items
behind [] = refl
behind (first ∷ others) = take_all (length (first ∷ others) - 1) others (omega arith)

pub length-left : {A : Type 0} (items : List A) → 1 ≤ length items → length (take (length items - 1) (drop 1 items)) ≡ length items - 1
length-left [] some = absurd (omega (arith, some))
length-left (first ∷ others) some = ap (λ (l : List _). length l) (behind (first ∷ others)) ∙ one (length others)
  where
    one : (n : ℕ) → n ≡ suc n - 1
    one n = omega arith

-- the first step, and those that are left
pub each-left : {A S : Type 0} (step : A → Change S → Change S) (items : List A) (d : A) (change : Change S) → 1 ≤ length items → each step (take (length items - 1) (drop 1 items)) (step (get_or items 0 d) change) ≡ each step items change
each-left step [] d change some = absurd (omega (arith, some))
each-left step (first ∷ others) d change some = ap (λ (l : List _). each step l (step first change)) (behind (first ∷ others))

-- requests that are left may still be sent again
pub owed-left : (m : ℕ) (p : Parts) (requests : List Request) (d : Request) → 1 ≤ length requests → AreOwed (waiting m p.requests) requests → AreOwed (waiting m (with_entry (Retried m (get_or requests 0 d).nonce) p).requests) (take (length requests - 1) (drop 1 requests))
owed-left m p [] d some owed = absurd (omega (arith, some))
owed-left m p (r ∷ rs) d some owed =
    subst (AreOwed (waiting m (with_entry (Retried m r.nonce) p).requests)) (sym (behind (r ∷ rs)))
    (still-owed m r.nonce p rs owed.1.0 owed.1.1)

-- no more are due than are kept
pub due-few : (m : ℕ) (requests : List Request) → length (all_due m requests) ≤ length requests
due-few m requests =
    omega (arith, length-filter (due m) (waiting m requests), count_by-le-length (due m) (waiting m requests), length-filter (is_waiting m) requests, count_by-le-length (is_waiting m) requests)

pub none-left : {A : Type 0} (items : List A) → slice_get items 0 ≡ None → items ≡ []
none-left [] none = refl
none-left (first ∷ others) none = absurd cc

-- ### a whole second

now-seen : (p : Parts) (m : ℕ) → p.now ≤ m → (view_in p m).now ≡ m
unfolding view_in
now-seen p m after = later m p.now after

-- the requests that are due
pub retried-all : (settings : Settings) (m : ℕ) (change : Change Parts) → change.after.now ≤ m → each (retried table settings m) (all_due m change.after.requests) change ≡ all_retried table settings m change
retried-all settings m change after =
    sym (ap₂ (λ (t : ℕ) (l : List Request). each (retried table settings m) (filter (due t) l) change) (now-seen change.after m after) (requests-now change.after m after))

-- where the resolver is reached
pub retried-there : (settings : Settings) (m : ℕ) (change : Change Parts) (requests : List Request) → requests ≡ all_due m change.after.requests → change.after.now ≤ m → reaches_resolver settings ≡ true → each (retried table settings m) requests change ≡ retried_where table settings m (reaches_resolver settings) change
retried-there settings m change requests due after is =
    ap (λ (l : List Request). each (retried table settings m) l change) due
    ∙ retried-all settings m change after
    ∙ sym (ap (λ b. retried_where table settings m b change) is)

-- where it isn't
pub retried-nowhere : (settings : Settings) (m : ℕ) (change : Change Parts) → reaches_resolver settings ≡ false → change ≡ retried_where table settings m (reaches_resolver settings) change
retried-nowhere settings m change isn't = sym (ap (λ b. retried_where table settings m b change) isn't)

-- the probes, where the settings have them
pub probed-all : (settings : Settings) (m : ℕ) (change : Change Parts) → settings.probe ≡ true → each (probed table settings m) (next_targets settings (view_in change.after m)) change ≡ all_probed table settings m change
probed-all settings m change is =
    sym (ap (λ b. cond b (each (probed table settings m) (next_targets settings (view_in change.after m)) change) change) is)

pub probed-none : (settings : Settings) (m : ℕ) (change : Change Parts) → settings.probe ≡ false → change ≡ all_probed table settings m change
probed-none settings m change isn't =
    sym (ap (λ b. cond b (each (probed table settings m) (next_targets settings (view_in change.after m)) change) change) isn't)

-- one after the other, from where nothing was entered yet
pub sent-from : (settings : Settings) (m : ℕ) (q p : Parts) (entries : List Entry) (emits : List Emit) (change : Change Parts) → change ≡ retried_where table settings m (reaches_resolver settings) (change_of q entries emits) → q ≡ p → entries ≡ [] → emits ≡ [] → all_probed table settings m change ≡ after_changes table settings m false (unchanged p)
unfolding after_changes
sent-from settings m q p entries emits change is s e f =
    ap (all_probed table settings m)
    (is
    ∙ ap (λ (r : Parts). retried_where table settings m (reaches_resolver settings) (change_of r entries emits)) s
    ∙ ap₂ (λ (a : List Entry) (b : List Emit). retried_where table settings m (reaches_resolver settings) (change_of p a b)) e f)
