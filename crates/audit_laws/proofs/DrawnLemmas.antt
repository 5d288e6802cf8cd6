-- Numbers that come again, and the nonces of the requests that are open, which were all drawn.
use Rattle.std.proofs.Common.{◌≡◌, ℕ, zero, suc, ◌+◌, ◌-◌, ◌*◌, ◌<◌, ◌^◌, nat_lt, All, ◌==◌, ◌||◌, not, nat_eq, Bool, true, false, cond, IfSome, List, [], ◌∷◌, ◌++◌, length, filter, filter_map, fold, take, Option, Some, None, option_map, ◌⊎◌, inl, inr, refl, sym, ap, ap₂, subst, ◌∙◌, arith, append-nil, length-append}
use Rattle.std.specs.List.{AllByRecursion, cons_option, IsDistinct}
use Rattle.std.proofs.lemmas.Bool.{eqb-true, eq-eqb, or_cases, true≢false}
use Rattle.std.proofs.lemmas.Bool.Decides.{nat_tests}
use Rattle.std.proofs.lemmas.List.Elements.{All-get_or, filter-append}
use Rattle.std.proofs.lemmas.List.Sums.{sum_by-cons}
use Rattle.std.proofs.lemmas.Nat.{mod_below}
use Rattle.rand_chacha.specs.Block.{block_word}
use Rattle.lisp_settings.specs.Nonces.{word}
use Rattle.lisp_settings.specs.declared.settings.Settings.{Settings}
use Rattle.locator_state.specs.Lists.{only_if}
use Rattle.request_queue.specs.Queue.{is_waiting, once_more}
use Rattle.request_queue.specs.declared.request.Request.{Request}
use Rattle.router_log.specs.declared.entry.Entry.{Entry}
use Rattle.router_log.specs.declared.entry.Entry.TheVariants.{Learned, Asked, Retried, Answered, Probed, ProbeAnswered, Bits, EchoStarted, EchoHeard, DataFrom, EchoWanted, Solicited, Changed}
use Rattle.router_model.specs.Journal.{Journal, drawn, uses_nonce}
use Rattle.router_model.specs.Requests.{asked_nonces, open_asked, unanswered}
use Rattle.router_model.specs.View.{view}
use Rattle.audit.specs.Lifted.{each_once, is_among}
use Rattle.audit_laws.specs.Drawn.{first_nonces, nonce_at}

-- ### each number once

-- what another number's places leave
among-others : (x n : ℕ) (ns : List ℕ) → (x == n) ≡ false → is_among n (filter (λ other. not (x == other)) ns) ≡ is_among n ns
among-others x n [] apart = refl
among-others x n (y ∷ ns) apart = by (x == y) refl (among-others x n ns apart)
  where
    by : (same : Bool) → (x == y) ≡ same → is_among n (filter (λ other. not (x == other)) ns) ≡ is_among n ns
        → is_among n (cond (not same) (y ∷ filter (λ other. not (x == other)) ns) (filter (λ other. not (x == other)) ns)) ≡ ((y == n) || is_among n ns)
    by true is rest =
        let other : (y == n) ≡ false = grind (arith, nat_tests, is, apart) in
        rw other rest
    by false is rest = ap (λ (among : Bool). (y == n) || among) rest

-- the same numbers
among-once : (n : ℕ) (ns : List ℕ) → is_among n (each_once ns) ≡ is_among n ns
among-once n [] = refl
among-once n (x ∷ ns) = by (x == n) refl (among-once n ns)
  where
    by : (same : Bool) → (x == n) ≡ same → is_among n (each_once ns) ≡ is_among n ns
        → (same || is_among n (filter (λ other. not (x == other)) (each_once ns))) ≡ (same || is_among n ns)
    by true is rest = refl
    by false is rest = among-others x n (each_once ns) is ∙ rest

-- one more number is new, or changes nothing
once-more : (n : ℕ) (ns : List ℕ) → each_once (ns ++ n ∷ []) ≡ cond (is_among n ns) (each_once ns) (each_once ns ++ n ∷ [])
once-more n [] = refl
once-more n (x ∷ ns) = ap (λ (others : List ℕ). x ∷ filter (λ other. not (x == other)) others) (once-more n ns) ∙ by (is_among n ns) (x == n) refl
  where
    by : (among same : Bool) → (x == n) ≡ same
        → x ∷ filter (λ other. not (x == other)) (cond among (each_once ns) (each_once ns ++ n ∷ []))
        ≡ cond (same || among) (x ∷ filter (λ other. not (x == other)) (each_once ns)) (x ∷ (filter (λ other. not (x == other)) (each_once ns) ++ n ∷ []))
    by true true is = refl
    by true false is = refl
    by false true is =
        ap (λ (others : List ℕ). x ∷ others)
        (filter-append (λ other. not (x == other)) (each_once ns) (n ∷ []) ∙ ap (λ (same : Bool). filter (λ other. not (x == other)) (each_once ns) ++ cond (not same) (n ∷ []) []) is
        ∙ append-nil (filter (λ other. not (x == other)) (each_once ns)))
    by false false is =
        ap (λ (others : List ℕ). x ∷ others)
        (filter-append (λ other. not (x == other)) (each_once ns) (n ∷ []) ∙ ap (λ (same : Bool). filter (λ other. not (x == other)) (each_once ns) ++ cond (not same) (n ∷ []) []) is)

-- where lists have the same numbers once, they have them with one more
pub once-alike : (xs ys : List ℕ) (n : ℕ) → each_once xs ≡ each_once ys → each_once (xs ++ n ∷ []) ≡ each_once (ys ++ n ∷ [])
once-alike xs ys n same =
    let among : is_among n xs ≡ is_among n ys = sym (among-once n xs) ∙ ap (is_among n) same ∙ among-once n ys in
    once-more n xs
    ∙ ap (λ (b : Bool). cond b (each_once xs) (each_once xs ++ n ∷ [])) among
    ∙ ap (λ (once : List ℕ). cond (is_among n ys) once (once ++ n ∷ [])) same
    ∙ sym (once-more n ys)

-- and with one that is among them
pub once-again : (xs ys : List ℕ) (n : ℕ) → each_once xs ≡ each_once ys → is_among n ys ≡ true → each_once (xs ++ n ∷ []) ≡ each_once ys
once-again xs ys n same among =
    once-alike xs ys n same ∙ once-more n ys ∙ ap (λ (b : Bool). cond b (each_once ys) (each_once ys ++ n ∷ [])) among

-- ### numbers that were drawn

among-join : (n : ℕ) (xs ys : List ℕ) → is_among n (xs ++ ys) ≡ (is_among n xs || is_among n ys)
among-join n [] ys = refl
among-join n (x ∷ xs) ys = by (x == n) (among-join n xs ys)
  where
    by : (b : Bool) → is_among n (xs ++ ys) ≡ (is_among n xs || is_among n ys) → (b || is_among n (xs ++ ys)) ≡ ((b || is_among n xs) || is_among n ys)
    by true rest = refl
    by false rest = rest

or-first : (a b : Bool) → a ≡ true → (a || b) ≡ true
or-first true b is = refl
or-first false b is = cc

or-second : (a b : Bool) → b ≡ true → (a || b) ≡ true
or-second true b is = refl
or-second false b is = is

abbrev pub IsDrawn : Settings → ℕ → ℕ → Type 0
IsDrawn settings k nonce = is_among nonce (first_nonces settings k) ≡ true

drawn-later : (settings : Settings) (k nonce : ℕ) → IsDrawn settings k nonce → IsDrawn settings (suc k) nonce
drawn-later settings k nonce is =
    among-join nonce (first_nonces settings k) (nonce_at settings k ∷ []) ∙ or-first (is_among nonce (first_nonces settings k)) (is_among nonce (nonce_at settings k ∷ [])) is

drawn-last : (settings : Settings) (k : ℕ) → IsDrawn settings (suc k) (nonce_at settings k)
drawn-last settings k =
    let nonce = nonce_at settings k in
    among-join nonce (first_nonces settings k) (nonce ∷ [])
    ∙ or-second (is_among nonce (first_nonces settings k)) (is_among nonce (nonce ∷ [])) (or-first (nonce == nonce) false (eq-eqb nonce nonce refl))

-- each of them is a number of 64 bits, where all nonces are
abbrev pub AreShort : Settings → Type 0
AreShort settings = (i : ℕ) → nonce_at settings i < 2 ^ 64

-- a word of the stream has 32 bits
word-short : (seed : List ℕ) (place : ℕ) → word seed place < 2 ^ 32
unfolding block_word
word-short seed place = mod_below _ (2 ^ 32) (omega arith)

-- where those that are listed have 64, all have
pub nonces-short : (settings : Settings) → All (λ nonce. nonce < 2 ^ 64) settings.nonces → AreShort settings
nonces-short settings all i = by (nat_lt i (length settings.nonces)) refl
  where
    below : nat_lt i (length settings.nonces) ≡ true → i < length settings.nonces
    below is = grind (arith, nat_tests)

    by : (b : Bool) → nat_lt i (length settings.nonces) ≡ b → nonce_at settings i < 2 ^ 64
    by true is = rw is (All-get_or (λ nonce. nonce < 2 ^ 64) settings.nonces i 0 (below is) all)
    by false is =
        let low = word-short settings.seed (2 * (i - length settings.nonces)) in
        let high = word-short settings.seed (2 * (i - length settings.nonces) + 1) in
        rw is (omega (arith, low, high))

pub drawn-short : (settings : Settings) (k nonce : ℕ) → AreShort settings → IsDrawn settings k nonce → nonce < 2 ^ 64
drawn-short settings zero nonce short is = absurd (true≢false (sym is))
drawn-short settings (suc k) nonce short is =
    by (or_cases (is_among nonce (first_nonces settings k)) ((nonce_at settings k == nonce) || false) (sym (among-join nonce (first_nonces settings k) (nonce_at settings k ∷ [])) ∙ is)) (drawn-short settings k nonce short)
  where
    only : (b : Bool) → (b || false) ≡ true → b ≡ true
    only true is = refl
    only false is = is

    by : (is_among nonce (first_nonces settings k) ≡ true) ⊎ (((nonce_at settings k == nonce) || false) ≡ true) → (IsDrawn settings k nonce → nonce < 2 ^ 64) → nonce < 2 ^ 64
    by (inl before) rest = rest before
    by (inr last) rest = subst (λ (n : ℕ). n < 2 ^ 64) (eqb-true (nonce_at settings k) nonce (only (nonce_at settings k == nonce) last)) (short k)

-- ### the journal

pub drawn-one : (e : Entry) (before : Journal) → uses_nonce e ≡ true → drawn (e ∷ before) ≡ suc (drawn before)
drawn-one e before uses = sum_by-cons (λ (e : Entry). cond (uses_nonce e) 1 0) e before ∙ rw uses (omega arith)

pub drawn-same : (e : Entry) (before : Journal) → uses_nonce e ≡ false → drawn (e ∷ before) ≡ drawn before
drawn-same e before none = sum_by-cons (λ (e : Entry). cond (uses_nonce e) 1 0) e before ∙ rw none (omega arith)

drawn-more : (settings : Settings) (e : Entry) (before : Journal) (nonce : ℕ) → IsDrawn settings (drawn before) nonce → IsDrawn settings (drawn (e ∷ before)) nonce
drawn-more settings e before nonce is = by (uses_nonce e) refl
  where
    by : (b : Bool) → uses_nonce e ≡ b → IsDrawn settings (drawn (e ∷ before)) nonce
    by true uses = subst (λ (k : ℕ). IsDrawn settings k nonce) (sym (drawn-one e before uses)) (drawn-later settings (drawn before) nonce is)
    by false uses = subst (λ (k : ℕ). IsDrawn settings k nonce) (sym (drawn-same e before uses)) is

-- a Map-Request has the nonce that is next
abbrev pub IsNext : Settings → Journal → Entry → Type 0
IsNext settings before (Asked moment eid source invoked nonce) = nonce ≡ nonce_at settings (drawn before)
IsNext settings before _ = Unit {0}

abbrev pub AreNext : Settings → Journal → Type 0
AreNext settings [] = Unit {0}
AreNext settings (entry ∷ before) = IsNext settings before entry × AreNext settings before

-- other settings with the same nonces draw the same ones
module _ (one other : Settings) (same : (i : ℕ) → nonce_at one i ≡ nonce_at other i) where
  pub first-same : (n : ℕ) → first_nonces one n ≡ first_nonces other n
  first-same zero = refl
  first-same (suc n) = ap₂ (λ (first : List ℕ) (last : ℕ). first ++ last ∷ []) (first-same n) (same n)

  entry-same : (before : Journal) (e : Entry) → IsNext one before e → IsNext other before e
  entry-same before (Asked moment eid source invoked nonce) next = next ∙ same (drawn before)
  entry-same before _ next = tt

  pub next-same : (journal : Journal) → AreNext one journal → AreNext other journal
  next-same [] next = tt
  next-same (entry ∷ before) next = (entry-same before entry next.0, next-same before next.1)

-- the nonce of a request, if there is one, was drawn
abbrev HasDrawn : Settings → Journal → Option Request → Type 0
HasDrawn settings journal o = IfSome o (λ (request : Request). IsDrawn settings (drawn journal) request.nonce)

has-more : (settings : Settings) (e : Entry) (before : Journal) (o : Option Request) → HasDrawn settings before o → HasDrawn settings (e ∷ before) o
has-more settings e before None has = tt
has-more settings e before (Some request) has = drawn-more settings e before request.nonce has

has-again : (settings : Settings) (journal : Journal) (o : Option Request) → HasDrawn settings journal o → HasDrawn settings journal (option_map once_more o)
has-again settings journal None has = tt
has-again settings journal (Some request) has = has

has-either : (settings : Settings) (journal : Journal) (b : Bool) (one other : Option Request) → HasDrawn settings journal one → HasDrawn settings journal other → HasDrawn settings journal (cond b one other)
has-either settings journal true one other has has_other = has
has-either settings journal false one other has has_other = has_other

unanswered-drawn : (settings : Settings) (nonce : ℕ) (journal : Journal) → AreNext settings journal → HasDrawn settings journal (unanswered nonce journal)
unanswered-drawn settings nonce [] next = tt
unanswered-drawn settings nonce (Answered moment answered ∷ before) next =
    has-either settings (Answered moment answered ∷ before) (answered == nonce) None (unanswered nonce before) tt
    (has-more settings (Answered moment answered) before (unanswered nonce before) (unanswered-drawn settings nonce before next.1))
unanswered-drawn settings nonce (Retried moment retried ∷ before) next =
    let rest = has-more settings (Retried moment retried) before (unanswered nonce before) (unanswered-drawn settings nonce before next.1) in
    has-either settings (Retried moment retried ∷ before) (retried == nonce) (option_map once_more (unanswered nonce before)) (unanswered nonce before)
    (has-again settings (Retried moment retried ∷ before) (unanswered nonce before) rest) rest
unanswered-drawn settings nonce (Asked moment eid source invoked asked ∷ before) next =
    let e : Entry = Asked moment eid source invoked asked in
    let request : Request = record { eid = eid; source = source; invoked = invoked; nonce = asked; start = moment; sent_again = 0 } in
    let last : IsDrawn settings (drawn (e ∷ before)) asked =
    subst (λ (k : ℕ). IsDrawn settings k asked) (sym (drawn-one e before refl)) (subst (λ (n : ℕ). IsDrawn settings (suc (drawn before)) n) (sym next.0) (drawn-last settings (drawn before))) in
    has-either settings (e ∷ before) (asked == nonce) (Some request) (unanswered nonce before) last
    (has-more settings e before (unanswered nonce before) (unanswered-drawn settings nonce before next.1))
unanswered-drawn settings nonce (Learned moment mapping fixed ∷ before) next = has-more settings (Learned moment mapping fixed) before (unanswered nonce before) (unanswered-drawn settings nonce before next.1)
unanswered-drawn settings nonce (Probed moment rloc probed ∷ before) next = has-more settings (Probed moment rloc probed) before (unanswered nonce before) (unanswered-drawn settings nonce before next.1)
unanswered-drawn settings nonce (ProbeAnswered moment answered ∷ before) next = has-more settings (ProbeAnswered moment answered) before (unanswered nonce before) (unanswered-drawn settings nonce before next.1)
unanswered-drawn settings nonce (Bits moment eid bits width ∷ before) next = has-more settings (Bits moment eid bits width) before (unanswered nonce before) (unanswered-drawn settings nonce before next.1)
unanswered-drawn settings nonce (EchoStarted moment rloc started ∷ before) next = has-more settings (EchoStarted moment rloc started) before (unanswered nonce before) (unanswered-drawn settings nonce before next.1)
unanswered-drawn settings nonce (EchoHeard moment rloc ∷ before) next = has-more settings (EchoHeard moment rloc) before (unanswered nonce before) (unanswered-drawn settings nonce before next.1)
unanswered-drawn settings nonce (DataFrom moment rloc ∷ before) next = has-more settings (DataFrom moment rloc) before (unanswered nonce before) (unanswered-drawn settings nonce before next.1)
unanswered-drawn settings nonce (EchoWanted moment rloc wanted ∷ before) next = has-more settings (EchoWanted moment rloc wanted) before (unanswered nonce before) (unanswered-drawn settings nonce before next.1)
unanswered-drawn settings nonce (Solicited moment rloc eid solicited ∷ before) next = has-more settings (Solicited moment rloc eid solicited) before (unanswered nonce before) (unanswered-drawn settings nonce before next.1)
unanswered-drawn settings nonce (Changed moment address up ∷ before) next = has-more settings (Changed moment address up) before (unanswered nonce before) (unanswered-drawn settings nonce before next.1)

-- each item has the property
abbrev pub Each : {A : Type 0} → (A → Type 0) → List A → Type 0
Each P [] = Unit {0}
Each P (item ∷ items) = P item × Each P items

pub each-filter : {A : Type 0} (P : A → Type 0) (test : A → Bool) (items : List A) → Each P items → Each P (filter test items)
each-filter P test [] all = tt
each-filter P test (item ∷ items) all = by (test item) (each-filter P test items all.1)
  where
    by : (b : Bool) → Each P (filter test items) → Each P (cond b (item ∷ filter test items) (filter test items))
    by true rest = (all.0, rest)
    by false rest = rest

-- those that pass a test have what it tells
pub each-passing : {A : Type 0} (P : A → Type 0) (test : A → Bool) → ((item : A) → test item ≡ true → P item) → (items : List A) → Each P (filter test items)
each-passing P test tells [] = tt
each-passing P test tells (item ∷ items) = by (test item) refl (each-passing P test tells items)
  where
    by : (b : Bool) → test item ≡ b → Each P (filter test items) → Each P (cond b (item ∷ filter test items) (filter test items))
    by true is rest = (tells item is, rest)
    by false is rest = rest

pub each-take : {A : Type 0} (P : A → Type 0) (n : ℕ) (items : List A) → Each P items → Each P (take n items)
each-take P zero items all = tt
each-take P (suc n) [] all = tt
each-take P (suc n) (item ∷ items) all = (all.0, each-take P n items all.1)

-- items that are put among others one after another
pub each-put : {A : Type 0} (P : A → Type 0) (put : A → List A → List A) → ((item : A) (items : List A) → P item → Each P items → Each P (put item items)) → (items so_far : List A) → Each P items → Each P so_far → Each P (fold (λ so_far item. put item so_far) so_far items)
each-put P put one [] so_far all has = has
each-put P put one (item ∷ items) so_far all has = each-put P put one items (put item so_far) all.1 (one item so_far all.0 has)

each-map : (P : Request → Type 0) (f : ℕ → Option Request) → ((n : ℕ) → IfSome (f n) P) → (ns : List ℕ) → Each P (filter_map f ns)
each-map P f one [] = tt
each-map P f one (n ∷ ns) = by (f n) (one n) (each-map P f one ns)
  where
    by : (o : Option Request) → IfSome o P → Each P (filter_map f ns) → Each P (cons_option o (filter_map f ns))
    by None has rest = rest
    by (Some request) has rest = (has, rest)

open-drawn : (settings : Settings) (now : ℕ) (journal : Journal) → AreNext settings journal → (nonce : ℕ) → HasDrawn settings journal (open_asked now nonce journal)
open-drawn settings now journal next nonce = by (unanswered nonce journal) (unanswered-drawn settings nonce journal next)
  where
    by : (o : Option Request) → HasDrawn settings journal o → HasDrawn settings journal (only_if (is_waiting now) o)
    by None has = tt
    by (Some request) has = has-either settings journal (is_waiting now request) (Some request) None has tt

-- the nonces of all open requests were drawn
pub requests-drawn : (settings : Settings) (journal : Journal) (m : ℕ) → AreNext settings journal → Each (λ (request : Request). IsDrawn settings (drawn journal) request.nonce) (view journal m).requests
unfolding view
requests-drawn settings journal m next =
    each-map (λ (request : Request). IsDrawn settings (drawn journal) request.nonce) (λ nonce. open_asked (view journal m).now nonce journal) (open-drawn settings (view journal m).now journal next) (asked_nonces journal)

-- ### all of them

-- where none is the same, all stay
others-stay : (x : ℕ) (ns : List ℕ) → AllByRecursion (λ y. nat_eq x y ≡ false) ns → filter (λ other. not (x == other)) ns ≡ ns
others-stay x [] all = refl
others-stay x (y ∷ ns) all = rw all.0 (ap (λ (others : List ℕ). y ∷ others) (others-stay x ns all.1))

-- numbers that differ stay as they are
pub distinct-once : (ns : List ℕ) → IsDistinct nat_eq ns → each_once ns ≡ ns
unfolding IsDistinct
distinct-once [] apart = refl
distinct-once (x ∷ ns) apart =
    ap (λ (others : List ℕ). x ∷ filter (λ other. not (x == other)) others) (distinct-once ns apart.1) ∙ ap (λ (others : List ℕ). x ∷ others) (others-stay x ns apart.0)

pub length-first_nonces : (settings : Settings) (n : ℕ) → length (first_nonces settings n) ≡ n
length-first_nonces settings zero = refl
length-first_nonces settings (suc n) =
    let rest = length-first_nonces settings n in
    omega (arith, rest, length-append (first_nonces settings n) (nonce_at settings n ∷ []))
