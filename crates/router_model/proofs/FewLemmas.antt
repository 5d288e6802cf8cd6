-- Of each instance no more requests are open than its limit, and so no more in all than may be.
use Rattle.std.proofs.Common.{◌≡◌, ℕ, suc, max, ◌+◌, ◌≤◌, ◌==◌, Bool, true, false, cond, List, [], ◌∷◌, ◌++◌, count_by, length, filter, filter_map, map, nat_eq, nat_lt, Option, Some, None, refl, sym, ap, subst, ◌∙◌, arith}
use Rattle.std.specs.List.{cons_option}
use Rattle.std.proofs.lemmas.Bool.{eqb-true}
use Rattle.std.proofs.lemmas.Bool.Decides.{nat_tests}
use Rattle.std.proofs.lemmas.Option.{same_Some}
use Rattle.std.proofs.lemmas.List.Sums.{sum_by_push}
use Rattle.mapping_records.specs.declared.record.Record.{Record}
use Rattle.lisp_settings.specs.Instances.{limits_in, requests_in}
use Rattle.lisp_settings.specs.declared.settings.LimitItem.{LimitItem}
use Rattle.lisp_settings.specs.declared.settings.Settings.{Settings}
use Rattle.lisp_settings.proofs.WithinLemmas.{count-cons, within-all}
use Rattle.request_queue.specs.Queue.{is_waiting, once_more, open_in}
use Rattle.request_queue.specs.declared.request.Request.{Request}
use Rattle.router_log.specs.declared.entry.Entry.{Entry}
use Rattle.router_log.specs.declared.entry.Entry.TheVariants.{Learned, Asked, Retried, Answered, Probed, ProbeAnswered, Bits, EchoStarted, EchoHeard, DataFrom, EchoWanted, Solicited, Changed}
use Rattle.router_model.specs.Journal.{Journal, IsRising, extended, last_moment, moment_of, statics}
use Rattle.router_model.specs.Kept.{counting, last_put}
use Rattle.router_model.specs.Proper.{EachFits, IsProper, suits}
use Rattle.router_model.specs.Requests.{asked_nonces, open_asked, open_requests, request_kind, request_step}
use Rattle.router_model.specs.View.{view}
use Rattle.router_model.proofs.PartsLemmas.{fits-suits, not-before, requests-now}
use Rattle.router_model.proofs.KeyLemmas.{changed-keeps, dropped-is}
use Rattle.router_model.proofs.RequestLemmas.{nonce_of, requests-open}
use Rattle.router_model.proofs.StandsLemmas.{fitting-rises, proper-rises, statics-rise}

at-now : (m last : ℕ) → last ≤ m → max m last ≡ m
at-now m last less = omega (arith, less)

pub seen-requests : (journal : Journal) (m : ℕ) → last_moment journal ≤ m → (view journal m).requests ≡ open_requests m journal
unfolding view
seen-requests journal m last = ap (λ t. open_requests t journal) (at-now m (last_moment journal) last)

pub seen-now : (journal : Journal) (m : ℕ) → last_moment journal ≤ m → (view journal m).now ≡ m
unfolding view
seen-now journal m last = at-now m (last_moment journal) last

-- an entry changes neither the nonce nor the EID of a request that it leaves
pub step-keeps : {A : Type 0} (f : Request → A) → ((r : Request) → f (once_more r) ≡ f r) → (entry : Entry) (r s : Request) → request_step entry r ≡ Some s → f s ≡ f r
step-keeps f same (Asked moment eid source invoked k) r s is = ap f (dropped-is nonce_of nat_eq k r s is)
step-keeps f same (Answered moment k) r s is = ap f (dropped-is nonce_of nat_eq k r s is)
step-keeps f same (Retried moment k) r s is = changed-keeps nonce_of nat_eq f k once_more same r s is
step-keeps f same _ r s is = sym (ap f (same_Some r s is))

-- leaving some out makes no more of any
pub kept-few : {A : Type 0} (test : A → Bool) (f : A → Option A) → ((a b : A) → f a ≡ Some b → test b ≡ test a) → (items : List A) → count_by test (filter_map f items) ≤ count_by test items
kept-few test f same [] = omega arith
kept-few {A} test f same (a ∷ items) = by (f a) refl (kept-few test f same items) (count-cons test a items)
  where
    by : (o : Option A) → f a ≡ o → count_by test (filter_map f items) ≤ count_by test items → count_by test (a ∷ items) ≡ cond (test a) 1 0 + count_by test items → count_by test (cons_option o (filter_map f items)) ≤ count_by test (a ∷ items)
    by None is h first = omega (arith, h, first)
    by (Some b) is h first =
        let kept = count-cons test b (filter_map f items) in
        let alike : ◌≡◌ {A = ℕ} (cond (test b) 1 0) (cond (test a) 1 0) = ap (λ c. cond c 1 0) (same a b is) in
        omega (arith, h, first, kept, alike)

pub left-few : {A : Type 0} (test passes : A → Bool) (items : List A) → count_by test (filter passes items) ≤ count_by test items
left-few test passes [] = omega arith
left-few test passes (a ∷ items) = by (passes a) (left-few test passes items) (count-cons test a items)
  where
    by : (b : Bool) → count_by test (filter passes items) ≤ count_by test items → count_by test (a ∷ items) ≡ cond (test a) 1 0 + count_by test items → count_by test (cond b (a ∷ filter passes items) (filter passes items)) ≤ count_by test (a ∷ items)
    by true h first = let kept = count-cons test a (filter passes items) in omega (arith, h, first, kept)
    by false h first = omega (arith, h, first)

statics-ask : (journal : Journal) (mappings : List Record) → asked_nonces (extended journal (map (λ mapping. Learned 0 mapping true) mappings)) ≡ asked_nonces journal
statics-ask journal [] = refl
statics-ask journal (mapping ∷ mappings) = statics-ask (Learned 0 mapping true ∷ journal) mappings

room-below : (n most : ℕ) → nat_lt n most ≡ true → suc n ≤ most
room-below n most is = grind (arith, nat_tests)

-- of each instance no more wait than its limit
abbrev pub AreFewIn : List LimitItem → List Request → Type 0
AreFewIn limits requests = (iid : ℕ) → open_in iid requests ≤ requests_in limits iid

module _ (limits : List LimitItem) (m : ℕ) (older : Journal) where
  open-step : (entry : Entry) → AreFewIn limits (open_requests m older) → (open_requests m older ≡ (view older m).requests) → suits limits (view older m) entry ≡ true → AreFewIn limits (open_requests m (entry ∷ older))
  open-step entry few same suit iid = subst (λ l. open_in iid l ≤ requests_in limits iid) (requests-open m (entry ∷ older)) (by entry suit)
    where
      mine : Request → Bool
      mine r = r.eid.iid == iid

      items : Entry → List Request
      items e = filter_map (request_step e) (counting request_kind (is_waiting m) older)

      less : (e : Entry) → open_in iid (items e) ≤ requests_in limits iid
      less e =
          let k = kept-few mine (request_step e) (step-keeps mine (λ r. refl) e) (counting request_kind (is_waiting m) older) in
          let s = ap (open_in iid) (requests-open m older) in
          let f = few iid in
          omega (arith, k, s, f)

      by : (e : Entry) → suits limits (view older m) e ≡ true → open_in iid (counting request_kind (is_waiting m) (e ∷ older)) ≤ requests_in limits iid
      by (Asked moment eid source invoked k) suit = put (is_waiting m r) (eid.iid == iid) refl
        where
          r : Request
          r = record { eid = eid; source = source; invoked = invoked; nonce = k; start = moment; sent_again = 0 }

          i : List Request
          i = items (Asked moment eid source invoked k)

          pushed : open_in iid (last_put r i) ≡ open_in iid i + cond (mine r) 1 0
          pushed = sum_by_push (λ x. cond (mine x) 1 0) i r

          room : (eid.iid == iid) ≡ true → suc (open_in iid i) ≤ requests_in limits iid
          room is =
              let k = kept-few mine (request_step (Asked moment eid source invoked k)) (step-keeps mine (λ r. refl) (Asked moment eid source invoked k)) (counting request_kind (is_waiting m) older) in
              let s = ap (open_in iid) (requests-open m older ∙ same) in
              let b : suc (open_in iid (view older m).requests) ≤ requests_in limits iid = subst (λ n. suc (open_in n (view older m).requests) ≤ requests_in limits n) (eqb-true eid.iid iid is) (room-below _ _ suit) in
              omega (arith, k, s, b)

          put : (b c : Bool) → (eid.iid == iid) ≡ c → open_in iid (cond b (last_put r i) i) ≤ requests_in limits iid
          put true true is = let one : ◌≡◌ {A = ℕ} (cond (mine r) 1 0) 1 = ap (λ c. cond c 1 0) is in let b = room is in omega (arith, pushed, one, b)
          put true false is = let none : ◌≡◌ {A = ℕ} (cond (mine r) 1 0) 0 = ap (λ c. cond c 1 0) is in let l = less (Asked moment eid source invoked k) in omega (arith, pushed, none, l)
          put false c is = less (Asked moment eid source invoked k)
      by (Learned moment mapping fixed) suit = less (Learned moment mapping fixed)
      by (Retried moment nonce) suit = less (Retried moment nonce)
      by (Answered moment nonce) suit = less (Answered moment nonce)
      by (Probed moment rloc nonce) suit = less (Probed moment rloc nonce)
      by (ProbeAnswered moment nonce) suit = less (ProbeAnswered moment nonce)
      by (Bits moment eid bits width) suit = less (Bits moment eid bits width)
      by (EchoStarted moment rloc nonce) suit = less (EchoStarted moment rloc nonce)
      by (EchoHeard moment rloc) suit = less (EchoHeard moment rloc)
      by (DataFrom moment rloc) suit = less (DataFrom moment rloc)
      by (EchoWanted moment rloc nonce) suit = less (EchoWanted moment rloc nonce)
      by (Solicited moment rloc eid nonce) suit = less (Solicited moment rloc eid nonce)
      by (Changed moment address up) suit = less (Changed moment address up)

-- later, no more are open
later-few : (limits : List LimitItem) (journal : Journal) (t : ℕ) → IsRising journal → last_moment journal ≤ t → AreFewIn limits (open_requests (last_moment journal) journal) → AreFewIn limits (open_requests t journal)
later-few limits journal t rising later few iid =
    let less = left-few (λ (r : Request). r.eid.iid == iid) (is_waiting t) (open_requests (last_moment journal) journal) in
    let same = ap (open_in iid) (requests-now journal rising t later) in
    let f = few iid in
    omega (arith, less, same, f)

entries-few : (settings : Settings) (entries : List Entry) → EachFits settings (statics settings) entries → let journal = entries ++ statics settings in AreFewIn (limits_in settings) (open_requests (last_moment journal) journal)
entries-few settings [] fit iid =
    let none : open_in iid (open_requests (last_moment (statics settings)) (statics settings)) ≡ 0 = ap (λ l. open_in iid (filter_map (λ nonce. open_asked (last_moment (statics settings)) nonce (statics settings)) l)) (statics-ask [] settings.mappings) in
    omega (arith, none)
entries-few settings (entry ∷ entries) fit iid =
    let older = entries ++ statics settings in
    let later = not-before settings older entry fit.0 in
    let rising = fitting-rises settings (statics settings) entries (statics-rise settings) fit.1 in
    open-step (limits_in settings) (moment_of entry) older entry
    (later-few (limits_in settings) older (moment_of entry) rising later (entries-few settings entries fit.1))
    (sym (seen-requests older (moment_of entry) later))
    (fits-suits settings older entry fit.0) iid

-- the requests of a journal that a router can have
pub requests-few-in : (settings : Settings) (journal : Journal) (m : ℕ) → IsProper settings journal → last_moment journal ≤ m → AreFewIn (limits_in settings) (view journal m).requests
requests-few-in settings journal m proper later =
    let few = subst (λ j. AreFewIn (limits_in settings) (open_requests (last_moment j) j)) (sym proper.whole) (entries-few settings proper.entries proper.fit) in
    subst (AreFewIn (limits_in settings)) (sym (seen-requests journal m later)) (later-few (limits_in settings) journal m (proper-rises settings journal proper) later few)

pub requests-few : (settings : Settings) (journal : Journal) (m : ℕ) → IsProper settings journal → last_moment journal ≤ m → length (view journal m).requests ≤ 16384
requests-few settings journal m proper later =
    let all = within-all (λ (r : Request). r.eid.iid) (λ (limit : LimitItem). limit.requests) (limits_in settings) (view journal m).requests (requests-few-in settings journal m proper later) in
    let most = proper.may.limits.requests in
    omega (arith, all, most)
