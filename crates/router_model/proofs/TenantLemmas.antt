-- Requests of an instance, and what is asked for it.
use Rattle.std.proofs.Common.{◌≡◌, ℕ, ◌≤◌, ◌==◌, ◌||◌, ◌&&◌, not, nat_lt, nat_eq, Bool, true, false, cond, List, [], ◌∷◌, Option, Some, None, filter, filter_map, find, is_some, refl, sym, ap, ap₂, subst, ◌∙◌, arith}
use Rattle.std.specs.List.{cons_option}
use Rattle.std.proofs.lemmas.Bool.{eq-eqb, eqb-true}
use Rattle.std.proofs.lemmas.Bool.Decides.{nat_tests}
use Rattle.std.proofs.lemmas.Cmp.{nat_eq_equiv}
use Rattle.std.proofs.lemmas.Option.{same_Some}
use Rattle.mapping_records.specs.declared.eid.Eid.{Eid}
use Rattle.mapping_records.specs.declared.record.Record.{Record}
use Rattle.mapping_records.specs.Eids.{covers_eid, same_eid}
use Rattle.lisp_settings.specs.Instances.{mappings_in, requests_in}
use Rattle.lisp_settings.specs.declared.settings.LimitItem.{LimitItem}
use Rattle.lisp_settings.specs.declared.settings.Settings.{Settings}
use Rattle.request_queue.specs.Queue.{covered, is_waiting, once_more, open_in, with_nonce}
use Rattle.request_queue.specs.declared.request.Request.{Request}
use Rattle.router_log.specs.Moments.{younger}
use Rattle.router_log.specs.declared.entry.Entry.{Entry}
use Rattle.router_log.specs.declared.entry.Entry.TheVariants.{Asked, Retried, Answered}
use Rattle.router_log.specs.declared.notice.Notice.{Notice}
use Rattle.router_log.specs.declared.notice.Notice.TheVariants as notice
use Rattle.router_model.specs.Changes.{each, has_room, learned_in, may_ask, may_replace}
use Rattle.router_model.specs.Isolation.{asked_in, counts_in, of_instance, told_of}
use Rattle.router_model.specs.Journal.{Journal, IsRising, last_moment, moment_of}
use Rattle.router_model.specs.Kept.{counting, last_put, placed}
use Rattle.router_model.specs.Mappings.{Held, exact, force, live_mappings}
use Rattle.router_model.specs.Note.{is_learned, is_missing, is_wanting}
use Rattle.router_model.specs.Requests.{begun_request, open_requests, request_kind, request_step}
use Rattle.router_model.specs.Site.{reaches_resolver}
use Rattle.router_model.specs.Tenants.{NoncesDiffer, RequestsIsolated, asked_since, notice_eid}
use Rattle.router_model.specs.View.{View, seen_at}
use Rattle.router_model.proofs.FewLemmas.{step-keeps}
use Rattle.router_model.proofs.IsolationLemmas.{mine-force, mine-live}
use Rattle.router_model.proofs.KeptLemmas.{filter-last_put, filter-step}
use Rattle.router_model.proofs.KeyLemmas.{dropped-apart}
use Rattle.router_model.proofs.PartsLemmas.{and_both, any-within, count-within}
use Rattle.router_model.proofs.RequestLemmas.{nonce_of, requests-open}

-- ### what is known of open requests

pub younger-later : (t a b : ℕ) → a ≤ b → younger t 7 a ≡ true → younger t 7 b ≡ true
younger-later t a b later young = grind (arith, nat_tests)

-- where a young request is, the last entry is young
pub young-last : (t n : ℕ) (journal : Journal) → IsRising journal → asked_since t n journal ≡ true → younger t 7 (last_moment journal) ≡ true
young-last t n [] rising is = cc
young-last t n (entry ∷ older) rising is = by entry rising.0 is (young-last t n older rising.1)
  where
    by : (entry : Entry) → last_moment older ≤ moment_of entry → asked_since t n (entry ∷ older) ≡ true → (asked_since t n older ≡ true → younger t 7 (last_moment older) ≡ true) → younger t 7 (moment_of entry) ≡ true
    by (Asked moment eid source invoked k) later is h = one (k == n) (younger t 7 moment) refl is
      where
        one : (b c : Bool) → younger t 7 moment ≡ c → (b && c || asked_since t n older) ≡ true → younger t 7 moment ≡ true
        one b true young is = young
        one true false young is = younger-later t (last_moment older) moment later (h is)
        one false false young is = younger-later t (last_moment older) moment later (h is)
    by entry later is h = younger-later t (last_moment older) (moment_of entry) later (h is)

-- each of them
abbrev pub Each : (Request → Type 0) → List Request → Type 0
Each P [] = Unit {0}
Each P (r ∷ l) = P r × Each P l

each-step : (P Q : Request → Type 0) (step : Request → Option Request) → ((r s : Request) → step r ≡ Some s → P r → Q s) → (l : List Request) → Each P l → Each Q (filter_map step l)
each-step P Q step goes [] each = tt
each-step P Q step goes (r ∷ l) each = by (step r) refl (each-step P Q step goes l each.1)
  where
    by : (o : Option Request) → step r ≡ o → Each Q (filter_map step l) → Each Q (cons_option o (filter_map step l))
    by None is h = h
    by (Some s) is h = (goes r s is each.0, h)

each-put : (Q : Request → Type 0) (x : Request) (l : List Request) → Each Q l → Q x → Each Q (last_put x l)
each-put Q x [] each one = (one, tt)
each-put Q x (r ∷ l) each one = (each.0, each-put Q x l each.1 one)

pub same-number : (n : ℕ) → (n == n) ≡ true
same-number n = grind (arith, nat_tests)

module _ (t : ℕ) where
  -- it is the last one with its nonce, and young
  abbrev pub Known : Journal → Request → Type 0
  Known journal r = (asked_in r.nonce journal ≡ Some r.eid.iid) × (asked_since t r.nonce journal ≡ true)

  known-kept : (journal : Journal) (r s : Request) → s.nonce ≡ r.nonce → s.eid ≡ r.eid → Known journal r → Known journal s
  known-kept journal r s nonce eid known = (
    ap (λ n. asked_in n journal) nonce ∙ known.0 ∙ ap (λ (e : Eid). Some e.iid) (sym eid),
    ap (λ n. asked_since t n journal) nonce ∙ known.1,
  )

  known-step : (entry : Entry) (older : Journal) (r s : Request) → request_step entry r ≡ Some s → Known older r → Known (entry ∷ older) s
  known-step entry older r s is known = by entry is (known-kept older r s (step-keeps nonce_of (λ r. refl) entry r s is) (step-keeps (λ (r : Request). r.eid) (λ r. refl) entry r s is) known)
    where
      by : (entry : Entry) → request_step entry r ≡ Some s → Known older s → Known (entry ∷ older) s
      by (Asked moment eid source invoked k) is h =
          let other = nat_eq_equiv.symm k s.nonce ∙ dropped-apart nonce_of nat_eq k r s is in
          (rw other h.0, rw other h.1)
      by _ is h = h

  pub all-known : (journal : Journal) → Each (Known journal) (counting request_kind (is_waiting t) journal)
  all-known [] = tt
  all-known (entry ∷ older) = by entry (each-step (Known older) (Known (entry ∷ older)) (request_step entry) (known-step entry older) (counting request_kind (is_waiting t) older) (all-known older))
    where
      all : List Request
      all = counting request_kind (is_waiting t) older

      by : (entry : Entry) → Each (Known (entry ∷ older)) (filter_map (request_step entry) all) → Each (Known (entry ∷ older)) (placed (is_waiting t) last_put (begun_request entry) (filter_map (request_step entry) all))
      by (Asked moment eid source invoked k) h = put (is_waiting t x) refl
        where
          e : Entry
          e = Asked moment eid source invoked k

          x : Request
          x = record { eid = eid; source = source; invoked = invoked; nonce = k; start = moment; sent_again = 0 }

          put : (b : Bool) → is_waiting t x ≡ b → Each (Known (e ∷ older)) (cond b (last_put x (filter_map (request_step e) all)) (filter_map (request_step e) all))
          put true young = each-put (Known (e ∷ older)) x (filter_map (request_step e) all) h (rw (same-number k) refl, rw (same-number k, young) refl)
          put false young = h
      by _ h = h

module _ (i t : ℕ) where
  abbrev is_mine : Request → Bool
  is_mine r = r.eid.iid == i

  stays : (entry : Entry) (r s : Request) → request_step entry r ≡ Some s → is_mine s ≡ is_mine r
  stays entry r s is = step-keeps is_mine (λ r. refl) entry r s is

  begun-mine : (entry : Entry) (older : Journal) (x : Request) → begun_request entry ≡ Some x → counts_in i (told_of entry older) ≡ is_mine x
  begun-mine (Asked moment eid source invoked k) older x is = ap is_mine (same_Some _ x is)
  begun-mine _ older x is = cc

  -- an entry of another instance leaves a request of this one
  others-leave : (entry : Entry) (older : Journal) (r : Request) → IsRising (entry ∷ older) → NoncesDiffer t (entry ∷ older) → counts_in i (told_of entry older) ≡ false → is_mine r ≡ true → Known t older r → request_step entry r ≡ Some r
  others-leave (Asked moment eid source invoked k) older r rising differ other is known = by (r.nonce == k) refl
    where
      by : (b : Bool) → (r.nonce == k) ≡ b → cond b None (Some r) ≡ Some r
      by false apart = refl
      by true same =
          let since = ap (λ n. asked_since t n older) (sym (eqb-true r.nonce k same)) ∙ known.1 in
          let young = younger-later t (last_moment older) moment rising.0 (young-last t k older rising.1 since) in
          let both = ap₂ (λ a b. a && b) young since in
          cc (both, differ.0)
  others-leave (Answered moment k) older r rising differ other is known = by (r.nonce == k) refl
    where
      by : (b : Bool) → (r.nonce == k) ≡ b → cond b None (Some r) ≡ Some r
      by false apart = refl
      by true same =
          let mine = ap (counts_in i) (ap (λ n. asked_in n older) (sym (eqb-true r.nonce k same)) ∙ known.0) ∙ is in
          cc (mine, other)
  others-leave (Retried moment k) older r rising differ other is known = by (r.nonce == k) refl
    where
      by : (b : Bool) → (r.nonce == k) ≡ b → Some (cond b (once_more r) r) ≡ Some r
      by false apart = refl
      by true same =
          let mine = ap (counts_in i) (ap (λ n. asked_in n older) (sym (eqb-true r.nonce k same)) ∙ known.0) ∙ is in
          cc (mine, other)
  others-leave _ older r rising differ other is known = refl

  differ-before : (entry : Entry) (older : Journal) → NoncesDiffer t (entry ∷ older) → NoncesDiffer t older
  differ-before (Asked moment eid source invoked k) older differ = differ.1
  differ-before _ older differ = differ

  mine-counting : (journal : Journal) → IsRising journal → NoncesDiffer t journal → filter is_mine (counting request_kind (is_waiting t) journal) ≡ counting request_kind (is_waiting t) (of_instance journal i)
  mine-counting [] rising differ = refl
  mine-counting (entry ∷ older) rising differ = by (counts_in i (told_of entry older)) refl (mine-counting older rising.1 (differ-before entry older differ))
    where
      all : List Request
      all = counting request_kind (is_waiting t) older

      theirs : List Request
      theirs = counting request_kind (is_waiting t) (of_instance older i)

      items : List Request
      items = filter_map (request_step entry) all

      left : filter is_mine items ≡ filter_map (request_step entry) (filter is_mine all)
      left = filter-step is_mine (request_step entry) (stays entry) all

      still : counts_in i (told_of entry older) ≡ false → (l : List Request) → Each (Known t older) l → filter_map (request_step entry) (filter is_mine l) ≡ filter is_mine l
      still other [] each = refl
      still other (r ∷ l) each = one (is_mine r) refl (still other l each.1)
        where
          one : (b : Bool) → is_mine r ≡ b → filter_map (request_step entry) (filter is_mine l) ≡ filter is_mine l → filter_map (request_step entry) (cond b (r ∷ filter is_mine l) (filter is_mine l)) ≡ cond b (r ∷ filter is_mine l) (filter is_mine l)
          one true is h = rw (others-leave entry older r rising differ other is each.0) (ap (λ l. r ∷ l) h)
          one false is h = h

      begun : (x : Request) (b d : Bool) → is_mine x ≡ b → filter is_mine (cond d (last_put x items) items) ≡ cond d (cond b (last_put x (filter is_mine items)) (filter is_mine items)) (filter is_mine items)
      begun x b true is = filter-last_put is_mine x items ∙ ap (λ b. cond b (last_put x (filter is_mine items)) (filter is_mine items)) is
      begun x b false is = refl

      kept : (o : Option Request) → begun_request entry ≡ o → counts_in i (told_of entry older) ≡ true → filter is_mine items ≡ filter_map (request_step entry) theirs → filter is_mine (placed (is_waiting t) last_put o items) ≡ placed (is_waiting t) last_put o (filter_map (request_step entry) theirs)
      kept None made is h = h
      kept (Some x) made is h = begun x true (is_waiting t x) (sym (begun-mine entry older x made) ∙ is) ∙ ap (λ l. cond (is_waiting t x) (last_put x l) l) h

      gone : (o : Option Request) → begun_request entry ≡ o → counts_in i (told_of entry older) ≡ false → filter is_mine (placed (is_waiting t) last_put o items) ≡ filter is_mine items
      gone None made is = refl
      gone (Some x) made is = begun x false (is_waiting t x) (sym (begun-mine entry older x made) ∙ is) ∙ same (is_waiting t x)
        where
          same : (d : Bool) → cond d (filter is_mine items) (filter is_mine items) ≡ filter is_mine items
          same true = refl
          same false = refl

      by : (b : Bool) → counts_in i (told_of entry older) ≡ b → filter is_mine all ≡ theirs → filter is_mine (placed (is_waiting t) last_put (begun_request entry) items) ≡ counting request_kind (is_waiting t) (cond b (entry ∷ of_instance older i) (of_instance older i))
      by true is h = kept (begun_request entry) refl is (left ∙ ap (filter_map (request_step entry)) h)
      by false is h = gone (begun_request entry) refl is ∙ left ∙ still is all (all-known t older) ∙ h

pub requests-isolated : RequestsIsolated
requests-isolated journal i now rising differ =
    ap (filter (is_mine i now)) (sym (requests-open now journal)) ∙ mine-counting i now journal rising differ ∙ requests-open now (of_instance journal i)

-- ### under a nonce

module _ {A : Type 0} (test mine : A → Bool) where
  -- what is found and stays is found among those that stay
  find-staying : (l : List A) (a : A) → find test l ≡ Some a → mine a ≡ true → find test (filter mine l) ≡ Some a
  find-staying [] a is stay = is
  find-staying (x ∷ l) a is stay = by (test x) (mine x) refl refl is (find-staying l a)
    where
      by : (b c : Bool) → test x ≡ b → mine x ≡ c → cond b (Some x) (find test l) ≡ Some a → (find test l ≡ Some a → mine a ≡ true → find test (filter mine l) ≡ Some a) → find test (cond c (x ∷ filter mine l) (filter mine l)) ≡ Some a
      by true true here stays is h = rw here is
      by true false here stays is h = cc (stay, stays, ap mine (same_Some x a is))
      by false true here stays is h = rw here (h is stay)
      by false false here stays is h = h is stay

  -- a narrower test finds the same
  find-within : ((a : A) → test a ≡ true → mine a ≡ true) → (l : List A) → find test (filter mine l) ≡ find test l
  find-within within [] = refl
  find-within within (x ∷ l) = by (test x) (mine x) refl refl (find-within within l)
    where
      by : (b c : Bool) → test x ≡ b → mine x ≡ c → find test (filter mine l) ≡ find test l → find test (cond c (x ∷ filter mine l) (filter mine l)) ≡ cond b (Some x) (find test l)
      by true true here stays h = rw here refl
      by true false here stays h = cc (within x here)
      by false true here stays h = rw here h
      by false false here stays h = h

-- what is found is one of them
pub find-each : (P : Request → Type 0) (test : Request → Bool) (l : List Request) (r : Request) → Each P l → find test l ≡ Some r → P r × (test r ≡ true)
find-each P test [] r each is = cc
find-each P test (x ∷ l) r each is = by (test x) refl is (find-each P test l r each.1)
  where
    by : (b : Bool) → test x ≡ b → cond b (Some x) (find test l) ≡ Some r → (find test l ≡ Some r → P r × (test r ≡ true)) → P r × (test r ≡ true)
    by true here is h = subst (λ r. P r × (test r ≡ true)) (same_Some x r is) (each.0, here)
    by false here is h = h is

-- what is found among some of them is found among all, perhaps another
find-more : (test mine : Request → Bool) (l : List Request) (r : Request) → find test (filter mine l) ≡ Some r → is_some (find test l) ≡ true
find-more test mine [] r is = cc
find-more test mine (x ∷ l) r is = by (test x) (mine x) refl is (find-more test mine l r)
  where
    by : (b c : Bool) → test x ≡ b → find test (cond c (x ∷ filter mine l) (filter mine l)) ≡ Some r → (find test (filter mine l) ≡ Some r → is_some (find test l) ≡ true) → is_some (cond b (Some x) (find test l)) ≡ true
    by true c here is h = refl
    by false true here is h = h (let tested = is in rw here at tested)
    by false false here is h = h is

each-staying : (P : Request → Type 0) (mine : Request → Bool) (l : List Request) → Each P l → Each (λ r. P r × (mine r ≡ true)) (filter mine l)
each-staying P mine [] each = tt
each-staying P mine (r ∷ l) each = by (mine r) refl (each-staying P mine l each.1)
  where
    by : (b : Bool) → mine r ≡ b → Each (λ r. P r × (mine r ≡ true)) (filter mine l) → Each (λ r. P r × (mine r ≡ true)) (cond b (r ∷ filter mine l) (filter mine l))
    by true is h = ((each.0, is), h)
    by false is h = h

-- a request of an instance is open under a nonce exactly if it is so in the journal of the instance
abbrev NoncesIsolated : Type 0
NoncesIsolated = (journal : Journal) (i now nonce : ℕ) (request : Request) → IsRising journal → NoncesDiffer now journal → ((with_nonce (open_requests now journal) nonce ≡ Some request) → (request.eid.iid ≡ i) → with_nonce (open_requests now (of_instance journal i)) nonce ≡ Some request) × (with_nonce (open_requests now (of_instance journal i)) nonce ≡ Some request → with_nonce (open_requests now journal) nonce ≡ Some request)

pub nonces-isolated : NoncesIsolated
nonces-isolated journal i now nonce request rising differ = (here, there (find test all) refl)
  where
    all : List Request
    all = open_requests now journal

    test : Request → Bool
    test r = r.nonce == nonce

    mine : filter (is_mine i now) all ≡ open_requests now (of_instance journal i)
    mine = requests-isolated journal i now rising differ

    known : Each (Known now journal) all
    known = subst (Each (Known now journal)) (requests-open now journal) (all-known now journal)

    here : with_nonce all nonce ≡ Some request → request.eid.iid ≡ i → with_nonce (open_requests now (of_instance journal i)) nonce ≡ Some request
    here found is = ap (λ l. with_nonce l nonce) (sym mine) ∙ find-staying test (is_mine i now) all request found (eq-eqb request.eid.iid i is)

    there : (o : Option Request) → find test all ≡ o → with_nonce (open_requests now (of_instance journal i)) nonce ≡ Some request → o ≡ Some request
    there None none found =
        let more = find-more test (is_mine i now) all request (ap (find test) mine ∙ found) in
        cc (more, ap is_some none)
    there (Some r) one found =
        let left = ap (find test) mine ∙ found in
        let mine' = find-each (λ r. Known now journal r × (is_mine i now r ≡ true)) test (filter (is_mine i now) all) request (each-staying (Known now journal) (is_mine i now) all known) left in
        let its = find-each (Known now journal) test all r known one in
        let nonces : r.nonce ≡ request.nonce = eqb-true r.nonce nonce its.1 ∙ sym (eqb-true request.nonce nonce mine'.1) in
        let iids = same_Some r.eid.iid request.eid.iid (sym its.0.0 ∙ ap (λ n. asked_in n journal) nonces ∙ mine'.0.0.0) in
        sym (find-staying test (is_mine i now) all r one (ap (λ k. k == i) iids ∙ mine'.0.1)) ∙ left

-- ### what is asked

-- a notice makes the router ask
abbrev pub asks : Settings → List LimitItem → View → Notice → Bool
asks settings limits v (notice.Ask eid source) = is_missing settings limits v eid
asks settings limits v (notice.Refresh eid) = is_learned (exact v.mappings eid) && may_ask settings limits v eid
asks settings limits v _ = false

module _ (journal : Journal) (i now : ℕ) where
  abbrev all : View
  all = seen_at journal now

  abbrev mine : View
  mine = seen_at (of_instance journal i) now

  same-iid : (k n : ℕ) → n ≡ i → (k == n) ≡ true → (k == i) ≡ true
  same-iid k n is same = ap (λ n. k == n) (sym is) ∙ same

  pub exact-mine : (eid : Eid) → eid.iid ≡ i → exact all.mappings eid ≡ exact mine.mappings eid
  exact-mine eid is =
      sym (find-within (λ (held : Held). same_eid held.eid eid) (λ held. held.eid.iid == i) (λ held same. same-iid held.eid.iid eid.iid is (and_both (held.eid.iid == eid.iid) _ same).0) (live_mappings now journal))
      ∙ ap (λ l. exact l eid) (mine-live i now journal)

  learned-mine : (n : ℕ) → n ≡ i → learned_in n all.mappings ≡ learned_in n mine.mappings
  learned-mine n is =
      sym (count-within (λ (held : Held). held.eid.iid == i) (λ held. (held.eid.iid == n) && not held.fixed) (λ held same. same-iid held.eid.iid n is (and_both (held.eid.iid == n) _ same).0) (live_mappings now journal))
      ∙ ap (learned_in n) (mine-live i now journal)

  force-mine : (eid : Eid) → eid.iid ≡ i → force all.mappings eid.iid eid.prefix.addr eid.prefix.len ≡ force mine.mappings eid.iid eid.prefix.addr eid.prefix.len
  force-mine eid is =
      subst (λ k. force all.mappings k eid.prefix.addr eid.prefix.len ≡ force mine.mappings k eid.prefix.addr eid.prefix.len) (sym is)
      (mine-force i now journal eid.prefix.addr eid.prefix.len)

  -- whether there is room is the same
  pub room-mine : (limits : List LimitItem) (mapping : Record) → mapping.eid.iid ≡ i → has_room limits all mapping ≡ has_room limits mine mapping
  room-mine limits mapping is =
      ap (may_replace limits all mapping) (exact-mine mapping.eid is) ∙ by (exact mine.mappings mapping.eid)
    where
      by : (o : Option Held) → may_replace limits all mapping o ≡ may_replace limits mine mapping o
      by (Some held) = refl
      by None = ap (λ n. (mapping.ttl == 0) || nat_lt n (mappings_in limits mapping.eid.iid)) (learned-mine mapping.eid.iid is)

  module _ (rising : IsRising journal) (differ : NoncesDiffer now journal) where
    covered-mine : (eid : Eid) → eid.iid ≡ i → covered all.requests eid ≡ covered mine.requests eid
    covered-mine eid is =
        sym (any-within (is_mine i now) (λ r. covers_eid r.eid eid) (λ r covers. same-iid r.eid.iid eid.iid is (and_both (r.eid.iid == eid.iid) _ covers).0) (open_requests now journal))
        ∙ ap (λ l. covered l eid) (requests-isolated journal i now rising differ)

    open-mine : (n : ℕ) → n ≡ i → open_in n all.requests ≡ open_in n mine.requests
    open-mine n is =
        sym (count-within (is_mine i now) (λ r. r.eid.iid == n) (λ r same. same-iid r.eid.iid n is same) (open_requests now journal))
        ∙ ap (open_in n) (requests-isolated journal i now rising differ)

    pub may_ask-mine : (settings : Settings) (limits : List LimitItem) (eid : Eid) → eid.iid ≡ i → may_ask settings limits all eid ≡ may_ask settings limits mine eid
    may_ask-mine settings limits eid is =
        ap₂ (λ a n. reaches_resolver settings && (not a && nat_lt n (requests_in limits eid.iid))) (covered-mine eid is) (open-mine eid.iid is)

    pub asks-mine : (settings : Settings) (limits : List LimitItem) (told : Notice) (eid : Eid) → notice_eid told ≡ Some eid → eid.iid ≡ i → asks settings limits all told ≡ asks settings limits mine told
    asks-mine settings limits (notice.Ask k source) eid names is =
        let its = ap (λ (e : Eid). e.iid) (same_Some k eid names) ∙ is in
        ap₂ (λ b o. b && is_wanting o) (may_ask-mine settings limits k its) (force-mine k its)
    asks-mine settings limits (notice.Refresh k) eid names is =
        let its = ap (λ (e : Eid). e.iid) (same_Some k eid names) ∙ is in
        ap₂ (λ o b. is_learned o && b) (exact-mine k its) (may_ask-mine settings limits k its)
    asks-mine settings limits _ eid names is = refl
