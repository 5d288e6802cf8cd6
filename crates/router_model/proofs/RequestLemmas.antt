-- What is kept of requests is what the journal says of them.
use Rattle.std.proofs.Common.{◌≡◌, ℕ, ◌≤◌, ◌==◌, not, nat_eq, Bool, true, false, cond, List, [], ◌∷◌, Option, Some, None, option_map, filter_map, find, refl, sym, ap, ◌∙◌, arith}
use Rattle.std.proofs.lemmas.Bool.{eq-eqb, eqb-true}
use Rattle.std.proofs.lemmas.Bool.Decides.{nat_tests}
use Rattle.std.proofs.lemmas.Cmp.{nat_eq_equiv}
use Rattle.std.proofs.lemmas.Option.{same_Some}
use Rattle.router_log.specs.declared.entry.Entry.{Entry}
use Rattle.router_log.specs.declared.entry.Entry.TheVariants.{Asked, Retried, Answered}
use Rattle.request_queue.specs.declared.request.Request.{Request}
use Rattle.router_model.specs.Journal.{Journal}
use Rattle.router_log.specs.Moments.{younger}
use Rattle.router_model.specs.Kept.{placed, counting, last_put}
use Rattle.locator_state.specs.Lists.{only_if}
use Rattle.router_model.specs.Requests.{asked_nonces, open_asked, open_requests, request_kind, request_step, unanswered}
use Rattle.request_queue.specs.Queue.{is_waiting, once_more, with_nonce}
use Rattle.router_model.proofs.FindLemmas.{IsClass, IsClass-same, find-changed, find-dropped, find-replaced}
use Rattle.router_model.proofs.KeptLemmas.{Keeps, filter-last_put, filter_map-Some}
use Rattle.router_model.proofs.KeyLemmas.{all-changed, all-dropped, changed-keeps, dropped-is, filter_map-alike, filter_map-others, found-last_put, only_if-cond, only_if-is, only_if-option_map, others}

-- what is young at a moment was so before
pub younger-before : (n s t start : ℕ) → s ≤ t → younger t n start ≡ true → younger s n start ≡ true
younger-before n s t start later young = grind (arith, nat_tests)

abbrev pub nonce_of : Request → ℕ
nonce_of request = request.nonce

step-waiting : (t : ℕ) (entry : Entry) (i j : Request) → request_step entry i ≡ Some j → is_waiting t j ≡ is_waiting t i
step-waiting t (Asked moment eid source invoked nonce) i j is = ap (is_waiting t) (dropped-is nonce_of nat_eq nonce i j is)
step-waiting t (Answered moment nonce) i j is = ap (is_waiting t) (dropped-is nonce_of nat_eq nonce i j is)
step-waiting t (Retried moment nonce) i j is = changed-keeps nonce_of nat_eq (is_waiting t) nonce once_more (λ i. refl) i j is
step-waiting t _ i j is = sym (ap (is_waiting t) (same_Some i j is))

pub requests-keep : Keeps request_kind is_waiting
requests-keep = record {
  ages = λ s t later i. younger-before 7 s t i.start later;
  stays = λ t entry i j is. step-waiting t entry i j is;
  puts = λ s t i entry older is. filter-last_put (is_waiting t) i _;
}

-- what is found under a nonce has it
unanswered-has : (n : ℕ) (journal : Journal) (i : Request) → unanswered n journal ≡ Some i → i.nonce ≡ n
unanswered-has n [] i is = cc
unanswered-has n (entry ∷ older) i is = by entry is (unanswered-has n older)
  where
    by : (entry : Entry) → unanswered n (entry ∷ older) ≡ Some i → ((j : Request) → unanswered n older ≡ Some j → j.nonce ≡ n) → i.nonce ≡ n
    by (Asked moment eid source invoked k) is h = asked (k == n) refl is
      where
        asked : (b : Bool) → (k == n) ≡ b → cond b (Some (record { eid = eid; source = source; invoked = invoked; nonce = k; start = moment; sent_again = 0 })) (unanswered n older) ≡ Some i → i.nonce ≡ n
        asked true same is = sym (ap nonce_of (same_Some _ i is)) ∙ eqb-true k n same
        asked false same is = h i is
    by (Answered moment k) is h = answered (k == n) is
      where
        answered : (b : Bool) → cond b None (unanswered n older) ≡ Some i → i.nonce ≡ n
        answered true is = cc
        answered false is = h i is
    by (Retried moment k) is h = retried (k == n) (unanswered n older) refl is
      where
        retried : (b : Bool) (o : Option Request) → unanswered n older ≡ o → cond b (option_map once_more o) o ≡ Some i → i.nonce ≡ n
        retried true None found is = cc
        retried false None found is = cc
        retried true (Some j) found is = sym (ap nonce_of (same_Some _ i is)) ∙ h j found
        retried false (Some j) found is = sym (ap nonce_of (same_Some _ i is)) ∙ h j found
    by _ is h = h i is

module _ (t : ℕ) where
  abbrev pub open_in : Journal → ℕ → Option Request
  open_in journal nonce = open_asked t nonce journal

  pub open-has : (journal : Journal) (n : ℕ) (i : Request) → open_in journal n ≡ Some i → i.nonce ≡ n
  open-has journal n i is = unanswered-has n journal i (only_if-is (is_waiting t) (unanswered n journal) i is)

  -- the requests that are kept are the open ones, in asking order
  pub requests-open : (journal : Journal) → counting request_kind (is_waiting t) journal ≡ open_requests t journal
  requests-open [] = refl
  requests-open (entry ∷ older) = by entry (requests-open older)
    where
      by : (entry : Entry) → counting request_kind (is_waiting t) older ≡ open_requests t older → counting request_kind (is_waiting t) (entry ∷ older) ≡ open_requests t (entry ∷ older)
      by (Asked moment eid source invoked k) h =
          ap (λ l. placed (is_waiting t) last_put (Some r) (filter_map (request_step e) l)) h
          ∙ ap (λ l. cond (is_waiting t r) (last_put r l) l) (before ∙ filter_map-alike _ _ here (asked_nonces older) ∙ sym (filter_map-others nat_eq (open_in (e ∷ older)) k (asked_nonces older)))
          ∙ sym (found-last_put (open_in (e ∷ older)) k (others nat_eq k (asked_nonces older)) (is_waiting t r) r now)
        where
          e : Entry
          e = Asked moment eid source invoked k

          r : Request
          r = record { eid = eid; source = source; invoked = invoked; nonce = k; start = moment; sent_again = 0 }

          before : filter_map (request_step e) (open_requests t older) ≡ filter_map (λ n. cond (n == k) None (open_in older n)) (asked_nonces older)
          before = all-dropped nonce_of nat_eq (open_in older) (open-has older) k (asked_nonces older)

          here : (n : ℕ) → cond (n == k) None (open_in older n) ≡ cond (n == k) None (open_in (e ∷ older) n)
          here n = rw (nat_eq_equiv.symm n k) (one (k == n))
            where
              one : (b : Bool) → cond b None (open_in older n) ≡ cond b None (only_if (is_waiting t) (cond b (Some r) (unanswered n older)))
              one true = refl
              one false = refl

          now : open_in (e ∷ older) k ≡ cond (is_waiting t r) (Some r) None
          now = rw (eq-eqb k k refl) refl
      by (Answered moment k) h =
          ap (filter_map (request_step (Answered moment k))) h
          ∙ all-dropped nonce_of nat_eq (open_in older) (open-has older) k (asked_nonces older)
          ∙ filter_map-alike _ _ gone (asked_nonces older)
        where
          gone : (n : ℕ) → cond (n == k) None (open_in older n) ≡ open_in (Answered moment k ∷ older) n
          gone n = rw (nat_eq_equiv.symm n k) (sym (only_if-cond (is_waiting t) (k == n) None (unanswered n older)))
      by (Retried moment k) h =
          ap (filter_map (request_step (Retried moment k))) h
          ∙ all-changed nonce_of nat_eq (open_in older) (open-has older) k once_more (asked_nonces older)
          ∙ filter_map-alike _ _ again (asked_nonces older)
        where
          again : (n : ℕ) → cond (n == k) (option_map once_more (open_in older n)) (open_in older n) ≡ open_in (Retried moment k ∷ older) n
          again n =
              rw (nat_eq_equiv.symm n k)
              (ap (λ o. cond (k == n) o (open_in older n)) (sym (only_if-option_map (is_waiting t) once_more (λ i. refl) (unanswered n older)))
              ∙ sym (only_if-cond (is_waiting t) (k == n) (option_map once_more (unanswered n older)) (unanswered n older)))
      by _ h = filter_map-Some (counting request_kind (is_waiting t) older) ∙ h

  -- what is found among the open requests under a nonce is the open request of the nonce
  pub requests-found : (n : ℕ) (journal : Journal) → find (λ (r : Request). r.nonce == n) (counting request_kind (is_waiting t) journal) ≡ open_in journal n
  requests-found n [] = refl
  requests-found n (entry ∷ older) = by entry (requests-found n older)
    where
      class : IsClass nat_eq (λ k. k == n)
      class = IsClass-same nat_eq nat_eq_equiv n

      by : (entry : Entry) → find (λ (r : Request). r.nonce == n) (counting request_kind (is_waiting t) older) ≡ open_in older n → find (λ (r : Request). r.nonce == n) (counting request_kind (is_waiting t) (entry ∷ older)) ≡ open_in (entry ∷ older) n
      by (Asked moment eid source invoked k) h =
          let r : Request = record { eid = eid; source = source; invoked = invoked; nonce = k; start = moment; sent_again = 0 } in
          find-replaced nonce_of nat_eq (λ k. k == n) class (is_waiting t r) r (counting request_kind (is_waiting t) older)
          ∙ ap (cond (k == n) (cond (is_waiting t r) (Some r) None)) h
          ∙ sym (only_if-cond (is_waiting t) (k == n) (Some r) (unanswered n older))
      by (Answered moment k) h =
          find-dropped nonce_of nat_eq (λ k. k == n) class k (counting request_kind (is_waiting t) older)
          ∙ ap (cond (k == n) None) h
          ∙ sym (only_if-cond (is_waiting t) (k == n) None (unanswered n older))
      by (Retried moment k) h =
          find-changed nonce_of nat_eq (λ k. k == n) class k once_more (λ i. refl) (counting request_kind (is_waiting t) older)
          ∙ ap (λ o. cond (k == n) (option_map once_more o) o) h
          ∙ ap (λ o. cond (k == n) o (open_in older n)) (sym (only_if-option_map (is_waiting t) once_more (λ i. refl) (unanswered n older)))
          ∙ sym (only_if-cond (is_waiting t) (k == n) (option_map once_more (unanswered n older)) (unanswered n older))
      by _ h = ap (find (λ (r : Request). r.nonce == n)) (filter_map-Some (counting request_kind (is_waiting t) older)) ∙ h

  -- of these that with a nonce
  pub with_nonce-is : (n : ℕ) (journal : Journal) → with_nonce (open_requests t journal) n ≡ open_in journal n
  with_nonce-is n journal = ap (λ l. with_nonce l n) (sym (requests-open journal)) ∙ requests-found n journal

-- ### no nonce comes twice

-- none of these is n
abbrev pub Misses : ℕ → List ℕ → Type 0
Misses n [] = Unit {0}
Misses n (k ∷ ks) = ((k == n) ≡ false) × Misses n ks

abbrev pub AreApart : List ℕ → Type 0
AreApart [] = Unit {0}
AreApart (k ∷ ks) = Misses k ks × AreApart ks

Misses-others : (n k : ℕ) (ks : List ℕ) → Misses n ks → Misses n (others nat_eq k ks)
Misses-others n k [] misses = tt
Misses-others n k (j ∷ ks) misses = by (j == k) (Misses-others n k ks misses.1)
  where
    by : (b : Bool) → Misses n (others nat_eq k ks) → Misses n (cond (not b) (j ∷ others nat_eq k ks) (others nat_eq k ks))
    by true h = h
    by false h = (misses.0, h)

others-apart : (k : ℕ) (ks : List ℕ) → AreApart ks → AreApart (others nat_eq k ks)
others-apart k [] apart = tt
others-apart k (j ∷ ks) apart = by (j == k) (others-apart k ks apart.1)
  where
    by : (b : Bool) → AreApart (others nat_eq k ks) → AreApart (cond (not b) (j ∷ others nat_eq k ks) (others nat_eq k ks))
    by true h = h
    by false h = (Misses-others j k ks apart.0, h)

others-miss : (k : ℕ) (ks : List ℕ) → Misses k (others nat_eq k ks)
others-miss k [] = tt
others-miss k (j ∷ ks) = by (j == k) refl (others-miss k ks)
  where
    by : (b : Bool) → (j == k) ≡ b → Misses k (others nat_eq k ks) → Misses k (cond (not b) (j ∷ others nat_eq k ks) (others nat_eq k ks))
    by true is h = h
    by false is h = (is, h)

Misses-put : (n k : ℕ) (ks : List ℕ) → (k == n) ≡ false → Misses n ks → Misses n (last_put k ks)
Misses-put n k [] isn't misses = (isn't, tt)
Misses-put n k (j ∷ ks) isn't misses = (misses.0, Misses-put n k ks isn't misses.1)

put-apart : (k : ℕ) (ks : List ℕ) → Misses k ks → AreApart ks → AreApart (last_put k ks)
put-apart k [] misses apart = (tt, tt)
put-apart k (j ∷ ks) misses apart = (Misses-put j k ks (nat_eq_equiv.symm k j ∙ misses.0) apart.0, put-apart k ks misses.1 apart.1)

pub nonces-apart : (journal : Journal) → AreApart (asked_nonces journal)
nonces-apart [] = tt
nonces-apart (entry ∷ older) = by entry (nonces-apart older)
  where
    by : (entry : Entry) → AreApart (asked_nonces older) → AreApart (asked_nonces (entry ∷ older))
    by (Asked moment eid source invoked k) h = put-apart k (others nat_eq k (asked_nonces older)) (others-miss k (asked_nonces older)) (others-apart k (asked_nonces older) h)
    by _ h = h
