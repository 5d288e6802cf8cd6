-- Journals that differ in nonces alone tell the same, nonces apart.
use Rattle.std.proofs.Common.{◌≡◌, ℕ, suc, ◌+◌, ◌≤◌, ◌<◌, ◌==◌, ◌||◌, ◌&&◌, not, nat_lt, max, Bool, true, false, cond, List, [], ◌∷◌, ◌++◌, Option, Some, None, option_map, filter, filter_map, map, refl, sym, ap, ap₂, subst, ◌∙◌, arith}
use Rattle.std.specs.List.{cons_option}
use Rattle.std.proofs.lemmas.Bool.{eq-eqb, eqb-true, eqb-false, ne_eqb}
use Rattle.std.proofs.lemmas.Cmp.{nat_eq_equiv}
use Rattle.std.proofs.lemmas.List.{map-append}
use Rattle.ip_headers.specs.declared.addr.Addr.{Addr}
use Rattle.mapping_records.specs.declared.eid.Eid.{Eid}
use Rattle.mapping_records.specs.Eids.{covers_eid}
use Rattle.lisp_settings.specs.Instances.{requests_in}
use Rattle.lisp_settings.specs.declared.settings.LimitItem.{LimitItem}
use Rattle.lisp_settings.specs.declared.settings.OwnLocator.{OwnLocator}
use Rattle.lisp_settings.specs.declared.settings.Settings.{Settings}
use Rattle.locator_state.specs.Echoes.{echo_out, may_start}
use Rattle.locator_state.specs.Observed.{Observed, is_up}
use Rattle.map_cache.specs.Cache.{lasts}
use Rattle.map_cache.specs.declared.mapping.Mapping.{Mapping}
use Rattle.request_queue.specs.Queue.{covered, due, is_waiting, once_more, open_in, with_nonce}
use Rattle.request_queue.specs.declared.request.Request.{Request}
use Rattle.router_log.specs.Moments.{younger}
use Rattle.router_log.specs.declared.entry.Entry.{Entry}
use Rattle.router_log.specs.declared.entry.Entry.TheVariants.{Learned, Asked, Retried, Answered, Changed, Solicited}
use Rattle.router_log.specs.declared.kept.EchoStart.{EchoStart}
use Rattle.router_log.specs.declared.kept.Probe.{Probe}
use Rattle.router_model.specs.Alone.{NumberedDecides, NumberedRequests, PartIsOne, RetriesApart, RetriesIsolated, TablesAlike}
use Rattle.router_model.specs.Apart.{asked_count, by_number, is_asked, number_of, numbered, numbered_entry}
use Rattle.router_model.specs.Cache.{begun_mapping, held_of, mapping_kind, mapping_step}
use Rattle.router_model.specs.Changes.{may_ask}
use Rattle.router_model.specs.Decide.{decide_by}
use Rattle.router_model.specs.Isolation.{AgreesIn, asked_in, counts_in, frame_instance, of_instance, told_of}
use Rattle.router_model.specs.Journal.{Journal, IsRising, at, changed, is_changed, last_moment}
use Rattle.router_model.specs.Kept.{Kind, any, counting, last_put, placed}
use Rattle.router_model.specs.Mappings.{force, live_mappings}
use Rattle.router_model.specs.Observed.{begun_probe, begun_start, begun_wish, observed, probe_kind, probe_step, probes, solicits, start_kind, start_step, starts, wish_kind, wishes}
use Rattle.router_model.specs.Parts.{Parts, Stands, standing_in, view_in}
use Rattle.router_model.specs.Requests.{begun_request, open_requests, request_kind, request_step}
use Rattle.router_model.specs.Site.{reaches_resolver}
use Rattle.router_model.specs.Standing.{changed_by, own_after, standing, standing_with}
use Rattle.router_model.specs.Tenants.{NoncesDiffer, asked_since}
use Rattle.router_model.specs.View.{seen_at, view}
use Rattle.router_model.proofs.EchoLemmas.{starts-scanned, wishes-scanned}
use Rattle.router_model.proofs.FollowLemmas.{table-decides}
use Rattle.router_model.proofs.InstanceLemmas.{agrees-decides, none-asks}
use Rattle.router_model.proofs.IsolationLemmas.{mine-rises, moment-isolated}
use Rattle.router_model.proofs.KeptLemmas.{filter_map-Some, scanned-counting}
use Rattle.router_model.proofs.KeyLemmas.{filter_map-alike}
use Rattle.router_model.proofs.MappingLemmas.{mappings-held, mappings-live}
use Rattle.router_model.proofs.PartsLemmas.{count-more}
use Rattle.router_model.proofs.ProbeLemmas.{probes-scanned}
use Rattle.router_model.proofs.RequestLemmas.{requests-open}
use Rattle.router_model.proofs.TenantLemmas.{Each, Known, all-known, requests-isolated, same-number, young-last, younger-later}

-- ### numbers

-- a request more
asked-more : (entry : Entry) (older : Journal) → cond (is_asked entry) 1 0 + asked_count older ≡ asked_count (entry ∷ older)
asked-more entry older = count-more is_asked entry older

-- no number is past the count of requests
number-within : (n : ℕ) (journal : Journal) → number_of n journal ≤ asked_count journal
number-within n [] = omega arith
number-within n (entry ∷ older) = by entry (number-within n older) (asked-more entry older)
  where
    by : (entry : Entry) → number_of n older ≤ asked_count older → cond (is_asked entry) 1 0 + asked_count older ≡ asked_count (entry ∷ older) → number_of n (entry ∷ older) ≤ asked_count (entry ∷ older)
    by (Asked moment eid source invoked k) h more = one (k == n)
      where
        one : (b : Bool) → cond b (suc (asked_count older)) (number_of n older) ≤ asked_count (Asked moment eid source invoked k ∷ older)
        one true = omega (arith, more)
        one false = omega (arith, h, more)
    by _ h more = omega (arith, h, more)

-- what was asked with has a number
number-some : (n iid : ℕ) (journal : Journal) → asked_in n journal ≡ Some iid → 0 < number_of n journal
number-some n iid [] is = cc
number-some n iid (entry ∷ older) is = by entry is (number-some n iid older)
  where
    by : (entry : Entry) → asked_in n (entry ∷ older) ≡ Some iid → (asked_in n older ≡ Some iid → 0 < number_of n older) → 0 < number_of n (entry ∷ older)
    by (Asked moment eid source invoked k) is h = one (k == n) is
      where
        one : (b : Bool) → cond b (Some eid.iid) (asked_in n older) ≡ Some iid → 0 < cond b (suc (asked_count older)) (number_of n older)
        one true is = omega arith
        one false is = h is
    by _ is h = h is

-- nonces with one number are one
number-one : (a b : ℕ) (journal : Journal) → 0 < number_of a journal → number_of a journal ≡ number_of b journal → a ≡ b
number-one a b [] some same = absurd (omega (arith, some))
number-one a b (entry ∷ older) some same = by entry some same (number-one a b older)
  where
    by : (entry : Entry) → 0 < number_of a (entry ∷ older) → number_of a (entry ∷ older) ≡ number_of b (entry ∷ older) → (0 < number_of a older → number_of a older ≡ number_of b older → a ≡ b) → a ≡ b
    by (Asked moment eid source invoked k) some same h = one (k == a) (k == b) refl refl some same
      where
        one : (c d : Bool) → (k == a) ≡ c → (k == b) ≡ d → 0 < cond c (suc (asked_count older)) (number_of a older) → cond c (suc (asked_count older)) (number_of a older) ≡ cond d (suc (asked_count older)) (number_of b older) → a ≡ b
        one true true here there some same = sym (eqb-true k a here) ∙ eqb-true k b there
        one true false here there some same = let most = number-within b older in absurd (omega (arith, same, most))
        one false true here there some same = let most = number-within a older in absurd (omega (arith, same, most))
        one false false here there some same = h some same
    by _ some same h = h some same

-- so numbers are tested as nonces are
number-tests : (a b : ℕ) (journal : Journal) → 0 < number_of a journal → (number_of a journal == number_of b journal) ≡ (a == b)
number-tests a b journal some = by (a == b) refl
  where
    by : (c : Bool) → (a == b) ≡ c → (number_of a journal == number_of b journal) ≡ c
    by true is = eq-eqb _ _ (ap (λ n. number_of n journal) (eqb-true a b is))
    by false is = ne_eqb _ _ (λ same. eqb-false a b is (number-one a b journal some same))

-- ### what numbers in place of nonces leave

-- of a kind of item whose entries have no nonce of a request, and are no SMRs
module _ {I : Type 0} (kind : Kind Entry I) (begins : (entry : Entry) (before : Journal) → kind.begins (numbered_entry entry before) ≡ kind.begins entry) (step : (entry : Entry) (before : Journal) (item : I) → kind.step (numbered_entry entry before) item ≡ kind.step entry item) (none : (moment : ℕ) (rloc : Addr) (eid : Eid) (nonce : ℕ) → kind.begins (Solicited moment rloc eid nonce) ≡ None) (same : (moment : ℕ) (rloc : Addr) (eid : Eid) (nonce : ℕ) (item : I) → kind.step (Solicited moment rloc eid nonce) item ≡ Some item) (test : I → Bool) where
  numbered-counting : (journal : Journal) → counting kind test (numbered journal) ≡ counting kind test journal
  numbered-counting [] = refl
  numbered-counting (entry ∷ older) = by entry (numbered-counting older)
    where
      kept : (entry : Entry) → counting kind test (numbered older) ≡ counting kind test older → counting kind test (numbered_entry entry older ∷ numbered older) ≡ counting kind test (entry ∷ older)
      kept entry h =
          ap (λ o. placed test kind.put o (filter_map (kind.step (numbered_entry entry older)) (counting kind test (numbered older)))) (begins entry older)
          ∙ ap (placed test kind.put (kind.begins entry)) (filter_map-alike _ _ (step entry older) (counting kind test (numbered older)) ∙ ap (filter_map (kind.step entry)) h)

      by : (entry : Entry) → counting kind test (numbered older) ≡ counting kind test older → counting kind test (numbered (entry ∷ older)) ≡ counting kind test (entry ∷ older)
      by (Solicited moment rloc eid nonce) h =
          h
          ∙ sym (ap (λ o. placed test kind.put o (filter_map (kind.step (Solicited moment rloc eid nonce)) (counting kind test older))) (none moment rloc eid nonce)
          ∙ filter_map-alike (kind.step (Solicited moment rloc eid nonce)) (λ item. Some item) (same moment rloc eid nonce) (counting kind test older)
          ∙ filter_map-Some (counting kind test older))
      by entry h = kept entry h

begun-mapping : (entry : Entry) (before : Journal) → begun_mapping (numbered_entry entry before) ≡ begun_mapping entry
begun-mapping (Learned moment mapping fixed) before = refl
begun-mapping _ before = refl

step-mapping : (entry : Entry) (before : Journal) (x : Mapping) → mapping_step (numbered_entry entry before) x ≡ mapping_step entry x
step-mapping (Learned moment mapping fixed) before x = refl
step-mapping _ before x = refl

begun-probe : (entry : Entry) (before : Journal) → begun_probe (numbered_entry entry before) ≡ begun_probe entry
begun-probe (Learned moment mapping fixed) before = refl
begun-probe _ before = refl

step-probe : (entry : Entry) (before : Journal) (x : Probe) → probe_step (numbered_entry entry before) x ≡ probe_step entry x
step-probe (Learned moment mapping fixed) before x = refl
step-probe _ before x = refl

begun-start : (entry : Entry) (before : Journal) → begun_start (numbered_entry entry before) ≡ begun_start entry
begun-start (Learned moment mapping fixed) before = refl
begun-start _ before = refl

step-start : (entry : Entry) (before : Journal) (x : EchoStart) → start_step (numbered_entry entry before) x ≡ start_step entry x
step-start (Learned moment mapping fixed) before x = refl
step-start _ before x = refl

begun-wish : (entry : Entry) (before : Journal) → begun_wish (numbered_entry entry before) ≡ begun_wish entry
begun-wish (Learned moment mapping fixed) before = refl
begun-wish _ before = refl

-- what is observed of locators, the SMRs as they were
abbrev pub observed_by : Journal → Observed
observed_by journal = record {
  probes = probes [] (numbered journal);
  starts = starts [] (numbered journal);
  wishes = wishes (numbered journal);
  solicits = solicits journal;
}

pub numbered-observed : (journal : Journal) → observed_by journal ≡ observed journal
numbered-observed journal = λ j. record {
  probes = (sym (probes-scanned [] all) ∙ scanned-counting begun_probe probe_step any all ∙ numbered-counting probe_kind begun-probe step-probe (λ moment rloc eid nonce. refl) (λ moment rloc eid nonce item. refl) any journal ∙ sym (scanned-counting begun_probe probe_step any journal) ∙ probes-scanned [] journal) j;
  starts = (sym (starts-scanned [] all) ∙ scanned-counting begun_start start_step any all ∙ numbered-counting start_kind begun-start step-start (λ moment rloc eid nonce. refl) (λ moment rloc eid nonce item. refl) any journal ∙ sym (scanned-counting begun_start start_step any journal) ∙ starts-scanned [] journal) j;
  wishes = (sym (wishes-scanned [] all) ∙ scanned-counting begun_wish (λ entry wish. Some wish) any all ∙ numbered-counting wish_kind begun-wish (λ entry before wish. refl) (λ moment rloc eid nonce. refl) (λ moment rloc eid nonce item. refl) any journal ∙ sym (scanned-counting begun_wish (λ entry wish. Some wish) any journal) ∙ wishes-scanned [] journal) j;
  solicits = solicits journal;
}
  where
    all : Journal
    all = numbered journal

-- the live mappings
pub numbered-live : (t : ℕ) (journal : Journal) → live_mappings t (numbered journal) ≡ live_mappings t journal
numbered-live t journal = counted (numbered journal) ∙ ap (map held_of) (numbered-counting mapping_kind begun-mapping step-mapping (λ moment rloc eid nonce. refl) (λ moment rloc eid nonce item. refl) (lasts t) journal) ∙ sym (counted journal)
  where
    counted : (journal : Journal) → live_mappings t journal ≡ map held_of (counting mapping_kind (lasts t) journal)
    counted journal = sym (mappings-held t journal) ∙ ap (map held_of) (sym (mappings-live t journal))

-- the settings that stand
module _ (settings : Settings) where
  same-own : (entry : Entry) (before : Journal) (locators : List OwnLocator) → changed_by (numbered_entry entry before) locators ≡ changed_by entry locators
  same-own (Changed moment address up) before locators = refl
  same-own _ before locators = refl

  same-steps : (entry : Entry) (before : Journal) → is_changed (numbered_entry entry before) ≡ is_changed entry
  same-steps (Changed moment address up) before = refl
  same-steps _ before = refl

  numbered-own : (journal : Journal) → own_after settings (numbered journal) ≡ own_after settings journal
  numbered-own [] = refl
  numbered-own (entry ∷ older) = by entry (numbered-own older)
    where
      by : (entry : Entry) → own_after settings (numbered older) ≡ own_after settings older → own_after settings (numbered (entry ∷ older)) ≡ own_after settings (entry ∷ older)
      by (Solicited moment rloc eid nonce) h = h
      by entry h = same-own entry older (own_after settings (numbered older)) ∙ ap (changed_by entry) h

  pub numbered-steps : (journal : Journal) → changed (numbered journal) ≡ changed journal
  numbered-steps [] = refl
  numbered-steps (entry ∷ older) = by entry (numbered-steps older)
    where
      by : (entry : Entry) → changed (numbered older) ≡ changed older → changed (numbered (entry ∷ older)) ≡ changed (entry ∷ older)
      by (Solicited moment rloc eid nonce) h = h
      by entry h =
          sym (count-more is_changed (numbered_entry entry older) (numbered older))
          ∙ ap₂ (λ b n. cond b 1 0 + n) (same-steps entry older) h
          ∙ count-more is_changed entry older

  pub numbered-standing : (journal : Journal) → standing settings (numbered journal) ≡ standing settings journal
  numbered-standing journal = λ j. standing_with settings (numbered-own journal j) (numbered-steps journal j)

-- and the count of requests
pub numbered-asked : (journal : Journal) → asked_count (numbered journal) ≡ asked_count journal
numbered-asked [] = refl
numbered-asked (entry ∷ older) = by entry (numbered-asked older)
  where
    same : (entry : Entry) → is_asked (numbered_entry entry older) ≡ is_asked entry
    same (Learned moment mapping fixed) = refl
    same _ = refl

    by : (entry : Entry) → asked_count (numbered older) ≡ asked_count older → asked_count (numbered (entry ∷ older)) ≡ asked_count (entry ∷ older)
    by (Solicited moment rloc eid nonce) h = h
    by entry h =
        sym (count-more is_asked (numbered_entry entry older) (numbered older))
        ∙ ap₂ (λ b n. cond b 1 0 + n) (same entry) h
        ∙ count-more is_asked entry older

-- ### decisions

numbered-agrees : (journal : Journal) (i now : ℕ) → AgreesIn i (seen_at journal now) (seen_at (numbered journal) now)
numbered-agrees journal i now = record {
  in_force = λ addr len. ap (λ l. force l i addr len) (sym (numbered-live now journal));
  up = λ rloc. ap (λ o. is_up now o rloc) (sym (numbered-observed journal));
  echo_out = λ rloc. ap (λ (o : Observed). echo_out now o.starts o.wishes rloc) (sym (numbered-observed journal));
  may_start = λ rloc. ap (λ (o : Observed). may_start now o.starts o.wishes rloc) (sym (numbered-observed journal));
}

pub numbered-decides : NumberedDecides
numbered-decides settings journal now frame =
    by (frame_instance (standing settings journal) frame) refl
    ∙ ap (λ s. decide_by s (seen_at (numbered journal) now) frame) (sym (numbered-standing settings journal))
  where
    by : (o : Option ℕ) → frame_instance (standing settings journal) frame ≡ o → decide_by (standing settings journal) (seen_at journal now) frame ≡ decide_by (standing settings journal) (seen_at (numbered journal) now) frame
    by None is = none-asks (standing settings journal) (seen_at journal now) (seen_at (numbered journal) now) frame is
    by (Some i) is = agrees-decides (standing settings journal) i (seen_at journal now) (seen_at (numbered journal) now) frame (numbered-agrees journal i now) is

pub tables-alike : TablesAlike
unfolding view
tables-alike settings one other mine theirs i m n frame stands stands' same moment is =
    by one mine m stands
    ∙ ap₂ (λ j now. decide_by (standing settings j) (seen_at j now) frame) same moment
    ∙ sym (by other theirs n stands')
  where
    by : (p : Parts) (journal : Journal) (k : ℕ) → Stands settings p journal → let j = numbered (of_instance journal i) in decide_by (standing_in settings p) (view_in p k) frame ≡ decide_by (standing settings j) (seen_at j (max k p.now)) frame
    by p journal k stands =
        table-decides settings p journal k frame stands
        ∙ moment-isolated settings journal i (at journal k) frame is
        ∙ numbered-decides settings (of_instance journal i) (at journal k) frame
        ∙ ap (λ (q : Parts). decide_by (standing settings (numbered (of_instance journal i))) (seen_at (numbered (of_instance journal i)) (max k q.now)) frame) (sym stands.whole)

-- ### requests

module _ (t : ℕ) where
  -- what the answer to a request, another one, or one sent again is to the numbers
  numbered-step : (entry : Entry) (older : Journal) (r : Request) → IsRising (entry ∷ older) → NoncesDiffer t (entry ∷ older) → Known t older r → request_step (numbered_entry entry older) (by_number older r) ≡ option_map (by_number (entry ∷ older)) (request_step entry r)
  numbered-step (Asked moment eid source invoked k) older r rising differ known =
      ap (λ b. cond b None (Some (by_number older r))) low
      ∙ ap (λ b. Some (bears (cond b (suc (asked_count older)) (number_of r.nonce older)))) (sym (nat_eq_equiv.symm k r.nonce ∙ new (r.nonce == k) refl))
      ∙ ap (λ b. option_map (by_number (Asked moment eid source invoked k ∷ older)) (cond b None (Some r))) (sym (new (r.nonce == k) refl))
    where
      bears : ℕ → Request
      bears n = record r { nonce = n }

      low : (number_of r.nonce older == suc (asked_count older)) ≡ false
      low = ne_eqb _ _ (λ same. let most = number-within r.nonce older in absurd (omega (arith, same, most)))

      new : (b : Bool) → (r.nonce == k) ≡ b → (r.nonce == k) ≡ false
      new false is = is
      new true is =
          let since = ap (λ n. asked_since t n older) (sym (eqb-true r.nonce k is)) ∙ known.1 in
          let young = younger-later t (last_moment older) moment rising.0 (young-last t k older rising.1 since) in
          let both : true ≡ false = sym (ap₂ (λ a b. a && b) young since) ∙ differ.0 in
          cc both
  numbered-step (Answered moment k) older r rising differ known =
      ap (λ b. cond b None (Some (by_number older r))) (number-tests r.nonce k older (number-some r.nonce r.eid.iid older known.0)) ∙ by (r.nonce == k)
    where
      by : (b : Bool) → cond b None (Some (by_number older r)) ≡ option_map (by_number (Answered moment k ∷ older)) (cond b None (Some r))
      by true = refl
      by false = refl
  numbered-step (Retried moment k) older r rising differ known =
      ap (λ b. Some (cond b (once_more (by_number older r)) (by_number older r))) (number-tests r.nonce k older (number-some r.nonce r.eid.iid older known.0)) ∙ by (r.nonce == k)
    where
      by : (b : Bool) → Some (cond b (once_more (by_number older r)) (by_number older r)) ≡ Some (by_number (Retried moment k ∷ older) (cond b (once_more r) r))
      by true = refl
      by false = refl
  numbered-step _ older r rising differ known = refl

  numbered-begun : (entry : Entry) (older : Journal) → begun_request (numbered_entry entry older) ≡ option_map (by_number (entry ∷ older)) (begun_request entry)
  numbered-begun (Asked moment eid source invoked k) older = ap (λ b. Some (bears (cond b (suc (asked_count older)) (number_of k older)))) (sym (same-number k))
    where
      bears : ℕ → Request
      bears n = record { eid = eid; source = source; invoked = invoked; nonce = n; start = moment; sent_again = 0 }
  numbered-begun _ older = refl

  -- put at the end by its number
  numbered-placed : (journal : Journal) (o : Option Request) (l : List Request) → placed (is_waiting t) last_put (option_map (by_number journal) o) (map (by_number journal) l) ≡ map (by_number journal) (placed (is_waiting t) last_put o l)
  numbered-placed journal None l = refl
  numbered-placed journal (Some r) l = by (is_waiting t r)
    where
      by : (b : Bool) → cond b (map (by_number journal) l ++ by_number journal r ∷ []) (map (by_number journal) l) ≡ map (by_number journal) (cond b (l ++ r ∷ []) l)
      by true = sym (map-append (by_number journal) l (r ∷ []))
      by false = refl

  differ-older : (entry : Entry) (older : Journal) → NoncesDiffer t (entry ∷ older) → NoncesDiffer t older
  differ-older (Asked moment eid source invoked k) older differ = differ.1
  differ-older _ older differ = differ

  numbered-waiting : (journal : Journal) → IsRising journal → NoncesDiffer t journal → counting request_kind (is_waiting t) (numbered journal) ≡ map (by_number journal) (counting request_kind (is_waiting t) journal)
  numbered-waiting [] rising differ = refl
  numbered-waiting (entry ∷ older) rising differ = by entry rising differ (numbered-waiting older rising.1 (differ-older entry older differ))
    where
      all : List Request
      all = counting request_kind (is_waiting t) older

      steps : (entry : Entry) → IsRising (entry ∷ older) → NoncesDiffer t (entry ∷ older) → (l : List Request) → Each (Known t older) l → filter_map (request_step (numbered_entry entry older)) (map (by_number older) l) ≡ map (by_number (entry ∷ older)) (filter_map (request_step entry) l)
      steps entry rising differ [] each = refl
      steps entry rising differ (r ∷ l) each = ap₂ (λ o rest. cons_option o rest) (numbered-step entry older r rising differ each.0) (steps entry rising differ l each.1) ∙ one (request_step entry r)
        where
          one : (o : Option Request) → cons_option (option_map (by_number (entry ∷ older)) o) (map (by_number (entry ∷ older)) (filter_map (request_step entry) l)) ≡ map (by_number (entry ∷ older)) (cons_option o (filter_map (request_step entry) l))
          one None = refl
          one (Some s) = refl

      by : (entry : Entry) → IsRising (entry ∷ older) → NoncesDiffer t (entry ∷ older) → counting request_kind (is_waiting t) (numbered older) ≡ map (by_number older) all → counting request_kind (is_waiting t) (numbered (entry ∷ older)) ≡ map (by_number (entry ∷ older)) (counting request_kind (is_waiting t) (entry ∷ older))
      by (Solicited moment rloc eid nonce) rising differ h = h ∙ ap (map (by_number older)) (sym (filter_map-Some all))
      by entry rising differ h =
          ap₂ (placed (is_waiting t) last_put) (numbered-begun entry older)
          (ap (filter_map (request_step (numbered_entry entry older))) h ∙ steps entry rising differ all (all-known t older))
          ∙ numbered-placed (entry ∷ older) (begun_request entry) (filter_map (request_step entry) all)

pub numbered-requests : NumberedRequests
numbered-requests journal now rising differ =
    sym (requests-open now (numbered journal)) ∙ numbered-waiting now journal rising differ ∙ ap (map (by_number journal)) (requests-open now journal)

-- that with a number is the one with the nonce
pub numbered-nonce : (now n : ℕ) (journal : Journal) → IsRising journal → NoncesDiffer now journal → with_nonce (open_requests now (numbered journal)) (number_of n journal) ≡ option_map (by_number journal) (with_nonce (open_requests now journal) n)
numbered-nonce now n journal rising differ =
    ap (λ l. with_nonce l (number_of n journal)) (numbered-requests journal now rising differ)
    ∙ found (open_requests now journal) (subst (Each (Known now journal)) (requests-open now journal) (all-known now journal))
  where
    found : (l : List Request) → Each (Known now journal) l → with_nonce (map (by_number journal) l) (number_of n journal) ≡ option_map (by_number journal) (with_nonce l n)
    found [] each = refl
    found (r ∷ l) each =
        ap (λ b. cond b (Some (by_number journal r)) (with_nonce (map (by_number journal) l) (number_of n journal))) (number-tests r.nonce n journal (number-some r.nonce r.eid.iid journal each.0.0))
        ∙ by (r.nonce == n) (found l each.1)
      where
        by : (b : Bool) → with_nonce (map (by_number journal) l) (number_of n journal) ≡ option_map (by_number journal) (with_nonce l n) → cond b (Some (by_number journal r)) (with_nonce (map (by_number journal) l) (number_of n journal)) ≡ option_map (by_number journal) (cond b (Some r) (with_nonce l n))
        by true h = refl
        by false h = h

covered-numbered : (journal : Journal) (eid : Eid) (l : List Request) → covered (map (by_number journal) l) eid ≡ covered l eid
covered-numbered journal eid [] = refl
covered-numbered journal eid (r ∷ l) = ap (λ b. covers_eid r.eid eid || b) (covered-numbered journal eid l)

open_in-numbered : (journal : Journal) (iid : ℕ) (l : List Request) → open_in iid (map (by_number journal) l) ≡ open_in iid l
open_in-numbered journal iid [] = refl
open_in-numbered journal iid (r ∷ l) =
    sym (count-more (λ (x : Request). x.eid.iid == iid) (by_number journal r) (map (by_number journal) l))
    ∙ ap (λ n. cond (r.eid.iid == iid) 1 0 + n) (open_in-numbered journal iid l)
    ∙ count-more (λ (x : Request). x.eid.iid == iid) r l

-- an EID may be asked for by numbers as by nonces
pub may_ask-numbered : (settings : Settings) (limits : List LimitItem) (now : ℕ) (journal : Journal) (eid : Eid) → IsRising journal → NoncesDiffer now journal → may_ask settings limits (seen_at journal now) eid ≡ may_ask settings limits (seen_at (numbered journal) now) eid
may_ask-numbered settings limits now journal eid rising differ =
    ap₂ (λ a n. reaches_resolver settings && (not a && nat_lt n (requests_in limits eid.iid)))
    (sym (covered-numbered journal eid (open_requests now journal)) ∙ ap (λ l. covered l eid) (sym (numbered-requests journal now rising differ)))
    (sym (open_in-numbered journal eid.iid (open_requests now journal)) ∙ ap (open_in eid.iid) (sym (numbered-requests journal now rising differ)))

-- ### the journal of an instance

since-mine : (i now n : ℕ) (journal : Journal) → asked_since now n (of_instance journal i) ≡ true → asked_since now n journal ≡ true
since-mine i now n [] is = is
since-mine i now n (entry ∷ older) is = by (counts_in i (told_of entry older)) is (since-mine i now n older)
  where
    more : (entry : Entry) → asked_since now n older ≡ true → asked_since now n (entry ∷ older) ≡ true
    more (Asked moment eid source invoked k) is = one ((k == n) && younger now 7 moment)
      where
        one : (b : Bool) → (b || asked_since now n older) ≡ true
        one true = refl
        one false = is
    more _ is = is

    kept : (entry : Entry) → asked_since now n (entry ∷ of_instance older i) ≡ true → (asked_since now n (of_instance older i) ≡ true → asked_since now n older ≡ true) → asked_since now n (entry ∷ older) ≡ true
    kept (Asked moment eid source invoked k) is h = one ((k == n) && younger now 7 moment) is
      where
        one : (b : Bool) → (b || asked_since now n (of_instance older i)) ≡ true → (b || asked_since now n older) ≡ true
        one true is = refl
        one false is = h is
    kept _ is h = h is

    by : (b : Bool) → asked_since now n (cond b (entry ∷ of_instance older i) (of_instance older i)) ≡ true → (asked_since now n (of_instance older i) ≡ true → asked_since now n older ≡ true) → asked_since now n (entry ∷ older) ≡ true
    by true is h = kept entry is h
    by false is h = more entry (h is)

-- no two young requests of it share a nonce either
pub mine-differ : (i now : ℕ) (journal : Journal) → NoncesDiffer now journal → NoncesDiffer now (of_instance journal i)
mine-differ i now [] differ = tt
mine-differ i now (entry ∷ older) differ = by (counts_in i (told_of entry older)) (mine-differ i now older (differ-older now entry older differ))
  where
    kept : (entry : Entry) → NoncesDiffer now (entry ∷ older) → NoncesDiffer now (of_instance older i) → NoncesDiffer now (entry ∷ of_instance older i)
    kept (Asked moment eid source invoked k) differ h = (one (younger now 7 moment) (asked_since now k (of_instance older i)) refl differ.0, h)
      where
        one : (b c : Bool) → asked_since now k (of_instance older i) ≡ c → (b && asked_since now k older) ≡ false → (b && c) ≡ false
        one false c is apart = refl
        one true false is apart = refl
        one true true is apart = cc (since-mine i now k older is, apart)
    kept _ differ h = h

    by : (b : Bool) → NoncesDiffer now (of_instance older i) → NoncesDiffer now (cond b (entry ∷ of_instance older i) (of_instance older i))
    by true h = kept entry differ h
    by false h = h

module _ (i : ℕ) where
  -- what was asked in it is of the instance
  asked-mine : (n : ℕ) (journal : Journal) → counts_in i (asked_in n (of_instance journal i)) ≡ true
  asked-mine n [] = refl
  asked-mine n (entry ∷ older) = by (counts_in i (told_of entry older)) refl (asked-mine n older)
    where
      kept : (entry : Entry) → counts_in i (told_of entry older) ≡ true → counts_in i (asked_in n (of_instance older i)) ≡ true → counts_in i (asked_in n (entry ∷ of_instance older i)) ≡ true
      kept (Asked moment eid source invoked k) is h = one (k == n)
        where
          one : (b : Bool) → counts_in i (cond b (Some eid.iid) (asked_in n (of_instance older i))) ≡ true
          one true = is
          one false = h
      kept _ is h = h

      by : (b : Bool) → counts_in i (told_of entry older) ≡ b → counts_in i (asked_in n (of_instance older i)) ≡ true → counts_in i (asked_in n (cond b (entry ∷ of_instance older i) (of_instance older i))) ≡ true
      by true is h = kept entry is h
      by false is h = h

  told-mine : (entry : Entry) (older : Journal) → counts_in i (told_of entry older) ≡ true → counts_in i (told_of entry (of_instance older i)) ≡ true
  told-mine (Retried moment n) older is = asked-mine n older
  told-mine (Answered moment n) older is = asked-mine n older
  told-mine (Learned moment mapping fixed) older is = is
  told-mine _ older is = is

  -- its own part is the whole of it
  mine-twice : (journal : Journal) → of_instance (of_instance journal i) i ≡ of_instance journal i
  mine-twice [] = refl
  mine-twice (entry ∷ older) = by (counts_in i (told_of entry older)) refl (mine-twice older)
    where
      by : (b : Bool) → counts_in i (told_of entry older) ≡ b → of_instance (of_instance older i) i ≡ of_instance older i → of_instance (cond b (entry ∷ of_instance older i) (of_instance older i)) i ≡ cond b (entry ∷ of_instance older i) (of_instance older i)
      by true is h =
          ap (λ b. cond b (entry ∷ of_instance (of_instance older i) i) (of_instance (of_instance older i) i)) (told-mine entry older is)
          ∙ ap (λ j. entry ∷ j) h
      by false is h = h

pub part-is-one : PartIsOne
part-is-one journal i = ap numbered (sym (mine-twice i journal))

-- ### retries

filter-swap : {A : Type 0} (f g : A → Bool) (l : List A) → filter f (filter g l) ≡ filter g (filter f l)
filter-swap f g [] = refl
filter-swap {A} f g (a ∷ l) = by (f a) (g a) refl refl (filter-swap f g l)
  where
    by : (b c : Bool) → f a ≡ b → g a ≡ c → filter f (filter g l) ≡ filter g (filter f l) → filter f (cond c (a ∷ filter g l) (filter g l)) ≡ filter g (cond b (a ∷ filter f l) (filter f l))
    by true true is has h = rw (is, has) (ap (λ l. a ∷ l) h)
    by true false is has h = rw has h
    by false true is has h = rw is h
    by false false is has h = h

filter-due : (now : ℕ) (journal : Journal) (l : List Request) → map (by_number journal) (filter (due now) l) ≡ filter (due now) (map (by_number journal) l)
filter-due now journal [] = refl
filter-due now journal (r ∷ l) = by (due now r) (filter-due now journal l)
  where
    by : (b : Bool) → map (by_number journal) (filter (due now) l) ≡ filter (due now) (map (by_number journal) l) → map (by_number journal) (cond b (r ∷ filter (due now) l) (filter (due now) l)) ≡ cond b (by_number journal r ∷ filter (due now) (map (by_number journal) l)) (filter (due now) (map (by_number journal) l))
    by true h = ap (λ l. by_number journal r ∷ l) h
    by false h = h

pub retries-isolated : RetriesIsolated
retries-isolated journal i now rising differ =
    filter-swap (λ (r : Request). r.eid.iid == i) (due now) (open_requests now journal)
    ∙ ap (filter (due now)) (requests-isolated journal i now rising differ)

pub retries-apart : RetriesApart
retries-apart mine theirs i now rising differ same =
    by mine rising.0 differ.0 ∙ ap (λ j. filter (due now) (open_requests now j)) same ∙ sym (by theirs rising.1 differ.1)
  where
    by : (journal : Journal) → IsRising journal → NoncesDiffer now journal → map (by_number (of_instance journal i)) (filter (due now) (open_requests now (of_instance journal i))) ≡ filter (due now) (open_requests now (numbered (of_instance journal i)))
    by journal rising differ =
        filter-due now (of_instance journal i) (open_requests now (of_instance journal i))
        ∙ ap (filter (due now)) (sym (numbered-requests (of_instance journal i) now (mine-rises i journal rising) (mine-differ i now journal differ)))
