-- The parts of a journal answer as its scans, and an entry makes of them the parts of the journal with it.
use Rattle.std.proofs.Common.{◌≡◌, ℕ, suc, ◌+◌, ◌^◌, ◌≤◌, ◌==◌, ◌||◌, ◌&&◌, not, nat_lt, nat_le, Bool, true, false, cond, List, [], ◌∷◌, length, slice_get, option_map, is_none, is_some, filter, map, refl, sym, ap, ap₂, ◌∙◌, arith}
use Rattle.std.specs.List.{count_by, list_any}
use Rattle.std.proofs.lemmas.Bool.Decides.{nat_tests}
use Rattle.std.proofs.lemmas.List.Sums.{length-filter}
use Rattle.ip_headers.specs.declared.addr.Addr.{Addr}
use Rattle.mapping_records.specs.declared.eid.Eid.{Eid}
use Rattle.lisp_settings.specs.Instances.{limits_in}
use Rattle.lisp_settings.specs.Nonces.{nonce_of}
use Rattle.lisp_settings.specs.declared.settings.Settings.{Settings}
use Rattle.router_log.specs.declared.entry.Entry.{Entry}
use Rattle.router_log.specs.declared.kept.EchoStart.{EchoStart}
use Rattle.router_log.specs.declared.kept.EchoWish.{EchoWish}
use Rattle.router_log.specs.declared.kept.Probe.{Probe}
use Rattle.router_model.specs.Cache.{held_of, kept_mappings, mapping_kind}
use Rattle.map_cache.specs.Cache.{lasts}
use Rattle.mapping_records.specs.Eids.{same_address}
use Rattle.router_model.specs.Journal.{Journal, IsRising, at, changed, drawn, is_changed, last_moment, moment_of, uses_nonce}
use Rattle.router_log.specs.Moments.{younger}
use Rattle.router_model.specs.Kept.{absorb}
use Rattle.locator_state.specs.Echoes.{answer_or, ask_or_plain, echo_on, echo_up, echo_wanted, is_deaf, is_on, is_other, may_start, may_want, start_counts, wish_counts}
use Rattle.locator_state.specs.Lists.{last_where, only_if}
use Rattle.locator_state.specs.Observed.{Observed, recent}
use Rattle.locator_state.specs.Solicits.{is_of, may_solicit, solicit_counts}
use Rattle.router_model.specs.Mappings.{live_mappings}
use Rattle.locator_state.specs.Probes.{is_judged, probe_counts, probe_up, up_by}
use Rattle.router_model.specs.Observed.{observed, observing, probe_kind, solicit_kind, start_kind, wish_kind}
use Rattle.router_model.specs.Parts.{absorbed, admits, parts_in, view_at, view_in, with_entry}
use Rattle.router_model.specs.Proper.{MayChange, fits, has_nonce, is_admitted, suits}
use Rattle.router_model.specs.Requests.{open_requests, request_kind}
use Rattle.request_queue.specs.Queue.{is_waiting}
use Rattle.router_model.specs.Standing.{has_change, own_after}
use Rattle.router_model.specs.View.{Agrees, view, view_of}
use Rattle.router_model.proofs.AgedLemmas.{last-kept, last-within, younger-wide}
use Rattle.router_model.proofs.EchoLemmas.{solicits-counting, solicits-keep, started_at, starts-counting, starts-keep, starts-rise, wished_at, wishes-counting, wishes-keep, wishes-rise}
use Rattle.router_model.proofs.KeptLemmas.{absorb-counting, filter-filter, purge-counting, purges}
use Rattle.router_model.proofs.MappingLemmas.{mappings-held, mappings-keep, mappings-live}
use Rattle.router_model.proofs.ProbeLemmas.{begun_at, probes-counting, probes-keep, probes-rise, unjudged-counts, up-counting}
use Rattle.router_model.proofs.RequestLemmas.{requests-keep, requests-open}
use Rattle.router_model.proofs.StandingLemmas.{next-may}
use Rattle.router_model.proofs.ViewLemmas.{agrees-equal}

-- ### a list without what a test refuses, asked by a narrower one

module _ {A : Type 0} (wide narrow : A → Bool) (within : (a : A) → narrow a ≡ true → wide a ≡ true) where
  pub any-within : (items : List A) → list_any narrow (filter wide items) ≡ list_any narrow items
  any-within [] = refl
  any-within (a ∷ items) = by (wide a) (narrow a) refl refl (any-within items)
    where
      by : (b c : Bool) → wide a ≡ b → narrow a ≡ c → list_any narrow (filter wide items) ≡ list_any narrow items → list_any narrow (cond b (a ∷ filter wide items) (filter wide items)) ≡ (c || list_any narrow items)
      by true c w n h = rw (n, h) refl
      by false true w n h = cc (within a n)
      by false false w n h = h

  pub count-within : (items : List A) → count_by narrow (filter wide items) ≡ count_by narrow items
  count-within items =
      sym (length-filter narrow (filter wide items)) ∙ ap length (filter-filter wide narrow within items) ∙ length-filter narrow items

-- one item more
pub count-more : {A : Type 0} (test : A → Bool) (a : A) (items : List A) → cond (test a) 1 0 + count_by test items ≡ count_by test (a ∷ items)
count-more {A} test a items = ap (λ n. cond (test a) 1 0 + n) (sym (length-filter test items)) ∙ by (test a) ∙ length-filter test (a ∷ items)
  where
    by : (b : Bool) → cond b 1 0 + length (filter test items) ≡ length (cond b (a ∷ filter test items) (filter test items))
    by true = omega arith
    by false = omega arith

pub and_both : (a b : Bool) → (a && b) ≡ true → (a ≡ true) × (b ≡ true)
and_both true b is = (refl, is)
and_both false b is = (cc, cc)

-- ### the answers of the parts

module _ (journal : Journal) (rising : IsRising journal) (t : ℕ) (later : last_moment journal ≤ t) where
  abbrev s : ℕ
  s = last_moment journal

  abbrev all : Observed
  all = observed journal

  abbrev left : Observed
  left = recent s all

  mappings-now : map held_of (filter (lasts t) (kept_mappings s journal)) ≡ live_mappings t journal
  mappings-now =
      ap (λ l. map held_of (filter (lasts t) l)) (sym (mappings-live s journal))
      ∙ ap (map held_of) (purge-counting mapping_kind (lasts s) (lasts t) (purges mappings-keep s t later) journal ∙ mappings-live t journal)
      ∙ mappings-held t journal

  pub requests-now : filter (is_waiting t) (open_requests s journal) ≡ open_requests t journal
  requests-now =
      ap (filter (is_waiting t)) (sym (requests-open s journal))
      ∙ purge-counting request_kind (is_waiting s) (is_waiting t) (purges requests-keep s t later) journal
      ∙ requests-open t journal

  -- the last probe that passes a test, if a narrower test passes
  probe-is : (narrow test : Probe → Bool) → ((p : Probe) → narrow p ≡ true → probe_counts s p ≡ true) → only_if narrow (last_where test left.probes) ≡ only_if narrow (last_where test all.probes)
  probe-is narrow test within = last-within begun_at 600 s narrow test within all.probes (probes-rise journal rising)

  probe_up-is : (rloc : Addr) → probe_up t left.probes rloc ≡ probe_up t all.probes rloc
  probe_up-is rloc =
      ap (up_by t) (last-kept begun_at 600 s (λ p. same_address p.rloc rloc && is_judged t p) all.probes (probes-rise journal rising))
      ∙ up-counting s t later (last_where (λ p. same_address p.rloc rloc && is_judged t p) all.probes)

  start-is : (narrow : EchoStart → Bool) → ((e : EchoStart) → narrow e ≡ true → start_counts s e ≡ true) → (rloc : Addr) → only_if narrow (last_where (λ e. same_address e.rloc rloc) left.starts) ≡ only_if narrow (last_where (λ e. same_address e.rloc rloc) all.starts)
  start-is narrow within rloc = last-within started_at 60 s narrow (λ e. same_address e.rloc rloc) within all.starts (starts-rise journal rising)

  on-within : (e : EchoStart) → is_on t e ≡ true → start_counts s e ≡ true
  on-within e is = younger-wide 10 60 s t e.moment later (omega arith) (and_both (younger t 10 e.moment) _ is).0

  due-within : (e : EchoStart) → (is_on t e && not e.came) ≡ true → start_counts s e ≡ true
  due-within e is = on-within e (and_both (is_on t e) _ is).0

  deaf-within : (e : EchoStart) → is_deaf t e ≡ true → start_counts s e ≡ true
  deaf-within e is = younger-wide 60 60 s t e.moment later (omega arith) (and_both (younger t 60 e.moment) _ (and_both (not (younger t 10 e.moment)) _ is).1).0

  echo_on-is : (rloc : Addr) → echo_on t left.starts rloc ≡ echo_on t all.starts rloc
  echo_on-is rloc = ap (option_map (λ (e : EchoStart). e.nonce)) (start-is (is_on t) on-within rloc)

  echo_up-is : (rloc : Addr) → echo_up t left.starts rloc ≡ echo_up t all.starts rloc
  echo_up-is rloc = ap is_none (start-is (is_deaf t) deaf-within rloc)

  wanted-is : (rloc : Addr) → echo_wanted t left.wishes rloc ≡ echo_wanted t all.wishes rloc
  wanted-is rloc =
      ap (option_map (λ (w : EchoWish). w.nonce))
      (last-within wished_at 2 s (wish_counts t) (λ w. same_address w.rloc rloc) (λ w. wishes-keep.ages s t later w) all.wishes (wishes-rise journal rising))

  start_count-is : count_by (start_counts t) left.starts ≡ count_by (start_counts t) all.starts
  start_count-is = count-within (start_counts s) (start_counts t) (λ e. starts-keep.ages s t later e) all.starts

  may_start-is : (rloc : Addr) → may_start t left.starts left.wishes rloc ≡ may_start t all.starts all.wishes rloc
  may_start-is rloc = λ i.
      not (any-within (start_counts s) (λ e. same_address e.rloc rloc && start_counts t e) (λ e is. starts-keep.ages s t later e (and_both (same_address e.rloc rloc) _ is).1) all.starts i)
      && (is_none (wanted-is rloc i) && nat_lt (start_count-is i) 4096)

  may_want-is : (rloc : Addr) (nonce : ℕ) → may_want t left.wishes rloc nonce ≡ may_want t all.wishes rloc nonce
  may_want-is rloc nonce = λ i.
      is_other nonce (wanted-is rloc i)
      && nat_lt (count-within (wish_counts s) (wish_counts t) (λ w. wishes-keep.ages s t later w) all.wishes i) 4096

  may_solicit-is : (rloc : Addr) (eid : Eid) → may_solicit t left.solicits rloc eid ≡ may_solicit t all.solicits rloc eid
  may_solicit-is rloc eid = λ i.
      not (any-within (solicit_counts s) (λ old. is_of rloc eid old && solicit_counts t old) (λ old is. solicits-keep.ages s t later old (and_both (is_of rloc eid old) _ is).1) all.solicits i)
      && nat_lt (count-within (solicit_counts s) (solicit_counts t) (λ old. solicits-keep.ages s t later old) all.solicits i) 4096

  agrees : (settings : Settings) → Agrees (view_at (parts_in settings journal) t) (view_of t (live_mappings t journal) (open_requests t journal) all (drawn journal))
  agrees settings = record {
    now = refl;
    mappings = mappings-now;
    requests = requests-now;
    probe_open = λ nonce. ap (option_map (λ (p : Probe). p.rloc)) (probe-is (λ p. not (is_judged t p)) (λ p. p.nonce == nonce) (unjudged-counts s t later));
    last_probe = λ rloc. ap (option_map (λ (p : Probe). p.moment)) (probe-is (probe_counts t) (λ p. same_address p.rloc rloc) (λ p. probes-keep.ages s t later p));
    probe_count = count-within (probe_counts s) (probe_counts t) (λ p. probes-keep.ages s t later p) all.probes;
    up = λ rloc. ap₂ (λ a b. a && b) (probe_up-is rloc) (echo_up-is rloc);
    echo_on = echo_on-is;
    data_due = λ rloc. ap is_some (start-is (λ e. is_on t e && not e.came) due-within rloc);
    echo_out = λ rloc. ap₂ (λ a b. answer_or (ask_or_plain a) b) (echo_on-is rloc) (wanted-is rloc);
    may_start = may_start-is;
    may_want = may_want-is;
    may_solicit = may_solicit-is;
    drawn = refl;
  }

-- the parts of a journal are seen as the journal, at each moment
pub answers : (settings : Settings) (journal : Journal) (m : ℕ) → IsRising journal → view_in (parts_in settings journal) m ≡ view journal m
unfolding view view_in
answers settings journal m rising = agrees-equal (agrees journal rising (at journal m) (omega arith) settings)

-- ### one entry more

module _ (settings : Settings) (journal : Journal) (entry : Entry) (later : last_moment journal ≤ moment_of entry) where
  abbrev m : ℕ
  m = moment_of entry

  abbrev before : ℕ
  before = last_moment journal

  observed-with : observing m entry (recent before (observed journal)) ≡ recent m (observed (entry ∷ journal))
  observed-with = λ i. record {
    probes = (ap (absorb probe_kind (probe_counts m) entry) (probes-counting before journal) ∙ absorb-counting probe_kind (probe_counts before) (probe_counts m) (purges probes-keep before m later) entry journal ∙ sym (probes-counting m (entry ∷ journal))) i;
    starts = (ap (absorb start_kind (start_counts m) entry) (starts-counting before journal) ∙ absorb-counting start_kind (start_counts before) (start_counts m) (purges starts-keep before m later) entry journal ∙ sym (starts-counting m (entry ∷ journal))) i;
    wishes = (ap (absorb wish_kind (wish_counts m) entry) (wishes-counting before journal) ∙ absorb-counting wish_kind (wish_counts before) (wish_counts m) (purges wishes-keep before m later) entry journal ∙ sym (wishes-counting m (entry ∷ journal))) i;
    solicits = (ap (absorb solicit_kind (solicit_counts m) entry) (solicits-counting before journal) ∙ absorb-counting solicit_kind (solicit_counts before) (solicit_counts m) (purges solicits-keep before m later) entry journal ∙ sym (solicits-counting m (entry ∷ journal))) i;
  }

  -- its effect, kind by kind
  pub with-entry : with_entry entry (parts_in settings journal) ≡ parts_in settings (entry ∷ journal)
  with-entry = λ i. record {
    count = suc (length journal);
    drawn = count-more uses_nonce entry journal i;
    now = m;
    own = own_after settings (entry ∷ journal);
    steps = count-more is_changed entry journal i;
    mappings = (ap (absorb mapping_kind (lasts m) entry) (sym (mappings-live before journal)) ∙ absorb-counting mapping_kind (lasts before) (lasts m) (purges mappings-keep before m later) entry journal ∙ mappings-live m (entry ∷ journal)) i;
    requests = (ap (absorb request_kind (is_waiting m) entry) (sym (requests-open before journal)) ∙ absorb-counting request_kind (is_waiting before) (is_waiting m) (purges requests-keep before m later) entry journal ∙ requests-open m (entry ∷ journal)) i;
    observed = observed-with i;
    limits = limits_in settings;
  }

-- ### an entry that fits

lowest : (a b : ℕ) → nat_le a b ≡ true → a ≤ b
lowest a b is = grind (arith, nat_tests)

module _ (settings : Settings) (journal : Journal) (entry : Entry) (fit : fits settings journal entry ≡ true) where
  admitted : is_admitted (limits_in settings) (length journal) (last_moment journal) (view journal (moment_of entry)) entry ≡ true
  unfolding fits
  admitted = (and_both (is_admitted (limits_in settings) (length journal) (last_moment journal) (view journal (moment_of entry)) entry) _ fit).0

  -- its moment isn't before the last one
  pub not-before : last_moment journal ≤ moment_of entry
  not-before = lowest (last_moment journal) (moment_of entry) (and_both (nat_lt (length journal) (2 ^ 62)) _ (and_both (nat_lt (length journal) (2 ^ 62) && nat_le (last_moment journal) (moment_of entry)) _ admitted).0).1

  -- it suits what is seen
  pub fits-suits : suits (limits_in settings) (view journal (moment_of entry)) entry ≡ true
  fits-suits = (and_both (nat_lt (length journal) (2 ^ 62) && nat_le (last_moment journal) (moment_of entry)) _ admitted).1

  -- of a change it has the next one
  pub fits-change : has_change (slice_get settings.changes (changed journal)) entry ≡ true
  unfolding fits
  fits-change = (and_both (has_nonce (nonce_of settings.seed settings.nonces (drawn journal)) entry) _ (and_both (is_admitted (limits_in settings) (length journal) (last_moment journal) (view journal (moment_of entry)) entry) _ fit).1).1

  -- the parts admit it
  pub is-admitted : MayChange settings → IsRising journal → admits (parts_in settings journal) entry ≡ true
  unfolding admits
  is-admitted may rising =
      ap₂ (λ a b. a && b)
      (ap (λ v. is_admitted (limits_in settings) (length journal) (last_moment journal) v entry) (answers settings journal (moment_of entry) rising) ∙ admitted)
      (next-may settings journal entry may fits-change)

  -- and so makes of the parts those of the journal with it
  pub is-absorbed : MayChange settings → IsRising journal → absorbed (parts_in settings journal) entry ≡ parts_in settings (entry ∷ journal)
  unfolding absorbed
  is-absorbed may rising = ap (λ b. cond b (with_entry entry (parts_in settings journal)) (parts_in settings journal)) (is-admitted may rising) ∙ with-entry settings journal entry not-before
