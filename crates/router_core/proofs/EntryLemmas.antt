-- What an entry makes of the lists of a table.
use Rattle.std.proofs.Common.{◌≡◌, ℕ, suc, ◌+◌, ◌-◌, ◌*◌, ◌<◌, ◌==◌, ◌||◌, not, nat_lt, Bool, true, false, cond, List, [], ◌∷◌, ◌++◌, filter, filter_map, map, Option, Some, None, Result, Ok, Err, OnOk, is_err, refl, sym, ap, ap₂, ◌∙◌, arith}
use Rattle.std.specs.List.{cons_option}
use Rattle.std.proofs.lemmas.Bool.Decides.{nat_tests}
use Rattle.ip_headers.specs.declared.addr.Addr.{Addr}
use Rattle.mapping_records.specs.Eids.{same_eid}
use Rattle.mapping_records.specs.Orders.{eid_order, put_in_order}
use Rattle.mapping_records.specs.declared.eid.Eid.{Eid}
use Rattle.mapping_records.specs.declared.record.Record.{Record}
use Rattle.map_cache.specs.Cache.{bits_told, fresh, lasting, lasts, learned, lifetime, told_mapping, without_eid}
use Rattle.lisp_settings.specs.declared.settings.LimitItem.{LimitItem}
use Rattle.lisp_settings.specs.declared.settings.OwnLocator.{OwnLocator}
use Rattle.map_cache.specs.declared.mapping.Mapping.{Mapping}
use Rattle.locator_state.specs.Echoes.{come_from, counting_starts, counting_wishes, data_from, echo_heard, echo_started, hear_from, start_counts, wanted, wish_counts}
use Rattle.locator_state.specs.Observed.{Observed, recent, with_probes, with_solicits, with_starts, with_wishes}
use Rattle.locator_state.specs.Probes.{counting_probes, probe_answered, probe_counts, probed, settle_with}
use Rattle.locator_state.specs.Solicits.{counting_solicits, solicit_counts, solicited}
use Rattle.request_queue.specs.Queue.{asked, is_waiting, once_more, sent_again, waiting, without_nonce}
use Rattle.request_queue.specs.declared.request.Request.{Request}
use Rattle.router_log.specs.declared.entry.Entry.TheVariants.{Answered, Asked, Bits, DataFrom, EchoHeard, EchoStarted, EchoWanted, Learned, ProbeAnswered, Probed, Retried, Solicited, Changed}
use Rattle.router_log.specs.declared.entry.Entry.{Entry}
use Rattle.router_log.specs.declared.kept.EchoStart.{EchoStart}
use Rattle.router_log.specs.declared.kept.EchoWish.{EchoWish}
use Rattle.router_log.specs.declared.kept.Probe.{Probe}
use Rattle.router_log.specs.declared.kept.Solicitation.{Solicitation}
use Rattle.router_log.specs.declared.kept.ProbeState.TheVariants as state
use Rattle.router_log.specs.declared.kept.ProbeState.TheVariants.{Open, Lost}
use Rattle.router_model.specs.Observed.{observing, probe_kind, solicit_kind, start_kind, wish_kind}
use Rattle.router_model.specs.Cache.{mapping_kind, mapping_step}
use Rattle.router_model.specs.Kept.{absorb}
use Rattle.router_model.specs.Parts.{Parts, with_entry}
use Rattle.router_model.specs.Requests.{request_kind, request_step}
use Rattle.router_model.specs.Standing.{changing}

-- the parts of a table by what it keeps
abbrev pub parts_with : List LimitItem → List OwnLocator → ℕ → ℕ → ℕ → ℕ → List Mapping → List Request → Observed → Parts
parts_with limits own steps count drawn now mappings requests observed =
    record { count = count; drawn = drawn; now = now; own = own; steps = steps; mappings = mappings; requests = requests; observed = observed; limits = limits }

no_more : (n : ℕ) → n ≡ 0 + n
no_more n = omega arith

-- the same lists, and as many entries and nonces
same-parts : (limits : List LimitItem) (own : List OwnLocator) (steps count more drawn used now : ℕ) (ms other_ms : List Mapping) (rs other_rs : List Request) (o other : Observed) → count ≡ more → drawn ≡ used → ms ≡ other_ms → rs ≡ other_rs → o ≡ other → parts_with limits own steps count drawn now ms rs o ≡ parts_with limits own (0 + steps) more used now other_ms other_rs other
same-parts limits own steps count more drawn used now ms other_ms rs other_rs o other counts draws m r p =
    ap₂ (λ (n d : ℕ). parts_with limits own steps n d now ms rs o) counts draws
    ∙ ap₂ (λ (a : List Mapping) (b : List Request). parts_with limits own steps more used now a b o) m r
    ∙ ap (parts_with limits own steps more used now other_ms other_rs) p
    ∙ ap (λ (s : ℕ). parts_with limits own s more used now other_ms other_rs other) (no_more steps)

-- items that stay as they are
filter_map-all : {A : Type 0} (items : List A) → filter_map (λ a. Some a) items ≡ items
filter_map-all [] = refl
filter_map-all (a ∷ items) = ap (λ (l : List _). a ∷ l) (filter_map-all items)

-- those that pass a test go
filter_map-drops : {A : Type 0} (test : A → Bool) (items : List A) → filter_map (λ a. cond (test a) None (Some a)) items ≡ filter (λ a. not (test a)) items
filter_map-drops test [] = refl
filter_map-drops {A} test (a ∷ items) = by (test a) (filter_map-drops test items)
  where
    by : (b : Bool) → filter_map (λ a. cond (test a) None (Some a)) items ≡ filter (λ a. not (test a)) items → cons_option (cond b None (Some a)) (filter_map (λ a. cond (test a) None (Some a)) items) ≡ cond (not b) (a ∷ filter (λ a. not (test a)) items) (filter (λ a. not (test a)) items)
    by true h = h
    by false h = ap (λ (l : List A). a ∷ l) h

-- items that all change
filter_map-map : {A : Type 0} (f : A → A) (items : List A) → filter_map (λ a. Some (f a)) items ≡ map f items
filter_map-map f [] = refl
filter_map-map f (a ∷ items) = ap (λ (l : List _). f a ∷ l) (filter_map-map f items)

-- what is known of locators, list by list
abbrev made : List Probe → List EchoStart → List EchoWish → List Solicitation → Observed
made probes starts wishes solicits = record { probes = probes; starts = starts; wishes = wishes; solicits = solicits }

same-observed : (ps qs : List Probe) (ss ts : List EchoStart) (ws vs : List EchoWish) (cs ds : List Solicitation) → ps ≡ qs → ss ≡ ts → ws ≡ vs → cs ≡ ds → made ps ss ws cs ≡ made qs ts vs ds
same-observed ps qs ss ts ws vs cs ds p s w c = λ i. made (p i) (s i) (w i) (c i)

-- a list in which nothing changes
abbrev unchanged : {A : Type 0} → List A → List A
unchanged items = filter_map (λ a. Some a) items

-- what counts, where nothing changes
still : (m : ℕ) (o : Observed) → made (unchanged (counting_probes m o.probes)) (unchanged (counting_starts m o.starts)) (unchanged (counting_wishes m o.wishes)) (unchanged (counting_solicits m o.solicits)) ≡ recent m o
still m o = same-observed _ _ _ _ _ _ _ _ (filter_map-all (counting_probes m o.probes)) (filter_map-all (counting_starts m o.starts)) (filter_map-all (counting_wishes m o.wishes)) (filter_map-all (counting_solicits m o.solicits))

-- where one list alone changes
other_probes : (m : ℕ) (ps qs : List Probe) (o : Observed) → ps ≡ qs → made ps (unchanged (counting_starts m o.starts)) (unchanged (counting_wishes m o.wishes)) (unchanged (counting_solicits m o.solicits)) ≡ with_probes m qs o
other_probes m ps qs o is = same-observed _ _ _ _ _ _ _ _ is (filter_map-all (counting_starts m o.starts)) (filter_map-all (counting_wishes m o.wishes)) (filter_map-all (counting_solicits m o.solicits))

other_starts : (m : ℕ) (ss ts : List EchoStart) (o : Observed) → ss ≡ ts → made (unchanged (counting_probes m o.probes)) ss (unchanged (counting_wishes m o.wishes)) (unchanged (counting_solicits m o.solicits)) ≡ with_starts m ts o
other_starts m ss ts o is = same-observed _ _ _ _ _ _ _ _ (filter_map-all (counting_probes m o.probes)) is (filter_map-all (counting_wishes m o.wishes)) (filter_map-all (counting_solicits m o.solicits))

other_wishes : (m : ℕ) (ws vs : List EchoWish) (o : Observed) → ws ≡ vs → made (unchanged (counting_probes m o.probes)) (unchanged (counting_starts m o.starts)) ws (unchanged (counting_solicits m o.solicits)) ≡ with_wishes m vs o
other_wishes m ws vs o is = same-observed _ _ _ _ _ _ _ _ (filter_map-all (counting_probes m o.probes)) (filter_map-all (counting_starts m o.starts)) is (filter_map-all (counting_solicits m o.solicits))

other_solicits : (m : ℕ) (cs ds : List Solicitation) (o : Observed) → cs ≡ ds → made (unchanged (counting_probes m o.probes)) (unchanged (counting_starts m o.starts)) (unchanged (counting_wishes m o.wishes)) cs ≡ with_solicits m ds o
other_solicits m cs ds o is = same-observed _ _ _ _ _ _ _ _ (filter_map-all (counting_probes m o.probes)) (filter_map-all (counting_starts m o.starts)) (filter_map-all (counting_wishes m o.wishes)) is

one_more : (n : ℕ) → n + 1 ≡ suc n
one_more n = omega arith

first_more : (n : ℕ) → n + 1 ≡ 1 + n
first_more n = omega arith

-- ### a mapping that is learned

some_minutes : (ttl : ℕ) → (ttl == 0) ≡ false → 0 < lifetime ttl
some_minutes ttl some = by (ttl == 0xffffffff) (positive ttl some)
  where
    positive : (n : ℕ) → (n == 0) ≡ false → 0 < n
    positive n is = grind (arith, nat_tests)

    by : (b : Bool) → 0 < ttl → 0 < 60 * (cond b 1440 ttl) * 1000000000
    by true less = omega arith
    by false less = omega (arith, less)

-- it lasts when it is learned
fresh-lasts : (m : ℕ) (mapping : Record) (fixed : Bool) → (fixed || not (mapping.ttl == 0)) ≡ true → lasts m (fresh m mapping fixed) ≡ true
fresh-lasts m mapping true is = refl
fresh-lasts m mapping false is = later (lifetime mapping.ttl) (some_minutes mapping.ttl (flip (mapping.ttl == 0) is))
  where
    flip : (b : Bool) → not b ≡ true → b ≡ false
    flip true is = cc
    flip false is = refl

    later : (life : ℕ) → 0 < life → nat_lt m (m + life) ≡ true
    later life less = grind (arith, nat_tests)

pub absorb-learned : (m : ℕ) (mapping : Record) (fixed : Bool) (ms : List Mapping) → absorb mapping_kind (lasts m) (Learned m mapping fixed) ms ≡ learned m mapping fixed ms
absorb-learned m mapping fixed ms = by (fixed || not (mapping.ttl == 0)) refl
  where
    left : List Mapping
    left = filter_map (mapping_step (Learned m mapping fixed)) (lasting m ms)

    others : left ≡ without_eid mapping.eid (lasting m ms)
    others = filter_map-drops (λ (old : Mapping). same_eid old.eid mapping.eid) (lasting m ms)

    put : List Mapping → List Mapping
    put l = put_in_order (λ (item : Mapping). item.eid) eid_order (fresh m mapping fixed) l

    by : (b : Bool) → (fixed || not (mapping.ttl == 0)) ≡ b → absorb mapping_kind (lasts m) (Learned m mapping fixed) ms ≡ learned m mapping fixed ms
    by true is = rw (is, fresh-lasts m mapping fixed is) (ap put others)
    by false is = rw is others

pub learned-parts : (limits : List LimitItem) (own : List OwnLocator) (steps count drawn now : ℕ) (ms : List Mapping) (rs : List Request) (o : Observed) (m : ℕ) (mapping : Record) (fixed : Bool) → parts_with limits own steps (count + 1) drawn m (learned m mapping fixed ms) (waiting m rs) (recent m o) ≡ with_entry (Learned m mapping fixed) (parts_with limits own steps count drawn now ms rs o)
learned-parts limits own steps count drawn now ms rs o m mapping fixed =
    same-parts limits own steps (count + 1) (suc count) drawn (0 + drawn) m _ (absorb mapping_kind (lasts m) (Learned m mapping fixed) ms) _ (absorb request_kind (is_waiting m) (Learned m mapping fixed) rs) _ (observing m (Learned m mapping fixed) o)
    (one_more count) (no_more drawn) (sym (absorb-learned m mapping fixed ms)) (sym (filter_map-all (waiting m rs))) (sym (still m o))

-- ### a request that is made

pub asked-parts : (limits : List LimitItem) (own : List OwnLocator) (steps count drawn now : ℕ) (ms : List Mapping) (rs : List Request) (o : Observed) (m : ℕ) (eid : Eid) (source : Option Addr) (invoked : Bool) (nonce : ℕ) → parts_with limits own steps (count + 1) (drawn + 1) m (lasting m ms) (asked m eid source invoked nonce rs) (recent m o) ≡ with_entry (Asked m eid source invoked nonce) (parts_with limits own steps count drawn now ms rs o)
asked-parts limits own steps count drawn now ms rs o m eid source invoked nonce =
    same-parts limits own steps (count + 1) (suc count) (drawn + 1) (1 + drawn) m _ (absorb mapping_kind (lasts m) (Asked m eid source invoked nonce) ms) _ (absorb request_kind (is_waiting m) (Asked m eid source invoked nonce) rs) _ (observing m (Asked m eid source invoked nonce) o)
    (one_more count) (first_more drawn) (sym (filter_map-all (lasting m ms))) (sym whole) (sym (still m o))
  where
    r : Request
    r = record { eid = eid; source = source; invoked = invoked; nonce = nonce; start = m; sent_again = 0 }

    young : (n : ℕ) → nat_lt (n - n) 7000000000 ≡ true
    young n = grind (arith, nat_tests)

    others : filter_map (request_step (Asked m eid source invoked nonce)) (waiting m rs) ≡ without_nonce nonce (waiting m rs)
    others = filter_map-drops (λ (old : Request). old.nonce == nonce) (waiting m rs)

    whole : absorb request_kind (is_waiting m) (Asked m eid source invoked nonce) rs ≡ asked m eid source invoked nonce rs
    whole = rw (young m) (ap (λ (l : List Request). l ++ r ∷ []) others)

-- ### a request that was answered

pub answered-parts : (limits : List LimitItem) (own : List OwnLocator) (steps count drawn now : ℕ) (ms : List Mapping) (rs : List Request) (o : Observed) (m nonce : ℕ) → parts_with limits own steps (count + 1) drawn m (lasting m ms) (without_nonce nonce (waiting m rs)) (recent m o) ≡ with_entry (Answered m nonce) (parts_with limits own steps count drawn now ms rs o)
answered-parts limits own steps count drawn now ms rs o m nonce =
    same-parts limits own steps (count + 1) (suc count) drawn (0 + drawn) m _ (absorb mapping_kind (lasts m) (Answered m nonce) ms) _ (absorb request_kind (is_waiting m) (Answered m nonce) rs) _ (observing m (Answered m nonce) o)
    (one_more count) (no_more drawn) (sym (filter_map-all (lasting m ms))) (sym others) (sym (still m o))
  where
    others : filter_map (request_step (Answered m nonce)) (waiting m rs) ≡ without_nonce nonce (waiting m rs)
    others = filter_map-drops (λ (old : Request). old.nonce == nonce) (waiting m rs)

-- ### status bits that were told

pub told-parts : (limits : List LimitItem) (own : List OwnLocator) (steps count drawn now : ℕ) (ms : List Mapping) (rs : List Request) (o : Observed) (m : ℕ) (eid : Eid) (bits width : ℕ) → parts_with limits own steps (count + 1) drawn m (bits_told eid bits width (lasting m ms)) (waiting m rs) (recent m o) ≡ with_entry (Bits m eid bits width) (parts_with limits own steps count drawn now ms rs o)
told-parts limits own steps count drawn now ms rs o m eid bits width =
    same-parts limits own steps (count + 1) (suc count) drawn (0 + drawn) m _ (absorb mapping_kind (lasts m) (Bits m eid bits width) ms) _ (absorb request_kind (is_waiting m) (Bits m eid bits width) rs) _ (observing m (Bits m eid bits width) o)
    (one_more count) (no_more drawn) (sym (filter_map-map (told_mapping eid bits width) (lasting m ms))) (sym (filter_map-all (waiting m rs))) (sym (still m o))

-- ### a request that was sent again

pub retried-parts : (limits : List LimitItem) (own : List OwnLocator) (steps count drawn now : ℕ) (ms : List Mapping) (rs : List Request) (o : Observed) (m nonce : ℕ) → parts_with limits own steps (count + 1) drawn m (lasting m ms) (sent_again nonce (waiting m rs)) (recent m o) ≡ with_entry (Retried m nonce) (parts_with limits own steps count drawn now ms rs o)
retried-parts limits own steps count drawn now ms rs o m nonce =
    same-parts limits own steps (count + 1) (suc count) drawn (0 + drawn) m _ (absorb mapping_kind (lasts m) (Retried m nonce) ms) _ (absorb request_kind (is_waiting m) (Retried m nonce) rs) _ (observing m (Retried m nonce) o)
    (one_more count) (no_more drawn) (sym (filter_map-all (lasting m ms))) (sym (filter_map-map (λ (r : Request). cond (r.nonce == nonce) (once_more r) r) (waiting m rs))) (sym (still m o))

-- ### a probe that was sent, and one that was answered

young : (n : ℕ) → nat_lt (n - n) 600000000000 ≡ true
young n = grind (arith, nat_tests)

pub probed-parts : (limits : List LimitItem) (own : List OwnLocator) (steps count drawn now : ℕ) (ms : List Mapping) (rs : List Request) (o : Observed) (m : ℕ) (rloc : Addr) (nonce : ℕ) → parts_with limits own steps (count + 1) (drawn + 1) m (lasting m ms) (waiting m rs) (with_probes m (probed m rloc nonce o.probes) o) ≡ with_entry (Probed m rloc nonce) (parts_with limits own steps count drawn now ms rs o)
probed-parts limits own steps count drawn now ms rs o m rloc nonce =
    same-parts limits own steps (count + 1) (suc count) (drawn + 1) (1 + drawn) m _ (absorb mapping_kind (lasts m) (Probed m rloc nonce) ms) _ (absorb request_kind (is_waiting m) (Probed m rloc nonce) rs) _ (observing m (Probed m rloc nonce) o)
    (one_more count) (first_more drawn) (sym (filter_map-all (lasting m ms))) (sym (filter_map-all (waiting m rs))) (sym (other_probes m _ _ o whole))
  where
    new : Probe
    new = record { moment = m; rloc = rloc; nonce = nonce; state = Open }

    whole : absorb probe_kind (probe_counts m) (Probed m rloc nonce) o.probes ≡ probed m rloc nonce o.probes
    whole = rw (young m) (ap (λ (l : List Probe). l ++ new ∷ []) (filter_map-map (settle_with Lost nonce) (counting_probes m o.probes)))

pub probe_answered-parts : (limits : List LimitItem) (own : List OwnLocator) (steps count drawn now : ℕ) (ms : List Mapping) (rs : List Request) (o : Observed) (m nonce : ℕ) → parts_with limits own steps (count + 1) drawn m (lasting m ms) (waiting m rs) (with_probes m (probe_answered m nonce o.probes) o) ≡ with_entry (ProbeAnswered m nonce) (parts_with limits own steps count drawn now ms rs o)
probe_answered-parts limits own steps count drawn now ms rs o m nonce =
    same-parts limits own steps (count + 1) (suc count) drawn (0 + drawn) m _ (absorb mapping_kind (lasts m) (ProbeAnswered m nonce) ms) _ (absorb request_kind (is_waiting m) (ProbeAnswered m nonce) rs) _ (observing m (ProbeAnswered m nonce) o)
    (one_more count) (no_more drawn) (sym (filter_map-all (lasting m ms))) (sym (filter_map-all (waiting m rs))) (sym (other_probes m _ _ o (filter_map-map (settle_with state.Answered nonce) (counting_probes m o.probes))))

-- ### echoes, and packets that came

-- the parts of a table with one entry more, of which only what is known of locators takes notice
observed-parts : (limits : List LimitItem) (own : List OwnLocator) (e : Entry) (steps count drawn more now m : ℕ) (ms : List Mapping) (rs : List Request) (o other : Observed) → with_entry e (parts_with limits own steps count drawn now ms rs o) ≡ parts_with limits own (0 + steps) (suc count) more m (unchanged (lasting m ms)) (unchanged (waiting m rs)) (observing m e o) → (used : ℕ) → used ≡ more → other ≡ observing m e o → parts_with limits own steps (count + 1) used m (lasting m ms) (waiting m rs) other ≡ with_entry e (parts_with limits own steps count drawn now ms rs o)
observed-parts limits own e steps count drawn more now m ms rs o other is used draws same =
    same-parts limits own steps (count + 1) (suc count) used more m _ _ _ _ _ _ (one_more count) draws (sym (filter_map-all (lasting m ms))) (sym (filter_map-all (waiting m rs))) same ∙ sym is

pub started-parts : (limits : List LimitItem) (own : List OwnLocator) (steps count drawn now : ℕ) (ms : List Mapping) (rs : List Request) (o : Observed) (m : ℕ) (rloc : Addr) (nonce : ℕ) → parts_with limits own steps (count + 1) (drawn + 1) m (lasting m ms) (waiting m rs) (with_starts m (echo_started m rloc nonce o.starts) o) ≡ with_entry (EchoStarted m rloc nonce) (parts_with limits own steps count drawn now ms rs o)
started-parts limits own steps count drawn now ms rs o m rloc nonce =
    observed-parts limits own (EchoStarted m rloc nonce) steps count drawn (1 + drawn) now m ms rs o _ refl (drawn + 1) (first_more drawn) (sym (other_starts m _ _ o whole))
  where
    new : EchoStart
    new = record { moment = m; rloc = rloc; nonce = nonce; heard = false; came = false }

    fresh_start : (n : ℕ) → nat_lt (n - n) 60000000000 ≡ true
    fresh_start n = grind (arith, nat_tests)

    whole : absorb start_kind (start_counts m) (EchoStarted m rloc nonce) o.starts ≡ echo_started m rloc nonce o.starts
    whole = rw (fresh_start m) (ap (λ (l : List EchoStart). l ++ new ∷ []) (filter_map-all (counting_starts m o.starts)))

pub heard-parts : (limits : List LimitItem) (own : List OwnLocator) (steps count drawn now : ℕ) (ms : List Mapping) (rs : List Request) (o : Observed) (m : ℕ) (rloc : Addr) → parts_with limits own steps (count + 1) drawn m (lasting m ms) (waiting m rs) (with_starts m (echo_heard m rloc o.starts) o) ≡ with_entry (EchoHeard m rloc) (parts_with limits own steps count drawn now ms rs o)
heard-parts limits own steps count drawn now ms rs o m rloc =
    observed-parts limits own (EchoHeard m rloc) steps count drawn (0 + drawn) now m ms rs o _ refl drawn (no_more drawn) (sym (other_starts m _ _ o (filter_map-map (hear_from rloc) (counting_starts m o.starts))))

pub data-parts : (limits : List LimitItem) (own : List OwnLocator) (steps count drawn now : ℕ) (ms : List Mapping) (rs : List Request) (o : Observed) (m : ℕ) (rloc : Addr) → parts_with limits own steps (count + 1) drawn m (lasting m ms) (waiting m rs) (with_starts m (data_from m rloc o.starts) o) ≡ with_entry (DataFrom m rloc) (parts_with limits own steps count drawn now ms rs o)
data-parts limits own steps count drawn now ms rs o m rloc =
    observed-parts limits own (DataFrom m rloc) steps count drawn (0 + drawn) now m ms rs o _ refl drawn (no_more drawn) (sym (other_starts m _ _ o (filter_map-map (come_from rloc) (counting_starts m o.starts))))

pub wanted-parts : (limits : List LimitItem) (own : List OwnLocator) (steps count drawn now : ℕ) (ms : List Mapping) (rs : List Request) (o : Observed) (m : ℕ) (rloc : Addr) (nonce : ℕ) → parts_with limits own steps (count + 1) drawn m (lasting m ms) (waiting m rs) (with_wishes m (wanted m rloc nonce o.wishes) o) ≡ with_entry (EchoWanted m rloc nonce) (parts_with limits own steps count drawn now ms rs o)
wanted-parts limits own steps count drawn now ms rs o m rloc nonce =
    observed-parts limits own (EchoWanted m rloc nonce) steps count drawn (0 + drawn) now m ms rs o _ refl drawn (no_more drawn) (sym (other_wishes m _ _ o whole))
  where
    new : EchoWish
    new = record { moment = m; rloc = rloc; nonce = nonce }

    fresh_wish : (n : ℕ) → nat_lt (n - n) 2000000000 ≡ true
    fresh_wish n = grind (arith, nat_tests)

    whole : absorb wish_kind (wish_counts m) (EchoWanted m rloc nonce) o.wishes ≡ wanted m rloc nonce o.wishes
    whole = rw (fresh_wish m) (ap (λ (l : List EchoWish). l ++ new ∷ []) (filter_map-all (counting_wishes m o.wishes)))

-- ### an SMR that was sent

pub solicited-parts : (limits : List LimitItem) (own : List OwnLocator) (steps count drawn now : ℕ) (ms : List Mapping) (rs : List Request) (o : Observed) (m : ℕ) (rloc : Addr) (eid : Eid) (nonce : ℕ) → parts_with limits own steps (count + 1) (drawn + 1) m (lasting m ms) (waiting m rs) (with_solicits m (solicited m rloc eid o.solicits) o) ≡ with_entry (Solicited m rloc eid nonce) (parts_with limits own steps count drawn now ms rs o)
solicited-parts limits own steps count drawn now ms rs o m rloc eid nonce =
    observed-parts limits own (Solicited m rloc eid nonce) steps count drawn (1 + drawn) now m ms rs o _ refl (drawn + 1) (first_more drawn) (sym (other_solicits m _ _ o whole))
  where
    new : Solicitation
    new = record { moment = m; rloc = rloc; eid = eid }

    fresh_solicit : (n : ℕ) → nat_lt (n - n) 10000000000 ≡ true
    fresh_solicit n = grind (arith, nat_tests)

    whole : absorb solicit_kind (solicit_counts m) (Solicited m rloc eid nonce) o.solicits ≡ solicited m rloc eid o.solicits
    whole = rw (fresh_solicit m) (ap (λ (l : List Solicitation). l ++ new ∷ []) (filter_map-all (counting_solicits m o.solicits)))

-- what a call that wasn't refused left
pub left_by : {T E P : Type 0} (r : Result T E) → OnOk r P → is_err r ≡ false → P
left_by (Ok x) ok isn't = ok
left_by (Err e) ok isn't = cc

-- an own locator goes up or down
pub changed-parts : (limits : List LimitItem) (own : List OwnLocator) (steps count drawn now : ℕ) (ms : List Mapping) (rs : List Request) (o : Observed) (m : ℕ) (address : Addr) (up : Bool) → parts_with limits (changing address up own) (steps + 1) (count + 1) drawn m (lasting m ms) (waiting m rs) (recent m o) ≡ with_entry (Changed m address up) (parts_with limits own steps count drawn now ms rs o)
changed-parts limits own steps count drawn now ms rs o m address up =
    ap₂ (λ (s n : ℕ). parts_with limits (changing address up own) s n drawn m (lasting m ms) (waiting m rs) (recent m o)) (first_more steps) (one_more count)
    ∙ ap₂ (λ (d : ℕ) (a : List Mapping). parts_with limits (changing address up own) (1 + steps) (suc count) d m a (waiting m rs) (recent m o)) (no_more drawn) (sym (filter_map-all (lasting m ms)))
    ∙ ap₂ (λ (b : List Request) (p : Observed). parts_with limits (changing address up own) (1 + steps) (suc count) (0 + drawn) m (filter_map (λ a. Some a) (lasting m ms)) b p) (sym (filter_map-all (waiting m rs))) (sym (still m o))
