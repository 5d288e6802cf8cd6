-- How long the lists of a table get.
use Rattle.std.proofs.Common.{◌≡◌, ◌≤◌, ◌<◌, ◌-◌, nat_lt, ℕ, Bool, true, IsTrue, List, [], ◌∷◌, ◌++◌, count_by, drop, filter, get_or, length, take, sym, ap, subst, arith}
use Rattle.std.proofs.lemmas.Bool.Decides.{nat_tests}
use Rattle.std.proofs.lemmas.List.{length-append, length-map, take_all}
use Rattle.std.proofs.lemmas.List.Sums.{count_by-le-length, length-filter}
use Rattle.ip_headers.specs.declared.addr.Addr.{Addr}
use Rattle.mapping_records.specs.declared.eid.Eid.{Eid}
use Rattle.locator_state.specs.Echoes.{come_from, counting_starts, data_from, echo_heard, echo_started, hear_from, may_start, may_want, start_counts, wanted, wish_counts}
use Rattle.locator_state.specs.Observed.{Observed, longest, recent, with_probes, with_solicits, with_starts, with_wishes}
use Rattle.locator_state.specs.Probes.{counting_probes, probe_answered, probe_count, probe_counts, probed, settle_nonce, settle_with}
use Rattle.locator_state.specs.Solicits.{may_solicit, solicit_counts, solicited}
use Rattle.router_log.specs.declared.kept.EchoStart.{EchoStart}
use Rattle.router_log.specs.declared.kept.EchoWish.{EchoWish}
use Rattle.router_log.specs.declared.kept.Probe.{Probe}
use Rattle.router_log.specs.declared.kept.ProbeState.TheVariants.{Answered, Lost}
use Rattle.router_log.specs.declared.kept.Solicitation.{Solicitation}
use Rattle.router_model.specs.Parts.{Parts, view_in}
use Rattle.router_core.proofs.ChangeLemmas.{both, later}

-- ### what still counts

-- no more items are left than there were
fewer : {A : Type 0} (test : A → Bool) (items : List A) → length (filter test items) ≤ length items
fewer test items = omega (arith, length-filter test items, count_by-le-length test items)

pub recent-few : (m : ℕ) (o : Observed) → longest o ≤ 9600 → longest (recent m o) ≤ 9600
recent-few m o few =
    omega (arith, few, fewer (probe_counts m) o.probes, fewer (start_counts m) o.starts, fewer (wish_counts m) o.wishes, fewer (solicit_counts m) o.solicits)

-- the same but for one list, which is short
probes-few : (m : ℕ) (probes : List Probe) (o : Observed) → longest o ≤ 9600 → length probes ≤ 9600 → longest (with_probes m probes o) ≤ 9600
probes-few m probes o few short = let others = recent-few m o few in omega (arith, others, short)

starts-few : (m : ℕ) (starts : List EchoStart) (o : Observed) → longest o ≤ 9600 → length starts ≤ 9600 → longest (with_starts m starts o) ≤ 9600
starts-few m starts o few short = let others = recent-few m o few in omega (arith, others, short)

wishes-few : (m : ℕ) (wishes : List EchoWish) (o : Observed) → longest o ≤ 9600 → length wishes ≤ 9600 → longest (with_wishes m wishes o) ≤ 9600
wishes-few m wishes o few short = let others = recent-few m o few in omega (arith, others, short)

solicits-few : (m : ℕ) (solicits : List Solicitation) (o : Observed) → longest o ≤ 9600 → length solicits ≤ 9600 → longest (with_solicits m solicits o) ≤ 9600
solicits-few m solicits o few short = let others = recent-few m o few in omega (arith, others, short)

-- ### items that change

pub probe_answered-few : (m nonce : ℕ) (o : Observed) → longest o ≤ 9600 → longest (with_probes m (probe_answered m nonce o.probes) o) ≤ 9600
probe_answered-few m nonce o few =
    probes-few m _ o few
    (omega (arith, few, length-map (counting_probes m o.probes) (settle_with Answered nonce), fewer (probe_counts m) o.probes))

pub heard-few : (m : ℕ) (rloc : Addr) (o : Observed) → longest o ≤ 9600 → longest (with_starts m (echo_heard m rloc o.starts) o) ≤ 9600
heard-few m rloc o few =
    starts-few m _ o few
    (omega (arith, few, length-map (counting_starts m o.starts) (hear_from rloc), fewer (start_counts m) o.starts))

pub data-few : (m : ℕ) (rloc : Addr) (o : Observed) → longest o ≤ 9600 → longest (with_starts m (data_from m rloc o.starts) o) ≤ 9600
data-few m rloc o few =
    starts-few m _ o few
    (omega (arith, few, length-map (counting_starts m o.starts) (come_from rloc), fewer (start_counts m) o.starts))

-- ### one more, within the limit

pushed : {A : Type 0} (items : List A) (item : A) → length items < 9600 → length (items ++ item ∷ []) ≤ 9600
pushed items item few = omega (arith, few, length-append items (item ∷ []))

pub probed-few : (m : ℕ) (rloc : Addr) (nonce : ℕ) (o : Observed) → longest o ≤ 9600 → probe_count m o.probes < 9600 → longest (with_probes m (probed m rloc nonce o.probes) o) ≤ 9600
probed-few m rloc nonce o few place =
    probes-few m _ o few
    (pushed (settle_nonce Lost nonce (counting_probes m o.probes)) _
    (omega (arith, place, length-filter (probe_counts m) o.probes, length-map (counting_probes m o.probes) (settle_with Lost nonce))))

pushed-few : {A : Type 0} (test : A → Bool) (items : List A) (item : A) → count_by test items < 4096 → length (filter test items ++ item ∷ []) ≤ 9600
pushed-few test items item place = pushed (filter test items) item (omega (arith, place, length-filter test items))

pub started-few : (m : ℕ) (rloc : Addr) (nonce : ℕ) (o : Observed) → longest o ≤ 9600 → count_by (start_counts m) o.starts < 4096 → longest (with_starts m (echo_started m rloc nonce o.starts) o) ≤ 9600
started-few m rloc nonce o few place = starts-few m _ o few (pushed-few (start_counts m) o.starts _ place)

pub wanted-few : (m : ℕ) (rloc : Addr) (nonce : ℕ) (o : Observed) → longest o ≤ 9600 → count_by (wish_counts m) o.wishes < 4096 → longest (with_wishes m (wanted m rloc nonce o.wishes) o) ≤ 9600
wanted-few m rloc nonce o few place = wishes-few m _ o few (pushed-few (wish_counts m) o.wishes _ place)

pub solicited-few : (m : ℕ) (rloc : Addr) (eid : Eid) (o : Observed) → longest o ≤ 9600 → count_by (solicit_counts m) o.solicits < 4096 → longest (with_solicits m (solicited m rloc eid o.solicits) o) ≤ 9600
solicited-few m rloc eid o few place = solicits-few m _ o few (pushed-few (solicit_counts m) o.solicits _ place)

-- ### what is seen says so

below : (n : ℕ) → nat_lt n 4096 ≡ true → n < 4096
below n less = grind (arith, nat_tests)

pub below-most : (n : ℕ) → nat_lt n 9600 ≡ true → n < 9600
below-most n less = grind (arith, nat_tests)

module _ (p : Parts) (m : ℕ) (after : p.now ≤ m) where
  pub few-probes : (view_in p m).probe_count < 9600 → probe_count m p.observed.probes < 9600
  unfolding view_in
  few-probes = subst (λ (t : ℕ). probe_count t p.observed.probes < 9600) (later m p.now after)

  pub few-starts : (rloc : Addr) → IsTrue ((view_in p m).may_start rloc) → count_by (start_counts m) p.observed.starts < 4096
  unfolding view_in
  few-starts rloc may =
      let now = subst (λ (t : ℕ). IsTrue (may_start t p.observed.starts p.observed.wishes rloc)) (later m p.now after) may in
      below (count_by (start_counts m) p.observed.starts) (both _ _ (both _ _ now).1).1

  pub few-wishes : (rloc : Addr) (nonce : ℕ) → IsTrue ((view_in p m).may_want rloc nonce) → count_by (wish_counts m) p.observed.wishes < 4096
  unfolding view_in
  few-wishes rloc nonce may =
      let now = subst (λ (t : ℕ). IsTrue (may_want t p.observed.wishes rloc nonce)) (later m p.now after) may in
      below (count_by (wish_counts m) p.observed.wishes) (both _ _ now).1

  pub few-solicits : (rloc : Addr) (eid : Eid) → IsTrue ((view_in p m).may_solicit rloc eid) → count_by (solicit_counts m) p.observed.solicits < 4096
  unfolding view_in
  few-solicits rloc eid may =
      let now = subst (λ (t : ℕ). IsTrue (may_solicit t p.observed.solicits rloc eid)) (later m p.now after) may in
      below (count_by (solicit_counts m) p.observed.solicits) (both _ _ now).1

-- ### a list and its first item

-- the first of some locators, and those behind it
pub first-left : {A : Type 0} (items : List A) (d : A) → 1 ≤ length items → items ≡ get_or items 0 d ∷ take (length items - 1) (drop 1 items)
first-left [] d some = absurd (omega (arith, some))
first-left (first ∷ others) d some = ap (λ l. first ∷ l) (sym (take_all (length (first ∷ others) - 1) others (omega arith)))
