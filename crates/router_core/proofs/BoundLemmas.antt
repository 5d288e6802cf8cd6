-- What a table keeps stays within its bits.
use Rattle.std.proofs.Common.{◌≤◌, ◌<◌, ◌^◌, ◌==◌, ◌||◌, not, nat_le, ℕ, Bool, true, false, cond, List, [], ◌∷◌, fold, option_map, Option, Some, None, IfSome, All, arith}
use Rattle.std.specs.Ordering.{is_lt}
use Rattle.std.proofs.lemmas.List.Elements.{All-cons, All-filter, All-head, All-map, All-push, All-tail, All-weaker}
use Rattle.mapping_records.specs.Eids.{covers_prefix, longer, longest, same_eid}
use Rattle.mapping_records.specs.Orders.{eid_order, put_in_order}
use Rattle.mapping_records.specs.declared.eid.Eid.{Eid}
use Rattle.mapping_records.specs.declared.record.Record.{Record}
use Rattle.map_cache.specs.Cache.{bits_told, fresh, in_force, lasting, lasts, learned, told_mapping, with_bits, without_eid}
use Rattle.map_cache.specs.declared.mapping.Mapping.{Mapping}
use Rattle.ip_headers.specs.Addr.{width}
use Rattle.ip_headers.specs.declared.addr.Addr.{Addr}
use Rattle.mapping_records.specs.Eids.{same_address}
use Rattle.locator_state.specs.Echoes.{answer_or, ask_or_plain, come_from, counting_starts, counting_wishes, data_from, echo_heard, echo_on, echo_out, echo_started, echo_wanted, hear_from, is_on, start_counts, wanted, wish_counts}
use Rattle.locator_state.specs.Lists.{last_where, later, only_if}
use Rattle.locator_state.specs.Observed.{Observed, recent, with_probes, with_solicits, with_starts, with_wishes}
use Rattle.lisp_settings.specs.Home.{home_of}
use Rattle.lisp_settings.specs.Lawful.{IsLawfulDatabase}
use Rattle.lisp_settings.specs.declared.settings.Database.{Database}
use Rattle.router_log.specs.declared.kept.EchoStart.{EchoStart}
use Rattle.router_log.specs.declared.kept.EchoWish.{EchoWish}
use Rattle.router_log.specs.declared.kept.Probe.{Probe}
use Rattle.router_log.specs.declared.kept.Solicitation.{Solicitation}
use Rattle.router_model.specs.Decide.{home_version}
use Rattle.router_core.specs.Bounded.{AreShort, AreVersioned, IsShortOut, IsShortStart, IsShortWish, IsVersioned}

abbrev key : Mapping → Eid
key mapping = mapping.eid

-- ### mappings

pub lasting-versioned : (m : ℕ) (ms : List Mapping) → AreVersioned ms → AreVersioned (lasting m ms)
lasting-versioned m ms are = All-filter (lasts m) IsVersioned ms are

put-versioned : (item : Mapping) (ms : List Mapping) → IsVersioned item → AreVersioned ms → AreVersioned (put_in_order key eid_order item ms)
put-versioned item [] is are = All-cons IsVersioned item [] is are
put-versioned item (next ∷ ms) is are = by (is_lt (eid_order item.eid next.eid)) (put-versioned item ms is (All-tail IsVersioned next ms are))
  where
    by : (b : Bool) → AreVersioned (put_in_order key eid_order item ms) → AreVersioned (cond b (item ∷ next ∷ ms) (next ∷ put_in_order key eid_order item ms))
    by true rest = All-cons IsVersioned item (next ∷ ms) is are
    by false rest = All-cons IsVersioned next (put_in_order key eid_order item ms) (All-head IsVersioned next ms are) rest

pub learned-versioned : (m : ℕ) (mapping : Record) (fixed : Bool) (ms : List Mapping) → mapping.version ≤ 4095 → AreVersioned ms → AreVersioned (learned m mapping fixed ms)
learned-versioned m mapping fixed ms few are = by (fixed || not (mapping.ttl == 0))
  where
    left : List Mapping
    left = without_eid mapping.eid (lasting m ms)

    others : AreVersioned left
    others = All-filter (λ (item : Mapping). not (same_eid item.eid mapping.eid)) IsVersioned (lasting m ms) (lasting-versioned m ms are)

    by : (b : Bool) → AreVersioned (cond b (put_in_order key eid_order (fresh m mapping fixed) left) left)
    by true = put-versioned (fresh m mapping fixed) left few others
    by false = others

pub told-versioned : (eid : Eid) (bits width : ℕ) (ms : List Mapping) → AreVersioned ms → AreVersioned (bits_told eid bits width ms)
told-versioned eid bits width ms are = All-map IsVersioned (told_mapping eid bits width) ms (All-weaker IsVersioned (λ mapping. IsVersioned (told_mapping eid bits width mapping)) stays ms are)
  where
    stays : (mapping : Mapping) → IsVersioned mapping → IsVersioned (told_mapping eid bits width mapping)
    stays mapping is = by (same_eid mapping.eid eid)
      where
        by : (b : Bool) → IsVersioned (cond b (with_bits bits width mapping) mapping)
        by true = is
        by false = is

-- ### the longest match

-- the longest of items that all have something has it
module _ {I : Type 0} (P : I → Type 0) (eid_of : I → Eid) where
  longest-from : (best : Option I) (items : List I) → IfSome best P → All P items → IfSome (fold (longer eid_of) best items) P
  longest-from best [] is are = is
  longest-from best (next ∷ items) is are =
      longest-from (longer eid_of best next) items (one best is) (All-tail P next items are)
    where
      one : (best : Option I) → IfSome best P → IfSome (longer eid_of best next) P
      one None is = All-head P next items are
      one (Some best) is = by (nat_le (eid_of next).prefix.len (eid_of best).prefix.len)
        where
          by : (b : Bool) → IfSome (cond b (Some best) (Some next)) P
          by true = is
          by false = All-head P next items are

  longest-has : (items : List I) (iid : ℕ) (addr : Addr) (len : ℕ) → All P items → IfSome (longest eid_of items iid addr len) P
  longest-has items iid addr len are =
      longest-from None _ tt (All-filter (λ item. covers_prefix (eid_of item) iid addr len) P items are)

-- the mapping in force
pub force-versioned : (m : ℕ) (eid : Eid) (ms : List Mapping) → AreVersioned ms → IfSome (in_force (lasting m ms) eid) IsVersioned
force-versioned m eid ms are =
    longest-has IsVersioned key (lasting m ms) eid.iid eid.prefix.addr eid.prefix.len (lasting-versioned m ms are)

-- the prefix of the site
pub home-lawful : (databases : List Database) (iid : ℕ) (addr : Addr) → All IsLawfulDatabase databases → IfSome (home_of databases iid addr) IsLawfulDatabase
home-lawful databases iid addr are =
    longest-has IsLawfulDatabase (λ (database : Database). database.eid) databases iid addr (width addr) are

-- its version has 12 bits
pub home-versioned : (databases : List Database) (iid : ℕ) (addr : Addr) → All IsLawfulDatabase databases → home_version (home_of databases iid addr) ≤ 4095
home-versioned databases iid addr are = by (home_of databases iid addr) (home-lawful databases iid addr are)
  where
    by : (o : Option Database) → IfSome o IsLawfulDatabase → home_version o ≤ 4095
    by None is = omega arith
    by (Some home) is = is.version

-- ### echoes

starts-short : (m : ℕ) (o : Observed) → AreShort o → All IsShortStart (counting_starts m o.starts)
starts-short m o are = All-filter (start_counts m) IsShortStart o.starts are.0

wishes-short : (m : ℕ) (o : Observed) → AreShort o → All IsShortWish (counting_wishes m o.wishes)
wishes-short m o are = All-filter (wish_counts m) IsShortWish o.wishes are.1

pub recent-short : (m : ℕ) (o : Observed) → AreShort o → AreShort (recent m o)
recent-short m o are = (starts-short m o are, wishes-short m o are)

pub probes-short : (m : ℕ) (probes : List Probe) (o : Observed) → AreShort o → AreShort (with_probes m probes o)
probes-short m probes o are = recent-short m o are

pub solicits-short : (m : ℕ) (solicits : List Solicitation) (o : Observed) → AreShort o → AreShort (with_solicits m solicits o)
solicits-short m solicits o are = recent-short m o are

pub started-short : (m : ℕ) (rloc : Addr) (nonce : ℕ) (o : Observed) → nonce < 2 ^ 24 → AreShort o → AreShort (with_starts m (echo_started m rloc nonce o.starts) o)
started-short m rloc nonce o short are =
    (All-push IsShortStart (counting_starts m o.starts) _ (starts-short m o are) short, wishes-short m o are)

pub wanted-short : (m : ℕ) (rloc : Addr) (nonce : ℕ) (o : Observed) → nonce < 2 ^ 24 → AreShort o → AreShort (with_wishes m (wanted m rloc nonce o.wishes) o)
wanted-short m rloc nonce o short are =
    (starts-short m o are, All-push IsShortWish (counting_wishes m o.wishes) _ (wishes-short m o are) short)

pub heard-short : (m : ℕ) (rloc : Addr) (o : Observed) → AreShort o → AreShort (with_starts m (echo_heard m rloc o.starts) o)
heard-short m rloc o are =
    (All-map IsShortStart (hear_from rloc) (counting_starts m o.starts) (All-weaker IsShortStart (λ start. IsShortStart (hear_from rloc start)) stays _ (starts-short m o are)), wishes-short m o are)
  where
    stays : (start : EchoStart) → IsShortStart start → IsShortStart (hear_from rloc start)
    stays start is = by (same_address start.rloc rloc)
      where
        by : (b : Bool) → IsShortStart (cond b (record start { heard = true }) start)
        by true = is
        by false = is

pub data-short : (m : ℕ) (rloc : Addr) (o : Observed) → AreShort o → AreShort (with_starts m (data_from m rloc o.starts) o)
data-short m rloc o are =
    (All-map IsShortStart (come_from rloc) (counting_starts m o.starts) (All-weaker IsShortStart (λ start. IsShortStart (come_from rloc start)) stays _ (starts-short m o are)), wishes-short m o are)
  where
    stays : (start : EchoStart) → IsShortStart start → IsShortStart (come_from rloc start)
    stays start is = by (same_address start.rloc rloc)
      where
        by : (b : Bool) → IsShortStart (cond b (record start { came = true }) start)
        by true = is
        by false = is

-- the last of items that all have something has it
module _ {I : Type 0} (P : I → Type 0) (test : I → Bool) where
  last-from : (best : Option I) (items : List I) → IfSome best P → All P items → IfSome (fold (later test) best items) P
  last-from best [] is are = is
  last-from best (item ∷ items) is are = last-from (later test best item) items (one (test item)) (All-tail P item items are)
    where
      one : (b : Bool) → IfSome (cond b (Some item) best) P
      one true = All-head P item items are
      one false = is

  last-has : (items : List I) → All P items → IfSome (last_where test items) P
  last-has items are = last-from None items tt are

-- the nonce of one that passes
nonce-short : {I : Type 0} (nonce_of : I → ℕ) (test : I → Bool) (o : Option I) → IfSome o (λ i. nonce_of i < 2 ^ 24) → IfSome (option_map nonce_of (only_if test o)) (λ n. n < 2 ^ 24)
nonce-short nonce_of test None is = tt
nonce-short nonce_of test (Some i) is = by (test i)
  where
    by : (b : Bool) → IfSome (option_map nonce_of (cond b (Some i) None)) (λ n. n < 2 ^ 24)
    by true = is
    by false = tt

out-by : (on want : Option ℕ) → IfSome on (λ n. n < 2 ^ 24) → IfSome want (λ n. n < 2 ^ 24) → IsShortOut (answer_or (ask_or_plain on) want)
out-by None None p q = tt
out-by (Some n) None p q = p
out-by on (Some n) p q = q

-- that of a header
pub out-short : (m : ℕ) (o : Observed) (rloc : Addr) → AreShort o → IsShortOut (echo_out m o.starts o.wishes rloc)
out-short m o rloc are =
    out-by (echo_on m o.starts rloc) (echo_wanted m o.wishes rloc)
    (nonce-short (λ (start : EchoStart). start.nonce) (is_on m) _ (last-has IsShortStart (λ start. same_address start.rloc rloc) o.starts are.0))
    (nonce-short (λ (wish : EchoWish). wish.nonce) (wish_counts m) _ (last-has IsShortWish (λ wish. same_address wish.rloc rloc) o.wishes are.1))
