-- What is read keeps to the ranges, limits and orders of settings.
use Rattle.std.proofs.Common.{replicate, All, option_and_then, ℕ, ◌≤◌, nat_le, ◌&&◌, true, false, ℤ, pos, negsuc, List, length, map, Option, Some, None, IfSome, Ok, IfOk, Ordering, codes, refl, arith, leb-true, nat_cmp, Result, Err, IsTrue}
use Rattle.std.proofs.lemmas.Bool.{cond_both, and_parts}
use Rattle.std.proofs.lemmas.Cmp.{nat_cmp_total}
use Rattle.std.proofs.lemmas.Result.{IfOk-weaker}
use Rattle.std.specs.Cmp.{IsTotalOrder}
use Rattle.std.specs.List.Sorted.{IsStrictlySortedBy}
use Rattle.toml.specs.Data.{Data, Members, as_bool, as_integer}
use Rattle.ip_headers.specs.declared.addr.Addr.{Addr}
use Rattle.lisp_settings.specs.Changes.{IsChangeOf, change_key, change_order}
use Rattle.lisp_settings.specs.Instances.{IsLimitOf, attached_instance, is_within, only_within}
use Rattle.lisp_settings.specs.Limits.{default_minutes, most_attachments, most_changes, most_databases, most_limits, most_locators, most_mappings, most_nonces, most_requests}
use Rattle.lisp_settings.specs.Lawful.{IsLawful, IsLawfulAttachment, IsLawfulDatabase, IsLawfulLocator, IsLawfulMapping}
use Rattle.lisp_settings.specs.Lists.{any_ascending, ascending, nonces_at, one_or_more}
use Rattle.mapping_records.specs.Orders.{addr_order, eid_order}
use Rattle.lisp_settings.specs.Settings.{attachment_in, attachments, change_in, changes, database_in, databases, eid_in, limit_in, limits, locator_in, locator_of, mapped_in, mapped_locators, mapping_in, mappings, own_locators, settings_in, top_keys, version_in}
use Rattle.lisp_settings.specs.Fields.{only_keys, optional}
use Rattle.lisp_settings.specs.Resolver.{is_reachable, only_reachable, resolver_in}
use Rattle.lisp_settings.specs.Values.{seed, in_range, number}
use Rattle.lisp_settings.specs.declared.settings.Attachment.{Attachment}
use Rattle.lisp_settings.specs.declared.settings.OwnLocator.{OwnLocator}
use Rattle.lisp_settings.specs.declared.fault.SettingsFault.{SettingsFault}
use Rattle.lisp_settings.specs.declared.fault.SettingsFault.TheVariants.{BadValue}
use Rattle.lisp_settings.proofs.AscendingLemmas.{ascending-all, ascending-few, ascending-some, ascending-sorted}
use Rattle.lisp_settings.proofs.ChangeLemmas.{change_in-own, change_order-total}
use Rattle.lisp_settings.proofs.EachLemmas.{AreFew, IfOk-any, pass, step, required-holds, optional-holds, any_number-few, one_or_more-some}
use Rattle.lisp_settings.proofs.LimitLemmas.{HasAttached, attached_instance-attached, only_within-within}
use Rattle.mapping_records.proofs.OrderLemmas.{addr_order-total, eid_order-total}

-- between the two
abbrev IsWithin : ℕ → ℕ → ℕ → Type 0
IsWithin least greatest n = (least ≤ n) × (n ≤ greatest)

in_range-within : (least greatest : ℕ) (z : ℤ) → IfSome (in_range least greatest z) (IsWithin least greatest)
in_range-within least greatest (pos n) =
    cond_both (nat_le least n && nat_le n greatest) (Some n) None (λ o. IfSome o (IsWithin least greatest))
    (λ both. let (low, high) = and_parts (nat_le least n) (nat_le n greatest) both in (leb-true least n low, leb-true n greatest high))
    (λ other. tt)
in_range-within least greatest (negsuc n) = tt

number-of : (least greatest : ℕ) (z : Option ℤ) → IfSome (option_and_then (in_range least greatest) z) (IsWithin least greatest)
number-of least greatest (Some z) = in_range-within least greatest z
number-of least greatest None = tt

number-within : (least greatest : ℕ) (value : Data) → IfSome (number least greatest value) (IsWithin least greatest)
number-within least greatest value = number-of least greatest (as_integer value)

version_in-small : (table : Members) → IfOk (version_in table) (λ version. version ≤ 4095)
version_in-small table = IfOk-weaker (version_in table) _ _ (λ version within. within.1) (optional-holds (IsWithin 0 4095) (codes "version") (number 0 4095) 0 table (omega arith, omega arith) (number-within 0 4095))

attachment_in-lawful : (table : Members) → IfOk (attachment_in table) IsLawfulAttachment
attachment_in-lawful table =
    pass IsLawfulAttachment _ _ (λ known.
    step (IsWithin 0 4095) IsLawfulAttachment _ _ (required-holds (IsWithin 0 4095) (codes "vlan") (number 0 4095) table (number-within 0 4095)) (λ vlan small.
    step (IsWithin 0 16777215) IsLawfulAttachment _ _ (required-holds (IsWithin 0 16777215) (codes "iid") (number 0 16777215) table (number-within 0 16777215)) (λ iid below.
    record { vlan = small.1; iid = omega (arith, below.1) })))

database_in-lawful : (table : Members) → IfOk (database_in table) IsLawfulDatabase
database_in-lawful table =
    pass IsLawfulDatabase _ _ (λ known.
    pass IsLawfulDatabase (eid_in table) _ (λ eid.
    step (λ version. version ≤ 4095) IsLawfulDatabase (version_in table) (λ version. Ok (record { eid = eid; version = version })) (version_in-small table) (λ version small.
    record { version = small })))

mapped_in-lawful : (table : Members) → IfOk (mapped_in table) IsLawfulLocator
mapped_in-lawful table = pass IsLawfulLocator (locator_in table) (λ own. Ok (locator_of own)) (λ own. record { m_priority = refl; m_weight = refl; local = refl; probed = refl })

mapping_in-lawful : (table : Members) → IfOk (mapping_in table) IsLawfulMapping
mapping_in-lawful table =
    pass IsLawfulMapping _ _ (λ known.
    pass IsLawfulMapping (eid_in table) _ (λ eid.
    step (λ version. version ≤ 4095) IsLawfulMapping (version_in table) _ (version_in-small table) (λ version small.
    step (IsWithin 0 7) IsLawfulMapping _ _ (optional-holds (IsWithin 0 7) (codes "action") (number 0 7) 0 table (omega arith, omega arith) (number-within 0 7)) (λ action few.
    step _ IsLawfulMapping (mapped_locators table) (λ locators. Ok (record { ttl = default_minutes; action = action; authoritative = true; version = version; eid = eid; locators = locators })) (any_number-few (codes "locator") mapped_in (λ locator. locator.addr) addr_order addr_order-total IsLawfulLocator mapped_in-lawful most_locators table) (λ locators are.
    record { ttl = refl; action = few.1; version = small; authoritative = refl; few_locators = are.few; locators = are.all; distinct = are.distinct })))))

abbrev own_addr : OwnLocator → Addr
own_addr own = own.addr

-- items in ascending order, so many at most
record AreKept {A K : Type 0} (key : A → K) (order : K → K → Ordering) (P : A → Type 0) (most : ℕ) (items : List A) : Type 0 where
  all : All P items
  few : length items ≤ most
  sorted : IsStrictlySortedBy order (map key items)

ascending-kept : {A K : Type 0} (key : A → K) (order : K → K → Ordering) (total : IsTotalOrder order) (P : A → Type 0) (most : ℕ) (items : List A) → AreFew key order P most items → AreKept key order P most (ascending key order items)
ascending-kept key order total P most items are = record {
  all = ascending-all key order P items are.all;
  few = omega (arith, are.few, ascending-few key order items);
  sorted = ascending-sorted key order total items;
}

-- own locators, of which there is one at least
abbrev AreOwn : List OwnLocator → Type 0
AreOwn locators = AreKept own_addr addr_order (λ own. Unit {0}) most_locators locators × (1 ≤ length locators)

own_locators-lawful : (top : Members) → IfOk (own_locators top) AreOwn
own_locators-lawful top =
    step _ AreOwn (one_or_more (codes "locator") locator_in own_addr addr_order most_locators top) (λ locators. Ok (ascending own_addr addr_order locators))
    (one_or_more-some (codes "locator") locator_in own_addr addr_order addr_order-total (λ own. Unit {0}) (λ table. IfOk-any (locator_in table)) most_locators top)
    (λ locators are. (ascending-kept own_addr addr_order addr_order-total (λ own. Unit {0}) most_locators locators are.0, ascending-some own_addr addr_order locators are.1))

any_ascending-kept : {A K : Type 0} (list : List ℕ) (read : Members → Result A SettingsFault) (key : A → K) (order : K → K → Ordering) (total : IsTotalOrder order) (P : A → Type 0) → ((table : Members) → IfOk (read table) P) → (most : ℕ) (top : Members) → IfOk (any_ascending list read key order most top) (AreKept key order P most)
any_ascending-kept list read key order total P lawful most top =
    step _ (AreKept key order P most) _ _ (any_number-few list read key order total P lawful most top) (ascending-kept key order total P most)

attachments-lawful : (top : Members) → IfOk (attachments top) (AreKept (λ attachment. attachment.vlan) nat_cmp IsLawfulAttachment most_attachments)
attachments-lawful top =
    any_ascending-kept (codes "attachment") attachment_in (λ attachment. attachment.vlan) nat_cmp nat_cmp_total IsLawfulAttachment attachment_in-lawful most_attachments top

databases-lawful : (top : Members) → IfOk (databases top) (AreKept (λ database. database.eid) eid_order IsLawfulDatabase most_databases)
databases-lawful top =
    any_ascending-kept (codes "database") database_in (λ database. database.eid) eid_order eid_order-total IsLawfulDatabase database_in-lawful most_databases top

mappings-lawful : (top : Members) → IfOk (mappings top) (AreKept (λ mapping. mapping.eid) eid_order IsLawfulMapping most_mappings)
mappings-lawful top =
    any_ascending-kept (codes "mapping") mapping_in (λ mapping. mapping.eid) eid_order eid_order-total IsLawfulMapping mapping_in-lawful most_mappings top

changes-lawful : (locators : List OwnLocator) (top : Members) → IfOk (changes locators top) (AreKept change_key change_order (IsChangeOf locators) most_changes)
changes-lawful locators top =
    any_ascending-kept (codes "change") (change_in locators) change_key change_order change_order-total (IsChangeOf locators) (change_in-own locators) most_changes top

limit_in-lawful : (attachments : List Attachment) (table : Members) → IfOk (limit_in attachments table) (IsLimitOf attachments)
limit_in-lawful attachments table =
    let Is : _ → Type 0 = IsLimitOf attachments in
    pass Is _ _ (λ known.
    step (HasAttached attachments) Is _ _ (required-holds (HasAttached attachments) (codes "iid") (attached_instance attachments) table (attached_instance-attached attachments)) (λ iid attached.
    step (IsWithin 0 most_mappings) Is _ _ (required-holds (IsWithin 0 most_mappings) (codes "mappings") (number 0 most_mappings) table (number-within 0 most_mappings)) (λ mappings few.
    step (IsWithin 0 most_requests) Is _ _ (required-holds (IsWithin 0 most_requests) (codes "requests") (number 0 most_requests) table (number-within 0 most_requests)) (λ requests small.
    record { attached = attached; mappings = few.1; requests = small.1 }))))

limits-lawful : (attachments : List Attachment) (top : Members) → IfOk (limits attachments top) (AreKept (λ limit. limit.iid) nat_cmp (IsLimitOf attachments) most_limits)
limits-lawful attachments top =
    any_ascending-kept (codes "limit") (limit_in attachments) (λ limit. limit.iid) nat_cmp nat_cmp_total (IsLimitOf attachments) (limit_in-lawful attachments) most_limits top

-- the resolver is reachable where there is one
abbrev IsReached : List OwnLocator → Option Addr → Type 0
IsReached locators resolver = IfSome resolver (λ addr. IsTrue (is_reachable locators addr))

only_reachable-reached : (locators : List OwnLocator) (resolver : Option Addr) → IfOk (only_reachable locators resolver) (λ r. IsReached locators resolver)
only_reachable-reached locators None = tt
only_reachable-reached locators (Some addr) =
    cond_both (is_reachable locators addr) (Ok (Some addr)) (Err (BadValue (codes "resolver"))) (λ r. IfOk r (λ reached. IsTrue (is_reachable locators addr))) (λ is. is) (λ not. tt)

-- what is read in a top table
pub settings_in-lawful : (top : Members) → IfOk (settings_in top) IsLawful
settings_in-lawful top =
    pass IsLawful (only_keys top_keys top) _ (λ known.
    pass IsLawful (optional (codes "seed") seed (replicate 32 0) top) _ (λ seed.
    pass IsLawful (nonces_at (codes "nonces") most_nonces top) _ (λ nonces.
    pass IsLawful (resolver_in top) _ (λ resolver.
    step (IsWithin 1 4294967294) IsLawful (optional (codes "ttl") (number 1 4294967294) default_minutes top) _ (optional-holds (IsWithin 1 4294967294) (codes "ttl") (number 1 4294967294) default_minutes top (omega arith, omega arith) (number-within 1 4294967294)) (λ ttl within.
    pass IsLawful (optional (codes "probe") as_bool false top) _ (λ probe.
    pass IsLawful (optional (codes "echo") as_bool false top) _ (λ echo.
    step AreOwn IsLawful (own_locators top) _ (own_locators-lawful top) (λ locators own.
    step (AreKept (λ attachment. attachment.vlan) nat_cmp IsLawfulAttachment most_attachments) IsLawful (attachments top) _ (attachments-lawful top) (λ attachments attached.
    step (AreKept (λ database. database.eid) eid_order IsLawfulDatabase most_databases) IsLawful (databases top) _ (databases-lawful top) (λ databases based.
    step (AreKept (λ mapping. mapping.eid) eid_order IsLawfulMapping most_mappings) IsLawful (mappings top) _ (mappings-lawful top) (λ mappings mapped.
    step (AreKept change_key change_order (IsChangeOf locators) most_changes) IsLawful (changes locators top) _ (changes-lawful locators top) (λ changes changed.
    step (AreKept (λ limit. limit.iid) nat_cmp (IsLimitOf attachments) most_limits) IsLawful (limits attachments top) _ (limits-lawful attachments top) (λ limits limited.
    step (λ r. IsReached locators resolver) IsLawful (only_reachable locators resolver) _ (only_reachable-reached locators resolver) (λ r reached.
    step (λ w. IsTrue (is_within (length mappings) limits)) IsLawful (only_within mappings limits)
    (λ w. Ok (record {
      seed = seed;
      nonces = nonces;
      resolver = resolver;
      ttl = ttl;
      probe = probe;
      echo = echo;
      locators = locators;
      attachments = attachments;
      databases = databases;
      mappings = mappings;
      changes = changes;
      limits = limits;
    })) (only_within-within mappings limits) (λ w fit.
    record {
      resolver = reached;
      ttl = within;
      some_locators = own.1;
      few_locators = own.0.few;
      locators = own.0.sorted;
      few_attachments = attached.few;
      attachments = attached.all;
      vlans = attached.sorted;
      few_databases = based.few;
      databases = based.all;
      prefixes = based.sorted;
      few_mappings = mapped.few;
      mappings = mapped.all;
      eids = mapped.sorted;
      few_changes = changed.few;
      changes = changed.all;
      moments = changed.sorted;
      few_limits = limited.few;
      limits = limited.all;
      instances = limited.sorted;
      within = fit;
    })))))))))))))))
