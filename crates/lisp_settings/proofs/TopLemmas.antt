-- The top table as it is written, and as it is read.
use Rattle.std.proofs.Common.{replicate, ◌≡◌, ℕ, ◌≤◌, pos, false, IfSome, IsTrue, List, length, map, Option, Some, None, Result, Ok, Ordering, codes, refl, sym, ap, subst, ◌∙◌, arith, le-leb, ne_eqb, nat_cmp}
use Rattle.std.proofs.lemmas.Cmp.{nat_cmp_total}
use Rattle.std.specs.Cmp.{IsTotalOrder}
use Rattle.std.specs.List.Sorted.{IsStrictlySortedBy}
use Rattle.toml.specs.Data.{Items, Members, no_members, array, as_bool, boolean, get_member, integer, string}
use Rattle.ip_headers.specs.declared.addr.Addr.{Addr}
use Rattle.mapping_records.proofs.OrderLemmas.{addr_order-total, eid_order-total}
use Rattle.mapping_records.specs.Orders.{addr_order, eid_order}
use Rattle.lisp_settings.specs.Changes.{change_key, change_order}
use Rattle.lisp_settings.specs.Instances.{only_within}
use Rattle.lisp_settings.specs.Limits.{default_minutes, most_attachments, most_changes, most_databases, most_limits, most_locators, most_mappings, most_nonces}
use Rattle.lisp_settings.specs.Fields.{if_ok, only_keys, optional}
use Rattle.lisp_settings.specs.Lawful.{IsLawful}
use Rattle.lisp_settings.specs.Lists.{any_ascending, any_number, ascending, count, nonces_at, one_or_more}
use Rattle.lisp_settings.specs.Resolver.{is_reachable, only_reachable, resolver_in}
use Rattle.lisp_settings.specs.Settings.{attachment_in, attachments, change_in, changes, database_in, databases, limit_in, limits, locator_in, mapping_in, mappings, own_locators, settings_in, top_keys}
use Rattle.lisp_settings.specs.Values.{number, seed}
use Rattle.lisp_settings.specs.Writing.{with_member, IsArrayOf, IsFrontTable, IsPlain, IsResolverTable}
use Rattle.lisp_settings.specs.declared.fault.SettingsFault.{SettingsFault}
use Rattle.lisp_settings.specs.declared.settings.Settings.{Settings}
use Rattle.lisp_settings.proofs.AscendingLemmas.{ascending-of_sorted}
use Rattle.lisp_settings.proofs.ChangeLemmas.{change_order-total}
use Rattle.lisp_settings.proofs.TableLemmas.{no_members-plain, with_member-plain}

-- a step that gives a value, and what comes of that
followed : {A B : Type 0} (r : Result A SettingsFault) (a : A) (next : A → Result B SettingsFault) (b : Result B SettingsFault) → r ≡ Ok a → next a ≡ b → if_ok next r ≡ b
followed r a next b is then = ap (if_ok next) is ∙ then

module _ {A K : Type 0} (read : Members → Result A SettingsFault) (key : A → K) (order : K → K → Ordering) where
  -- an array at the key of a list
  any_number-array : (list : List ℕ) (most depth : ℕ) (top : Members) (items : List A) (tables : Items) → get_member list top ≡ Some (array tables) → IsArrayOf read key order depth items tables → length items ≤ most → any_number list read key order most top ≡ Ok items
  any_number-array list most depth top items tables found is few =
      rw (found, is.tables, le-leb (count tables) most (omega (arith, is.number))) (is.reads list)

  -- an array of one item at least
  one_or_more-array : (list : List ℕ) (most depth : ℕ) (top : Members) (items : List A) (tables : Items) → get_member list top ≡ Some (array tables) → IsArrayOf read key order depth items tables → 1 ≤ length items → length items ≤ most → one_or_more list read key order most top ≡ Ok items
  one_or_more-array list most depth top items tables found is some few =
      rw (found, is.tables, ne_eqb (count tables) 0 (omega (arith, is.number)), le-leb (count tables) most (omega (arith, is.number))) (is.reads list)

  -- an array of items in ascending order
  any_ascending-array : (total : IsTotalOrder order) (list : List ℕ) (most depth : ℕ) (top : Members) (items : List A) (tables : Items) → get_member list top ≡ Some (array tables) → IsArrayOf read key order depth items tables → length items ≤ most → IsStrictlySortedBy order (map key items) → any_ascending list read key order most top ≡ Ok items
  any_ascending-array total list most depth top items tables found is few sorted =
      followed (any_number list read key order most top) items (λ all. Ok (ascending key order all)) (Ok items) (any_number-array list most depth top items tables found is few) (ap Ok (ascending-of_sorted key order total items sorted))

-- lawful settings reach their resolver
only_reachable-lawful : (settings : Settings) (resolver : Option Addr) → IfSome resolver (λ addr. IsTrue (is_reachable settings.locators addr)) → only_reachable settings.locators resolver ≡ Ok resolver
only_reachable-lawful settings None reached = refl
only_reachable-lawful settings (Some addr) reached = rw reached refl

-- lawful limits are no more than may be
only_within-lawful : (settings : Settings) → IsLawful settings → only_within settings.mappings settings.limits ≡ Ok settings.limits
only_within-lawful settings lawful = rw lawful.within refl

-- the members with the lists of tables, behind others
abbrev listed : Items → Items → Items → Items → Items → Items → Members → Members
listed locators attachments databases mappings changes limits front =
    with_member (codes "limit") (array limits) (with_member (codes "change") (array changes) (with_member (codes "mapping") (array mappings) (with_member (codes "database") (array databases) (with_member (codes "attachment") (array attachments) (with_member (codes "locator") (array locators) front)))))

-- the members that are no tables, behind a resolver's
abbrev fronted : Settings → List ℕ → Items → Members → Members
fronted settings seed nonces resolver =
    with_member (codes "echo") (boolean settings.echo) (with_member (codes "probe") (boolean settings.probe) (with_member (codes "ttl") (integer (pos settings.ttl)) (with_member (codes "nonces") (array nonces) (with_member (codes "seed") (string seed) resolver))))

-- what the keys of a top table hold
record HasMembers (settings : Settings) (seed : List ℕ) (nonces locators attachments databases mappings changes limits : Items) (top : Members) : Type 0 where
  known : only_keys top_keys top ≡ Ok top
  at_seed : get_member (codes "seed") top ≡ Some (string seed)
  at_nonces : get_member (codes "nonces") top ≡ Some (array nonces)
  resolver : resolver_in top ≡ Ok settings.resolver
  at_ttl : get_member (codes "ttl") top ≡ Some (integer (pos settings.ttl))
  at_probe : get_member (codes "probe") top ≡ Some (boolean settings.probe)
  at_echo : get_member (codes "echo") top ≡ Some (boolean settings.echo)
  at_locators : get_member (codes "locator") top ≡ Some (array locators)
  at_attachments : get_member (codes "attachment") top ≡ Some (array attachments)
  at_databases : get_member (codes "database") top ≡ Some (array databases)
  at_mappings : get_member (codes "mapping") top ≡ Some (array mappings)
  at_changes : get_member (codes "change") top ≡ Some (array changes)
  at_limits : get_member (codes "limit") top ≡ Some (array limits)

-- each key computes, with a resolver and without one
made_members : (settings : Settings) (seed : List ℕ) (nonces locators attachments databases mappings changes limits : Items) (resolver : Option Addr) (front : Members) → settings.resolver ≡ resolver → IsResolverTable resolver front → HasMembers settings seed nonces locators attachments databases mappings changes limits (listed locators attachments databases mappings changes limits (fronted settings seed nonces front))
made_members settings seed nonces locators attachments databases mappings changes limits None front same is = rw is (record {
  known = refl;
  at_seed = refl;
  at_nonces = refl;
  resolver = ap Ok (sym same);
  at_ttl = refl;
  at_probe = refl;
  at_echo = refl;
  at_locators = refl;
  at_attachments = refl;
  at_databases = refl;
  at_mappings = refl;
  at_changes = refl;
  at_limits = refl;
})
made_members settings seed nonces locators attachments databases mappings changes limits (Some addr) front same is = rw is.2 (record {
  known = refl;
  at_seed = refl;
  at_nonces = refl;
  resolver = rw is.1 (ap Ok (sym same));
  at_ttl = refl;
  at_probe = refl;
  at_echo = refl;
  at_locators = refl;
  at_attachments = refl;
  at_databases = refl;
  at_mappings = refl;
  at_changes = refl;
  at_limits = refl;
})

-- a top table, by what it was made of
pub record IsTopTable (settings : Settings) (top : Members) : Type 0 where
  pub front : Members
  pub locators : Items
  pub attachments : Items
  pub databases : Items
  pub mappings : Items
  pub changes : Items
  pub limits : Items
  pub fronts : IsFrontTable settings front
  pub own : IsArrayOf locator_in (λ own. own.addr) addr_order 1 settings.locators locators
  pub attached : IsArrayOf attachment_in (λ attachment. attachment.vlan) nat_cmp 1 settings.attachments attachments
  pub based : IsArrayOf database_in (λ database. database.eid) eid_order 1 settings.databases databases
  pub mapped : IsArrayOf mapping_in (λ mapping. mapping.eid) eid_order 3 settings.mappings mappings
  pub changed : IsArrayOf (change_in settings.locators) change_key change_order 1 settings.changes changes
  pub limited : IsArrayOf (limit_in settings.attachments) (λ limit. limit.iid) nat_cmp 1 settings.limits limits
  pub members : top ≡ listed locators attachments databases mappings changes limits front

-- it reads as the settings
pub settings_in-top : (settings : Settings) (top : Members) → IsTopTable settings top → IsLawful settings → length settings.nonces ≤ most_nonces → settings_in top ≡ Ok settings
settings_in-top settings top made lawful few =
    let fronts = made.fronts in
    let HasAll : Members → Type 0 = HasMembers settings fronts.seed fronts.nonces made.locators made.attachments made.databases made.mappings made.changes made.limits in
    let whole : top ≡ listed made.locators made.attachments made.databases made.mappings made.changes made.limits (fronted settings fronts.seed fronts.nonces fronts.resolver) = made.members ∙ ap (listed made.locators made.attachments made.databases made.mappings made.changes made.limits) fronts.members in
    let has : HasAll top = subst HasAll (sym whole) (made_members settings fronts.seed fronts.nonces made.locators made.attachments made.databases made.mappings made.changes made.limits settings.resolver fronts.resolver refl fronts.resolver_reads) in
    let seed_is : optional (codes "seed") seed (replicate 32 0) top ≡ Ok settings.seed = rw (has.at_seed, fronts.seed_reads) refl in
    let nonces_are : nonces_at (codes "nonces") most_nonces top ≡ Ok settings.nonces = rw (has.at_nonces, le-leb (count fronts.nonces) most_nonces (omega (arith, fronts.nonces_read.number))) (fronts.nonces_read.reads (codes "nonces")) in
    let ttl_is : optional (codes "ttl") (number 1 4294967294) default_minutes top ≡ Ok settings.ttl = rw (has.at_ttl, le-leb 1 settings.ttl lawful.ttl.0, le-leb settings.ttl 4294967294 lawful.ttl.1) refl in
    let probe_is : optional (codes "probe") as_bool false top ≡ Ok settings.probe = rw has.at_probe refl in
    let echo_is : optional (codes "echo") as_bool false top ≡ Ok settings.echo = rw has.at_echo refl in
    let locators_are : own_locators top ≡ Ok settings.locators =
    followed (one_or_more (codes "locator") locator_in (λ own. own.addr) addr_order most_locators top) settings.locators (λ all. Ok (ascending (λ own. own.addr) addr_order all)) (Ok settings.locators)
    (one_or_more-array locator_in (λ own. own.addr) addr_order (codes "locator") most_locators 1 top settings.locators made.locators has.at_locators made.own lawful.some_locators lawful.few_locators)
    (ap Ok (ascending-of_sorted (λ own. own.addr) addr_order addr_order-total settings.locators lawful.locators)) in
    let attachments_are : attachments top ≡ Ok settings.attachments =
    any_ascending-array attachment_in (λ attachment. attachment.vlan) nat_cmp nat_cmp_total (codes "attachment") most_attachments 1 top settings.attachments made.attachments has.at_attachments made.attached lawful.few_attachments lawful.vlans in
    let databases_are : databases top ≡ Ok settings.databases =
    any_ascending-array database_in (λ database. database.eid) eid_order eid_order-total (codes "database") most_databases 1 top settings.databases made.databases has.at_databases made.based lawful.few_databases lawful.prefixes in
    let mappings_are : mappings top ≡ Ok settings.mappings =
    any_ascending-array mapping_in (λ mapping. mapping.eid) eid_order eid_order-total (codes "mapping") most_mappings 3 top settings.mappings made.mappings has.at_mappings made.mapped lawful.few_mappings lawful.eids in
    let changes_are : changes settings.locators top ≡ Ok settings.changes =
    any_ascending-array (change_in settings.locators) change_key change_order change_order-total (codes "change") most_changes 1 top settings.changes made.changes has.at_changes made.changed lawful.few_changes lawful.moments in
    let limits_are : limits settings.attachments top ≡ Ok settings.limits =
    any_ascending-array (limit_in settings.attachments) (λ limit. limit.iid) nat_cmp nat_cmp_total (codes "limit") most_limits 1 top settings.limits made.limits has.at_limits made.limited lawful.few_limits lawful.instances in
    followed (only_keys top_keys top) top _ _ has.known (
    followed _ settings.seed _ _ seed_is (
    followed _ settings.nonces _ _ nonces_are (
    followed _ settings.resolver _ _ has.resolver (
    followed _ settings.ttl _ _ ttl_is (
    followed _ settings.probe _ _ probe_is (
    followed _ settings.echo _ _ echo_is (
    followed _ settings.locators _ _ locators_are (
    followed _ settings.attachments _ _ attachments_are (
    followed _ settings.databases _ _ databases_are (
    followed _ settings.mappings _ _ mappings_are (
    followed _ settings.changes _ _ changes_are (
    followed _ settings.limits _ _ limits_are (
    followed _ settings.resolver _ _ (only_reachable-lawful settings settings.resolver lawful.resolver) (
    followed _ settings.limits _ _ (only_within-lawful settings lawful) refl))))))))))))))

-- the tables before the lists can be printed
resolver-plain : (resolver : Option Addr) (front : Members) → IsResolverTable resolver front → IsPlain 4 front
resolver-plain None front is = rw is (no_members-plain 4)
resolver-plain (Some addr) front is = rw is.2 (with_member-plain 4 (codes "resolver") (string is.0) no_members (omega arith) refl (no_members-plain 4))

front-plain : (settings : Settings) (front : Members) → IsFrontTable settings front → IsPlain 4 front
front-plain settings front is =
    let nonces = is.nonces_read in
    rw is.members (
    with_member-plain 4 (codes "echo") (boolean settings.echo) _ (omega arith) refl (
    with_member-plain 4 (codes "probe") (boolean settings.probe) _ (omega arith) refl (
    with_member-plain 4 (codes "ttl") (integer (pos settings.ttl)) _ (omega arith) refl (
    with_member-plain 4 (codes "nonces") (array is.nonces) _ (omega (arith, nonces.depth)) nonces.dates (
    with_member-plain 4 (codes "seed") (string is.seed) _ (omega arith) refl (resolver-plain settings.resolver is.resolver is.resolver_reads))))))

-- it can be printed
pub top-plain : (settings : Settings) (top : Members) → IsTopTable settings top → IsPlain 4 top
top-plain settings top made =
    rw made.members (
    with_member-plain 4 (codes "limit") (array made.limits) _ (omega (arith, made.limited.depth)) made.limited.dates (
    with_member-plain 4 (codes "change") (array made.changes) _ (omega (arith, made.changed.depth)) made.changed.dates (
    with_member-plain 4 (codes "mapping") (array made.mappings) _ (omega (arith, made.mapped.depth)) made.mapped.dates (
    with_member-plain 4 (codes "database") (array made.databases) _ (omega (arith, made.based.depth)) made.based.dates (
    with_member-plain 4 (codes "attachment") (array made.attachments) _ (omega (arith, made.attached.depth)) made.attached.dates (
    with_member-plain 4 (codes "locator") (array made.locators) _ (omega (arith, made.own.depth)) made.own.dates (front-plain settings made.front made.fronts)))))))
