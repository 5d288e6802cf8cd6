-- The map-cache: mappings until their TTL is over (RFC 9301, section 5.4), with status bits (RFC 9300, section 10).
use Rattle.std.specs.Prelude.{ℕ, ◌+◌, ◌*◌, ◌-◌, ◌/◌, ◌%◌, ◌^◌, ◌==◌, ◌&&◌, ◌||◌, nat_lt, not, Bool, List, count_by, filter, length, map, Option, is_some, option_map, if◌then◌else◌}
use Rattle.std.specs.Borrow.{Bor}
use Rattle.lisp_settings.specs.Instances.{mappings_in}
use Rattle.lisp_settings.specs.declared.settings.LimitItem.{LimitItem}
use Rattle.mapping_records.specs.Eids.{exactly, longest, same_eid}
use Rattle.mapping_records.specs.Orders.{eid_order, put_in_order}
use Rattle.mapping_records.specs.declared.eid.Eid.{Eid}
use Rattle.mapping_records.specs.declared.record.Record.{Record}
use Rattle.router_log.specs.Moments.{seconds}
use Rattle.map_cache.specs.Limits.{default_minutes, most_mappings}
use Rattle.map_cache.specs.declared.mapping.Mapping.{Mapping}

-- how long a TTL of minutes lasts, in nanoseconds; where its sender leaves it open (0xffffffff), as long as the default
abbrev pub lifetime : ℕ → ℕ
lifetime ttl = seconds (60 * (if ttl == 0xffffffff then default_minutes else ttl))

-- the moment at which a mapping ends that was learned at a moment, in nanoseconds; 0 where it is fixed
abbrev pub end_of : ℕ → Record → Bool → ℕ
end_of moment mapping fixed = if fixed then 0 else moment + lifetime mapping.ttl

-- whether a mapping hasn't ended at a moment: it is fixed, or its end is later
abbrev pub lasts : ℕ → Mapping → Bool
lasts now mapping = mapping.fixed || nat_lt now mapping.end

-- a number whose lowest bits, so many, are those of another
abbrev pub lowest_from : ℕ → ℕ → ℕ → ℕ
lowest_from width old new = old / 2 ^ width * 2 ^ width + new % 2 ^ width

-- a mapping that was just learned: no status bit of its locators is known
abbrev pub fresh : ℕ → Record → Bool → Mapping
fresh moment mapping fixed = record {
  eid = mapping.eid;
  fixed = fixed;
  end = end_of moment mapping fixed;
  details = mapping;
  known = 0;
  bits = 0;
}

-- a mapping of which so many of the lowest status bits were replaced, and are known then
abbrev pub with_bits : ℕ → ℕ → Mapping → Mapping
with_bits bits width mapping = record mapping {
  known = lowest_from width mapping.known (2 ^ width - 1);
  bits = lowest_from width mapping.bits bits;
}

-- a mapping of which so many of the lowest status bits were replaced where it is the one of that EID
abbrev pub told_mapping : Eid → ℕ → ℕ → Mapping → Mapping
told_mapping eid bits width mapping = if same_eid mapping.eid eid then with_bits bits width mapping else mapping

-- ### lists of mappings

-- the mappings that haven't ended at a moment
abbrev pub lasting : ℕ → List Mapping → List Mapping
lasting now mappings = filter (lasts now) mappings

-- the mappings of other EIDs
abbrev pub without_eid : Eid → List Mapping → List Mapping
without_eid eid mappings = filter (λ mapping. not (same_eid mapping.eid eid)) mappings

-- the mapping of exactly that EID, or None
abbrev pub exact : List Mapping → Eid → Option Mapping
exact mappings eid = exactly (λ mapping. mapping.eid) mappings eid

-- the mapping in force for an EID: the longest that covers it, or None
abbrev pub in_force : List Mapping → Eid → Option Mapping
in_force mappings eid = longest (λ mapping. mapping.eid) mappings eid.iid eid.prefix.addr eid.prefix.len

-- the mapping behind a name and a reference, or None
abbrev pub mapping_named : Option (ℕ × Bor Mapping) → Option Mapping
mapping_named found = option_map (λ named. named.1.now) found

-- how many mappings an instance has learned: fixed ones don't count
abbrev pub learned_in : ℕ → List Mapping → ℕ
learned_in iid mappings = count_by (λ mapping. (mapping.eid.iid == iid) && not mapping.fixed) mappings

-- whether a mapping may be learned: its TTL of 0 removes one, it replaces one of its EID, or it is within the limit of
-- all and, unless it is fixed, within that of its instance
abbrev pub has_room : List LimitItem → Record → Bool → List Mapping → Bool
has_room limits mapping fixed mappings =
    (mapping.ttl == 0)
    || (is_some (exact mappings mapping.eid)
    || (nat_lt (length mappings) most_mappings
    && (fixed || nat_lt (learned_in mapping.eid.iid mappings) (mappings_in limits mapping.eid.iid))))

-- the mappings that haven't ended at a moment, once a mapping was learned in place of the one of its EID; a TTL of 0
-- removes that one, unless the mapping is fixed
abbrev pub learned : ℕ → Record → Bool → List Mapping → List Mapping
learned m mapping fixed mappings =
    if fixed || not (mapping.ttl == 0)
    then put_in_order (λ item. item.eid) eid_order (fresh m mapping fixed) (without_eid mapping.eid (lasting m mappings))
    else without_eid mapping.eid (lasting m mappings)

-- the mappings once so many of the lowest status bits of an EID's mapping were replaced
abbrev pub bits_told : Eid → ℕ → ℕ → List Mapping → List Mapping
bits_told eid bits width mappings = map (told_mapping eid bits width) mappings

-- a map-cache as callers see it: the greatest moment of a purge or of learning, its mappings, for how many more it has
-- room, for how many it has place in all, how many items its lists have, and the limits of instances
pub record Cache : Type 0 where
  pub now : ℕ
  pub mappings : List Mapping
  pub spare : ℕ
  pub mapping_places : ℕ
  pub kept : ℕ
  pub limits : List LimitItem
