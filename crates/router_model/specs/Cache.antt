-- The map-cache: the live mappings of a journal as a table keeps them.
use Rattle.std.specs.Prelude.{ℕ, ◌-◌, ◌^◌, ◌==◌, ◌||◌, not, Bool, List, [], ◌∷◌, map, Option, Some, None, if◌then◌else◌}
use Rattle.mapping_records.specs.declared.eid.Eid.{Eid}
use Rattle.mapping_records.specs.declared.record.Locator.{Locator}
use Rattle.mapping_records.specs.Orders.{eid_order, put_in_order}
use Rattle.router_log.specs.declared.entry.Entry.{Entry}
use Rattle.router_log.specs.declared.entry.Entry.TheVariants.{Learned, Bits}
use Rattle.map_cache.specs.declared.mapping.Mapping.{Mapping}
use Rattle.mapping_records.specs.Eids.{same_eid}
use Rattle.router_model.specs.Journal.{Journal}
use Rattle.router_model.specs.Kept.{Kind}
use Rattle.router_model.specs.Mappings.{Held, Learning, bit, live_learnings, status_of}
use Rattle.map_cache.specs.Cache.{end_of, fresh, lowest_from, with_bits}

-- a number made since the mapping of an EID was learned: each entry Bits replaces its lowest bits, as many as the
-- entry's width, by those of `new`
abbrev pub bits_since : (ℕ → ℕ → ℕ) → Eid → Journal → ℕ
bits_since new eid [] = 0
bits_since new eid (Learned moment mapping fixed ∷ before) = if same_eid mapping.eid eid then 0 else bits_since new eid before
bits_since new eid (Bits moment of bits width ∷ before) =
    if same_eid of eid then lowest_from width (bits_since new eid before) (new bits width) else bits_since new eid before
bits_since new eid (_ ∷ before) = bits_since new eid before

-- the number whose bit i is set where a status bit of locator i came since the mapping of an EID was learned
abbrev pub known_since : Eid → Journal → ℕ
known_since eid journal = bits_since (λ bits width. 2 ^ width - 1) eid journal

-- the number whose bit i is the last status bit of locator i since the mapping of an EID was learned, 0 without one
abbrev pub told_since : Eid → Journal → ℕ
told_since eid journal = bits_since (λ bits width. bits) eid journal

-- a learned mapping as a table keeps it, with its known status bits and their values
abbrev pub made_of : ℕ → ℕ → Learning → Mapping
made_of known bits learning = record {
  eid = learning.mapping.eid;
  fixed = learning.fixed;
  end = end_of learning.moment learning.mapping learning.fixed;
  details = learning.mapping;
  known = known;
  bits = bits;
}

-- a learned mapping as a table keeps it, with its status bits in a journal
abbrev pub kept : Journal → Learning → Mapping
kept journal learning =
    made_of (known_since learning.mapping.eid journal) (told_since learning.mapping.eid journal) learning

-- the live mappings of a journal as a table keeps them, in ascending order of EID
abbrev pub kept_mappings : ℕ → Journal → List Mapping
kept_mappings now journal = map (kept journal) (live_learnings now journal)

-- whether locator i of a mapping is up: by its status bit where one is known, else as its record has it
abbrev pub known_up : Mapping → ℕ → Locator → Bool
known_up mapping i locator = if bit i mapping.known then bit i mapping.bits else locator.reachable

-- a kept mapping as decisions see it
abbrev pub held_of : Mapping → Held
held_of mapping = record {
  eid = mapping.eid;
  mapping = mapping.details;
  fixed = mapping.fixed;
  up = status_of (known_up mapping) 0 mapping.details.locators;
}

-- ### what a table keeps

-- the mapping that an entry begins, or None: with a TTL of 0 there is none, unless it is static
abbrev pub begun_mapping : Entry → Option Mapping
begun_mapping (Learned moment mapping fixed) =
    if fixed || not (mapping.ttl == 0) then Some (fresh moment mapping fixed) else None
begun_mapping _ = None

-- a mapping behind an entry: gone where its EID is learned anew, with the entry's status bits where it has some
abbrev pub mapping_step : Entry → Mapping → Option Mapping
mapping_step (Learned moment mapping fixed) old = if same_eid old.eid mapping.eid then None else Some old
mapping_step (Bits moment eid bits width) old = Some (if same_eid old.eid eid then with_bits bits width old else old)
mapping_step _ old = Some old

-- mappings as a kind of kept item, in ascending order of EID
abbrev pub mapping_kind : Kind Entry Mapping
mapping_kind = record { begins = begun_mapping; step = mapping_step; put = put_in_order (λ mapping. mapping.eid) eid_order }
