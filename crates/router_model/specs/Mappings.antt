-- Mappings in the journal: which are live (RFC 9301, section 5.4), and the status of their locators (RFC 9300, section 10).
use Rattle.std.specs.Prelude.{ℕ, suc, ◌-◌, ◌/◌, ◌%◌, ◌^◌, ◌==◌, ◌||◌, ◌&&◌, nat_lt, not, Bool, List, [], ◌∷◌, filter, filter_map, map, Option, Some, None, unwrap_or, if◌then◌else◌}
use Rattle.ip_headers.specs.declared.addr.Addr.{Addr}
use Rattle.mapping_records.specs.declared.eid.Eid.{Eid}
use Rattle.mapping_records.specs.declared.record.Locator.{Locator}
use Rattle.mapping_records.specs.declared.record.Record.{Record}
use Rattle.mapping_records.specs.Orders.{eid_order, put_in_order}
use Rattle.router_log.specs.declared.entry.Entry.TheVariants.{Learned, Bits}
use Rattle.mapping_records.specs.Eids.{exactly, longest, same_eid}
use Rattle.router_model.specs.Journal.{Journal}
use Rattle.map_cache.specs.Cache.{lifetime}
use Rattle.locator_state.specs.Lists.{only_if}

-- a mapping that was learned, and its moment; `fixed` for a static mapping
pub record Learning : Type 0 where
  pub moment : ℕ
  pub mapping : Record
  pub fixed : Bool

-- the last mapping learned for exactly that EID
abbrev pub last_learned : Eid → Journal → Option Learning
last_learned eid [] = None
last_learned eid (Learned moment mapping fixed ∷ before) =
    if same_eid mapping.eid eid then Some (record { moment = moment; mapping = mapping; fixed = fixed })
    else last_learned eid before
last_learned eid (_ ∷ before) = last_learned eid before

-- whether a learned mapping is live: a static one always, another one until its TTL is over
abbrev pub is_live : ℕ → Learning → Bool
is_live now learning =
    learning.fixed || (not (learning.mapping.ttl == 0) && nat_lt (now - learning.moment) (lifetime learning.mapping.ttl))

-- the mapping of exactly that EID, where it is live
abbrev pub live : ℕ → Eid → Journal → Option Learning
live now eid journal = only_if (is_live now) (last_learned eid journal)

-- the EIDs for which a mapping was ever learned, in ascending order
abbrev pub eids : Journal → List Eid
eids [] = []
eids (Learned moment mapping fixed ∷ before) =
    put_in_order (λ eid. eid) eid_order mapping.eid (filter (λ other. not (same_eid other mapping.eid)) (eids before))
eids (_ ∷ before) = eids before

-- the mappings that were learned and are live, in ascending order of EID
abbrev pub live_learnings : ℕ → Journal → List Learning
live_learnings now journal = filter_map (λ eid. live now eid journal) (eids journal)

-- whether bit i of a number is set
abbrev pub bit : ℕ → ℕ → Bool
bit i bits = bits / 2 ^ i % 2 == 1

-- the last status bit of locator i since the mapping of an EID was learned, among entries of more than i bits
abbrev pub bit_told : Eid → ℕ → Journal → Option Bool
bit_told eid i [] = None
bit_told eid i (Learned moment mapping fixed ∷ before) = if same_eid mapping.eid eid then None else bit_told eid i before
bit_told eid i (Bits moment of bits width ∷ before) =
    if same_eid of eid && nat_lt i width then Some (bit i bits) else bit_told eid i before
bit_told eid i (_ ∷ before) = bit_told eid i before

-- whether locator i of a mapping is up: by its status bit where one came, else as its record has it
abbrev pub bits_up : Journal → Eid → ℕ → Locator → Bool
bits_up journal eid i locator = unwrap_or (bit_told eid i journal) locator.reachable

-- the status of each of the locators from number i on
abbrev pub status_of : (ℕ → Locator → Bool) → ℕ → List Locator → List Bool
status_of up i [] = []
status_of up i (locator ∷ locators) = up i locator ∷ status_of up (suc i) locators

-- a live mapping as decisions see it, `up` being the status of each of its locators
pub record Held : Type 0 where
  pub eid : Eid
  pub mapping : Record
  pub fixed : Bool
  pub up : List Bool

-- a learned mapping as decisions see it, with the status of its locators in a journal
abbrev pub held : Journal → Learning → Held
held journal learning = record {
  eid = learning.mapping.eid;
  mapping = learning.mapping;
  fixed = learning.fixed;
  up = status_of (bits_up journal learning.mapping.eid) 0 learning.mapping.locators;
}

-- the live mappings of a journal as decisions see them, in ascending order of EID
abbrev pub live_mappings : ℕ → Journal → List Held
live_mappings now journal = map (held journal) (live_learnings now journal)

-- the one of live mappings with exactly this EID
abbrev pub exact : List Held → Eid → Option Held
exact mappings eid = exactly (λ held. held.eid) mappings eid

-- the mapping in force for a prefix of an instance: the longest of live mappings that covers it
abbrev pub force : List Held → ℕ → Addr → ℕ → Option Held
force mappings iid addr len = longest (λ held. held.eid) mappings iid addr len
