-- Bounds of a table: its numbers fit the headers made of them, its lists keep to a size, its mappings keep to limits.
use Rattle.std.specs.Prelude.{◌≡◌, ◌≤◌, ◌<◌, ◌+◌, ◌*◌, ◌^◌, ℕ, List, All, count_by}
use Rattle.lisp_settings.specs.Instances.{all_mappings, mappings_in}
use Rattle.lisp_settings.specs.declared.settings.LimitItem.{LimitItem}
use Rattle.locator_state.specs.Observed.{Located, Observed, longest}
use Rattle.locator_state.specs.Limits.{most_probes, most_reserved as most_reserved_probes}
use Rattle.map_cache.specs.Cache.{Cache, learned_in}
use Rattle.map_cache.specs.Limits.{most_locators, most_mappings}
use Rattle.map_cache.specs.declared.mapping.Mapping.{Mapping}
use Rattle.request_queue.specs.Queue.{Queue}
use Rattle.request_queue.specs.Limits.{most_open, most_reserved as most_reserved_requests}
use Rattle.router_model.specs.Limits.{most_message_records}
use Rattle.router_log.specs.declared.kept.EchoOut.{EchoOut}
use Rattle.router_log.specs.declared.kept.EchoOut.TheVariants.{Plain, Answer, Ask}
use Rattle.router_log.specs.declared.kept.EchoStart.{EchoStart}
use Rattle.router_log.specs.declared.kept.EchoWish.{EchoWish}

-- the Map-Version of a mapping has 12 bits (RFC 9302, section 6)
abbrev pub IsVersioned : Mapping → Type 0
IsVersioned mapping = mapping.details.version ≤ 4095

-- the Map-Version of each of the mappings has 12 bits
abbrev pub AreVersioned : List Mapping → Type 0
AreVersioned mappings = All IsVersioned mappings

-- the nonce of a requested echo has 24 bits (RFC 9300, section 5.1)
abbrev pub IsShortStart : EchoStart → Type 0
IsShortStart start = start.nonce < 2 ^ 24

abbrev pub IsShortWish : EchoWish → Type 0
IsShortWish wish = wish.nonce < 2 ^ 24

-- the nonces of all requested and of all wanted echoes have 24 bits
abbrev pub AreShort : Observed → Type 0
AreShort o = All IsShortStart o.starts × All IsShortWish o.wishes

-- the nonce of an echo in a header, if it has one, has 24 bits
abbrev pub IsShortOut : EchoOut → Type 0
IsShortOut Plain = Unit {0}
IsShortOut (Answer nonce) = nonce < 2 ^ 24
IsShortOut (Ask nonce) = nonce < 2 ^ 24

-- ### size

-- the most items in all lists of a table together, which is no sharp bound
abbrev pub most_kept : ℕ
most_kept = 12000000

-- the lists of a table are bounded: each list of the state of locators by the most probes that count, and all places by
-- the items that are kept at most and those that are reserved at once (all mappings of a reply, requests, probes)
pub record AreBounded (cache : Cache) (queue : Queue) (located : Located) (own_count : ℕ) : Type 0 where
  pub mappings : cache.mapping_places ≤ most_mappings + most_message_records
  pub requests : queue.places ≤ 2 * (most_open + most_reserved_requests)
  pub probes : located.places ≤ 2 * (most_probes + most_reserved_probes)
  pub longest : longest located.observed ≤ most_probes
  pub own : own_count ≤ most_locators

-- ### limits of instances

-- no instance has learned more mappings than its limit, and the fixed mappings and all limits together are no more than
-- may live
pub record KeepLimits (limits : List LimitItem) (mappings : List Mapping) : Type 0 where
  pub each : (iid : ℕ) → learned_in iid mappings ≤ mappings_in limits iid
  pub all : count_by (λ mapping. mapping.fixed) mappings + all_mappings limits ≤ most_mappings

-- cache and queue have the limits of the table, and the mappings keep to them
pub record AreLimited (limits : List LimitItem) (cache : Cache) (queue : Queue) : Type 0 where
  pub mappings : cache.limits ≡ limits
  pub requests : queue.limits ≡ limits
  pub keeps : KeepLimits limits cache.mappings
