-- The names of mappings, once one of them is put in, taken away or told.
use Rattle.std.proofs.Common.{◌≡◌, ◌≢◌, ℕ, ◌==◌, ◌&&◌, ◌||◌, not, true, List, Some, is_eq, refl, sym, ap, ◌∙◌, ne_eqb}
use Rattle.std.specs.List.{list_any}
use Rattle.std.proofs.lemmas.Bool.{and_parts}
use Rattle.mapping_records.specs.Eids.{same_address, same_eid}
use Rattle.mapping_records.specs.Orders.{eid_order, put_in_order}
use Rattle.mapping_records.specs.declared.eid.Eid.{Eid}
use Rattle.mapping_records.specs.declared.record.Locator.{Locator}
use Rattle.ordered_set.specs.Keys.{has}
use Rattle.map_cache.specs.Cache.{bits_told, exact, without_eid}
use Rattle.map_cache.specs.Indexed.{name_order, names_as, names_by}
use Rattle.map_cache.specs.Lists.{IsAscending}
use Rattle.map_cache.specs.declared.keys.Name.{Name}
use Rattle.map_cache.specs.declared.mapping.Mapping.{Mapping}
use Rattle.map_cache.proofs.AmongLemmas.{among-any}
use Rattle.map_cache.proofs.EidLemmas.{is_eq-name}
use Rattle.map_cache.proofs.EndingLemmas.{any-left, any-put}
use Rattle.map_cache.proofs.PlaceOfLemmas.{exact-at, place_in}
use Rattle.map_cache.proofs.RoomLemmas.{name_of}
use Rattle.map_cache.proofs.ToldLemmas.{any-told}

-- a locator that may be used names what ties with its name
pub ties-by : (key : Name) (eid : Eid) (locator : Locator) → locator.priority ≢ 255 → is_eq (name_order (name_of eid locator) key) ≡ names_by key eid locator
ties-by key eid locator usable =
    is_eq-name (name_of eid locator) key
    ∙ sym (ap (λ b. not b && (same_address locator.addr key.addr && same_eid eid key.eid)) (ne_eqb locator.priority 255 usable))

-- a mapping names under its own EID
pub names-same : (key : Name) (x : Mapping) → names_as key x ≡ true → same_eid x.eid key.eid ≡ true
names-same key x names =
    let one = among-any (names_by key x.eid) x.details.locators names in
    let outer = and_parts (not ((one.item).priority == 255)) (same_address (one.item).addr key.addr && same_eid x.eid key.eid) one.passes in
    let inner = and_parts (same_address (one.item).addr key.addr) (same_eid x.eid key.eid) outer.1 in
    inner.1

module _ (mappings new : List Mapping) (keys now_keys : List Name) (x : Mapping) (are : (key : Name) → has name_order key keys ≡ list_any (names_as key) mappings) where
  -- a mapping is put in
  pub names-entered : new ≡ put_in_order (λ i. i.eid) eid_order x mappings
      → ((key : Name) → has name_order key now_keys ≡ (names_as key x || has name_order key keys))
      → (key : Name) → has name_order key now_keys ≡ list_any (names_as key) new
  names-entered put members key =
      members key
      ∙ ap (λ b. names_as key x || b) (are key)
      ∙ sym (ap (list_any (names_as key)) put ∙ any-put (names_as key) x mappings)

  -- the mapping of an EID is taken away
  pub names-dropped : (eid : Eid) → IsAscending mappings → exact mappings eid ≡ Some x
      → new ≡ without_eid eid mappings
      → ((key : Name) → has name_order key now_keys ≡ (not (names_as key x) && has name_order key keys))
      → (key : Name) → has name_order key now_keys ≡ list_any (names_as key) new
  names-dropped eid ascending found left members key =
      let at = exact-at eid mappings x ascending found in
      members key
      ∙ ap (λ b. not (names_as key x) && b) (are key)
      ∙ sym (ap (list_any (names_as key)) left ∙ any-left eid key.eid (names_as key) (names-same key) mappings (place_in eid mappings) x at.1 at.0)

-- status bits name nothing
pub names-told : (eid : Eid) (bits width : ℕ) (key : Name) (mappings : List Mapping) → list_any (names_as key) mappings ≡ list_any (names_as key) (bits_told eid bits width mappings)
names-told eid bits width key mappings = sym (any-told eid bits width (names_as key) (λ x. refl) mappings)
