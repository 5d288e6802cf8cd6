-- The addresses that are told, found name by name: the first ones in order.
use Rattle.std.proofs.Common.{◌≡◌, ◌⊎◌, ◌<◌, ◌≤◌, ◌&&◌, ℕ, Bool, true, false, cond, IsTrue, is_lt, List, [], ◌∷◌, ◌++◌, filter, find, flat_map, fold, get_or, length, map, take, None, Some, inl, inr, refl, sym, ap, ap₂, subst, ◌∙◌, arith}
use Rattle.std.proofs.lemmas.Bool.{both_ways}
use Rattle.std.proofs.lemmas.List.{length-map, map-append, take-map}
use Rattle.std.proofs.lemmas.List.Elements.{All-filter, All-map, All-nil, All-push, filter_passes}
use Rattle.std.proofs.lemmas.List.Folds.{list_any_at}
use Rattle.std.specs.List.{All, list_any}
use Rattle.ip_headers.specs.declared.addr.Addr.{Addr}
use Rattle.ip_headers.specs.declared.addr.Addr.TheVariants.{V4}
use Rattle.lisp_settings.specs.declared.settings.Settings.{Settings}
use Rattle.locator_state.proofs.TurnsLemmas.{equal-address, first-candidates, one-probe, pairs-ascend, placed}
use Rattle.locator_state.specs.Turns.{with_target}
use Rattle.locator_state.specs.declared.target.Target.{Target}
use Rattle.map_cache.specs.Cache.{lasts}
use Rattle.map_cache.specs.Named.{is_named, named_above, named_by}
use Rattle.map_cache.specs.declared.mapping.Mapping.{Mapping}
use Rattle.mapping_records.specs.Eids.{same_address}
use Rattle.mapping_records.specs.Orders.{addr_order}
use Rattle.mapping_records.specs.declared.eid.Eid.{Eid}
use Rattle.mapping_records.specs.declared.record.Locator.{Locator}
use Rattle.router_model.proofs.StandingLemmas.{same-address}
use Rattle.router_model.specs.Cache.{held_of}
use Rattle.router_model.specs.Parts.{Parts, view_in}
use Rattle.router_model.specs.Tick.{first_told, is_told, may_take, named, named_in, with_address}
use Rattle.router_core.specs.Turning.{IsNext, has_address, is_covered, names_at}
use Rattle.router_core.specs.declared.turns.Covered.{Covered}
use Rattle.router_core.specs.declared.turns.Covered.TheVariants.{Nothing, UpTo}
use Rattle.router_core.proofs.ChangeLemmas.{later}
use Rattle.router_core.proofs.FreshLemmas.{AreFound, found-all, found-behind, found-next, found-none, found-past}

pub none-below : {A : Type 0} (items : List A) → length items < 1 → items ≡ []
none-below [] few = refl
none-below (first ∷ others) few = absurd (omega (arith, few))

-- ### addresses as targets

-- an EID, whichever
abbrev some_eid : Eid
some_eid = record { iid = 0; prefix = record { addr = V4 0; len = 0; lawful = refl }; in_range = omega arith }

-- an address as a target without a probe
abbrev pub as_target : Addr → Target
as_target address = record { rloc = address; eid = some_eid; last = None }

-- all these put in their places
abbrev all_placed : List Addr → List Addr → List Addr
all_placed addresses told = fold (λ so_far address. with_address address so_far) told addresses

map-with : (address : Addr) (told : List Addr) → map as_target (with_address address told) ≡ with_target (as_target address) (map as_target told)
map-with address [] = refl
map-with address (first ∷ others) = by (same_address address first) (is_lt (addr_order address first)) (map-with address others)
  where
    by : (b c : Bool) → map as_target (with_address address others) ≡ with_target (as_target address) (map as_target others)
        → map as_target (cond b (first ∷ others) (cond c (address ∷ first ∷ others) (first ∷ with_address address others)))
        ≡ cond b (as_target first ∷ map as_target others) (cond c (as_target address ∷ as_target first ∷ map as_target others) (as_target first ∷ with_target (as_target address) (map as_target others)))
    by true c same = refl
    by false true same = refl
    by false false same = ap (λ (l : List Target). as_target first ∷ l) same

map-placed : (addresses told : List Addr) → map as_target (all_placed addresses told) ≡ placed (map as_target addresses) (map as_target told)
map-placed [] told = refl
map-placed (address ∷ others) told =
    map-placed others (with_address address told) ∙ ap (placed (map as_target others)) (map-with address told)

map-back : (told : List Addr) → map (λ (target : Target). target.rloc) (map as_target told) ≡ told
map-back [] = refl
map-back (first ∷ others) = ap (λ (l : List Addr). first ∷ l) (map-back others)

-- addresses whose targets are the first ones in order are the first ones
first-addresses : (addresses told : List Addr) → map as_target told ≡ take 64 (placed (map as_target addresses) []) → told ≡ first_told (all_placed addresses [])
unfolding first_told
first-addresses addresses told is =
    sym (map-back told)
    ∙ ap (map (λ (target : Target). target.rloc))
    (is ∙ sym (ap (take 64) (map-placed addresses [])) ∙ take-map as_target 64 (all_placed addresses []))
    ∙ map-back (take 64 (all_placed addresses []))

-- ### names that are told

abbrev address_in : Addr × Eid → Addr
address_in name = name.0

-- the names that may be told, as targets
abbrev pub told_targets : Settings → List (Addr × Eid) → List Target
told_targets settings names = map as_target (filter (is_told settings) (map address_in names))

module _ (settings : Settings) (names : List (Addr × Eid)) where
  -- each is named
  pub told-named : All (λ target. list_any (λ name. same_address target.rloc name.0) names ≡ true) (told_targets settings names)
  told-named =
      All-map (λ target. list_any (λ name. same_address target.rloc name.0) names ≡ true) as_target (filter (is_told settings) (map address_in names))
      (All-filter (is_told settings) (λ address. list_any (λ name. same_address address name.0) names ≡ true) (map address_in names)
      (All-map (λ address. list_any (λ name. same_address address name.0) names ≡ true) address_in names
      (λ k d within. list_any_at (λ name. same_address (get_or names k d).0 name.0) names k d within (same-address (get_or names k d).0))))

  -- an address that may not be told is no target's
  pub told-no : (address : Addr) → is_told settings address ≡ false → All (λ target. target.last ≡ None → target.rloc ≡ address → ⊥) (told_targets settings names)
  told-no address fails =
      All-map (λ target. target.last ≡ None → target.rloc ≡ address → ⊥) as_target (filter (is_told settings) (map address_in names))
      (λ k d within none same. both_ways (is_told settings address) fails (ap (is_told settings) (sym same) ∙ filter_passes (is_told settings) (map address_in names) k d within))

-- the target of an address that may be told
pub told-one : (settings : Settings) (names : List (Addr × Eid)) (next : Addr × Eid) → find (λ name. same_address next.0 name.0) names ≡ Some next → is_told settings next.0 ≡ true → find (has_address next.0) (told_targets settings names) ≡ Some (as_target next.0)
told-one settings [] next is told = absurd (cc is)
told-one settings (name ∷ others) next is told = by (same_address next.0 name.0) refl is (λ later. told-one settings others next later told)
  where
    left : List Addr
    left = filter (is_told settings) (map address_in others)

    by : (b : Bool) → same_address next.0 name.0 ≡ b → cond b (Some name) (find (λ (n : Addr × Eid). same_address next.0 n.0) others) ≡ Some next
        → (find (λ (n : Addr × Eid). same_address next.0 n.0) others ≡ Some next → find (has_address next.0) (map as_target left) ≡ Some (as_target next.0))
        → find (has_address next.0) (map as_target (cond (is_told settings name.0) (name.0 ∷ left) left)) ≡ Some (as_target next.0)
    by true same here rest =
        let equal : next.0 ≡ name.0 = equal-address next.0 name.0 same in
        ap (λ b. find (has_address next.0) (map as_target (cond b (name.0 ∷ left) left))) (ap (is_told settings) (sym equal) ∙ told)
        ∙ ap (λ b. cond b (Some (as_target name.0)) (find (has_address next.0) (map as_target left))) same
        ∙ ap (λ (a : Addr). Some (as_target a)) (sym equal)
    by false apart here rest = at (is_told settings name.0)
      where
        at : (b : Bool) → find (has_address next.0) (map as_target (cond b (name.0 ∷ left) left)) ≡ Some (as_target next.0)
        at true = ap (λ b. cond b (Some (as_target name.0)) (find (has_address next.0) (map as_target left))) apart ∙ rest here
        at false = rest here

-- ### those of all mappings

named-locators : (eid : Eid) (locators : List Locator) → map address_in (map (λ (locator : Locator). (locator.addr, eid)) (filter (is_named None) locators)) ≡ map (λ (locator : Locator). locator.addr) (filter may_take locators)
named-locators eid [] = refl
named-locators eid (locator ∷ others) = by (may_take locator) (named-locators eid others)
  where
    pairs : List (Addr × Eid)
    pairs = map (λ (l : Locator). (l.addr, eid)) (filter (is_named None) others)

    by : (b : Bool) → map address_in pairs ≡ map (λ (l : Locator). l.addr) (filter may_take others)
        → map address_in (map (λ (l : Locator). (l.addr, eid)) (cond (b && true) (locator ∷ filter (is_named None) others) (filter (is_named None) others))) ≡ map (λ (l : Locator). l.addr) (cond b (locator ∷ filter may_take others) (filter may_take others))
    by true same = ap (λ (l : List Addr). locator.addr ∷ l) same
    by false same = same

named-addresses : (mappings : List Mapping) → map address_in (named_above None mappings) ≡ flat_map named_in (map held_of mappings)
named-addresses [] = refl
named-addresses (mapping ∷ others) =
    map-append address_in (named_by None mapping) (named_above None others)
    ∙ ap₂ (λ (a b : List Addr). a ++ b) (named-locators mapping.eid mapping.details.locators) (named-addresses others)

-- all that are told are the names that may be
told-placed : (settings : Settings) (p : Parts) (m : ℕ) → p.now ≤ m → named settings (view_in p m) ≡ all_placed (filter (is_told settings) (map address_in (names_at m p.mappings))) []
unfolding view_in
told-placed settings p m after =
    ap (λ (t : ℕ). all_placed (filter (is_told settings) (flat_map named_in (map held_of (filter (lasts t) p.mappings)))) []) (later m p.now after)
    ∙ ap (λ (l : List Addr). all_placed (filter (is_told settings) l) []) (sym (named-addresses (filter (lasts m) p.mappings)))

-- ### what was found

-- the addresses found so far
pub record AreTold (settings : Settings) (names : List (Addr × Eid)) (covered : Covered) (told : List Addr) : Type 0 where
  pub found : AreFound 64 (told_targets settings names) covered (map as_target told)
  pub reached : All (λ address. IsTrue (is_told settings address)) told

-- none at the start
pub told-none : (settings : Settings) (names : List (Addr × Eid)) (told : List Addr) → told ≡ [] → AreTold settings names Nothing told
told-none settings names told none =
    subst (AreTold settings names Nothing) (sym none)
    (record {
      found = found-none 64 (told_targets settings names) Nothing (λ k d within fresh. refl);
      reached = All-nil (λ address. IsTrue (is_told settings address));
    })

module _ (settings : Settings) (names : List (Addr × Eid)) (covered : Covered) (told : List Addr) (so_far : AreTold settings names covered told) where
  -- they are few
  pub told-few : length told ≤ 64
  told-few = let same = length-map told as_target in omega (arith, so_far.found.few, same)

  module _ (next : Addr × Eid) (is : IsNext covered names next) where
    -- the next one may be told
    pub told-next : is_told settings next.0 ≡ true → length told < 64 → AreTold settings names (UpTo next.0) (told ++ next.0 ∷ [])
    told-next may room = record {
      found = subst (AreFound 64 (told_targets settings names) (UpTo next.0)) (sym (map-append as_target told (next.0 ∷ [])))
          (found-next 64 (told_targets settings names) (map as_target told) covered so_far.found names (told-named settings names) next is (as_target next.0) refl refl (told-one settings names next is.first may)
          (let same = length-map told as_target in omega (arith, room, same)));
      reached = All-push (λ address. IsTrue (is_told settings address)) told next.0 so_far.reached may;
    }

    -- it may not
    pub told-past : is_told settings next.0 ≡ false → AreTold settings names (UpTo next.0) told
    told-past fails = record {
      found = found-past 64 (told_targets settings names) (map as_target told) covered so_far.found names (told-named settings names) next is (told-no settings names next.0 fails);
      reached = so_far.reached;
    }

module _ (settings : Settings) (p : Parts) (m : ℕ) (after : p.now ≤ m) (covered : Covered) (told : List Addr) (so_far : AreTold settings (names_at m p.mappings) covered told) where
  abbrev addresses : List Addr
  addresses = filter (is_told settings) (map address_in (names_at m p.mappings))

  fresh : All (λ target. target.last ≡ None) (map as_target addresses)
  fresh = All-map (λ target. target.last ≡ None) as_target addresses (λ k d within. refl)

  told-first : (length (map as_target told) ≡ 64) ⊎ All (λ target. list_any (has_address target.rloc) (map as_target told) ≡ true) (map as_target addresses) → told ≡ first_told (named settings (view_in p m))
  told-first enough =
      first-addresses addresses told
      (first-candidates 64 (map as_target addresses) (map as_target told) (one-probe (λ address. None) (map as_target addresses) fresh) (pairs-ascend (map as_target told) so_far.found.ascend) so_far.found.few so_far.found.found
      (λ k d inside unnamed. elim (found-behind 64 (map as_target addresses) (map as_target told) covered so_far.found k d inside (fresh k d inside)) [
        | inl there ↦ absurd (both_ways (list_any (has_address (get_or (map as_target addresses) k d).rloc) (map as_target told)) unnamed there)
        | inr behind ↦ behind
      ])
      enough)
      ∙ ap first_told (sym (told-placed settings p m after))

  -- as many as get SMRs are the first ones
  pub told-most : 64 ≤ length told → told ≡ first_told (named settings (view_in p m))
  told-most full =
      told-first (inl (let same = length-map told as_target in omega (arith, full, same, so_far.found.few)))

  -- where all names are covered, all of them are
  pub told-all : All (λ name. is_covered covered name.0 ≡ true) (names_at m p.mappings) → told ≡ first_told (named settings (view_in p m))
  told-all every =
      told-first
      (inr (λ k d inside. found-all 64 (map as_target addresses) (map as_target told) covered so_far.found (names_at m p.mappings) (told-named settings (names_at m p.mappings)) every k d inside (fresh k d inside)))
