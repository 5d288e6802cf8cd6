-- Locators without a probe, found name by name: what was found is covered, and all others come behind it.
use Rattle.std.proofs.Common.{◌≡◌, ◌⊎◌, ◌≤◌, ◌<◌, ◌==◌, ◌&&◌, ◌||◌, ℕ, not, Bool, true, false, List, [], ◌∷◌, ◌++◌, find, get_or, length, Option, None, Some, is_lt, is_none, is_some, nat_lt, inl, inr, refl, sym, ap, ap₂, subst, ◌∙◌, arith}
use Rattle.std.proofs.lemmas.Bool.{and_from, and_parts, both_ways, cases_Bool, not-false, not-true, not_from_false, or_left, or_right, true_from_ne_false}
use Rattle.std.proofs.lemmas.List.{length-append}
use Rattle.std.proofs.lemmas.List.Elements.{All-head, All-push, All-tail, All-weaker}
use Rattle.std.proofs.lemmas.List.Folds.{list_any-append}
use Rattle.std.proofs.lemmas.List.Quantifiers.{all_pairs_push}
use Rattle.std.specs.List.{All, AllPairs, list_any}
use Rattle.ip_headers.specs.declared.addr.Addr.{Addr}
use Rattle.lisp_settings.specs.declared.settings.OwnLocator.{OwnLocator}
use Rattle.lisp_settings.specs.declared.settings.Settings.{Settings}
use Rattle.locator_state.proofs.TurnsLemmas.{equal-address}
use Rattle.locator_state.specs.Probes.{last_probe}
use Rattle.locator_state.specs.Turns.{goes_before, has_rested, turn_of}
use Rattle.locator_state.specs.declared.target.Target.{Target}
use Rattle.map_cache.proofs.NamedLemmas.{not_below, not_itself}
use Rattle.mapping_records.proofs.OrderLemmas.{addr_order-total}
use Rattle.mapping_records.specs.Eids.{same_address}
use Rattle.mapping_records.specs.Orders.{addr_order}
use Rattle.mapping_records.specs.declared.eid.Eid.{Eid}
use Rattle.router_log.specs.declared.kept.Probe.{Probe}
use Rattle.router_model.specs.Site.{is_own, ours}
use Rattle.router_model.specs.Tick.{is_told}
use Rattle.router_core.specs.Turning.{AreFresh, IsNext, SuitNames, has_address, is_covered, suits, suits_address}
use Rattle.router_core.specs.declared.turns.Covered.{Covered}
use Rattle.router_core.specs.declared.turns.Covered.TheVariants.{Everything, Nothing, UpTo}
use Rattle.router_core.specs.declared.turns.Turns.{Turns}
use Rattle.router_core.proofs.NextNameLemmas.{covered-next, level}

-- ### what is covered

-- what is covered is below what isn't
covered-below : (covered : Covered) (a b : Addr) → is_covered covered a ≡ true → is_covered covered b ≡ false → is_lt (addr_order a b) ≡ true
covered-below Nothing a b here beyond = absurd (cc here)
covered-below (UpTo last) a b here beyond =
    true_from_ne_false (is_lt (addr_order a b))
    (λ isn't. both_ways (is_lt (addr_order last b)) (not_below addr_order-total b a last isn't (not-true (is_lt (addr_order last a)) here)) (not-false (is_lt (addr_order last b)) beyond))
covered-below Everything a b here beyond = absurd (cc beyond)

-- an address is covered up to it
covered-itself : (next : Addr) → is_covered (UpTo next) next ≡ true
covered-itself next = not_from_false (is_lt (addr_order next next)) (not_itself addr_order-total next)

-- ### names

-- what holds of all names holds of an address that is one of them
name-holds : (P : Addr → Type 0) (names : List (Addr × Eid)) (addr : Addr) → All (λ name. P name.0) names → list_any (λ name. same_address addr name.0) names ≡ true → P addr
name-holds P [] addr all named = absurd (cc named)
name-holds P (name ∷ others) addr all named =
    by (same_address addr name.0) refl named (name-holds P others addr (All-tail (λ (n : Addr × Eid). P n.0) name others all))
  where
    by : (b : Bool) → same_address addr name.0 ≡ b → (b || list_any (λ (n : Addr × Eid). same_address addr n.0) others) ≡ true
        → (list_any (λ (n : Addr × Eid). same_address addr n.0) others ≡ true → P addr) → P addr
    by true same is rest =
        subst P (sym (equal-address addr name.0 same)) (All-head (λ (n : Addr × Eid). P n.0) name others all)
    by false same is rest = rest is

-- of the addresses of names up to the next one, that one alone wasn't covered
covered-cases : (covered : Covered) (names : List (Addr × Eid)) (next : Addr × Eid) (addr : Addr) → IsNext covered names next → list_any (λ name. same_address addr name.0) names ≡ true → is_covered (UpTo next.0) addr ≡ true
    → (is_covered covered addr ≡ true) ⊎ (same_address addr next.0 ≡ true)
covered-cases covered names next addr is named here = elim (cases_Bool (is_covered covered addr)) [
  | inl before ↦ inl before
  | inr beyond ↦
      let low : is_lt (addr_order addr next.0) ≡ false = name-holds (λ a. is_covered covered a ≡ false → is_lt (addr_order a next.0) ≡ false) names addr is.least named beyond in
      let high : is_lt (addr_order next.0 addr) ≡ false = not-true (is_lt (addr_order next.0 addr)) here in
      inr (level addr next.0 low high)
]

-- ### targets that were found

-- of two without a probe the one of the lesser address goes first
fresh-before : (a b : Target) → a.last ≡ None → b.last ≡ None → is_lt (addr_order a.rloc b.rloc) ≡ true → goes_before a b ≡ true
fresh-before a b first second less =
    ap₂ (λ (l r : Option ℕ). nat_lt (turn_of l) (turn_of r) || ((turn_of l == turn_of r) && is_lt (addr_order a.rloc b.rloc))) first second ∙ less

-- at most so many targets without a probe, in order, each the first of its address: all of them that are covered
pub record AreFound (most : ℕ) (all : List Target) (covered : Covered) (first : List Target) : Type 0 where
  pub ascend : AllPairs (λ a b. goes_before a b ≡ true) first
  pub few : length first ≤ most
  pub found : All (λ target. find (has_address target.rloc) all ≡ Some target) first
  pub fresh : All (λ target. target.last ≡ None) first
  pub within : All (λ target. is_covered covered target.rloc ≡ true) first
  pub there : All (λ target. target.last ≡ None → is_covered covered target.rloc ≡ true → list_any (has_address target.rloc) first ≡ true) all

-- none is found where none is covered
pub found-none : (most : ℕ) (all : List Target) (covered : Covered) → All (λ target. target.last ≡ None → is_covered covered target.rloc ≡ false) all → AreFound most all covered []
found-none most all covered beyond = record {
  ascend = λ i j d order within. absurd (omega (arith, within));
  few = omega arith;
  found = λ k d within. absurd (omega (arith, within));
  fresh = λ k d within. absurd (omega (arith, within));
  within = λ k d within. absurd (omega (arith, within));
  there = λ k d within none here. absurd (both_ways (is_covered covered (get_or all k d).rloc) (beyond k d within none) here);
}

module _ (most : ℕ) (all first : List Target) (covered : Covered) (so_far : AreFound most all covered first) where
  -- those that aren't found come behind all that are
  pub found-behind : All (λ target. target.last ≡ None → (list_any (has_address target.rloc) first ≡ true) ⊎ All (λ other. goes_before other target ≡ true) first) all
  found-behind k d inside none = elim (cases_Bool (is_covered covered (get_or all k d).rloc)) [
    | inl here ↦ inl (so_far.there k d inside none here)
    | inr beyond ↦ inr (λ j e within. fresh-before (get_or first j e) (get_or all k d) (so_far.fresh j e within) none (covered-below covered (get_or first j e).rloc (get_or all k d).rloc (so_far.within j e within) beyond))
  ]

  module _ (names : List (Addr × Eid)) (named : All (λ target. list_any (λ name. same_address target.rloc name.0) names ≡ true) all) where
    -- where all names are covered, all are found
    pub found-all : All (λ name. is_covered covered name.0 ≡ true) names → All (λ target. target.last ≡ None → list_any (has_address target.rloc) first ≡ true) all
    found-all every k d inside none =
        so_far.there k d inside none (name-holds (λ a. is_covered covered a ≡ true) names (get_or all k d).rloc every (named k d inside))

    module _ (next : Addr × Eid) (is : IsNext covered names next) where
      within-next : All (λ target. is_covered (UpTo next.0) target.rloc ≡ true) first
      within-next =
          All-weaker (λ target. is_covered covered target.rloc ≡ true) (λ target. is_covered (UpTo next.0) target.rloc ≡ true)
          (λ target here. covered-next covered next.0 target.rloc is.beyond here) first so_far.within

      -- the target of the next name, put at the end
      pub found-next : (target : Target) → target.rloc ≡ next.0 → target.last ≡ None → find (has_address target.rloc) all ≡ Some target → length first < most → AreFound most all (UpTo next.0) (first ++ target ∷ [])
      found-next target same none found room = record {
        ascend = all_pairs_push (λ a b. goes_before a b ≡ true) first target so_far.ascend
            (λ k d within. fresh-before (get_or first k d) target (so_far.fresh k d within) none
            (subst (λ (a : Addr). is_lt (addr_order (get_or first k d).rloc a) ≡ true) (sym same) (covered-below covered (get_or first k d).rloc next.0 (so_far.within k d within) is.beyond)));
        few = let longer = length-append first (target ∷ []) in omega (arith, room, longer);
        found = All-push (λ t. find (has_address t.rloc) all ≡ Some t) first target so_far.found found;
        fresh = All-push (λ t. t.last ≡ None) first target so_far.fresh none;
        within = All-push (λ t. is_covered (UpTo next.0) t.rloc ≡ true) first target within-next (ap (is_covered (UpTo next.0)) same ∙ covered-itself next.0);
        there = λ k d inside fresh here.
            list_any-append (has_address (get_or all k d).rloc) first (target ∷ [])
            ∙ elim (covered-cases covered names next (get_or all k d).rloc is (named k d inside) here) [
              | inl before ↦ or_left (list_any (has_address (get_or all k d).rloc) first) (same_address (get_or all k d).rloc target.rloc || false) (so_far.there k d inside fresh before)
              | inr equal ↦ or_right (list_any (has_address (get_or all k d).rloc) first) (same_address (get_or all k d).rloc target.rloc || false) (or_left (same_address (get_or all k d).rloc target.rloc) false (ap (same_address (get_or all k d).rloc) same ∙ equal))
            ];
      }

      -- the next name is no target's
      pub found-past : All (λ target. target.last ≡ None → target.rloc ≡ next.0 → ⊥) all → AreFound most all (UpTo next.0) first
      found-past none = record {
        ascend = so_far.ascend;
        few = so_far.few;
        found = so_far.found;
        fresh = so_far.fresh;
        within = within-next;
        there = λ k d inside fresh here. elim (covered-cases covered names next (get_or all k d).rloc is (named k d inside) here) [
          | inl before ↦ so_far.there k d inside fresh before
          | inr equal ↦ absurd (none k d inside fresh (equal-address (get_or all k d).rloc next.0 equal))
        ];
      }

-- ### those whose turn it is

-- what is known of an address that may be probed
told-suits : (settings : Settings) (own : List OwnLocator) (turns : Turns) (probes : List Probe) (addr : Addr) → settings.locators ≡ own → is_told settings addr ≡ true → suits_address own turns probes addr ≡ true → suits turns addr (last_probe turns.walked probes addr) ≡ true
told-suits settings own turns probes addr same told is =
    let parts = and_parts (not (is_own settings.locators addr)) (is_some (ours settings.locators addr)) told in
    by (is_own own addr) (ours own addr) (ap (λ (l : List OwnLocator). not (is_own l addr)) (sym same) ∙ parts.0) (ap (λ (l : List OwnLocator). is_some (ours l addr)) (sym same) ∙ parts.1) is
  where
    by : (b : Bool) (o : Option Addr) → not b ≡ true → is_some o ≡ true → (b || (is_none o || suits turns addr (last_probe turns.walked probes addr))) ≡ true → suits turns addr (last_probe turns.walked probes addr) ≡ true
    by true o other up known = absurd (cc other)
    by false None other up known = absurd (cc up)
    by false (Some x) other up known = known

module _ (settings : Settings) (m : ℕ) (probes : List Probe) (names : List (Addr × Eid)) (all : List Target) (told : All (λ target. is_told settings target.rloc ≡ true) all) (last : All (λ target. target.last ≡ last_probe m probes target.rloc) all) where
  -- at the start none is covered
  pub fresh-none : (own : List OwnLocator) (turns : Turns) → settings.locators ≡ own → turns.walked ≡ m → SuitNames own turns probes names → All (λ target. list_any (λ name. same_address target.rloc name.0) names ≡ true) all → AreFound 16 all turns.covered []
  fresh-none own turns same walked known named =
      found-none 16 all turns.covered
      (λ k d within none. let x : Target = get_or all k d in
      let none_last : last_probe turns.walked probes x.rloc ≡ None = ap (λ (t : ℕ). last_probe t probes x.rloc) walked ∙ sym (last k d within) ∙ none in
      let holds : suits_address own turns probes x.rloc ≡ true = name-holds (λ a. suits_address own turns probes a ≡ true) names x.rloc known (named k d within) in
      not-true (is_covered turns.covered x.rloc) (sym (ap (suits turns x.rloc) none_last) ∙ told-suits settings own turns probes x.rloc same (told k d within) holds))

  -- an address that may not be probed, or that has a probe, is no target's without one
  pub fresh-no : (addr : Addr) → (is_told settings addr && is_none (last_probe m probes addr)) ≡ false → All (λ target. target.last ≡ None → target.rloc ≡ addr → ⊥) all
  fresh-no addr fails k d within none same =
      both_ways (is_told settings addr && is_none (last_probe m probes addr)) fails
      (and_from (is_told settings addr) (is_none (last_probe m probes addr)) (ap (is_told settings) (sym same) ∙ told k d within)
      (ap is_none (ap (last_probe m probes) (sym same) ∙ sym (last k d within) ∙ none)))

-- the target of an address that has no probe
pub fresh-one : (m : ℕ) (rloc : Addr) (eid : Eid) (all : List Target) (last : Option ℕ) → is_none last ≡ true → (has_rested m last ≡ true → find (has_address rloc) all ≡ Some (record { rloc = rloc; eid = eid; last = last })) → find (has_address rloc) all ≡ Some (record { rloc = rloc; eid = eid; last = None })
fresh-one m rloc eid all None none found = found refl
fresh-one m rloc eid all (Some moment) none found = absurd (cc none)

module _ (all first : List Target) (covered : Covered) (so_far : AreFound 16 all covered first) where
  -- as many as are probed
  pub fresh-most : 16 ≤ length first → AreFresh all first
  fresh-most full = record {
    chosen = record { ascend = so_far.ascend; few = so_far.few; found = so_far.found };
    fresh = so_far.fresh;
    placed = λ k d inside none. elim (found-behind 16 all first covered so_far k d inside none) [
      | inl there ↦ inl there
      | inr behind ↦ inr (omega (arith, full, so_far.few), behind)
    ];
  }

  -- where all names are covered, all
  pub fresh-all : (names : List (Addr × Eid)) → All (λ target. list_any (λ name. same_address target.rloc name.0) names ≡ true) all → All (λ name. is_covered covered name.0 ≡ true) names → AreFresh all first
  fresh-all names named every = record {
    chosen = record { ascend = so_far.ascend; few = so_far.few; found = so_far.found };
    fresh = so_far.fresh;
    placed = λ k d inside none. inl (found-all 16 all first covered so_far names named every k d inside none);
  }
