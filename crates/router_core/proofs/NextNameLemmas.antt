-- The next name: the least address that isn't covered, by the first name of it. Behind it fewer names are left.
use Rattle.std.proofs.Common.{◌≡◌, ◌≤◌, ◌<◌, ◌==◌, ◌&&◌, ℕ, suc, Bool, true, false, cond, not, List, [], ◌∷◌, ◌++◌, filter, find, fold, length, map, All, Contains, Option, None, Some, IfSome, is_eq, is_lt, inl, inr, refl, sym, subst, ap, ap₂, ◌∙◌, arith}
use Rattle.std.proofs.lemmas.Bool.{cases_Bool, false_from_ne_true, false≢true, not-false, not-true, not_from_false, not_from_true}
use Rattle.std.proofs.lemmas.List.Elements.{All-cons, All-contains, All-head, All-nil, All-tail, All-weaker, filter-append, filter_passes}
use Rattle.std.proofs.lemmas.Option.{same_Some}
use Rattle.ip_headers.specs.Addr.{IsAddr}
use Rattle.ip_headers.specs.declared.addr.Addr.{Addr}
use Rattle.locator_state.proofs.TurnsLemmas.{equal-address}
use Rattle.map_cache.proofs.EidLemmas.{is_eq-addr}
use Rattle.map_cache.proofs.NamedLemmas.{below-not, flip, least-least, least-none, least-one, not_below, not_itself, tied}
use Rattle.map_cache.specs.Named.{comes_after, is_named, least_named, lesser, named_above, named_by, IsNoLess}
use Rattle.map_cache.specs.declared.mapping.Mapping.{Mapping}
use Rattle.mapping_records.proofs.OrderLemmas.{addr_order-total}
use Rattle.mapping_records.specs.Eids.{same_address}
use Rattle.mapping_records.specs.Orders.{addr_order}
use Rattle.mapping_records.specs.declared.eid.Eid.{Eid}
use Rattle.mapping_records.specs.declared.record.Locator.{Locator}
use Rattle.router_model.proofs.StandingLemmas.{same-address}
use Rattle.router_core.specs.Turning.{IsNext, is_covered}
use Rattle.router_core.specs.declared.turns.Covered.{Covered}
use Rattle.router_core.specs.declared.turns.Covered.TheVariants.{Nothing, UpTo, Everything}
use Rattle.router_core.proofs.KnownLemmas.{name_in}

-- ### lists of names

-- what holds of names that pass holds of each name if it passes
all-passing : (P : Addr × Eid → Type 0) (q : Addr × Eid → Bool) (names : List (Addr × Eid)) → All P (filter q names) → All (λ name. q name ≡ true → P name) names
all-passing P q [] all = All-nil (λ name. q name ≡ true → P name)
all-passing P q (x ∷ names) all = by (q x) refl all (all-passing P q names)
  where
    by : (b : Bool) → q x ≡ b → All P (cond b (x ∷ filter q names) (filter q names)) → (All P (filter q names) → All (λ name. q name ≡ true → P name) names) → All (λ name. q name ≡ true → P name) (x ∷ names)
    by true is these rest =
        All-cons (λ name. q name ≡ true → P name) x names (λ _. All-head P x (filter q names) these) (rest (All-tail P x (filter q names) these))
    by false is these rest = All-cons (λ name. q name ≡ true → P name) x names (λ so. absurd (false≢true (sym is ∙ so))) (rest these)

-- the first of some that all pass
find-passing : (p q : Addr × Eid → Bool) → ((name : Addr × Eid) → p name ≡ true → q name ≡ true) → (names : List (Addr × Eid)) → find p (filter q names) ≡ find p names
find-passing p q passes [] = refl
find-passing p q passes (x ∷ names) = by (p x) (q x) refl refl (find-passing p q passes names)
  where
    by : (b c : Bool) → p x ≡ b → q x ≡ c → find p (filter q names) ≡ find p names → find p (cond c (x ∷ filter q names) (filter q names)) ≡ cond b (Some x) (find p names)
    by b true is so rest = ap (λ (d : Bool). cond d (Some x) (find p (filter q names))) is ∙ ap (λ (o : Option (Addr × Eid)). cond b (Some x) o) rest
    by false false is so rest = rest
    by true false is so rest = absurd (false≢true (sym so ∙ passes x is))

-- none is found where each fails
find-failing : (p : Addr × Eid → Bool) (names : List (Addr × Eid)) → All (λ name. p name ≡ false) names → find p names ≡ None
find-failing p [] all = refl
find-failing p (x ∷ names) all =
    ap (λ (b : Bool). cond b (Some x) (find p names)) (All-head (λ name. p name ≡ false) x names all)
    ∙ find-failing p names (All-tail (λ name. p name ≡ false) x names all)

-- where each that passes a test passes another, no more pass it
passing-few : (p q : Addr × Eid → Bool) → ((name : Addr × Eid) → q name ≡ true → p name ≡ true) → (names : List (Addr × Eid)) → length (filter q names) ≤ length (filter p names)
passing-few p q passes [] = omega arith
passing-few p q passes (x ∷ names) = by (p x) (q x) refl refl (passing-few p q passes names)
  where
    by : (b c : Bool) → p x ≡ b → q x ≡ c → length (filter q names) ≤ length (filter p names) → length (cond c (x ∷ filter q names) (filter q names)) ≤ length (cond b (x ∷ filter p names) (filter p names))
    by true true is so rest = omega (arith, rest)
    by true false is so rest = omega (arith, rest)
    by false true is so rest = absurd (false≢true (sym is ∙ passes x so))
    by false false is so rest = rest

-- and fewer pass it, if a name that is found passes the other alone
passing-fewer : (p q t : Addr × Eid → Bool) → ((name : Addr × Eid) → q name ≡ true → p name ≡ true) → (other : Addr × Eid) → p other ≡ true → q other ≡ false → (names : List (Addr × Eid)) → find t names ≡ Some other → length (filter q names) < length (filter p names)
passing-fewer p q t passes other left gone [] is = absurd (cc is)
passing-fewer p q t passes other left gone (x ∷ names) is =
    by (t x) is (passing-fewer p q t passes other left gone names)
  where
    here : x ≡ other → length (filter q (x ∷ names)) < length (filter p (x ∷ names))
    here same =
        let few : length (filter q names) ≤ length (filter p names) = passing-few p q passes names in
        let more : length (filter p (x ∷ names)) ≡ suc (length (filter p names)) = ap (λ (b : Bool). length (cond b (x ∷ filter p names) (filter p names))) (ap p same ∙ left) in
        let less : length (filter q (x ∷ names)) ≡ length (filter q names) = ap (λ (b : Bool). length (cond b (x ∷ filter q names) (filter q names))) (ap q same ∙ gone) in
        omega (arith, few, more, less)

    later : (b c : Bool) → p x ≡ b → q x ≡ c → length (filter q names) < length (filter p names) → length (cond c (x ∷ filter q names) (filter q names)) < length (cond b (x ∷ filter p names) (filter p names))
    later true true is so rest = omega (arith, rest)
    later true false is so rest = omega (arith, rest)
    later false true is so rest = absurd (false≢true (sym is ∙ passes x so))
    later false false is so rest = rest

    by : (b : Bool) → cond b (Some x) (find t names) ≡ Some other → (find t names ≡ Some other → length (filter q names) < length (filter p names)) → length (filter q (x ∷ names)) < length (filter p (x ∷ names))
    by true found rest = here (same_Some x other found)
    by false found rest = later (p x) (q x) refl refl (rest found)

-- ### the least

-- where neither is less, they are one address
pub level : (a b : Addr) → is_lt (addr_order a b) ≡ false → is_lt (addr_order b a) ≡ false → same_address a b ≡ true
level a b low high = sym (is_eq-addr a b) ∙ ap is_eq (tied (addr_order a b) low (sym (flip addr_order-total a b) ∙ high))

-- whether a name is of the address of another
abbrev names_it : Addr × Eid → Addr × Eid → Bool
names_it best name = same_address best.0 name.0

none-less : (first : Addr × Eid) (names : List (Addr × Eid)) (best : Addr × Eid) → fold lesser (Some first) names ≡ Some best → All (IsNoLess best) (first ∷ names)
none-less first names best is =
    subst (λ (o : Option (Addr × Eid)). IfSome o (λ b. All (IsNoLess b) (first ∷ names))) is (least-least (first ∷ names))

find-best : (names : List (Addr × Eid)) (first best : Addr × Eid) → fold lesser (Some first) names ≡ Some best → find (names_it best) (first ∷ names) ≡ Some best
find-best [] first best is =
    ap (λ (b : Bool). cond b (Some first) None) (ap (names_it best) (same_Some first best is) ∙ same-address best.0) ∙ is
find-best (x ∷ names) first best is =
    by (is_lt (addr_order x.0 first.0)) refl is (find-best names x best) (find-best names first best)
  where
    past : (b : Bool) → names_it best first ≡ b → is_lt (addr_order x.0 first.0) ≡ false → is_lt (addr_order first.0 best.0) ≡ false → cond b (Some first) (find (names_it best) names) ≡ Some best → find (names_it best) (first ∷ x ∷ names) ≡ Some best
    past true same more high found = ap (λ (b : Bool). cond b (Some first) (find (names_it best) (x ∷ names))) same ∙ found
    past false apart more high found =
        ap (λ (b : Bool). cond b (Some first) (find (names_it best) (x ∷ names))) apart
        ∙ ap (λ (b : Bool). cond b (Some x) (find (names_it best) names)) other
        ∙ found
      where
        other : names_it best x ≡ false
        other =
            false_from_ne_true (names_it best x)
            (λ same. false≢true (sym apart ∙ level best.0 first.0 (ap (λ (a : Addr). is_lt (addr_order a first.0)) (equal-address best.0 x.0 same) ∙ more) high))

    by : (b : Bool) → is_lt (addr_order x.0 first.0) ≡ b → fold lesser (cond b (Some x) (Some first)) names ≡ Some best
        → (fold lesser (Some x) names ≡ Some best → find (names_it best) (x ∷ names) ≡ Some best)
        → (fold lesser (Some first) names ≡ Some best → find (names_it best) (first ∷ names) ≡ Some best)
        → find (names_it best) (first ∷ x ∷ names) ≡ Some best
    by true less so there here = ap (λ (b : Bool). cond b (Some first) (find (names_it best) (x ∷ names))) apart ∙ there so
      where
        low : is_lt (addr_order x.0 best.0) ≡ false
        low = All-head (IsNoLess best) x names (none-less x names best so)

        apart : names_it best first ≡ false
        apart =
            false_from_ne_true (names_it best first)
            (λ same. false≢true (sym low ∙ ap (λ (a : Addr). is_lt (addr_order x.0 a)) (equal-address best.0 first.0 same) ∙ less))
    by false more so there here =
        past (names_it best first) refl more (All-head (IsNoLess best) first names (none-less first names best so)) (here so)

-- the least is the first of its address
least-first : (names : List (Addr × Eid)) (best : Addr × Eid) → least_named names ≡ Some best → find (names_it best) names ≡ Some best
least-first [] best is = absurd (cc is)
least-first (x ∷ names) best is = find-best names x best is

-- ### names above an address

locators-above : (after : Option Addr) (eid : Eid) (locators : List Locator) → map (name_in eid) (filter (is_named after) locators) ≡ filter (λ name. comes_after after name.0) (map (name_in eid) (filter (is_named None) locators))
locators-above after eid [] = refl
locators-above after eid (locator ∷ others) =
    by (not (locator.priority == 255)) (comes_after after locator.addr) refl (locators-above after eid others)
  where
    passes : Addr × Eid → Bool
    passes name = comes_after after name.0

    by : (b c : Bool) → comes_after after locator.addr ≡ c → map (name_in eid) (filter (is_named after) others) ≡ filter passes (map (name_in eid) (filter (is_named None) others))
        → map (name_in eid) (cond (b && c) (locator ∷ filter (is_named after) others) (filter (is_named after) others))
        ≡ filter passes (map (name_in eid) (cond (b && true) (locator ∷ filter (is_named None) others) (filter (is_named None) others)))
    by true true comes rest =
        ap (λ (l : List (Addr × Eid)). name_in eid locator ∷ l) rest
        ∙ sym (ap (λ (d : Bool). cond d (name_in eid locator ∷ filter passes (map (name_in eid) (filter (is_named None) others))) (filter passes (map (name_in eid) (filter (is_named None) others)))) comes)
    by true false comes rest =
        rest
        ∙ sym (ap (λ (d : Bool). cond d (name_in eid locator ∷ filter passes (map (name_in eid) (filter (is_named None) others))) (filter passes (map (name_in eid) (filter (is_named None) others)))) comes)
    by false c comes rest = rest

named-above : (after : Option Addr) (mappings : List Mapping) → named_above after mappings ≡ filter (λ name. comes_after after name.0) (named_above None mappings)
named-above after [] = refl
named-above after (mapping ∷ others) =
    ap₂ (λ (a b : List (Addr × Eid)). a ++ b) (locators-above after mapping.eid mapping.details.locators) (named-above after others)
    ∙ sym (filter-append (λ (name : Addr × Eid). comes_after after name.0) (named_by None mapping) (named_above None others))

-- ### the next name

module _ (covered : Covered) (after : Option Addr) (mappings : List Mapping) (are : (addr : Addr) → is_covered covered addr ≡ not (comes_after after addr)) where
  abbrev names : List (Addr × Eid)
  names = named_above None mappings

  abbrev is_beyond : Addr × Eid → Bool
  is_beyond name = comes_after after name.0

  next-is : (next : Addr × Eid) → least_named (named_above after mappings) ≡ Some next → IsNext covered names next
  next-is next is = record {
    beyond = are next.0 ∙ not_from_true (comes_after after next.0) passes;
    least = All-weaker (λ name. is_beyond name ≡ true → IsNoLess next name) (λ name. is_covered covered name.0 ≡ false → is_lt (addr_order name.0 next.0) ≡ false) (λ name gives open_one. gives (not-false (is_beyond name) (sym (are name.0) ∙ open_one))) names (all-passing (IsNoLess next) is_beyond names (subst (λ (l : List (Addr × Eid)). All (IsNoLess next) l) (named-above after mappings) least));
    first = sym (find-passing (names_it next) is_beyond (λ name same. ap (comes_after after) (sym (equal-address next.0 name.0 same)) ∙ passes) names) ∙ ap (find (names_it next)) (sym (named-above after mappings)) ∙ least-first (named_above after mappings) next is;
  }
    where
      among : Contains (named_above after mappings) next
      among = subst (λ (o : Option (Addr × Eid)). IfSome o (Contains (named_above after mappings))) is (least-one (named_above after mappings))

      least : All (IsNoLess next) (named_above after mappings)
      least = subst (λ (o : Option (Addr × Eid)). IfSome o (λ b. All (IsNoLess b) (named_above after mappings))) is (least-least (named_above after mappings))

      passes : comes_after after next.0 ≡ true
      passes =
          All-contains (λ name. is_beyond name ≡ true) (filter is_beyond names) next (filter_passes is_beyond names)
          (subst (λ (l : List (Addr × Eid)). Contains l next) (named-above after mappings) among)

  -- the least name above an address is the next one
  pub next-some : (o : Option (Addr × Eid)) → o ≡ least_named (named_above after mappings) → IfSome o (IsNext covered names)
  next-some None is = tt
  next-some (Some next) is = next-is next (sym is)

  -- where there is none, all are covered
  pub next-none : (o : Option (Addr × Eid)) → o ≡ least_named (named_above after mappings) → o ≡ None → All (λ name. is_covered covered name.0 ≡ true) names
  next-none o is none =
      All-weaker (λ name. is_beyond name ≡ true → ⊥) (λ name. is_covered covered name.0 ≡ true)
      (λ name gives. are name.0 ∙ not_from_false (is_beyond name) (false_from_ne_true (is_beyond name) gives)) names
      (all-passing (λ name. ⊥) is_beyond names (subst (λ (l : List (Addr × Eid)). All (λ name. ⊥) l) (sym empty ∙ named-above after mappings) (All-nil (λ (name : Addr × Eid). ⊥))))
    where
      empty : named_above after mappings ≡ []
      empty = (least-none (named_above after mappings)).0 (sym is ∙ none)

-- ### the names left

-- how many names aren't covered
abbrev pub names_left : Covered → List (Addr × Eid) → ℕ
names_left covered names = length (filter (λ name. not (is_covered covered name.0)) names)

-- what is covered is so up to the next name
pub covered-next : (covered : Covered) (next addr : Addr) → is_covered covered next ≡ false → is_covered covered addr ≡ true → is_covered (UpTo next) addr ≡ true
covered-next Nothing next addr beyond is = absurd (false≢true is)
covered-next (UpTo last) next addr beyond is =
    not_from_false (is_lt (addr_order next addr))
    (not_below addr_order-total addr last next (not-true (is_lt (addr_order last addr)) is) (below-not addr_order-total last next (not-false (is_lt (addr_order last next)) beyond)))
covered-next Everything next addr beyond is = absurd (false≢true (sym beyond))

-- behind the next name fewer are left
pub next-fewer : (covered : Covered) (names : List (Addr × Eid)) (next : Addr × Eid) → IsNext covered names next → names_left (UpTo next.0) names < names_left covered names
next-fewer covered names next is =
    passing-fewer (λ name. not (is_covered covered name.0)) (λ name. not (is_covered (UpTo next.0) name.0)) (names_it next) stays next (not_from_false (is_covered covered next.0) is.beyond)
    (not_from_true (is_covered (UpTo next.0) next.0) (not_from_false (is_lt (addr_order next.0 next.0)) (not_itself addr_order-total next.0))) names is.first
  where
    stays : (name : Addr × Eid) → not (is_covered (UpTo next.0) name.0) ≡ true → not (is_covered covered name.0) ≡ true
    stays name left = elim (cases_Bool (is_covered covered name.0)) [
      | inl is_so ↦ absurd (false≢true (sym (not-true (is_covered (UpTo next.0) name.0) left) ∙ covered-next covered next.0 name.0 is.beyond is_so))
      | inr isn't ↦ not_from_false (is_covered covered name.0) isn't
    ]

-- ### the name of an address

module _ (covered : Covered) (rloc : Addr) (names : List (Addr × Eid)) (below : (other : Addr) → is_covered covered other ≡ true → is_lt (addr_order other rloc) ≡ true) where
  -- where all are below an address, none names it
  pub below-none : All (λ name. is_covered covered name.0 ≡ true) names → find (λ name. same_address rloc name.0) names ≡ None
  below-none all =
      find-failing (λ name. same_address rloc name.0) names
      (All-weaker (λ name. is_covered covered name.0 ≡ true) (λ name. same_address rloc name.0 ≡ false)
      (λ name is. false_from_ne_true (same_address rloc name.0) (λ same. false≢true (sym (not_itself addr_order-total rloc) ∙ ap (λ (a : Addr). is_lt (addr_order a rloc)) (equal-address rloc name.0 same) ∙ below name.0 is)))
      names all)

  -- where the next one is another, none names it
  pub other-none : ((other : Addr) → IsAddr other → is_lt (addr_order other rloc) ≡ true → is_covered covered other ≡ true) → (next : Addr × Eid) → IsAddr next.0 → IsNext covered names next → same_address next.0 rloc ≡ false → find (λ name. same_address rloc name.0) names ≡ None
  other-none all next range is apart =
      find-failing (λ name. same_address rloc name.0) names
      (All-weaker (λ name. is_covered covered name.0 ≡ false → is_lt (addr_order name.0 next.0) ≡ false) (λ name. same_address rloc name.0 ≡ false) (λ name gives. false_from_ne_true (same_address rloc name.0) (λ same. other name (equal-address rloc name.0 same) gives)) names is.least)
    where
      -- the next one isn't below the address, which isn't covered itself
      high : is_lt (addr_order next.0 rloc) ≡ false
      high = false_from_ne_true (is_lt (addr_order next.0 rloc)) (λ less. false≢true (sym is.beyond ∙ all next.0 range less))

      uncovered : is_covered covered rloc ≡ false
      uncovered = false_from_ne_true (is_covered covered rloc) (λ so. false≢true (sym (not_itself addr_order-total rloc) ∙ below rloc so))

      other : (name : Addr × Eid) → rloc ≡ name.0 → (is_covered covered name.0 ≡ false → is_lt (addr_order name.0 next.0) ≡ false) → ⊥
      other name same gives =
          let low : is_lt (addr_order rloc next.0) ≡ false = ap (λ (a : Addr). is_lt (addr_order a next.0)) same ∙ gives (ap (is_covered covered) (sym same) ∙ uncovered) in
          false≢true (sym apart ∙ level next.0 rloc high low)
