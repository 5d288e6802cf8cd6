-- The order of turns: targets put in order ascend, the first one of each address is among them, and their first ones are known by that.
use Rattle.std.proofs.Common.{◌≡◌, ◌⊎◌, ◌≤◌, ◌<◌, ◌==◌, ◌&&◌, ◌||◌, ℕ, zero, suc, Bool, true, false, cond, List, [], ◌∷◌, ◌++◌, find, fold, get_or, length, take, Option, None, Some, Ordering, Less, Equal, Greater, is_eq, is_lt, nat_cmp, inl, inr, refl, sym, ap, ap₂, subst, ◌∙◌, arith, append-nil, append_assoc, eqb-true, true≢false}
use Rattle.std.proofs.lemmas.Bool.{and_parts, and_right, cases_Bool, false_from_ne_true}
use Rattle.std.proofs.lemmas.Cmp.{nat_cmp_total, on_total, then_total, tied_itself}
use Rattle.std.proofs.lemmas.List.Elements.{All-cons, All-contains, All-contains_itself, All-head, All-nil, All-tail, All-weaker, Contains-append_left, Contains-append_right, Contains-push}
use Rattle.std.proofs.lemmas.List.Folds.{find-append}
use Rattle.std.proofs.lemmas.List.Kept.{AllPairs-cons}
use Rattle.std.proofs.lemmas.Option.{same_Some}
use Rattle.std.specs.Cmp.{IsTotalOrder}
use Rattle.std.specs.List.{All, AllPairs, Contains, list_any}
use Rattle.std.specs.Option.{option_or}
use Rattle.std.specs.Ordering.{ordering_reverse, ordering_then}
use Rattle.std.specs.Prelude.{nat_lt}
use Rattle.ip_headers.specs.Addr.{number, width}
use Rattle.ip_headers.specs.declared.addr.Addr.{Addr}
use Rattle.ip_headers.specs.declared.addr.Addr.TheVariants.{V4, V6}
use Rattle.mapping_records.proofs.OrderLemmas.{addr_order-total}
use Rattle.mapping_records.specs.Eids.{same_address}
use Rattle.mapping_records.specs.Orders.{addr_order}
use Rattle.locator_state.proofs.FoundLemmas.{is_eq-addr, is_eq-then}
use Rattle.locator_state.specs.Turns.{goes_before, turn_of, with_target}
use Rattle.locator_state.specs.declared.target.Target.{Target}

-- ### the order of two

-- by turn, then by address
abbrev turn_order : Target → Target → Ordering
turn_order a b = ordering_then (nat_cmp (turn_of a.last) (turn_of b.last)) (addr_order a.rloc b.rloc)

turn_order-total : IsTotalOrder turn_order
turn_order-total =
    then_total (on_total (λ (target : Target). turn_of target.last) nat_cmp_total)
    (on_total (λ (target : Target). target.rloc) addr_order-total)

goes-before : (a b : Target) → goes_before a b ≡ is_lt (turn_order a b)
goes-before a b = by (nat_lt (turn_of a.last) (turn_of b.last)) (turn_of a.last == turn_of b.last) (addr_order a.rloc b.rloc)
  where
    by : (b c : Bool) (o : Ordering) → (b || (c && is_lt o)) ≡ is_lt (ordering_then (cond b Less (cond c Equal Greater)) o)
    by true c o = refl
    by false true o = refl
    by false false o = refl

is_Less : (o : Ordering) → is_lt o ≡ true → o ≡ Less
is_Less Less is = refl
is_Less Equal is = cc
is_Less Greater is = cc

is_Greater : (o : Ordering) → is_lt o ≡ false → is_eq o ≡ false → o ≡ Greater
is_Greater Less low apart = cc
is_Greater Equal low apart = cc
is_Greater Greater low apart = refl

-- the order is transitive
pub before-trans : (a b c : Target) → goes_before a b ≡ true → goes_before b c ≡ true → goes_before a c ≡ true
before-trans a b c first second =
    goes-before a c
    ∙ ap is_lt (turn_order-total.trans a b c (is_Less (turn_order a b) (sym (goes-before a b) ∙ first)) (is_Less (turn_order b c) (sym (goes-before b c) ∙ second)))

-- none goes before itself
pub before-itself : (a : Target) → goes_before a a ≡ false
before-itself a = goes-before a a ∙ ap is_lt (tied_itself turn_order-total a)

-- what goes before another is another
pub before-apart : (a b : Target) → goes_before a b ≡ true → a ≡ b → ⊥
before-apart a b goes same = true≢false (sym goes ∙ ap (λ (c : Target). goes_before a c) (sym same) ∙ before-itself a)

-- no two go before one another
pub before-once : (a b : Target) → goes_before a b ≡ true → goes_before b a ≡ true → ⊥
before-once a b first second = before-apart a a (before-trans a b a first second) refl

-- of two with different addresses one goes before the other
pub before-other : (a b : Target) → same_address a.rloc b.rloc ≡ false → goes_before a b ≡ false → goes_before b a ≡ true
before-other a b apart behind =
    goes-before b a
    ∙ ap is_lt (turn_order-total.antisymm b a ∙ ap ordering_reverse (is_Greater (turn_order a b) (sym (goes-before a b) ∙ behind) untied))
  where
    untied : is_eq (turn_order a b) ≡ false
    untied =
        is_eq-then (nat_cmp (turn_of a.last) (turn_of b.last)) (addr_order a.rloc b.rloc)
        ∙ and_right (is_eq (nat_cmp (turn_of a.last) (turn_of b.last))) (is_eq (addr_order a.rloc b.rloc)) (is_eq-addr a.rloc b.rloc ∙ apart)

equal-parts : (a b : Addr) → width a ≡ width b → number a ≡ number b → a ≡ b
equal-parts (V4 m) (V4 n) w is = ap (λ x. V4 x) is
equal-parts (V6 m) (V6 n) w is = ap (λ x. V6 x) is
equal-parts (V4 m) (V6 n) w is = absurd (omega (arith, w))
equal-parts (V6 m) (V4 n) w is = absurd (omega (arith, w))

-- the same addresses are equal
pub equal-address : (a b : Addr) → same_address a b ≡ true → a ≡ b
equal-address a b same =
    let parts = and_parts _ _ same in
    equal-parts a b (eqb-true (width a) (width b) parts.0) (eqb-true (number a) (number b) parts.1)

-- of two with one address and one last probe none goes before the other
pub before-alike : (a b : Target) → same_address a.rloc b.rloc ≡ true → a.last ≡ b.last → goes_before a b ≡ false
before-alike a b same last =
    ap₂ (λ (l : Option ℕ) (r : Addr). nat_lt (turn_of a.last) (turn_of l) || ((turn_of a.last == turn_of l) && is_lt (addr_order a.rloc r))) (sym last) (sym (equal-address a.rloc b.rloc same))
    ∙ before-itself a

-- ### they ascend

-- the first goes before the other
abbrev pub IsBehind : Target → Target → Type 0
IsBehind first other = goes_before first other ≡ true

-- each goes before all behind it
abbrev pub Ascends : List Target → Type 0
Ascends [] = Unit {0}
Ascends (target ∷ others) = All (IsBehind target) others × Ascends others

-- the same, of each two places
pub pairs-ascend : (targets : List Target) → AllPairs IsBehind targets → Ascends targets
pairs-ascend [] pairs = tt
pairs-ascend (target ∷ others) pairs =
    (λ k d within. pairs zero (suc k) d (omega arith) (omega (arith, within)), pairs-ascend others (λ i j d order within. pairs (suc i) (suc j) d (omega (arith, order)) (omega (arith, within))))

-- and back
pub ascending-pairs : (targets : List Target) → Ascends targets → AllPairs IsBehind targets
ascending-pairs [] up = λ i j d order within. absurd (omega (arith, within))
ascending-pairs (target ∷ others) up = AllPairs-cons IsBehind target others up.0 (ascending-pairs others up.1)

-- all these put in their places, as candidates are
abbrev pub placed : List Target → List Target → List Target
placed targets first = fold (λ so_far target. with_target target so_far) first targets

-- what holds of a target and of others holds of them with it
pub All-with : (P : Target → Type 0) (target : Target) (first : List Target) → P target → All P first → All P (with_target target first)
All-with P target [] is all = All-cons P target [] is all
All-with P target (next ∷ others) is all =
    by (same_address target.rloc next.rloc) (goes_before target next) (All-with P target others is (All-tail P next others all))
  where
    by : (b c : Bool) → All P (with_target target others) → All P (cond b (next ∷ others) (cond c (target ∷ next ∷ others) (next ∷ with_target target others)))
    by true c h = all
    by false true h = All-cons P target (next ∷ others) is all
    by false false h = All-cons P next (with_target target others) (All-head P next others all) h

-- what holds of all that are put in their places, and of those before, holds of what comes of it
pub All-placed : (P : Target → Type 0) (targets first : List Target) → All P targets → All P first → All P (placed targets first)
All-placed P [] first these all = all
All-placed P (target ∷ others) first these all =
    All-placed P others (with_target target first) (All-tail P target others these)
    (All-with P target first (All-head P target others these) all)

-- what goes before the first goes before all
all-behind : (target next : Target) (others : List Target) → IsBehind target next → All (IsBehind next) others → All (IsBehind target) (next ∷ others)
all-behind target next others goes up =
    All-cons (IsBehind target) next others goes
    (All-weaker (IsBehind next) (IsBehind target) (λ other later. before-trans target next other goes later) others up)

with-ascends : (target : Target) (first : List Target) → Ascends first → Ascends (with_target target first)
with-ascends target [] up = (All-nil (IsBehind target), tt)
with-ascends target (next ∷ others) up =
    by (same_address target.rloc next.rloc) (goes_before target next) refl refl (with-ascends target others up.1)
  where
    by : (b c : Bool) → same_address target.rloc next.rloc ≡ b → goes_before target next ≡ c → Ascends (with_target target others)
        → Ascends (cond b (next ∷ others) (cond c (target ∷ next ∷ others) (next ∷ with_target target others)))
    by true c same goes rest = up
    by false true same goes rest = (all-behind target next others goes up.0, up)
    by false false same goes rest = (All-with (IsBehind next) target others (before-other target next same goes) up.0, rest)

placed-ascend : (targets first : List Target) → Ascends first → Ascends (placed targets first)
placed-ascend [] first up = up
placed-ascend (target ∷ others) first up = placed-ascend others (with_target target first) (with-ascends target first up)

-- targets put in order ascend, whatever their probes are
pub candidates-ascend : (targets : List Target) → Ascends (placed targets [])
candidates-ascend targets = placed-ascend targets [] tt

-- ### the first one of each address is among them

-- if the two have one address, they have one last probe
abbrev pub IsAlike : Target → Target → Type 0
IsAlike a b = same_address a.rloc b.rloc ≡ true → a.last ≡ b.last

-- one address has one last probe
abbrev pub HaveOneProbe : List Target → Type 0
HaveOneProbe targets = All (λ a. All (IsAlike a) targets) targets

-- so it is where the last probe is found by the address
pub one-probe : (last : Addr → Option ℕ) (targets : List Target) → All (λ target. target.last ≡ last target.rloc) targets → HaveOneProbe targets
one-probe last targets found k d within j e inside same =
    found k d within ∙ ap last (equal-address (get_or targets k d).rloc (get_or targets j e).rloc same) ∙ sym (found j e inside)

-- the target has that address
abbrev pub at_address : Addr → Target → Bool
at_address rloc target = same_address rloc target.rloc

find-none : (p : Target → Bool) (targets : List Target) → All (λ target. p target ≡ false) targets → find p targets ≡ None
find-none p [] none = refl
find-none p (target ∷ others) none =
    ap (λ (b : Bool). cond b (Some target) (find p others)) (All-head (λ target. p target ≡ false) target others none)
    ∙ find-none p others (All-tail (λ target. p target ≡ false) target others none)

-- one more at the end, which doesn't pass
find-past : (p : Target → Bool) (targets : List Target) (target : Target) → p target ≡ false → find p (targets ++ target ∷ []) ≡ find p targets
find-past p [] target fails = ap (λ (b : Bool). cond b (Some target) None) fails
find-past p (first ∷ others) target fails = ap (λ (o : Option Target). cond (p first) (Some first) o) (find-past p others target fails)

-- and one that does, where no other does
find-last : (p : Target → Bool) (targets : List Target) (target : Target) → All (λ other. p other ≡ false) targets → p target ≡ true → find p (targets ++ target ∷ []) ≡ Some target
find-last p targets target none passes =
    find-append p targets (target ∷ [])
    ∙ ap (λ (o : Option Target). option_or o (find p (target ∷ []))) (find-none p targets none)
    ∙ ap (λ (b : Bool). cond b (Some target) None) passes

module _ (rloc : Addr) where
  -- one behind a target with the address has another one
  other-address : (target other : Target) → at_address rloc target ≡ true → IsBehind target other → IsAlike target other → at_address rloc other ≡ false
  other-address target other is goes alike =
      false_from_ne_true (at_address rloc other)
      (λ same. let both : same_address target.rloc other.rloc ≡ true = ap (λ (a : Addr). same_address a other.rloc) (sym (equal-address rloc target.rloc is)) ∙ same in
      true≢false (sym goes ∙ before-alike target other both (alike both)))

  find-with : (target : Target) (first : List Target) → Ascends first → All (IsAlike target) first → find (at_address rloc) (with_target target first) ≡ find (at_address rloc) (first ++ target ∷ [])
  find-with target [] up alike = refl
  find-with target (next ∷ others) up alike =
      by (same_address target.rloc next.rloc) (goes_before target next) refl refl (find-with target others up.1 (All-tail (IsAlike target) next others alike))
    where
      there : (q : Bool) → same_address target.rloc next.rloc ≡ true → at_address rloc next ≡ q → cond q (Some next) (find (at_address rloc) others) ≡ cond q (Some next) (find (at_address rloc) (others ++ target ∷ []))
      there true same is = refl
      there false same is = sym (find-past (at_address rloc) others target (ap (same_address rloc) (equal-address target.rloc next.rloc same) ∙ is))

      new : (q : Bool) → goes_before target next ≡ true → at_address rloc target ≡ q → cond q (Some target) (find (at_address rloc) (next ∷ others)) ≡ find (at_address rloc) ((next ∷ others) ++ target ∷ [])
      new true goes is =
          let behind = all-behind target next others goes up.0 in
          sym (find-last (at_address rloc) (next ∷ others) target (λ k d within. other-address target (get_or (next ∷ others) k d) is (behind k d within) (alike k d within)) is)
      new false goes is = sym (find-past (at_address rloc) (next ∷ others) target is)

      by : (b c : Bool) → same_address target.rloc next.rloc ≡ b → goes_before target next ≡ c
          → find (at_address rloc) (with_target target others) ≡ find (at_address rloc) (others ++ target ∷ [])
          → find (at_address rloc) (cond b (next ∷ others) (cond c (target ∷ next ∷ others) (next ∷ with_target target others))) ≡ find (at_address rloc) ((next ∷ others) ++ target ∷ [])
      by true c same goes rest = there (at_address rloc next) same refl
      by false true same goes rest = new (at_address rloc target) goes refl
      by false false same goes rest = ap (λ (o : Option Target). cond (at_address rloc next) (Some next) o) rest

  find-placed : (targets first : List Target) → Ascends first → All (λ target. All (IsAlike target) first) targets → HaveOneProbe targets → find (at_address rloc) (placed targets first) ≡ find (at_address rloc) (first ++ targets)
  find-placed [] first up alike one = ap (find (at_address rloc)) (sym (append-nil first))
  find-placed (target ∷ others) first up alike one =
      find-placed others (with_target target first) (with-ascends target first up)
      (λ k d within. All-with (IsAlike (get_or others k d)) target first (one (suc k) d (omega (arith, within)) zero d (omega arith)) (alike (suc k) d (omega (arith, within))))
      (λ k d within. All-tail (IsAlike (get_or others k d)) target others (one (suc k) d (omega (arith, within))))
      ∙ find-append (at_address rloc) (with_target target first) others
      ∙ ap (λ (o : Option Target). option_or o (find (at_address rloc) others)) (find-with target first up (All-head (λ target. All (IsAlike target) first) target others alike))
      ∙ sym (find-append (at_address rloc) (first ++ target ∷ []) others)
      ∙ ap (find (at_address rloc)) (append_assoc first (target ∷ []) others)

-- the one of an address in order is the first one of it
pub find-candidate : (rloc : Addr) (targets : List Target) → HaveOneProbe targets → find (at_address rloc) (placed targets []) ≡ find (at_address rloc) targets
find-candidate rloc targets one = find-placed rloc targets [] tt (λ k d within. All-nil (IsAlike (get_or targets k d))) one

-- ### members

-- the first one is a member
pub contains-first : (x : Target) (targets : List Target) → Contains (x ∷ targets) x
contains-first x targets = Contains-append_left (x ∷ []) targets x (Contains-push [] x)

-- so is one of the others
pub contains-later : (y x : Target) (targets : List Target) → Contains targets x → Contains (y ∷ targets) x
contains-later y x targets among = Contains-append_right (y ∷ []) targets x among

-- there is no member of none
pub contains-none : (x : Target) → Contains [] x → ⊥
contains-none x among = let within : among.0 < 0 = among.1 in omega (arith, within)

-- a member is the first one, or one of the others
pub contains-cases : (y x : Target) (targets : List Target) → Contains (y ∷ targets) x → (y ≡ x) ⊎ Contains targets x
contains-cases y x targets among = by among.0 among.1 among.2
  where
    by : (k : ℕ) → k < length (y ∷ targets) → get_or (y ∷ targets) k x ≡ x → (y ≡ x) ⊎ Contains targets x
    by zero within is = inl is
    by (suc k) within is = inr (k, omega (arith, within), is)

-- what is found is a member
pub found-contained : (p : Target → Bool) (targets : List Target) (x : Target) → find p targets ≡ Some x → Contains targets x
found-contained p [] x is = absurd (cc is)
found-contained p (target ∷ others) x is = by (p target) (found-contained p others x) is
  where
    by : (b : Bool) → (find p others ≡ Some x → Contains others x) → cond b (Some target) (find p others) ≡ Some x → Contains (target ∷ others) x
    by true rest is = subst (Contains (target ∷ others)) (same_Some target x is) (contains-first target others)
    by false rest is = contains-later target x others (rest is)

same-itself : (a : Addr) → same_address a a ≡ true
same-itself a = sym (is_eq-addr a a) ∙ ap is_eq (tied_itself addr_order-total a)

-- a member of those that ascend is the only one of its address
pub contained-found : (targets : List Target) → Ascends targets → HaveOneProbe targets → (x : Target) → Contains targets x → find (at_address x.rloc) targets ≡ Some x
contained-found [] up one x among = absurd (contains-none x among)
contained-found (target ∷ others) up one x among =
    by (contains-cases target x others among)
    (contained-found others up.1 (λ k d within. All-tail (IsAlike (get_or others k d)) target others (one (suc k) d (omega (arith, within)))) x)
  where
    by : (target ≡ x) ⊎ Contains others x → (Contains others x → find (at_address x.rloc) others ≡ Some x) → find (at_address x.rloc) (target ∷ others) ≡ Some x
    by (inl is) rest =
        ap (λ (b : Bool). cond b (Some target) (find (at_address x.rloc) others)) (ap (λ (t : Target). same_address x.rloc t.rloc) is ∙ same-itself x.rloc) ∙ ap Some is
    by (inr later) rest =
        ap (λ (b : Bool). cond b (Some target) (find (at_address x.rloc) others)) apart ∙ rest later
      where
        goes : goes_before target x ≡ true
        goes = All-contains (IsBehind target) others x up.0 later

        alike : IsAlike target x
        alike = All-contains (IsAlike target) (target ∷ others) x (All-head (λ a. All (IsAlike a) (target ∷ others)) target others one) among

        apart : at_address x.rloc target ≡ false
        apart =
            false_from_ne_true (at_address x.rloc target)
            (λ same. let both : same_address target.rloc x.rloc ≡ true = ap (λ (a : Addr). same_address target.rloc a) (equal-address x.rloc target.rloc same) ∙ same-itself target.rloc in
            true≢false (sym goes ∙ before-alike target x both (alike both)))

placed-probes : (targets : List Target) → HaveOneProbe targets → HaveOneProbe (placed targets [])
placed-probes targets one =
    All-placed (λ a. All (IsAlike a) (placed targets [])) targets []
    (λ k d within. All-placed (IsAlike (get_or targets k d)) targets [] (one k d within) (All-nil (IsAlike (get_or targets k d))))
    (All-nil (λ a. All (IsAlike a) (placed targets [])))

-- a member in order is the first target of its address
pub candidate-first : (targets : List Target) → HaveOneProbe targets → (x : Target) → Contains (placed targets []) x → find (at_address x.rloc) targets ≡ Some x
candidate-first targets one x among =
    sym (find-candidate x.rloc targets one) ∙ contained-found (placed targets []) (candidates-ascend targets) (placed-probes targets one) x among

-- and the first target of an address is a member in order
pub first-candidate : (targets : List Target) → HaveOneProbe targets → (rloc : Addr) (x : Target) → find (at_address rloc) targets ≡ Some x → Contains (placed targets []) x
first-candidate targets one rloc x is = found-contained (at_address rloc) (placed targets []) x (find-candidate rloc targets one ∙ is)

-- ### the first n

-- some that ascend are the first n of others that do, if they are among them, others are behind all of them, and they are n or all
pub first-of : (n : ℕ) (all first : List Target) → Ascends all → Ascends first → length first ≤ n → All (Contains all) first
    → All (λ x. Contains first x ⊎ All (λ r. goes_before r x ≡ true) first) all → (length first ≡ n) ⊎ All (Contains first) all → first ≡ take n all
first-of zero all [] up ups few among rest enough = refl
first-of zero all (r ∷ first) up ups few among rest enough = absurd (omega (arith, few))
first-of (suc n) [] [] up ups few among rest enough = refl
first-of (suc n) [] (r ∷ first) up ups few among rest enough = absurd (contains-none r (All-head (Contains []) r first among))
first-of (suc n) (l ∷ all) [] up ups few among rest enough =
    absurd (elim enough [ inl is ↦ omega (arith, is) | inr every ↦ contains-none l (All-head (Contains []) l all every) ])
first-of (suc n) (l ∷ all) (r ∷ first) up ups few among rest enough =
    ap₂ (λ (x : Target) (xs : List Target). x ∷ xs) (sym same) (first-of n all first up.1 ups.1 (omega (arith, few)) among_all rest_of_all enough_left)
  where
    same : l ≡ r
    same = elim (contains-cases l r all (All-head (Contains (l ∷ all)) r first among)) [
      | inl is ↦ is
      | inr later ↦
          let goes : goes_before l r ≡ true = All-contains (IsBehind l) all r up.0 later in
          elim (All-head (λ x. Contains (r ∷ first) x ⊎ All (λ q. goes_before q x ≡ true) (r ∷ first)) l all rest) [
            | inl there ↦ elim (contains-cases r l first there) [
              | inl is ↦ sym is
              | inr behind ↦ absurd (before-once l r goes (All-contains (IsBehind r) first l ups.0 behind))
            ]
            | inr every ↦ absurd (before-once l r goes (All-head (λ q. goes_before q l ≡ true) r first every))
          ]
    ]

    -- a member behind the first one is no first one
    left : (x : Target) → goes_before l x ≡ true → Contains (r ∷ first) x → Contains first x
    left x goes there = elim (contains-cases r x first there) [
      | inl is ↦ absurd (before-apart l x goes (same ∙ is))
      | inr later ↦ later
    ]

    among_all : All (Contains all) first
    among_all k d within = elim (contains-cases l (get_or first k d) all (among (suc k) d (omega (arith, within)))) [
      | inl is ↦ absurd (before-apart r (get_or first k d) (ups.0 k d within) (sym same ∙ is))
      | inr later ↦ later
    ]

    rest_of_all : All (λ x. Contains first x ⊎ All (λ q. goes_before q x ≡ true) first) all
    rest_of_all k d within = elim (rest (suc k) d (omega (arith, within))) [
      | inl there ↦ inl (left (get_or all k d) (up.0 k d within) there)
      | inr every ↦ inr (All-tail (λ q. goes_before q (get_or all k d) ≡ true) r first every)
    ]

    enough_left : (length first ≡ n) ⊎ All (Contains first) all
    enough_left = elim enough [
      | inl is ↦ inl (omega (arith, is))
      | inr every ↦ inr (λ k d within. left (get_or all k d) (up.0 k d within) (every (suc k) d (omega (arith, within))))
    ]

-- a target is a member where its address is named by one
named-contained : (targets first : List Target) (x : Target) → find (at_address x.rloc) targets ≡ Some x → All (λ r. find (at_address r.rloc) targets ≡ Some r) first → list_any (at_address x.rloc) first ≡ true → Contains first x
named-contained targets [] x is among named = absurd (cc named)
named-contained targets (r ∷ others) x is among named =
    by (at_address x.rloc r) refl named (named-contained targets others x is (All-tail (λ r. find (at_address r.rloc) targets ≡ Some r) r others among))
  where
    by : (b : Bool) → at_address x.rloc r ≡ b → (b || list_any (at_address x.rloc) others) ≡ true → (list_any (at_address x.rloc) others ≡ true → Contains others x) → Contains (r ∷ others) x
    by true same there rest =
        let found : Some r ≡ Some x =
        sym (All-head (λ r. find (at_address r.rloc) targets ≡ Some r) r others among)
        ∙ ap (λ (a : Addr). find (at_address a) targets) (sym (equal-address x.rloc r.rloc same)) ∙ is in
        subst (Contains (r ∷ others)) (same_Some r x found) (contains-first r others)
    by false same there rest = contains-later r x others (rest there)

-- some that ascend are the first n in order, if each is the first target of its address, and targets of other addresses are behind all of them
pub first-candidates : (n : ℕ) (targets first : List Target) → HaveOneProbe targets → Ascends first → length first ≤ n
    → All (λ r. find (at_address r.rloc) targets ≡ Some r) first
    → All (λ x. list_any (at_address x.rloc) first ≡ false → All (λ r. goes_before r x ≡ true) first) targets
    → (length first ≡ n) ⊎ All (λ x. list_any (at_address x.rloc) first ≡ true) targets → first ≡ take n (placed targets [])
first-candidates n targets first one ups few among rest enough =
    first-of n (placed targets []) first (candidates-ascend targets) ups few
    (All-weaker (λ r. find (at_address r.rloc) targets ≡ Some r) (Contains (placed targets [])) (λ r is. first-candidate targets one r.rloc r is) first among)
    (λ k d within. let x : Target = get_or (placed targets []) k d in elim (cases_Bool (list_any (at_address x.rloc) first)) [
      | inl named ↦ inl (contained k d within named)
      | inr un ↦ inr (All-placed (λ x. list_any (at_address x.rloc) first ≡ false → All (λ r. goes_before r x ≡ true) first) targets [] rest (All-nil (λ x. list_any (at_address x.rloc) first ≡ false → All (λ r. goes_before r x ≡ true) first)) k d within un)
    ])
    (elim enough [
      | inl is ↦ inl is
      | inr every ↦ inr (λ k d within. contained k d within (All-placed (λ x. list_any (at_address x.rloc) first ≡ true) targets [] every (All-nil (λ x. list_any (at_address x.rloc) first ≡ true)) k d within))
    ])
  where
    contained : (k : ℕ) (d : Target) → k < length (placed targets []) → list_any (at_address (get_or (placed targets []) k d).rloc) first ≡ true → Contains first (get_or (placed targets []) k d)
    contained k d within named =
        named-contained targets first (get_or (placed targets []) k d)
        (candidate-first targets one (get_or (placed targets []) k d) (All-contains_itself (placed targets []) k d within)) among named
