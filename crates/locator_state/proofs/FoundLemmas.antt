-- What is found by a key.
use Rattle.std.proofs.Common.{◌≡◌, ℕ, ◌==◌, ◌&&◌, ◌||◌, Bool, true, false, cond, List, [], ◌∷◌, fold, length, map, option_map, Option, Some, None, IfSome, is_some, slice_get, subst, Ordering, Less, Equal, Greater, is_eq, nat_cmp, refl, ap, ap₂, ◌∙◌, arith}
use Rattle.std.specs.Borrow.{Bor}
use Rattle.std.specs.List.{list_any}
use Rattle.std.specs.Option.{option_copied}
use Rattle.std.specs.Ordering.{ordering_then}
use Rattle.std.proofs.lemmas.Bool.Decides.{nat_tests}
use Rattle.ip_headers.specs.declared.addr.Addr.{Addr}
use Rattle.ip_headers.specs.declared.addr.Addr.TheVariants.{V4, V6}
use Rattle.mapping_records.specs.Eids.{same_address}
use Rattle.mapping_records.specs.Orders.{addr_order}
use Rattle.mapping_records.specs.declared.eid.Eid.{Eid}
use Rattle.router_log.specs.declared.kept.EchoStart.{EchoStart}
use Rattle.router_log.specs.declared.kept.EchoWish.{EchoWish}
use Rattle.router_log.specs.declared.kept.Probe.{Probe}
use Rattle.router_log.specs.declared.kept.Solicitation.{Solicitation}
use Rattle.keyed_list.specs.Keyed.{is_key}
use Rattle.keyed_list.specs.Keys.{locator_key, nonce_key, told_key}
use Rattle.keyed_list.specs.Known.{probe_marks, solicit_marks, start_marks, wish_marks}
use Rattle.keyed_list.proofs.SameLemmas.{locator-nonce, nonce-locator, same-locator, same-nonce, same-told}
use Rattle.locator_state.specs.Lists.{last_where, later, only_if}
use Rattle.locator_state.specs.Probes.{last_probe, probe_counts}
use Rattle.locator_state.specs.Solicits.{is_of}

-- ### keys

pub is_eq-then : (a b : Ordering) → is_eq (ordering_then a b) ≡ (is_eq a && is_eq b)
is_eq-then Less b = refl
is_eq-then Equal b = refl
is_eq-then Greater b = refl

is_eq-nat : (x y : ℕ) → is_eq (nat_cmp x y) ≡ (x == y)
is_eq-nat x y = grind (arith, nat_tests)

pub is_eq-addr : (a b : Addr) → is_eq (addr_order a b) ≡ same_address a b
is_eq-addr (V4 m) (V4 n) = is_eq-nat m n
is_eq-addr (V4 m) (V6 n) = refl
is_eq-addr (V6 m) (V4 n) = refl
is_eq-addr (V6 m) (V6 n) = is_eq-nat m n

and-true : (a : Bool) → (a && true) ≡ a
and-true true = refl
and-true false = refl

or-false : (a : Bool) → (a || false) ≡ a
or-false true = refl
or-false false = refl

-- ### items of a key

pub probe-nonce : (nonce : ℕ) (probe : Probe) → is_key probe_marks (nonce_key nonce) probe ≡ (probe.nonce == nonce)
probe-nonce nonce probe = ap₂ (λ x y. x || y) (locator-nonce probe.rloc nonce) (same-nonce probe.nonce nonce)

pub probe-locator : (rloc : Addr) (probe : Probe) → is_key probe_marks (locator_key rloc) probe ≡ same_address probe.rloc rloc
probe-locator rloc probe = ap₂ (λ x y. x || y) (same-locator probe.rloc rloc) (nonce-locator probe.nonce rloc) ∙ or-false _

pub start-locator : (rloc : Addr) (start : EchoStart) → is_key start_marks (locator_key rloc) start ≡ same_address start.rloc rloc
start-locator rloc start = or-false _ ∙ same-locator start.rloc rloc

pub wish-locator : (rloc : Addr) (wish : EchoWish) → is_key wish_marks (locator_key rloc) wish ≡ same_address wish.rloc rloc
wish-locator rloc wish = or-false _ ∙ same-locator wish.rloc rloc

pub solicit-told : (rloc : Addr) (eid : Eid) (solicit : Solicitation) → is_key solicit_marks (told_key rloc eid) solicit ≡ is_of rloc eid solicit
solicit-told rloc eid solicit = or-false _ ∙ same-told solicit.rloc solicit.eid rloc eid

-- ### lists

module _ {A : Type 0} (p q : A → Bool) (same : (x : A) → p x ≡ q x) where
  same-from : (before : Option A) (items : List A) → fold (later p) before items ≡ fold (later q) before items
  same-from before [] = refl
  same-from before (x ∷ items) =
      ap (λ b. fold (later p) (cond b (Some x) before) items) (same x) ∙ same-from (later q before x) items

  -- tests that say the same find the same
  pub last-same : (items : List A) → last_where p items ≡ last_where q items
  last-same items = same-from None items

-- the one at a place is the last of a locator, for which it is found by key
pub like-locator : (probes : List Probe) (place at : ℕ) (found : Option Probe) → found ≡ slice_get probes at
    → IfSome (slice_get probes place) (λ probe. slice_get probes at ≡ last_where (is_key probe_marks (locator_key probe.rloc)) probes)
    → IfSome (slice_get probes place) (λ probe. found ≡ last_where (λ other. same_address other.rloc probe.rloc) probes)
like-locator probes place at found is last = by (slice_get probes place) last
  where
    by : (o : Option Probe) → IfSome o (λ probe. slice_get probes at ≡ last_where (is_key probe_marks (locator_key probe.rloc)) probes) → IfSome o (λ probe. found ≡ last_where (λ other. same_address other.rloc probe.rloc) probes)
    by None last = tt
    by (Some probe) last =
        is ∙ last ∙ last-same (is_key probe_marks (locator_key probe.rloc)) (λ other. same_address other.rloc probe.rloc) (probe-locator probe.rloc) probes

-- the moment of the last probe of the locator of the one at a place
pub moment-like : (m place : ℕ) (probes all : List Probe) (found : Option Probe) (moment : Option ℕ) → moment ≡ option_map (λ probe. probe.moment) (only_if (probe_counts m) found)
    → IfSome (slice_get probes place) (λ probe. found ≡ last_where (λ other. same_address other.rloc probe.rloc) probes)
    → probes ≡ all
    → IfSome (slice_get all place) (λ probe. moment ≡ last_probe m all probe.rloc)
moment-like m place probes all found moment is last same =
    subst (λ all. IfSome (slice_get all place) (λ probe. moment ≡ last_probe m all probe.rloc)) same (by (slice_get probes place) last)
  where
    by : (o : Option Probe) → IfSome o (λ probe. found ≡ last_where (λ other. same_address other.rloc probe.rloc) probes) → IfSome o (λ probe. moment ≡ last_probe m probes probe.rloc)
    by None last = tt
    by (Some probe) last = is ∙ ap (λ o. option_map (λ probe. probe.moment) (only_if (probe_counts m) o)) last

-- where there is no item, none passes
pub last-empty : {A : Type 0} (test : A → Bool) (items : List A) → length items ≡ 0 → None ≡ last_where test items
last-empty test [] none = refl
last-empty test (x ∷ items) none = absurd (cc none)

pub any-empty : {A : Type 0} (test : A → Bool) (items : List A) → length items ≡ 0 → false ≡ list_any test items
any-empty test [] none = refl
any-empty test (x ∷ items) none = absurd (cc none)

-- of a key alone
pub last-key : {A : Type 0} (p q : A → Bool) → ((x : A) → p x ≡ q x) → (items : List A) → last_where (λ x. p x && true) items ≡ last_where q items
last-key p q same items = last-same (λ x. p x && true) q (λ x. and-true (p x) ∙ same x) items

-- of a key, and of another test
pub last-both : {A : Type 0} (p q r : A → Bool) → ((x : A) → p x ≡ q x) → (items : List A) → last_where (λ x. p x && r x) items ≡ last_where (λ x. q x && r x) items
last-both p q r same items = last-same (λ x. p x && r x) (λ x. q x && r x) (λ x. ap (λ b. b && r x) (same x)) items

some-from : {A : Type 0} (test : A → Bool) (before : Option A) (items : List A) → is_some (fold (later test) before items) ≡ (is_some before || list_any test items)
some-from {A} test before [] = by before
  where
    by : (o : Option A) → is_some o ≡ (is_some o || false)
    by None = refl
    by (Some x) = refl
some-from {A} test before (x ∷ items) = some-from test (later test before x) items ∙ by (test x) before
  where
    by : (b : Bool) (o : Option A) → (is_some (cond b (Some x) o) || list_any test items) ≡ (is_some o || (b || list_any test items))
    by true None = refl
    by true (Some y) = refl
    by false o = refl

some-copied : {A : Type 0} (found : Option (Bor A)) → is_some found ≡ is_some (option_copied found)
some-copied None = refl
some-copied (Some x) = refl

-- one is found where one passes
pub some-last : {A : Type 0} (test : A → Bool) (items : List A) (found : Option (Bor A)) → option_copied found ≡ last_where test items → is_some found ≡ list_any test items
some-last test items found is = some-copied found ∙ ap is_some is ∙ some-from test None items

pub map-same : {A B : Type 0} (f g : A → B) → ((x : A) → f x ≡ g x) → (items : List A) → map f items ≡ map g items
map-same f g same [] = refl
map-same f g same (x ∷ items) = ap₂ (λ a l. a ∷ l) (same x) (map-same f g same items)
