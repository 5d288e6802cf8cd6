-- Where the last probe of a locator stands among probes in the order of their moments.
use Rattle.std.proofs.Common.{◌≡◌, ◌⊎◌, ◌≤◌, ◌<◌, ◌+◌, ℕ, zero, suc, Bool, true, false, cond, List, [], ◌∷◌, count_by, fold, get_or, length, slice_get, Option, None, Some, IfSome, option_map, inl, inr, refl, sym, ap, subst, ◌∙◌, arith, nat_lt}
use Rattle.std.proofs.lemmas.Bool.Decides.{nat_tests}
use Rattle.std.proofs.lemmas.List.Sums.{sum_by-cons}
use Rattle.std.proofs.lemmas.Option.{get_or_from_slice_get, same_Some, slice_get_within, some_pair_parts}
use Rattle.std.specs.List.{All, AllPairs}
use Rattle.ip_headers.specs.declared.addr.Addr.{Addr}
use Rattle.locator_state.specs.Limits.{probe_seconds}
use Rattle.locator_state.specs.Lists.{last_where, later, only_if}
use Rattle.locator_state.specs.Probes.{last_probe}
use Rattle.mapping_records.specs.Eids.{same_address}
use Rattle.router_log.specs.Moments.{younger}
use Rattle.router_log.specs.declared.kept.Probe.{Probe}
use Rattle.router_core.specs.Turning.{AreInOrder}

-- ### the last one

module _ (test : Probe → Bool) where
  found-from : (before : Option Probe) (probes : List Probe) (probe : Probe) → fold (later test) before probes ≡ Some probe
      → (before ≡ Some probe) ⊎ ((k : ℕ) × (slice_get probes k ≡ Some probe) × (test probe ≡ true))
  found-from before [] probe is = inl is
  found-from before (first ∷ others) probe is = by (test first) refl (found-from (later test before first) others probe is)
    where
      by : (b : Bool) → test first ≡ b → (cond b (Some first) before ≡ Some probe) ⊎ ((k : ℕ) × (slice_get others k ≡ Some probe) × (test probe ≡ true))
          → (before ≡ Some probe) ⊎ ((k : ℕ) × (slice_get (first ∷ others) k ≡ Some probe) × (test probe ≡ true))
      by true passes (inl here) = inr (zero, here, ap test (sym (same_Some first probe here)) ∙ passes)
      by false fails (inl here) = inl here
      by b is (inr there) = inr (suc there.0, there.1, there.2)

  -- the last one that passes stands at a place
  pub last-found : (probes : List Probe) (probe : Probe) → last_where test probes ≡ Some probe → (k : ℕ) × (slice_get probes k ≡ Some probe) × (test probe ≡ true)
  last-found probes probe is = by (found-from None probes probe is)
    where
      by : (None ≡ Some probe) ⊎ ((k : ℕ) × (slice_get probes k ≡ Some probe) × (test probe ≡ true)) → (k : ℕ) × (slice_get probes k ≡ Some probe) × (test probe ≡ true)
      by (inl none) = absurd (cc none)
      by (inr there) = there

-- the last probe of an address, if it counts at a moment
abbrev pub if_young : ℕ → Option Probe → Option ℕ
if_young m last = option_map (λ probe. probe.moment) (only_if (λ probe. younger m probe_seconds probe.moment) last)

-- ### the order of moments

-- of two places the later one has no lesser moment
pub later-moment : (now : ℕ) (probes : List Probe) → AreInOrder now probes → (i j : ℕ) (first other : Probe) → slice_get probes i ≡ Some first → slice_get probes j ≡ Some other → i ≤ j → first.moment ≤ other.moment
later-moment now probes order i j first other here there behind =
    by (i_or_later i j behind)
  where
    i_or_later : (i j : ℕ) → i ≤ j → (i ≡ j) ⊎ (i < j)
    i_or_later i j le = grind arith

    by : (i ≡ j) ⊎ (i < j) → first.moment ≤ other.moment
    by (inl same) =
        let one : first ≡ other = same_Some first other (sym here ∙ ap (slice_get probes) same ∙ there) in
        subst (λ (p : Probe). first.moment ≤ p.moment) one (omega arith)
    by (inr less) =
        subst (λ (p : Probe). p.moment ≤ other.moment) (get_or_from_slice_get probes i first first here)
        (subst (λ (p : Probe). (get_or probes i first).moment ≤ p.moment) (get_or_from_slice_get probes j other first there)
        (order.ascend i j first less (slice_get_within probes j other there)))

-- ### how many are older

abbrev pub is_older : ℕ → Probe → Bool
is_older since probe = nat_lt probe.moment since

count-cons : (since : ℕ) (first : Probe) (others : List Probe) → count_by (is_older since) (first ∷ others) ≡ cond (nat_lt first.moment since) 1 0 + count_by (is_older since) others
count-cons since first others = sum_by-cons (λ probe. cond (is_older since probe) 1 0) first others

-- all before a place are as many as it says, at most
pub count-before : (since : ℕ) (probes : List Probe) (k : ℕ) (probe : Probe) → AllPairs (λ (a b : Probe). a.moment ≤ b.moment) probes → slice_get probes k ≡ Some probe → since ≤ probe.moment → count_by (is_older since) probes ≤ k
count-before since [] k probe up at young = absurd (cc at)
count-before since (first ∷ others) zero probe up at young = none
  where
    one : first ≡ probe
    one = same_Some first probe at

    all : (probes : List Probe) → All (λ (other : Probe). since ≤ other.moment) probes → count_by (is_older since) probes ≤ 0
    all [] none_older = omega arith
    all (next ∷ rest) none_older =
        let head : since ≤ next.moment = none_older zero next (omega arith) in
        let cons = count-cons since next rest in
        let fails : cond {A = ℕ} (nat_lt next.moment since) 1 0 ≡ 0 = grind (arith, nat_tests, head) in
        let left = all rest (λ k d within. none_older (suc k) d (omega (arith, within))) in
        omega (arith, cons, fails, left)

    young_first : since ≤ first.moment
    young_first = subst (λ (p : Probe). since ≤ p.moment) (sym one) young

    none : count_by (is_older since) (first ∷ others) ≤ 0
    none =
        let behind : All (λ (other : Probe). since ≤ other.moment) others = λ k d within. (let above : first.moment ≤ (get_or others k d).moment = up zero (suc k) d (omega arith) (omega (arith, within)) in omega (arith, above, young_first)) in
        let cons = count-cons since first others in
        let fails : cond {A = ℕ} (nat_lt first.moment since) 1 0 ≡ 0 = grind (arith, nat_tests, young_first) in
        let left = all others behind in
        omega (arith, cons, fails, left)
count-before since (first ∷ others) (suc k) probe up at young =
    let cons = count-cons since first others in
    let few : cond {A = ℕ} (nat_lt first.moment since) 1 0 ≤ 1 = grind (arith, nat_tests) in
    let left = count-before since others k probe (λ i j d order within. up (suc i) (suc j) d (omega (arith, order)) (omega (arith, within))) at young in
    omega (arith, cons, few, left)

-- ### last probes that count

module _ (m : ℕ) (probes : List Probe) (rloc : Addr) where
  -- the last probe that counts stands at a place
  pub last-stands : (moment : ℕ) → last_probe m probes rloc ≡ Some moment → (k : ℕ) × (probe : Probe) × (slice_get probes k ≡ Some probe) × (same_address probe.rloc rloc ≡ true) × (probe.moment ≡ moment)
  last-stands moment is = by (last_where (λ probe. same_address probe.rloc rloc) probes) refl is
    where
      by : (last : Option Probe) → last_where (λ probe. same_address probe.rloc rloc) probes ≡ last → if_young m last ≡ Some moment
          → (k : ℕ) × (probe : Probe) × (slice_get probes k ≡ Some probe) × (same_address probe.rloc rloc ≡ true) × (probe.moment ≡ moment)
      by None last is = absurd (cc is)
      by (Some probe) last is =
          let there = last-found (λ probe. same_address probe.rloc rloc) probes probe last in
          (there.0, probe, there.1, there.2, young (younger m probe_seconds probe.moment) is)
        where
          young : (b : Bool) → option_map (λ (probe : Probe). probe.moment) (cond b (Some probe) None) ≡ Some moment → probe.moment ≡ moment
          young true is = same_Some probe.moment moment is
          young false is = absurd (cc is)

  -- and counts
  pub last-young : (moment : ℕ) → last_probe m probes rloc ≡ Some moment → younger m probe_seconds moment ≡ true
  last-young moment is = by (last_where (λ probe. same_address probe.rloc rloc) probes) is
    where
      by : (last : Option Probe) → if_young m last ≡ Some moment → younger m probe_seconds moment ≡ true
      by None is = absurd (cc is)
      by (Some probe) is = young (younger m probe_seconds probe.moment) refl is
        where
          young : (b : Bool) → younger m probe_seconds probe.moment ≡ b → option_map (λ (probe : Probe). probe.moment) (cond b (Some probe) None) ≡ Some moment → younger m probe_seconds moment ≡ true
          young true counts is = ap (younger m probe_seconds) (sym (same_Some probe.moment moment is)) ∙ counts
          young false counts is = absurd (cc is)

-- ### the probe at a place

-- its moment and its locator
abbrev pub moment_and_rloc : Probe → ℕ × Addr
moment_and_rloc probe = (probe.moment, probe.rloc)

-- the probe of a moment and a locator
pub probe-read : (probe : Option Probe) (moment : ℕ) (rloc : Addr) → Some (moment, rloc) ≡ option_map moment_and_rloc probe → (read : Probe) × (probe ≡ Some read) × (moment ≡ read.moment) × (rloc ≡ read.rloc)
probe-read None moment rloc is = absurd (cc is)
probe-read (Some probe) moment rloc is =
    let parts = some_pair_parts moment probe.moment rloc probe.rloc is in
    (probe, refl, parts.0, parts.1)

-- what is said of the locator of the probe at a place
pub last-of : (m place moment : ℕ) (rloc : Addr) (probes : List Probe) (last : Option ℕ) → Some (moment, rloc) ≡ option_map moment_and_rloc (slice_get probes place)
    → IfSome (slice_get probes place) (λ probe. last ≡ last_probe m probes probe.rloc) → last ≡ last_probe m probes rloc
last-of m place moment rloc probes last here is =
    let read = probe-read (slice_get probes place) moment rloc here in
    subst (λ (o : Option Probe). IfSome o (λ probe. last ≡ last_probe m probes probe.rloc)) read.1 is ∙ ap (last_probe m probes) (sym read.3)

-- where there is none, the list ends
pub none-read : (probes : List Probe) (place : ℕ) → None ≡ option_map moment_and_rloc (slice_get probes place) → length probes ≤ place
none-read [] place none = omega arith
none-read (first ∷ others) zero none = absurd (cc none)
none-read (first ∷ others) (suc place) none = let rest = none-read others place none in omega (arith, rest)

-- where there is one, it doesn't
pub some-read : (probes : List Probe) (place moment : ℕ) (rloc : Addr) → Some (moment, rloc) ≡ option_map moment_and_rloc (slice_get probes place) → place < length probes
some-read probes place moment rloc is =
    let read = probe-read (slice_get probes place) moment rloc is in
    slice_get_within probes place read.0 read.1
