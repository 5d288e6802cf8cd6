-- The locators that may be probed and whose last probe is still ahead, as one goes along the probes.
use Rattle.std.proofs.Common.{◌≡◌, ◌⊎◌, ◌≤◌, ◌<◌, ◌+◌, ◌-◌, ◌==◌, ◌&&◌, ◌||◌, ℕ, suc, not, Bool, true, false, List, count_by, get_or, length, nat_le, nat_lt, slice_get, Option, None, Some, option_map, inl, inr, refl, sym, ap, subst, ◌∙◌, arith, is_lt}
use Rattle.std.proofs.lemmas.Bool.Decides.{nat_tests}
use Rattle.std.proofs.lemmas.Option.{get_or_from_slice_get, slice_get_within}
use Rattle.std.specs.List.{All}
use Rattle.std.specs.Option.{option_map_or}
use Rattle.ip_headers.specs.declared.addr.Addr.{Addr}
use Rattle.lisp_settings.specs.declared.settings.Settings.{Settings}
use Rattle.locator_state.specs.Limits.{rest_seconds}
use Rattle.locator_state.specs.Probes.{last_probe}
use Rattle.locator_state.specs.Turns.{goes_before, has_rested, turn_of}
use Rattle.locator_state.specs.declared.target.Target.{Target}
use Rattle.mapping_records.specs.Eids.{same_address}
use Rattle.mapping_records.specs.Orders.{addr_order}
use Rattle.router_log.specs.Moments.{seconds}
use Rattle.router_log.specs.declared.kept.Probe.{Probe}
use Rattle.router_model.specs.Parts.{Parts}
use Rattle.router_core.specs.Turning.{AreChosen, AreFresh, AreInOrder, IsPlaced, SuitNames, eligible, names_at, suits}
use Rattle.router_core.specs.declared.turns.Turns.{Turns}
use Rattle.router_core.proofs.EligibleLemmas.{eligible-last, eligible-named, eligible-rested, eligible-told}
use Rattle.router_core.proofs.LastProbeLemmas.{count-before, is_older, last-stands, later-moment, moment_and_rloc, none-read, probe-read}
use Rattle.router_core.proofs.SuitLemmas.{named-suits, told-suits}

-- ### what is ahead

-- a target's last probe stands at a place or behind it
pub record IsAhead (place : ℕ) (probes : List Probe) (target : Target) : Type 0 where
  pub index : ℕ
  pub its_probe : Probe
  pub behind : place ≤ index
  pub at : slice_get probes index ≡ Some its_probe
  pub address : same_address its_probe.rloc target.rloc ≡ true
  pub last : target.last ≡ Some its_probe.moment

-- each target has its place, or its probe is still ahead
abbrev pub AreToCome : List Target → List Target → ℕ → List Probe → Type 0
AreToCome all first place probes = All (λ target. IsPlaced first target ⊎ IsAhead place probes target) all

-- where what is ahead has its place, all have
none-ahead : (all first : List Target) (place : ℕ) (probes : List Probe) → AreToCome all first place probes
    → ((k : ℕ) (d : Target) → k < length all → IsAhead place probes (get_or all k d) → IsPlaced first (get_or all k d)) → All (IsPlaced first) all
none-ahead all first place probes come each k d within = elim (come k d within) [
  | inl placed ↦ placed
  | inr ahead ↦ each k d within ahead
]

-- at the end none is
pub end-placed : (all first : List Target) (place : ℕ) (probes : List Probe) → None ≡ option_map moment_and_rloc (slice_get probes place) → AreToCome all first place probes → All (IsPlaced first) all
end-placed all first place probes none come = none-ahead all first place probes come placed
  where
    placed : (k : ℕ) (d : Target) → k < length all → IsAhead place probes (get_or all k d) → IsPlaced first (get_or all k d)
    placed k d within ahead =
        let past = none-read probes place none in
        let inside = slice_get_within probes ahead.index ahead.its_probe ahead.at in
        let behind = ahead.behind in
        absurd (omega (arith, past, inside, behind))

-- ### at a probe

module _ (all : List Target) (probes : List Probe) (place moment : ℕ) (rloc : Addr) (here : Some (moment, rloc) ≡ option_map moment_and_rloc (slice_get probes place)) where
  -- once the locator of the probe is offered, what is left is behind it
  pub ahead-next : (first next : List Target) → All (λ target. IsPlaced first target → IsPlaced next target) all
      → All (λ target. same_address rloc target.rloc ≡ true → target.last ≡ Some moment → IsPlaced next target) all
      → AreToCome all first place probes → AreToCome all next (place + 1) probes
  ahead-next first next stay offered come k d within = elim (come k d within) [
    | inl placed ↦ inl (stay k d within placed)
    | inr ahead ↦ by ahead (same_or_less place ahead.index ahead.behind)
  ]
    where
      target : Target
      target = get_or all k d

      same_or_less : (i j : ℕ) → i ≤ j → (i ≡ j) ⊎ (i + 1 ≤ j)
      same_or_less i j le = grind (arith, le)

      by : (ahead : IsAhead place probes target) → (place ≡ ahead.index) ⊎ (place + 1 ≤ ahead.index) → IsPlaced next target ⊎ IsAhead (place + 1) probes target
      by ahead (inl same) =
          let read = probe-read (slice_get probes place) moment rloc here in
          let one : Some read.0 ≡ Some ahead.its_probe = sym read.1 ∙ ap (slice_get probes) same ∙ ahead.at in
          inl (offered k d within (by_address read.0 ahead.its_probe one read.3 ahead.address) (ahead.last ∙ by_moment read.0 ahead.its_probe one read.2))
        where
          by_address : (p q : Probe) → Some p ≡ Some q → rloc ≡ p.rloc → same_address q.rloc target.rloc ≡ true → same_address rloc target.rloc ≡ true
          by_address p q one is same = cc

          by_moment : (p q : Probe) → Some p ≡ Some q → moment ≡ p.moment → Some q.moment ≡ Some moment
          by_moment p q one is = cc
      by ahead (inr less) = inr (record { index = ahead.index; its_probe = ahead.its_probe; behind = less; at = ahead.at; address = ahead.address; last = ahead.last })

  -- what is ahead has no lesser moment
  no-less : (now : ℕ) → AreInOrder now probes → (target : Target) → (ahead : IsAhead place probes target) → moment ≤ ahead.its_probe.moment
  no-less now order target ahead =
      let read = probe-read (slice_get probes place) moment rloc here in
      subst (λ (t : ℕ). t ≤ ahead.its_probe.moment) (sym read.2) (later-moment now probes order place ahead.index read.0 ahead.its_probe read.1 ahead.at ahead.behind)

  -- where as many as are probed go before the moment, they go before what is ahead
  module _ (now : ℕ) (order : AreInOrder now probes) (first : List Target) (chosen : AreChosen all first) where
    -- all turns of those that ascend are no later than the last one's
    turn-before : (a b : Target) → goes_before a b ≡ true → turn_of a.last ≤ turn_of b.last
    turn-before a b goes = by (turn_of a.last) (turn_of b.last) (is_lt (addr_order a.rloc b.rloc)) goes
      where
        by : (x y : ℕ) (b : Bool) → (nat_lt x y || ((x == y) && b)) ≡ true → x ≤ y
        by x y true goes = grind (arith, nat_tests, goes)
        by x y false goes = grind (arith, nat_tests, goes)

    all-before : (z : Target) → slice_get first 15 ≡ Some z → nat_lt (turn_of z.last) (suc moment) ≡ true → (length first ≡ 16) × All (λ other. turn_of other.last ≤ moment) first
    all-before z at early = (omega (arith, within, few), each)
      where
        within : 15 < length first
        within = slice_get_within first 15 z at

        few : length first ≤ 16
        few = chosen.few

        last_turn : turn_of z.last ≤ moment
        last_turn = grind (arith, nat_tests, early)

        each : All (λ other. turn_of other.last ≤ moment) first
        each k d inside = by (last_or_before k inside)
          where
            last_or_before : (k : ℕ) → k < length first → (k ≡ 15) ⊎ (k < 15)
            last_or_before k inside = grind (arith, inside, few)

            its : get_or first 15 d ≡ z
            its = get_or_from_slice_get first 15 z d at

            by : (k ≡ 15) ⊎ (k < 15) → turn_of (get_or first k d).last ≤ moment
            by (inl same) = subst (λ (t : Target). turn_of t.last ≤ moment) (sym (ap (λ (i : ℕ). get_or first i d) same ∙ its)) last_turn
            by (inr before) =
                let goes : goes_before (get_or first k d) z ≡ true = subst (λ (t : Target). goes_before (get_or first k d) t ≡ true) its (chosen.ascend k 15 d before within) in
                let lesser = turn-before (get_or first k d) z goes in
                omega (arith, lesser, last_turn)

    pub full-placed : option_map_or (λ target. nat_lt (turn_of target.last) (suc moment)) (slice_get first 15) false ≡ true → AreToCome all first place probes → All (IsPlaced first) all
    full-placed full come = by (slice_get first 15) refl full
      where
        goes : (other target : Target) (t : ℕ) → turn_of other.last ≤ moment → target.last ≡ Some t → moment ≤ t → goes_before other target ≡ true
        goes other target t early last behind =
            let less : nat_lt (turn_of other.last) (suc t) ≡ true = grind (arith, nat_tests, early, behind) in
            ap (λ (o : Option ℕ). nat_lt (turn_of other.last) (turn_of o) || ((turn_of other.last == turn_of o) && is_lt (addr_order other.rloc target.rloc))) last
            ∙ ap (λ b. b || ((turn_of other.last == suc t) && is_lt (addr_order other.rloc target.rloc))) less

        by : (last : Option Target) → slice_get first 15 ≡ last → option_map_or (λ target. nat_lt (turn_of target.last) (suc moment)) last false ≡ true → All (IsPlaced first) all
        by None at early = absurd (cc early)
        by (Some z) at early =
            let before = all-before z at early in
            none-ahead all first place probes come
            (λ k d within ahead. inr (before.0, λ j e inside. goes (get_or first j e) (get_or all k d) ahead.its_probe.moment (before.1 j e inside) ahead.last (no-less now order (get_or all k d) ahead)))

-- ### the locators that may be probed

module _ (settings : Settings) (p : Parts) (m : ℕ) (after : p.now ≤ m) (order : AreInOrder p.now p.observed.probes) where
  -- at first all with a probe are ahead, from the first one on that isn't older than is known
  pub first-ahead : (turns : Turns) (first : List Target) → settings.locators ≡ p.own → turns.walked ≡ m → SuitNames p.own turns p.observed.probes (names_at m p.mappings) → AreFresh (eligible settings p m) first
      → (place : ℕ) → place ≡ count_by (is_older turns.since) p.observed.probes → AreToCome (eligible settings p m) first place p.observed.probes
  first-ahead turns first own walked known fresh place is k d within = by target.last refl
    where
      target : Target
      target = get_or (eligible settings p m) k d

      by : (last : Option ℕ) → target.last ≡ last → IsPlaced first target ⊎ IsAhead place p.observed.probes target
      by None last = inl (fresh.placed k d within last)
      by (Some moment) last = inr (record { index = there.0; its_probe = there.1; behind = behind; at = there.2; address = there.3; last = last ∙ ap (λ (t : ℕ). Some t) (sym there.4) })
        where
          its : last_probe m p.observed.probes target.rloc ≡ Some moment
          its = sym (eligible-last settings p m after k d within) ∙ last

          there : (k : ℕ) × (probe : Probe) × (slice_get p.observed.probes k ≡ Some probe) × (same_address probe.rloc target.rloc ≡ true) × (probe.moment ≡ moment)
          there = last-stands m p.observed.probes target.rloc moment its

          suits_there : nat_le turns.since moment ≡ true
          suits_there =
              ap (suits turns target.rloc) (sym its ∙ ap (λ (t : ℕ). last_probe t p.observed.probes target.rloc) (sym walked))
              ∙ told-suits settings p.own turns p.observed.probes target.rloc own (eligible-told settings p m after k d within)
              (named-suits p.own turns p.observed.probes (names_at m p.mappings) target.rloc known (eligible-named settings p m after k d within))

          since : turns.since ≤ there.1.moment
          since = let of = there.4 in grind (arith, nat_tests, suits_there, of)

          behind : place ≤ there.0
          behind = let few = count-before turns.since p.observed.probes there.0 there.1 order.ascend there.2 since in omega (arith, is, few)

  -- where the probe at a place hasn't rested, none ahead has
  pub rested-placed : (first : List Target) (place moment : ℕ) (rloc : Addr) → Some (moment, rloc) ≡ option_map moment_and_rloc (slice_get p.observed.probes place) → has_rested m (Some moment) ≡ false
      → AreToCome (eligible settings p m) first place p.observed.probes → All (IsPlaced first) (eligible settings p m)
  rested-placed first place moment rloc here awake come =
      none-ahead (eligible settings p m) first place p.observed.probes come
      (λ k d within ahead.
      let rested : has_rested m (Some ahead.its_probe.moment) ≡ true = ap (has_rested m) (sym ahead.last) ∙ eligible-rested settings p m after k d within in
      absurd
      (never m moment ahead.its_probe.moment (seconds rest_seconds)
      (no-less (eligible settings p m) p.observed.probes place moment rloc here p.now order (get_or (eligible settings p m) k d) ahead) awake rested))
    where
      never : (m s t life : ℕ) → s ≤ t → not (nat_lt (m - s) life) ≡ false → not (nat_lt (m - t) life) ≡ true → ⊥
      never m s t life le awake rested = grind (arith, nat_tests, le, awake, rested)
