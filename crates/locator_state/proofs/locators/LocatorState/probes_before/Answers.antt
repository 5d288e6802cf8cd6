use Rattle.std.proofs.Common.{◌≡◌, ℕ, ◌+◌, ◌-◌, nat_lt, Bool, cond, List, [], ◌∷◌, count_by, length, refl, ap, ◌∙◌, arith}
use Rattle.std.proofs.lemmas.Bool.Decides.{nat_tests}
use Rattle.std.proofs.lemmas.List.Sums.{sum_by-cons}
use Rattle.keyed_list.specs.Keyed.{is_young}
use Rattle.keyed_list.specs.Known.{probe_marks}
use Rattle.router_log.specs.declared.kept.Probe.{Probe}
use Rattle.locator_state.specs.Observed.{Located}
use Rattle.locator_state.proofs.locators.LocatorState.probes_before.Goals as goal

-- each probe is older than a moment, or less than 1 old at it
abbrev is_older : ℕ → Probe → Bool
is_older since probe = nat_lt probe.moment since

parts : (since : ℕ) (probes : List Probe) → length probes ≡ count_by (is_young probe_marks since 1) probes + count_by (is_older since) probes
parts since [] = refl
parts since (probe ∷ others) =
    let young = sum_by-cons (λ probe. cond (is_young probe_marks since 1 probe) 1 0) probe others in
    let older = sum_by-cons (λ probe. cond (is_older since probe) 1 0) probe others in
    let first : 1 ≡ cond {A = ℕ} (nat_lt (since - probe.moment) 1) 1 0 + cond {A = ℕ} (nat_lt probe.moment since) 1 0 = grind (arith, nat_tests) in
    let rest = parts since others in
    omega (arith, young, older, first, rest)

pub returns : goal.returns
returns c =
    let probes = c.self.inside.probes.items in
    let all = parts c.args.moment probes in
    let len = c.len.ensures.len in
    let young = c.count.ensures in
    let left : c.len.result - c.count.result ≡ count_by (is_older c.args.moment) probes = omega (arith, all, len, young) in
    left ∙ ap (λ (l : Located). count_by (is_older c.args.moment) l.observed.probes) c.self.view_is
