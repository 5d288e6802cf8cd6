use Rattle.std.proofs.Common.{◌≡◌, ◌+◌, ℕ, false, None, Some, IfSome, count_by, option_map, slice_get, ap, arith, subst, sym, ◌∙◌}
use Rattle.locator_state.specs.Probes.{last_probe}
use Rattle.router_core.specs.Table.{TableSeen}
use Rattle.router_core.specs.Turning.{AreInOrder, names_at}
use Rattle.router_core.proofs.KnownLemmas.{names-suit}
use Rattle.router_core.proofs.LastProbeLemmas.{is_older, last-of, last-young, moment_and_rloc, some-read}
use Rattle.router_core.proofs.PassedProbeLemmas.{ArePast, is_live, names-behind, none-passed, passed-fresh, passed-other, stop-at, stop-end, young-now}
use Rattle.router_core.proofs.table.Table.pass_rested.Goals as goal
use Rattle.router_core.proofs.table.Table.pass_rested.Goals.{in-None, in-Some-last_probe_at+else-last-moment, else-last-moment-via-then-last-moment+else-is_live, else-last-moment-via-else-last-moment}

pub loop-moment-init : goal.loop-moment-init
loop-moment-init c =
    let p = c.args.self.now.parts in
    let order = subst (λ (t : TableSeen). AreInOrder t.parts.now t.parts.observed.probes) c.self.view_is c.self.invariant.1.order in
    let first = c.probes_before-place.ensures ∙ ap (λ (t : TableSeen). count_by (is_older c.args.turns.since) t.parts.observed.probes) c.self.view_is in
    (λ addr is. is, none-passed c.args.site.now (names_at c.args.m p.mappings) c.args.m p.observed.probes c.args.turns.since p.now order c.args.turns.covered c.probes_before-place.result first)

pub returns-then-is_live-clause-known : goal.returns-then-is_live-clause-known
returns-then-is_live-clause-known c =
    let p = c.args.self.now.parts in
    let probes = p.observed.probes in
    let names = names_at c.args.m p.mappings in
    let place = c.loop-moment.place in
    let order = subst (λ (t : TableSeen). AreInOrder t.parts.now t.parts.observed.probes) c.self.view_is c.self.invariant.1.order in
    let here : Some (c.in-Some.moment, c.in-Some.rloc) ≡ option_map moment_and_rloc (slice_get probes place) =
    sym c.in-Some.is ∙ c.probe_at.ensures ∙ ap (λ (t : TableSeen). option_map moment_and_rloc (slice_get t.parts.observed.probes place)) c.self.view_is in
    let of_rloc = last-of c.args.m place c.in-Some.moment c.in-Some.rloc probes c.last_probe_at.result here
    (subst (λ (t : TableSeen). IfSome (slice_get t.parts.observed.probes place) (λ probe. c.last_probe_at.result ≡ last_probe c.args.m t.parts.observed.probes probe.rloc)) c.self.view_is c.last_probe_at.ensures) in
    let last : last_probe c.args.m probes c.in-Some.rloc ≡ Some c.in-Some.moment = sym of_rloc ∙ c.in-Some-last_probe_at.is ∙ ap (λ (t : ℕ). Some t) c.if-last-moment.true in
    names-behind c.args.site.now names c.args.m probes c.args.turns c.loop-moment.covered place c.in-Some.moment c.requires.walked c.loop-moment.invariant.0 c.loop-moment.invariant.1
    (stop-at p.now probes place c.in-Some.moment c.in-Some.rloc order here) (last-young c.args.m probes c.in-Some.rloc c.in-Some.moment last)
    p.own c.requires.own (names-suit p.own c.args.turns probes p.mappings c.args.m c.requires.walked c.requires.known)

pub overflow_add-place : goal.overflow_add-place
overflow_add-place c =
    let within = some-read c.self.inside.locators.observed.probes c.loop-moment.place c.in-Some.moment c.in-Some.rloc (sym c.in-Some.is ∙ c.probe_at.ensures) in
    let few = c.self.invariant.4.longest in
    omega (arith, within, few)

pub loop-moment-smaller : goal.loop-moment-smaller
loop-moment-smaller c =
    let probes = c.args.self.now.parts.observed.probes in
    let place = c.loop-moment.place in
    let here : Some (c.in-Some.moment, c.in-Some.rloc) ≡ option_map moment_and_rloc (slice_get probes place) =
    sym c.in-Some.is ∙ c.probe_at.ensures ∙ ap (λ (t : TableSeen). option_map moment_and_rloc (slice_get t.parts.observed.probes place)) c.self.view_is in
    let within = some-read probes place c.in-Some.moment c.in-Some.rloc here in
    omega (arith, within)

pub loop-moment-preserved : goal.loop-moment-preserved
loop-moment-preserved c =
    let site = c.args.site.now in
    let m = c.args.m in
    let rloc = c.in-Some.rloc in
    let probes = c.args.self.now.parts.observed.probes in
    let names = names_at m c.args.self.now.parts.mappings in
    let place = c.loop-moment.place in
    let covered = c.loop-moment.covered in
    let here : Some (c.in-Some.moment, rloc) ≡ option_map moment_and_rloc (slice_get probes place) =
    sym c.in-Some.is ∙ c.probe_at.ensures ∙ ap (λ (t : TableSeen). option_map moment_and_rloc (slice_get t.parts.observed.probes place)) c.self.view_is in
    let of_rloc = last-of m place c.in-Some.moment rloc probes c.last_probe_at.result here
    (subst (λ (t : TableSeen). IfSome (slice_get t.parts.observed.probes place) (λ probe. c.last_probe_at.result ≡ last_probe m t.parts.observed.probes probe.rloc)) c.self.view_is c.last_probe_at.ensures) in
    elim c.match-last_probe_at.branch [
      | in-None w ↦
          let lowered = w.lowered-covered.ensures in
          subst (ArePast site names m probes c.args.turns (place + 1)) (sym w.covered-is) (
            λ addr is. c.loop-moment.invariant.0 addr (lowered.less addr is),
            passed-fresh site names m probes c.args.turns.since place c.in-Some.moment rloc here covered w.lowered-covered.result lowered.less lowered.without (sym of_rloc ∙ w.in-None.is) c.loop-moment.invariant.1,
          )
      | in-Some-last_probe_at+else-last-moment w ↦
          let unless : w.in-Some-last_probe_at.last ≡ c.in-Some.moment → is_live site names rloc ≡ false =
          elim w.else-last-moment.branch [
            | else-last-moment-via-then-last-moment+else-is_live v ↦ λ same. sym v.is_live.ensures ∙ v.if-is_live.false
            | else-last-moment-via-else-last-moment v ↦ λ same. absurd (v.if-last-moment.false same)
          ] in
          subst (ArePast site names m probes c.args.turns (place + 1)) (sym w.covered-is) (
            c.loop-moment.invariant.0,
            passed-other site names m probes c.args.turns.since place c.in-Some.moment rloc here covered w.in-Some-last_probe_at.last (sym of_rloc ∙ w.in-Some-last_probe_at.is) unless c.loop-moment.invariant.1,
          )
    ]

pub returns-clause-known : goal.returns-clause-known
returns-clause-known c =
    let p = c.args.self.now.parts in
    let probes = p.observed.probes in
    let place = c.loop-moment.place in
    let none : None ≡ option_map moment_and_rloc (slice_get probes place) =
    sym c.in_default.is ∙ c.probe_at.ensures ∙ ap (λ (t : TableSeen). option_map moment_and_rloc (slice_get t.parts.observed.probes place)) c.self.view_is in
    names-behind c.args.site.now (names_at c.args.m p.mappings) c.args.m probes c.args.turns c.loop-moment.covered place c.args.m c.requires.walked c.loop-moment.invariant.0 c.loop-moment.invariant.1
    (stop-end probes place c.args.m none) (young-now c.args.m)
    p.own c.requires.own (names-suit p.own c.args.turns probes p.mappings c.args.m c.requires.walked c.requires.known)
