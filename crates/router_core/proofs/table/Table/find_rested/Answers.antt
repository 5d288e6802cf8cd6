use Rattle.std.proofs.Common.{◌≡◌, false, List, None, Some, count_by, nat_lt, option_map, slice_get, ap, arith, subst, sym, ◌∙◌}
use Rattle.std.specs.Option.{option_map_or}
use Rattle.locator_state.specs.Turns.{turn_of}
use Rattle.locator_state.specs.declared.target.Target.{Target}
use Rattle.router_core.specs.Table.{TableSeen}
use Rattle.router_core.specs.Turning.{AreInOrder, eligible}
use Rattle.router_core.proofs.AheadLemmas.{ahead-next, end-placed, first-ahead, full-placed, rested-placed}
use Rattle.router_core.proofs.LastProbeLemmas.{is_older, moment_and_rloc, some-read}
use Rattle.router_core.proofs.table.Table.find_rested.Goals as goal
use Rattle.router_core.proofs.table.Table.find_rested.Goals.{then-not-has_rested-via-then-not-has_rested, then-not-has_rested-via-else-not-has_rested+then-are_full_before}

pub loop-moment-init : goal.loop-moment-init
loop-moment-init c =
    let p = c.args.self.now.parts in
    let order = subst (λ (t : TableSeen). AreInOrder t.parts.now t.parts.observed.probes) c.self.view_is c.self.invariant.1.order in
    let first = c.probes_before-place.ensures ∙ ap (λ (t : TableSeen). count_by (is_older c.args.turns.since) t.parts.observed.probes) c.self.view_is in
    (c.requires.fresh.chosen, c.requires.room, first-ahead c.args.site.now p c.args.m c.requires.now order c.args.turns c.args.first.now.items c.requires.own c.requires.walked c.requires.known c.requires.fresh c.probes_before-place.result first)

pub returns-then-not-has_rested : goal.returns-then-not-has_rested
returns-then-not-has_rested c =
    let p = c.args.self.now.parts in
    let all = eligible c.args.site.now p c.args.m in
    let place = c.loop-moment.place in
    let first = c.loop-moment.first.items in
    let order = subst (λ (t : TableSeen). AreInOrder t.parts.now t.parts.observed.probes) c.self.view_is c.self.invariant.1.order in
    let here : Some (c.in-Some.moment, c.in-Some.rloc) ≡ option_map moment_and_rloc (slice_get p.observed.probes place) =
    sym c.in-Some.is ∙ c.probe_at.ensures ∙ ap (λ (t : TableSeen). option_map moment_and_rloc (slice_get t.parts.observed.probes place)) c.self.view_is in
    record {
      placed = record {
        chosen = c.loop-moment.invariant.0;
        placed = elim c.then-not-has_rested.branch [
          | then-not-has_rested-via-then-not-has_rested w ↦
              rested-placed c.args.site.now p c.args.m c.requires.now order first place c.in-Some.moment c.in-Some.rloc here (sym c.has_rested.ensures ∙ w.if-not-has_rested.true) c.loop-moment.invariant.2
          | then-not-has_rested-via-else-not-has_rested+then-are_full_before w ↦
              full-placed all p.observed.probes place c.in-Some.moment c.in-Some.rloc here p.now order first c.loop-moment.invariant.0
              (sym (w.are_full_before.ensures ∙ ap (λ (l : List Target). option_map_or (λ (target : Target). nat_lt (turn_of target.last) (turn_of (Some c.in-Some.moment))) (slice_get l 15) false) w.deref.ensures.value) ∙ w.if-are_full_before.true)
              c.loop-moment.invariant.2
        ];
      };
    }

pub offer_rested-requires-clause-here : goal.offer_rested-requires-clause-here
offer_rested-requires-clause-here c =
    sym c.in-Some.is ∙ c.probe_at.ensures ∙ ap (λ (t : TableSeen). option_map moment_and_rloc (slice_get t.parts.observed.probes c.loop-moment.place)) c.self.view_is

pub offer_rested-requires-clause-chosen : goal.offer_rested-requires-clause-chosen
offer_rested-requires-clause-chosen c = c.loop-moment.invariant.0

pub offer_rested-requires-clause-room : goal.offer_rested-requires-clause-room
offer_rested-requires-clause-room c = c.loop-moment.invariant.1

pub overflow_add-place : goal.overflow_add-place
overflow_add-place c =
    let within = some-read c.self.inside.locators.observed.probes c.loop-moment.place c.in-Some.moment c.in-Some.rloc (sym c.in-Some.is ∙ c.probe_at.ensures) in
    let few = c.self.invariant.4.longest in
    omega (arith, within, few)

pub loop-moment-smaller : goal.loop-moment-smaller
loop-moment-smaller c =
    let probes = c.args.self.now.parts.observed.probes in
    let place = c.loop-moment.place in
    let here : Some (c.in-Some.moment, c.in-Some.rloc) ≡ option_map moment_and_rloc (slice_get probes place) =
    sym c.in-Some.is ∙ c.probe_at.ensures ∙ ap (λ (t : TableSeen). option_map moment_and_rloc (slice_get t.parts.observed.probes place)) c.self.view_is in
    let within = some-read probes place c.in-Some.moment c.in-Some.rloc here in
    omega (arith, within)

pub loop-moment-preserved : goal.loop-moment-preserved
loop-moment-preserved c =
    let p = c.args.self.now.parts in
    let place = c.loop-moment.place in
    let here : Some (c.in-Some.moment, c.in-Some.rloc) ≡ option_map moment_and_rloc (slice_get p.observed.probes place) =
    sym c.in-Some.is ∙ c.probe_at.ensures ∙ ap (λ (t : TableSeen). option_map moment_and_rloc (slice_get t.parts.observed.probes place)) c.self.view_is in (
      c.offer_rested.ensures.chosen,
      omega (arith, c.loop-moment.invariant.1, c.offer_rested.ensures.capacity),
      ahead-next (eligible c.args.site.now p c.args.m) p.observed.probes place c.in-Some.moment c.in-Some.rloc here c.loop-moment.first.items c.offer_rested.new.first.items c.offer_rested.ensures.stay c.offer_rested.ensures.here c.loop-moment.invariant.2,
    )

pub returns : goal.returns
returns c =
    let p = c.args.self.now.parts in
    let place = c.loop-moment.place in
    let none : None ≡ option_map moment_and_rloc (slice_get p.observed.probes place) =
    sym c.in_default.is ∙ c.probe_at.ensures ∙ ap (λ (t : TableSeen). option_map moment_and_rloc (slice_get t.parts.observed.probes place)) c.self.view_is in
    record {
      placed = record {
        chosen = c.loop-moment.invariant.0;
        placed = end-placed (eligible c.args.site.now p c.args.m) c.loop-moment.first.items place p.observed.probes none c.loop-moment.invariant.2;
      };
    }
