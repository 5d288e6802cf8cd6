use Rattle.std.proofs.Common.{◌≡◌, ℕ, List, true, None, Some, IfSome, find, get_or, slice_get, ap, subst, sym, ◌∙◌, true≢false}
use Rattle.std.proofs.lemmas.Option.{same_Some}
use Rattle.std.specs.List.{All, list_any}
use Rattle.ip_headers.specs.declared.addr.Addr.{Addr}
use Rattle.locator_state.proofs.TurnsLemmas.{equal-address}
use Rattle.locator_state.specs.Probes.{last_probe}
use Rattle.locator_state.specs.declared.target.Target.{Target}
use Rattle.mapping_records.specs.Eids.{same_address}
use Rattle.router_model.proofs.CandidateLemmas.{eligible-probes}
use Rattle.router_model.specs.Parts.{view_in}
use Rattle.router_model.specs.Tick.{is_told}
use Rattle.router_core.specs.Table.{TableSeen}
use Rattle.router_core.specs.Turning.{AreChosen, IsPlaced, eligible, has_address, names_at}
use Rattle.router_core.proofs.EligibleLemmas.{eligible-last, eligible-named, eligible-told}
use Rattle.router_core.proofs.LastProbeLemmas.{last-of}
use Rattle.router_core.proofs.PlacedLemmas.{offer-chosen, offer-here, offer-stays}
use Rattle.router_core.proofs.RestedLemmas.{named-found, rested-target, target_with}
use Rattle.router_core.proofs.table.Table.offer_rested.Goals as goal

pub returns-then-not-is_told-clause-here : goal.returns-then-not-is_told-clause-here
returns-then-not-is_told-clause-here c = λ k d within same last.
    let site = c.args.site.now in
    let p = c.args.self.now.parts in
    let x = get_or (eligible site p c.args.m) k d in
    let told : is_told site c.args.probe.1 ≡ true = ap (is_told site) (equal-address c.args.probe.1 x.rloc same) ∙ eligible-told site p c.args.m c.requires.now k d within in
    absurd (true≢false (sym told ∙ sym c.is_told.ensures ∙ c.if-not-is_told.true))

pub returns-in_default-clause-here : goal.returns-in_default-clause-here
returns-in_default-clause-here c = λ k d within same last.
    let p = c.args.self.now.parts in
    let x = get_or (eligible c.args.site.now p c.args.m) k d in
    let of_rloc = last-of c.args.m c.args.place c.args.probe.0 c.args.probe.1 p.observed.probes c.last_probe_at.result c.requires.here
    (subst (λ (t : TableSeen). IfSome (slice_get t.parts.observed.probes c.args.place) (λ probe. c.last_probe_at.result ≡ last_probe c.args.m t.parts.observed.probes probe.rloc)) c.self.view_is c.last_probe_at.ensures) in
    let none : Some c.args.probe.0 ≡ None =
    sym last ∙ eligible-last c.args.site.now p c.args.m c.requires.now k d within
    ∙ ap (last_probe c.args.m p.observed.probes) (sym (equal-address c.args.probe.1 x.rloc same)) ∙ sym of_rloc ∙ c.in_default.is in
    absurd (cc none)

pub returns-then-last-moment-clause-here : goal.returns-then-last-moment-clause-here
returns-then-last-moment-clause-here c = λ k d within same last.
    let p = c.args.self.now.parts in
    let x = get_or (eligible c.args.site.now p c.args.m) k d in
    let of_rloc = last-of c.args.m c.args.place c.args.probe.0 c.args.probe.1 p.observed.probes c.last_probe_at.result c.requires.here
    (subst (λ (t : TableSeen). IfSome (slice_get t.parts.observed.probes c.args.place) (λ probe. c.last_probe_at.result ≡ last_probe c.args.m t.parts.observed.probes probe.rloc)) c.self.view_is c.last_probe_at.ensures) in
    let is : Some c.in-Some.last ≡ Some c.args.probe.0 =
    sym c.in-Some.is ∙ of_rloc
    ∙ ap (last_probe c.args.m p.observed.probes) (equal-address c.args.probe.1 x.rloc same)
    ∙ sym (eligible-last c.args.site.now p c.args.m c.requires.now k d within) ∙ last in
    absurd (c.if-last-moment.true (same_Some c.in-Some.last c.args.probe.0 is))

pub returns-in_default-least_eid-clause-here : goal.returns-in_default-least_eid-clause-here
returns-in_default-least_eid-clause-here c = λ k d within same last.
    let p = c.args.self.now.parts in
    let x = get_or (eligible c.args.site.now p c.args.m) k d in
    let names = names_at c.args.m p.mappings in
    let named : list_any (λ name. same_address c.args.probe.1 name.0) names ≡ true =
    ap (λ (a : Addr). list_any (λ name. same_address a name.0) names) (equal-address c.args.probe.1 x.rloc same) ∙ eligible-named c.args.site.now p c.args.m c.requires.now k d within in
    absurd (named-found c.args.probe.1 names named (sym c.in_default-least_eid.is ∙ c.least_eid.ensures))

-- the locator with its last probe and the least EID that names it
abbrev offered : goal.After-offer → Target
offered c = target_with c.args.probe.1 c.in-Some-least_eid.eid (Some c.args.probe.0)

-- it is the first of its address that may be probed
is_first : (c : goal.After-offer) → find (has_address c.args.probe.1) (eligible c.args.site.now c.args.self.now.parts c.args.m) ≡ Some (offered c)
is_first c =
    let p = c.args.self.now.parts in
    let of_rloc = last-of c.args.m c.args.place c.args.probe.0 c.args.probe.1 p.observed.probes c.last_probe_at.result c.requires.here
    (subst (λ (t : TableSeen). IfSome (slice_get t.parts.observed.probes c.args.place) (λ probe. c.last_probe_at.result ≡ last_probe c.args.m t.parts.observed.probes probe.rloc)) c.self.view_is c.last_probe_at.ensures) in
    let last : last_probe c.args.m p.observed.probes c.args.probe.1 ≡ Some c.args.probe.0 = sym of_rloc ∙ c.in-Some.is ∙ ap (λ (t : ℕ). Some t) c.if-last-moment.false in
    rested-target c.args.site.now p c.args.m c.requires.now c.args.probe.1 c.in-Some-least_eid.eid c.args.probe.0 (sym c.in-Some-least_eid.is ∙ c.least_eid.ensures) (sym c.is_told.ensures ∙ c.if-not-is_told.false) last c.requires.rested

pub returns-clause-chosen : goal.returns-clause-chosen
returns-clause-chosen c =
    let p = c.args.self.now.parts in
    let all = eligible c.args.site.now p c.args.m in
    subst (AreChosen all) (sym c.offer.ensures.items)
    (offer-chosen all c.args.first.now.items (eligible-probes c.args.site.now (view_in p c.args.m)) (offered c) (is_first c) c.requires.chosen)

pub returns-clause-stay : goal.returns-clause-stay
returns-clause-stay c =
    let p = c.args.self.now.parts in
    let all = eligible c.args.site.now p c.args.m in
    subst (λ (l : List Target). All (λ target. IsPlaced c.args.first.now.items target → IsPlaced l target) all) (sym c.offer.ensures.items)
    (offer-stays all c.args.first.now.items (eligible-probes c.args.site.now (view_in p c.args.m)) (offered c) (is_first c) c.requires.chosen)

pub returns-clause-here : goal.returns-clause-here
returns-clause-here c =
    let p = c.args.self.now.parts in
    let all = eligible c.args.site.now p c.args.m in
    let here = offer-here all c.args.first.now.items (eligible-probes c.args.site.now (view_in p c.args.m)) (offered c) (is_first c) c.requires.chosen in
    subst (λ (l : List Target). All (λ target. same_address c.args.probe.1 target.rloc ≡ true → target.last ≡ Some c.args.probe.0 → IsPlaced l target) all) (sym c.offer.ensures.items)
    (λ k d within same of. here k d within same)
