use Rattle.std.proofs.Common.{◌≡◌, ◌∙◌, ℕ, nat_lt, List, [], ◌∷◌, ◌++◌, sym, ap, ap₂, arith}
use Rattle.lisp_settings.specs.Nonces.{nonce_of}
use Rattle.locator_state.specs.Probes.{probe_count}
use Rattle.router_log.specs.declared.emit.Emit.{Emit}
use Rattle.router_log.specs.declared.emit.Emit.TheVariants as emit
use Rattle.router_log.specs.declared.entry.Entry.{Entry}
use Rattle.router_log.specs.declared.entry.Entry.TheVariants.{Probed}
use Rattle.router_model.specs.Parts.{Parts, view_in, with_entry}
use Rattle.router_core.specs.Table.{TableSeen, change_of}
use Rattle.router_core.proofs.LengthLemmas.{below-most}
use Rattle.router_core.proofs.TickingLemmas.{count-now, probed-not, probed-so}
use Rattle.router_core.proofs.table.Table.probe_one.Goals as goal

pub returns-then-not-may_probe-clause-change : goal.returns-then-not-may_probe-clause-change
returns-then-not-may_probe-clause-change c =
    let p = c.args.self.now.parts in
    let full = count-now p c.args.step.now.m c.requires.may.enter.later ∙ sym (ap (λ (t : TableSeen). nat_lt (probe_count c.args.step.now.m t.parts.observed.probes) 9600) c.self.view_is) ∙ sym c.may_probe.ensures ∙ c.if-not-may_probe.true in
    probed-not c.args.step.now.site.now c.args.step.now.m c.args.target.now (change_of p c.args.step.now.entries.items c.args.step.now.emits.items) full

pub probe-requires-clause-place : goal.probe-requires-clause-place
probe-requires-clause-place c =
    let p = c.args.self.now.parts in
    below-most (view_in p c.args.step.now.m).probe_count
    (count-now p c.args.step.now.m c.requires.may.enter.later ∙ sym (ap (λ (t : TableSeen). nat_lt (probe_count c.args.step.now.m t.parts.observed.probes) 9600) c.self.view_is) ∙ sym c.may_probe.ensures ∙ c.if-not-may_probe.false)

pub returns-clause-change : goal.returns-clause-change
returns-clause-change c =
    let settings = c.args.step.now.site.now in
    let m = c.args.step.now.m in
    let p = c.args.self.now.parts in
    let target = c.args.target.now in
    let entries = c.args.step.now.entries.items in
    let emits = c.args.step.now.emits.items in
    let place = count-now p m c.requires.may.enter.later ∙ sym (ap (λ (t : TableSeen). nat_lt (probe_count m t.parts.observed.probes) 9600) c.self.view_is) ∙ sym c.may_probe.ensures ∙ c.if-not-may_probe.false in
    let entry : ℕ → Entry = λ n. Probed m target.rloc n in
    let packet : ℕ → Emit = λ n. emit.Probe target.rloc target.eid n in
    let n = c.nonce_at-nonce.result in
    let drawn : n ≡ nonce_of settings.seed settings.nonces p.drawn =
    c.nonce_at-nonce.ensures ∙ ap (λ (t : TableSeen). nonce_of settings.seed settings.nonces t.parts.drawn) c.self.view_is in
    ap (λ (q : Parts). change_of q c.push.new.self.entries.items c.push.new.self.emits.items) c.probe.ensures.parts
    ∙ ap₂ (λ (e : List Entry) (f : List Emit). change_of (with_entry (entry n) p) e f) c.push.ensures.entries c.push.ensures.emits
    ∙ ap (λ (n : ℕ). change_of (with_entry (entry n) p) (entries ++ entry n ∷ []) (emits ++ packet n ∷ [])) drawn
    ∙ probed-so settings m target p entries emits c.requires.may.enter.later (omega (arith, c.requires.may.enter.count)) place
