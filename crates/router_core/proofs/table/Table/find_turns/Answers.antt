use Rattle.std.proofs.Common.{ℕ, arith, subst, sym}
use Rattle.std.proofs.lemmas.List.Elements.{All-same}
use Rattle.router_model.specs.Parts.{view_in}
use Rattle.router_model.specs.Tick.{next_targets}
use Rattle.router_core.specs.Table.{TableSeen}
use Rattle.router_core.specs.Ticking.{HasSender}
use Rattle.router_core.specs.Turning.{AreTurned, SuitNames, names_at}
use Rattle.router_core.proofs.KnownLemmas.{suit-names}
use Rattle.router_core.proofs.TurnsLemmas.{next-senders, placed-next}
use Rattle.router_core.proofs.table.Table.find_turns.Goals as goal

pub returns-clause-items : goal.returns-clause-items
returns-clause-items c =
    placed-next c.args.site.now c.args.self.now.parts c.args.m c.find_rested.new.first.items c.find_rested.ensures.placed

pub returns-clause-few : goal.returns-clause-few
returns-clause-few c =
    omega (arith, c.find_rested.ensures.placed.chosen.few, c.find_rested.new.first.ok.0)

pub returns-clause-senders : goal.returns-clause-senders
returns-clause-senders c =
    All-same (HasSender c.args.site.now) c.find_rested.new.first.items (next_targets c.args.site.now (view_in c.args.self.now.parts c.args.m)) (returns-clause-items c) (next-senders c.args.site.now (view_in c.args.self.now.parts c.args.m))

pub invariant_of-self : goal.invariant_of-self
invariant_of-self c =
    let turns = c.known_at-turns.result in
    let p = c.args.self.now.parts in
    let suit : SuitNames p.own turns p.observed.probes (names_at turns.walked p.mappings) =
    subst (λ (t : ℕ). SuitNames p.own turns p.observed.probes (names_at t p.mappings)) (sym c.known_at-turns.ensures.walked) c.known_at-turns.ensures.known in
    let known : AreTurned c.self.inside.own.items turns c.self.inside.locators.observed.probes c.self.inside.cache.mappings =
    subst (λ (t : TableSeen). AreTurned t.parts.own turns t.parts.observed.probes t.parts.mappings) (sym c.self.view_is) (suit-names p.own turns p.observed.probes p.mappings suit) in (
      c.self.invariant.0,
      record { order = c.self.invariant.1.order; known = known },
      c.self.invariant.2,
      c.self.invariant.3,
      c.self.invariant.4,
      c.self.invariant.5,
    )
