use Rattle.std.proofs.Common.{true, ◌∙◌, ◌≤◌, ◌+◌, List, ◌∷◌, ◌++◌, [], length, take, sym, ap, subst, arith}
use Rattle.std.proofs.lemmas.List.{take_all, take_more}
use Rattle.map_cache.specs.declared.mapping.Mapping.{Mapping}
use Rattle.mapping_records.specs.declared.record.Record.{Record}
use Rattle.router_log.specs.declared.entry.Entry.TheVariants.{Learned}
use Rattle.router_model.specs.Parts.{Parts, parts_in, with_entry}
use Rattle.lisp_settings.specs.Instances.{all_mappings}
use Rattle.router_core.proofs.LimitLemmas.{fixed-keeps}
use Rattle.router_core.proofs.StaticLemmas.{journal_of, static-few, static-parts, static-place}
use Rattle.router_core.proofs.table.Table.learn_statics.Goals as goal

pub learn-requires-clause-place : goal.learn-requires-clause-place
learn-requires-clause-place c =
    let kept = c.loop-mapping.invariant.1.1.1.0 in
    let below = c.loop-mapping-test.true in
    let few = c.requires.few in
    static-place c.loop-mapping.self.parts.limits c.in_ok-mapping.mapping c.loop-mapping.self.parts.mappings (omega (arith, kept, below, few))

pub learn-requires-clause-keeps : goal.learn-requires-clause-keeps
learn-requires-clause-keeps c =
    let kept = c.loop-mapping.invariant.1.1.1.0 in
    let below = c.loop-mapping-test.true in
    let all = c.loop-mapping.invariant.1.1.1.1.1 in
    fixed-keeps c.loop-mapping.self.parts.limits 0 c.in_ok-mapping.mapping c.loop-mapping.self.parts.mappings c.keeps_its_limits.ensures (omega (arith, kept, below, all))

pub learn-requires-clause-may : goal.learn-requires-clause-may
learn-requires-clause-may c =
    let known = c.loop-mapping.invariant.1 in
    let below = c.loop-mapping-test.true in
    record { later = known.0; count = omega (arith, known.1.0, below, c.requires.few) }

pub returns : goal.returns
returns c settings begins =
    c.loop-mapping.invariant.0 settings begins
    ∙ ap (λ (l : List Record). parts_in settings (journal_of l)) (take_all c.loop-mapping.mapping-index c.args.mappings.now c.loop-mapping-test.false)

pub loop-mapping-init : goal.loop-mapping-init
loop-mapping-init c = (
  (λ settings begins. begins),
  (
    omega (arith, c.requires.now),
    (
      omega (arith, c.requires.count),
      (
        subst (λ (l : List Mapping). length l ≤ 0) (sym c.requires.none) (omega arith),
        (omega (arith, c.requires.room), c.requires.few),
      ),
    ),
  ),
)

pub learn-requires-clause-room : goal.learn-requires-clause-room
learn-requires-clause-room c = omega (arith, c.loop-mapping.invariant.1.1.1.1.0, c.loop-mapping-test.true)

pub loop-mapping-preserved : goal.loop-mapping-preserved
loop-mapping-preserved c =
    let mappings = c.args.mappings.now in
    let i = c.loop-mapping.mapping-index in
    let item = c.mapping-item.result in
    let before = c.loop-mapping.self.parts in
    let below = c.loop-mapping-test.true in
    let known = c.loop-mapping.invariant.1 in
    let taken = ap (λ (r : Record). with_entry (Learned 0 r true) before) c.in_ok-mapping.ensures in
    let same = c.learn.ensures.parts ∙ taken in
    let first = known.1.0 in
    let few = known.1.1.0 in
    let count = known.1.0 in
    let more = static-few item before in
    let room = known.1.1.1.0 in
    let left = c.learn.ensures.mapping_room in (
      (λ settings begins.
          same ∙ static-parts settings (take i mappings) item before (c.loop-mapping.invariant.0 settings begins)
          ∙ ap (λ (l : List Record). parts_in settings (journal_of l)) (ap (λ (r : Record). take i mappings ++ r ∷ []) c.mapping-item.is ∙ sym (take_more mappings i item below))),
      (
        subst (λ (q : Parts). q.now ≤ 0) (sym same) (omega arith),
        (
          subst (λ (q : Parts). q.count ≤ i + 1) (sym same) (omega (arith, count)),
          (
            subst (λ (q : Parts). length q.mappings ≤ i + 1) (sym same) (omega (arith, few, more)),
            (omega (arith, room, left), subst (λ (q : Parts). length mappings + all_mappings q.limits ≤ 65536) (sym same) known.1.1.1.1),
          ),
        ),
      ),
    )
