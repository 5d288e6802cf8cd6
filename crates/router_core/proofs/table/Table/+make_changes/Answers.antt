use Rattle.std.proofs.Common.{rules, ◌-◌, ◌∙◌, [], ap, arith, drop, length, take}
use Rattle.router_model.specs.Parts.{table}
use Rattle.router_model.specs.Standing.{due_changes}
use Rattle.router_model.specs.Tick.{all_changed}
use Rattle.router_core.specs.Table.{change_of}
use Rattle.router_core.proofs.SecondLemmas.{made-left}
use Rattle.router_core.proofs.TickingLemmas.{length-left}
use Rattle.router_core.proofs.table.Table.+make_changes.Goals as goal

pub make_changes-requires : goal.make_changes-requires
make_changes-requires t c =
    let changes = c.args.changes.now in
    let some = c.in-len1-up.len_at_least in
    let fewer = length-left changes some in
    let count = c.requires.may.count in
    let one = c.make_change.ensures.entered.count in
    let room = c.requires.room in
    let entries = c.make_change.ensures.entries in (
      search rules,
      (
        record { later = c.make_change.ensures.entered.now; count = omega (arith, fewer, some, count, one) },
        omega (arith, fewer, some, room, entries.most_more, entries.capacity),
      ),
    )

pub returns-clause-change : goal.returns-clause-change
returns-clause-change t c settings =
    let m = c.args.m in
    let changes = c.args.changes.now in
    let before = change_of c.args.self.now.parts c.args.entries.now.items [] in
    c.make_changes.ensures.change settings
    ∙ ap (all_changed table settings m (due_changes m (take (length changes - 1) (drop 1 changes)))) (c.make_change.ensures.change settings)
    ∙ made-left m settings changes _ before c.in-len1-up.len_at_least
