use Rattle.std.proofs.Common.{rules, ◌++◌, drop, arith, sym, ap, ◌∙◌}
use Rattle.std.specs.Option.{option_to_list}
use Rattle.mapping_records.specs.Record.{InRange}
use Rattle.router_core.proofs.CopyLemmas.{all-left, copies-left, length-left}
use Rattle.router_core.proofs.table.Table.+learn_each.Goals as goal

pub learn_each-requires : goal.learn_each-requires
learn_each-requires t c =
    let records = c.args.records.now in
    let taken = c.pop_front.ensures.items ∙ ap (λ r. option_to_list r ++ c.pop_front.new.self.items) c.in-Some.is in
    let fewer = length-left records c.in-len1-up.len_at_least in
    let some = c.in-len1-up.len_at_least in
    let count = c.requires.may.count in
    let one = c.learn_one.ensures.entered.count in
    let rooms = c.requires.mapping_room in
    let room = c.learn_one.ensures.mapping_room in
    let places = c.requires.room in
    let most = c.learn_one.ensures.entries.most_more in
    let capacity = c.learn_one.ensures.entries.capacity in (
      search rules,
      (
        c.requires.lawful,
        (
          record { later = c.learn_one.ensures.entered.now; count = omega (arith, fewer, some, count, one) },
          (
            all-left InRange records c.requires.range,
            (
              copies-left records c.args.copies.now.items c.pop_front.new.self.items c.requires.copies (sym (ap (drop 1) taken)),
              (
                omega (arith, fewer, some, rooms, room),
                omega (arith, fewer, some, places, most, capacity),
              ),
            ),
          ),
        ),
      ),
    )
