use Rattle.std.proofs.Common.{◌≡◌, is_some, rules, true}
use Rattle.desk.specs.World.{there}
use Rattle.desk.proofs.SteadyLemmas.{steady-named, steady-owed, steady-plain}
use Rattle.desk.proofs.memory.MemoryDeskDesk.TheImpl.Goals as goal

pub open_file-tells : goal.open_file-tells
open_file-tells c =
    let named = is_some (there c.args.name.now c.args.self.now.shelf.world.files) in
    search (rules, steady-named named (named ≡ true) c.result _ c.args.self.now c.new.self.now (λ h. h) c.ensures.desk c.ensures.answer)

pub make_file-tells : goal.make_file-tells
make_file-tells c = search (rules, steady-plain c.result _ c.args.self.now c.new.self.now c.ensures.desk c.ensures.answer)

pub read_file-tells : goal.read_file-tells
read_file-tells c = search (rules, steady-owed _ c.result _ c.args.self.now c.new.self.now c.ensures.desk c.ensures.never)

pub write_file-tells : goal.write_file-tells
write_file-tells c = search (rules, steady-owed _ c.result _ c.args.self.now c.new.self.now c.ensures.desk c.ensures.never)

pub say-tells : goal.say-tells
say-tells c = search (rules, steady-plain c.result _ c.args.self.now c.new.self.now c.ensures.desk c.ensures.answer)
