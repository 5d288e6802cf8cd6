use Rattle.std.proofs.Common.{map, take}
use Rattle.router_model.specs.Parts.{standing_in}
use Rattle.router_model.specs.Sides.{notices_of}
use Rattle.forwarders.specs.Gathering.{Notes}
use Rattle.forwarders.specs.Ruling.{ruling_of}
use Rattle.forwarders.proofs.notices.note_all.Given as goal

abbrev pub invariant-loop-one : goal.invariant-loop-one
invariant-loop-one l = Notes (standing_in l.closing.settings.now l.fn.table.parts) l.closing.moment (notices_of (map ruling_of (take l.one-index l.ruled))) l.fn.table.parts l.fn.entries.items l.fn.items.items l.table.parts l.entries.items l.items.items
