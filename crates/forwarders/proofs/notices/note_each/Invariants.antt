use Rattle.std.proofs.Common.{take}
use Rattle.router_model.specs.Parts.{standing_in}
use Rattle.forwarders.specs.Gathering.{Notes}
use Rattle.forwarders.proofs.notices.note_each.Given as goal

abbrev pub invariant-loop-notice : goal.invariant-loop-notice
invariant-loop-notice l = Notes (standing_in l.closing.settings.now l.fn.table.parts) l.closing.moment (take l.notice-index l.notices) l.fn.table.parts l.fn.entries.items l.fn.items.items l.table.parts l.entries.items l.items.items
