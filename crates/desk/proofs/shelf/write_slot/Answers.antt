use Rattle.std.proofs.Common.{◌∙◌, ap, sym, refl, is_some}
use Rattle.std.proofs.lemmas.Result.{IfOk-weaker}
use Rattle.desk.specs.World.{extended}
use Rattle.desk.specs.Slots.{entries, reader_in, writer_in, direction_in}
use Rattle.desk.proofs.Entries.{changed_at-missing}
use Rattle.desk.proofs.SlotLemmas.{found_at-missing, found_at-slot, entries-changed, entries-same}
use Rattle.desk.proofs.shelf.write_slot.Goals as goal

pub returns-in-Some-clause-known : goal.returns-in-Some-clause-known
returns-in-Some-clause-known c =
    let found = found_at-slot writer_in c.args.slots.now.items c.args.number c.in-Some.slot.now c.in-Some.ensures.item.3.0 c.in-Some.ensures.value in
    IfOk-weaker c.write.result _ _ (λ done is. is ∙ ap is_some (sym found)) c.write.ensures.known

pub returns-in-Some-clause-reader : goal.returns-in-Some-clause-reader
returns-in-Some-clause-reader c =
    entries-same reader_in c.args.slots.now.items c.args.number c.in-Some.slot.now c.write.new.self c.in-Some.ensures.item.3.0 c.in-Some.ensures.value c.write.ensures.reader

pub returns-in-Some-clause-writer : goal.returns-in-Some-clause-writer
returns-in-Some-clause-writer c =
    IfOk-weaker c.write.result _ _ (λ done changed.
    entries-changed writer_in (extended c.args.piece.now) c.args.slots.now.items c.args.number c.in-Some.slot.now c.write.new.self c.in-Some.ensures.item.3.0 c.in-Some.ensures.value changed) c.write.ensures.writer

pub returns-in-Some-clause-direction : goal.returns-in-Some-clause-direction
returns-in-Some-clause-direction c =
    entries-same direction_in c.args.slots.now.items c.args.number c.in-Some.slot.now c.write.new.self c.in-Some.ensures.item.3.0 c.in-Some.ensures.value c.write.ensures.direction

pub returns-in-None-clause-known : goal.returns-in-None-clause-known
returns-in-None-clause-known c = rw (found_at-missing writer_in c.args.slots.now.items c.args.number c.in-None.ensures.item.3) refl

pub returns-in-None-clause-writer : goal.returns-in-None-clause-writer
returns-in-None-clause-writer c = sym (changed_at-missing c.args.number (extended c.args.piece.now) (entries writer_in c.args.slots.now.items) (sym (returns-in-None-clause-known c)))
