use Rattle.std.proofs.Common.{◌∙◌, ap, sym, refl, drop, is_some}
use Rattle.std.proofs.lemmas.Option.{IfSome_then}
use Rattle.desk.specs.Slots.{reader_in, writer_in, direction_in}
use Rattle.desk.proofs.SlotLemmas.{found_at-missing, found_at-slot, entries-changed, entries-same}
use Rattle.desk.proofs.shelf.read_slot.Goals as goal

pub returns-in_err-slot-clause-known : goal.returns-in_err-slot-clause-known
returns-in_err-slot-clause-known c = rw (c.from_residual.ensures, found_at-missing reader_in c.args.slots.now.items c.args.number c.in_err-slot.ensures.item.3) refl

pub returns-clause-known : goal.returns-clause-known
returns-clause-known c =
    c.read.ensures.known ∙ ap is_some (sym (found_at-slot reader_in c.args.slots.now.items c.args.number c.in_ok-slot.slot.now c.in_ok-slot.ensures.item.3.0 c.in_ok-slot.ensures.value))

pub returns-clause-octets : goal.returns-clause-octets
returns-clause-octets c room =
    let found = found_at-slot reader_in c.args.slots.now.items c.args.number c.in_ok-slot.slot.now c.in_ok-slot.ensures.item.3.0 c.in_ok-slot.ensures.value in
    IfSome_then c.read.result (c.read.ensures.octets room) (λ n gives. rw found gives)

pub returns-clause-reader : goal.returns-clause-reader
returns-clause-reader c =
    IfSome_then c.read.result c.read.ensures.reader (λ n moved.
    entries-changed reader_in (drop n) c.args.slots.now.items c.args.number c.in_ok-slot.slot.now c.read.new.self c.in_ok-slot.ensures.item.3.0 c.in_ok-slot.ensures.value moved)

pub returns-clause-writer : goal.returns-clause-writer
returns-clause-writer c =
    entries-same writer_in c.args.slots.now.items c.args.number c.in_ok-slot.slot.now c.read.new.self c.in_ok-slot.ensures.item.3.0 c.in_ok-slot.ensures.value c.read.ensures.writer

pub returns-clause-direction : goal.returns-clause-direction
returns-clause-direction c =
    entries-same direction_in c.args.slots.now.items c.args.number c.in_ok-slot.slot.now c.read.new.self c.in_ok-slot.ensures.item.3.0 c.in_ok-slot.ensures.value c.read.ensures.direction
