use Rattle.std.proofs.Common.{arith}
use Rattle.std.proofs.lemmas.Option.{IfSome_then}
use Rattle.std.proofs.lemmas.Result.{err_from_is_err_and}
use Rattle.desk.specs.World.{left_of}
use Rattle.capture_io.proofs.Records.{started_fault, started_ok}
use Rattle.capture_io.proofs.reader.CaptureReader.start.Goals as goal

pub returns-in_err-format-clause-answer : goal.returns-in_err-format-clause-answer
returns-in_err-format-clause-answer g c =
    let p = err_from_is_err_and c.from_residual-in_err-format.result c.from_residual-in_err-format.ensures.1 in
    rw (p.1, p.2) (IfSome_then (g.D.Desk.told c.args.desk.now) c.in_ok-n.ensures.octets (λ w fills own.
    started_fault c.args.id.number c.in_ok-n.n (left_of c.args.id.number w) c.read_full.new.buf c.in_err-format.field-0.0 (omega arith) fills c.in_err-format.ensures))

pub returns-clause-answer : goal.returns-clause-answer
returns-clause-answer g c =
    rw c.begin.ensures (IfSome_then (g.D.Desk.told c.args.desk.now) c.in_ok-n.ensures.octets (λ w fills own.
    started_ok c.args.id.number c.in_ok-n.n (left_of c.args.id.number w) c.read_full.new.buf c.in_ok-format.format (omega arith) fills c.in_ok-format.ensures))
