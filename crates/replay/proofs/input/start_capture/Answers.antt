use Rattle.std.proofs.Common.{refl}
use Rattle.std.proofs.lemmas.Option.{IfSome_then}
use Rattle.replay.proofs.OpeningLemmas.{classic-opens, classic-stops, own_fault}
use Rattle.replay.proofs.input.start_capture.Goals as goal

pub returns-in-Ok-clause-opened : goal.returns-in-Ok-clause-opened
returns-in-Ok-clause-opened g c =
    let told = g.D.Desk.told c.args.desk.now in
    let is = IfSome_then told c.in-Ok.ensures.answer (λ w h. h refl) in
    classic-opens c.args.id.number told (g.D.Desk.told c.start.new.desk) c.in-Ok.reader is c.in-Ok.ensures.told c.in-Ok.ensures.fresh

pub returns-in_default-clause-opened : goal.returns-in_default-clause-opened
returns-in_default-clause-opened g c =
    let told = g.D.Desk.told c.args.desk.now in
    let own = own_fault c.in-Err.fault c.in_default.not-Host c.in_default.not-Memory in
    let is = IfSome_then told c.in-Err.ensures.answer (λ w h. h own) in
    classic-stops c.args.id.number told (g.D.Desk.told c.start.new.desk) c.in-Err.fault is
