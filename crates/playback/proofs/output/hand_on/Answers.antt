use Rattle.std.proofs.Common.{ap}
use Rattle.std.specs.Option.{option_map}
use Rattle.desk.specs.declared.desk.FileId.{FileId}
use Rattle.playback.proofs.FrontLemmas.{breaks_saying, breaks_writing, on_err_always}
use Rattle.playback.proofs.output.hand_on.Goals as goal

pub returns-in_err-say-clause-breaks : goal.returns-in_err-say-clause-breaks
returns-in_err-say-clause-breaks g c =
    on_err_always c.from_residual.result
    (breaks_saying (option_map (λ (id : FileId). id.number) c.args.file) c.args.output.now c.as_slice.result.now (g.D.Desk.told c.args.desk.now) (g.D.Desk.told c.say.new.self) c.as_slice.ensures c.in_err-say.ensures.err)

pub returns-in_err-write_file-clause-breaks : goal.returns-in_err-write_file-clause-breaks
returns-in_err-write_file-clause-breaks g c =
    on_err_always c.from_residual-in_err-write_file.result
    (breaks_writing (option_map (λ (id : FileId). id.number) c.args.file) c.args.output.now c.in-Some.id.number c.as_slice.result.now c.as_slice-in-Some.result.now
    (g.D.Desk.told c.args.desk.now) (g.D.Desk.told c.say.new.self) (g.D.Desk.told c.write_file.new.self) c.as_slice.ensures c.as_slice-in-Some.ensures
    (ap (option_map (λ (id : FileId). id.number)) c.in-Some.is) c.in_ok-say.ensures.told c.in_err-write_file.ensures.err)
