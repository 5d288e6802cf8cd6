use Rattle.std.proofs.Common.{◌≡◌, ◌∙◌, false, sym, ap}
use Rattle.std.proofs.lemmas.Result.{on_ok_weaker}
use Rattle.router_model.specs.Course.{control, is_message}
use Rattle.forwarders.proofs.WriteLemmas.{left-writes}
use Rattle.forwarders.proofs.writing.write_frame.Goals as goal

pub returns-then-is_message-clause-writes : goal.returns-then-is_message-clause-writes
returns-then-is_message-clause-writes c =
    on_ok_weaker c.write_message.result (λ writes. λ frames within at. writes frames) c.write_message.ensures.writes

pub returns-else-is_message-clause-writes : goal.returns-else-is_message-clause-writes
returns-else-is_message-clause-writes c =
    let apart : control c.args.settings.now c.args.frame.now ≡ false =
    ap is_message (sym c.course_of-course.ensures.course) ∙ sym c.is_message.ensures ∙ c.if-is_message.false in
    left-writes c.leave.result c.args.settings.now c.args.frame.now c.args.place c.args.table.now.parts c.args.written.now c.leave.new.written apart c.requires.moment c.leave.ensures.items c.leave.ensures.batches c.leave.ensures.places
