use Rattle.std.proofs.Common.{◌≡◌, ◌∙◌, ◌+◌, ℕ, sym, ap, arith, Some, length, subst, option_map}
use Rattle.std.proofs.lemmas.Option.{IfSome_then}
use Rattle.std.proofs.lemmas.Result.{err_from_is_err_and}
use Rattle.octets.specs.Rules.{first_failing}
use Rattle.desk.proofs.Reading.{reads_on}
use Rattle.desk.specs.World.{left_of, after_read}
use Rattle.capture_io.specs.Capture.{body_rules, frame}
use Rattle.capture_io.specs.Frame.{Frame}
use Rattle.capture_io.proofs.Records.{bad_head, record_read, all_read, unless_ok, unless_err, unless_value}
use Rattle.capture_io.proofs.record.read_record.Goals as goal

pub returns-in-Some-clause-answer : goal.returns-in-Some-clause-answer
returns-in-Some-clause-answer g c =
    IfSome_then (g.D.Desk.told c.args.desk.now) c.in_ok-n.ensures.octets (λ w fills own.
    sym (bad_head c.args.format c.args.at c.in_ok-n.n (left_of c.args.id.number w) c.read_full.new.buf c.in-Some.fault (omega arith) (omega arith) fills (sym c.head_fault.ensures ∙ c.in-Some.is)))

pub returns-in_err-frame-clause-answer : goal.returns-in_err-frame-clause-answer
returns-in_err-frame-clause-answer g c =
    let p = err_from_is_err_and c.from_residual-in_err-frame.result c.from_residual-in_err-frame.ensures.1 in
    let octets = c.in_ok-octets.octets in
    let buf = c.read_full.new.buf in
    let told = g.D.Desk.told c.args.desk.now in
    let read = record_read c.args.id.number c.in_ok-n.n c.number_32.result told (g.D.Desk.told c.read_full.new.desk) c.args.format c.args.at buf octets (omega arith) (sym c.head_fault.ensures ∙ c.in_default.is) c.number_32.ensures c.in_ok-n.ensures.told c.in_ok-n.ensures.octets c.in_ok-octets.ensures.octets in
    let judged = unless_err (first_failing (body_rules c.args.format c.args.at buf octets)) Some c.in_err-frame.field-0.0 (frame c.args.format c.args.at buf octets) c.in_err-frame.ensures.value in
    rw (p.1, p.2) (IfSome_then told read (λ w is own. judged ∙ sym is))

pub returns-clause-answer : goal.returns-clause-answer
returns-clause-answer g c =
    let octets = c.in_ok-octets.octets in
    let buf = c.read_full.new.buf in
    let told = g.D.Desk.told c.args.desk.now in
    let read = record_read c.args.id.number c.in_ok-n.n c.number_32.result told (g.D.Desk.told c.read_full.new.desk) c.args.format c.args.at buf octets (omega arith) (sym c.head_fault.ensures ∙ c.in_default.is) c.number_32.ensures c.in_ok-n.ensures.told c.in_ok-n.ensures.octets c.in_ok-octets.ensures.octets in
    let judged = unless_ok (first_failing (body_rules c.args.format c.args.at buf octets)) Some c.in_ok-frame.frame (frame c.args.format c.args.at buf octets) c.in_ok-frame.ensures.value in
    IfSome_then told read (λ w is own. judged ∙ sym is)

pub returns-clause-told : goal.returns-clause-told
returns-clause-told g c =
    let octets = c.in_ok-octets.octets in
    let buf = c.read_full.new.buf in
    let told = g.D.Desk.told c.args.desk.now in
    let all = all_read c.args.format c.args.at c.in_ok-n.n buf c.in_ok-n.ensures.bound (omega arith) (sym c.head_fault.ensures ∙ c.in_default.is) in
    let is = unless_value (first_failing (body_rules c.args.format c.args.at buf octets)) c.in_ok-frame.frame (frame c.args.format c.args.at buf octets) c.in_ok-frame.ensures.value in
    let took : c.in_ok-n.n + length octets ≡ 16 + length c.in_ok-frame.frame.octets = omega (arith, all, ap (λ (f : Frame). length f.octets) is) in
    subst (λ (k : ℕ). g.D.Desk.told c.read_body.new.desk ≡ option_map (after_read c.args.id.number k) told) took
    (reads_on c.args.id.number c.in_ok-n.n (length octets) told (g.D.Desk.told c.read_full.new.desk) (g.D.Desk.told c.read_body.new.desk) c.in_ok-n.ensures.told c.in_ok-octets.ensures.told)
