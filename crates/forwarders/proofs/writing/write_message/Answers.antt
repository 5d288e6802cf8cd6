use Rattle.std.proofs.Common.{◌≡◌, ◌∙◌, List, [], ◌∷◌, ◌++◌, All, map, sym, refl, ap, subst, arith, None}
use Rattle.std.proofs.lemmas.List.Elements.{All-push}
use Rattle.std.proofs.lemmas.Result.{on_ok_weaker}
use Rattle.capture_io.specs.Frame.{Frame}
use Rattle.router_log.specs.declared.emit.Emit.{Emit}
use Rattle.router_model.specs.Changes.{unchanged}
use Rattle.router_model.specs.Course.{course_of}
use Rattle.router_model.specs.Hear.{Heard, course_heard, hear_by}
use Rattle.router_model.specs.Parts.{Parts, own_of, standing_in, table}
use Rattle.router_model.specs.Plain.{emit_packets}
use Rattle.router_model.specs.Rounds as rounds
use Rattle.router_model.specs.Standing.{standing_by}
use Rattle.router_model.specs.declared.own.Own.{Own}
use Rattle.router_core.specs.Seen.{course_seen}
use Rattle.router_core.specs.Sendable.{IsSendable}
use Rattle.router_core.specs.Table.{heard_seen}
use Rattle.router_core.proofs.StandLemmas.{course-by}
use Rattle.forwarders.specs.declared.gathering.Gathered.{Gathered}
use Rattle.forwarders.specs.declared.gathering.Gathered.TheVariants as mark
use Rattle.forwarders.specs.Gathering.{IsFit, line_made, packet_gathered}
use Rattle.forwarders.proofs.WriteLemmas.{writes-message}
use Rattle.forwarders.proofs.writing.write_message.Goals as goal

pub push_emits-requires-clause-sendable : goal.push_emits-requires-clause-sendable
push_emits-requires-clause-sendable c =
    subst (λ (t : Own × List Emit). All (IsSendable (standing_by c.args.settings.now t.0)) t.1) (λ i. (sym c.own-own.ensures i, sym c.as_slice.ensures i)) c.in_ok-verdict.ensures.sent.sendable

pub returns-clause-writes : goal.returns-clause-writes
returns-clause-writes c =
    let settings = c.args.settings.now in
    let before : Parts = c.args.table.now.parts in
    let after : Parts = c.hear_course.new.self.parts in
    let frame : Frame = c.args.frame.now in
    let inside = c.frame.inside in
    let now : inside.moment ≡ frame.moment = ap (λ (f : Frame). f.moment) c.frame.view_is in
    let heard : Heard Parts = heard_seen after c.in_ok-verdict.field-0 in
    let course : course_seen c.args.course.now ≡ course_of (standing_in settings before) frame =
    c.requires.course ∙ sym (course-by settings (own_of before) frame) in
    let is : heard ≡ hear_by table (standing_in settings before) frame.moment frame (unchanged before) =
    c.in_ok-verdict.ensures.parts ∙ (λ i. course_heard table (standing_in settings before) (now i) (course i) (unchanged before)) in
    let old : List Gathered = c.args.written.now.items.items in
    let number : inside.number ≡ frame.number = ap (λ (f : Frame). f.number) c.frame.view_is in
    let line : mark.Message (record { number = inside.number; moment = inside.moment; n = c.count-n.result; verdict = c.in_ok-verdict.field-0.verdict; look = None }) ≡ mark.Message (line_made (rounds.line_of frame before.count heard.verdict)) =
    λ i. mark.Message (record { number = number i; moment = now i; n = c.count-n.ensures i; verdict = c.in_ok-verdict.field-0.verdict; look = None }) in
    let pushed : c.push_back.new.self.items ≡ old ++ mark.Message (line_made (rounds.line_of frame before.count heard.verdict)) ∷ [] =
    c.in_ok-push_back.ensures.items ∙ ap (λ (g : Gathered). old ++ g ∷ []) line in
    let emits : c.as_slice.result.now ≡ heard.change.emits = c.as_slice.ensures in
    let items : c.push_emits.new.items.items ≡ (old ++ mark.Message (line_made (rounds.line_of frame before.count heard.verdict)) ∷ []) ++ map packet_gathered (emit_packets (standing_in settings after) frame.moment heard.change.emits) =
    c.in_ok-push_emits.ensures.items ∙ (λ i. pushed i ++ map packet_gathered (emit_packets (standing_by settings (c.own-own.ensures i)) (now i) (emits i))) in
    let few = c.in_ok-verdict.ensures.sent.few in
    let count = c.in_ok-verdict.ensures.step.entered.count in
    on_ok_weaker c.keep_batch.result (λ kept. λ frames.
    writes-message settings frames frame before after heard c.args.written.now (record { items = c.push_emits.new.items; batches = c.keep_batch.new.batches; places = c.args.written.now.places }) c.requires.message is refl items kept refl
    (λ all. c.in_ok-push_emits.ensures.fits (subst (All IsFit) (sym pushed) (All-push IsFit old (mark.Message (line_made (rounds.line_of frame before.count heard.verdict))) all tt)))
    (omega (arith, few)) (omega (arith, count))) c.keep_batch.ensures
