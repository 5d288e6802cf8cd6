use Rattle.std.proofs.Common.{◌≡◌, ◌∙◌, ◌++◌, ℕ, ap, refl, subst, sym}
use Rattle.std.proofs.lemmas.Result.{on_ok_weaker}
use Rattle.capture_io.specs.Frame.{Frame}
use Rattle.playback.specs.declared.output.Output.{Output}
use Rattle.router_log.specs.Lines.{frame_line}
use Rattle.router_model.specs.Changes.{unchanged}
use Rattle.router_model.specs.Hear.{Heard, course_heard}
use Rattle.router_model.specs.Limits.{most_heard}
use Rattle.router_model.specs.Parts.{Parts, standing_in, table}
use Rattle.router_model.specs.Plain.{after_message, emit_packets}
use Rattle.router_model.specs.Standing.{standing_by}
use Rattle.router_model.specs.declared.own.Own.{Own}
use Rattle.router_core.specs.Seen.{course_seen}
use Rattle.router_core.specs.Steps.{HasEntered, MayStep}
use Rattle.router_core.specs.Table.{heard_seen}
use Rattle.replay.specs.Taking.{router_of, GathersFew, Sends}
use Rattle.replay.proofs.ReplayLemmas.{message-gathers}
use Rattle.replay.proofs.taking.hear.Goals as goal

pub hear_course-requires-clause-may : goal.hear_course-requires-clause-may
hear_course-requires-clause-may c =
    subst (λ (f : Frame). MayStep f.moment c.args.memory.now.parts) (sym c.frame.view_is) c.requires.may

pub returns-clause-entered : goal.returns-clause-entered
returns-clause-entered c =
    on_ok_weaker c.push_emits.result (λ sends.
    subst (λ (f : Frame). HasEntered most_heard f.moment c.args.memory.now.parts c.hear_course.new.self.parts) c.frame.view_is c.in_ok-heard.ensures.step.entered) c.push_emits.ensures

pub returns-clause-gathers : goal.returns-clause-gathers
returns-clause-gathers c =
    let settings = c.args.settings.now in
    let parts = c.args.memory.now.parts in
    let frame : Frame = c.args.frame.now in
    let inside = c.frame.inside in
    let now : inside.moment ≡ frame.moment = ap (λ (f : Frame). f.moment) c.frame.view_is in
    let old : Output = c.args.output.now in
    let new : Output = c.push_emits.new.output in
    let first : Output = record { lines = c.push_frame_line.new.out; records = old.records; written = old.written } in
    let heard : Heard Parts = heard_seen c.hear_course.new.self.parts c.in_ok-heard.heard in
    let is : heard ≡ course_heard table (standing_in settings parts) frame.moment (course_seen c.args.course.now) (unchanged parts) =
    c.in_ok-heard.ensures.parts ∙ ap (λ (m : ℕ). course_heard table (standing_in settings parts) m (course_seen c.args.course.now) (unchanged parts)) now in
    let lines : first.lines ≡ old.lines ++ frame_line frame.number frame.moment parts.count heard.verdict =
    c.in_ok-push_frame_line.ensures
    ∙ ap (λ (n : ℕ). old.lines ++ frame_line inside.number inside.moment n heard.verdict) c.count-entries.ensures
    ∙ ap (λ (f : Frame). old.lines ++ frame_line f.number f.moment parts.count heard.verdict) c.frame.view_is in
    on_ok_weaker c.push_emits.result (λ sends.
    let stands = standing_in settings c.hear_course.new.self.parts in
    let sent : Sends (emit_packets stands frame.moment heard.change.emits) first new =
    subst (λ (m : ℕ). Sends (emit_packets stands m heard.change.emits) first new) now
    (subst (λ (own : Own). Sends (emit_packets (standing_by settings own) inside.moment heard.change.emits) first new) c.own-own.ensures sends) in
    subst (λ (h : Heard Parts). GathersFew (after_message table (router_of settings parts) frame h) old new) is
    (message-gathers (router_of settings parts) frame heard old first new lines refl refl sent c.in_ok-heard.ensures.sent.few)) c.push_emits.ensures
