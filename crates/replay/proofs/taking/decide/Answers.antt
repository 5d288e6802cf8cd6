use Rattle.std.proofs.Common.{◌≡◌, ◌∙◌, ◌++◌, ◌≤◌, ℕ, true, List, length, ap, refl, subst, sym, arith}
use Rattle.std.proofs.lemmas.Result.{on_ok_weaker}
use Rattle.std.specs.List.{list_all}
use Rattle.capture_io.specs.Frame.{Frame}
use Rattle.lisp_settings.specs.declared.settings.Settings.{Settings}
use Rattle.playback.specs.declared.output.Output.{Output}
use Rattle.router_log.specs.Lines.{frame_line}
use Rattle.router_log.specs.declared.decision.Decision.{Decision}
use Rattle.router_log.specs.declared.notice.Notice.{Notice}
use Rattle.router_model.specs.Decide.{decide_course}
use Rattle.router_model.specs.Lifting.{is_sound}
use Rattle.router_model.specs.Limits.{most_notices}
use Rattle.router_model.specs.Parts.{Parts, standing_in, table, view_in}
use Rattle.router_model.specs.Plain.{after_decision, emit_packets, packet_of, packets_of}
use Rattle.router_core.specs.Seen.{course_seen}
use Rattle.router_core.specs.Steps.{HasEntered}
use Rattle.replay.specs.Taking.{all_noted, router_of, GathersFew, Sends}
use Rattle.replay.proofs.ReplayLemmas.{data-gathers, on_ok_three}
use Rattle.replay.proofs.taking.decide.Goals as goal

-- notices were noted so at a moment
record NotedAs (settings : Settings) (parts : Parts) (moment : ℕ) (notices : List Notice) (after : Parts) (mid new : Output) : Type 0 where
  sends : Sends (emit_packets (standing_in settings after) moment (all_noted settings parts moment notices).emits) mid new
  left : after ≡ (all_noted settings parts moment notices).after
  few : length (all_noted settings parts moment notices).emits ≤ length notices

pub note_all-requires-clause-sound : goal.note_all-requires-clause-sound
note_all-requires-clause-sound c =
    subst (λ (l : List Notice). list_all is_sound l ≡ true) (sym c.as_slice.ensures) c.in_ok-verdict.ensures.notices.0

pub returns-clause-entered : goal.returns-clause-entered
returns-clause-entered c =
    let few = c.in_ok-verdict.ensures.notices.1 in
    let same = ap (λ (l : List Notice). length l) c.as_slice.ensures in
    on_ok_weaker c.note_all.result (λ (entered : HasEntered (length c.as_slice.result.now) c.frame.inside.moment c.args.memory.now.parts c.note_all.new.memory.parts).
    subst (λ (f : Frame). HasEntered most_notices f.moment c.args.memory.now.parts c.note_all.new.memory.parts) c.frame.view_is
    (record { now = entered.now; count = omega (arith, entered.count, few, same); own = entered.own; steps = entered.steps })) c.note_all.ensures.entered

pub returns-clause-gathers : goal.returns-clause-gathers
returns-clause-gathers c =
    let settings = c.args.settings.now in
    let parts = c.args.memory.now.parts in
    let router = router_of settings parts in
    let frame : Frame = c.args.frame.now in
    let inside = c.frame.inside in
    let now : inside.moment ≡ frame.moment = ap (λ (f : Frame). f.moment) c.frame.view_is in
    let old : Output = c.args.output.now in
    let first : Output = record { lines = c.push_frame_line.new.out; records = old.records; written = old.written } in
    let mid : Output = c.push_sent.new.output in
    let new : Output = c.note_all.new.output in
    let after = c.note_all.new.memory.parts in
    let decision : Decision = c.in_ok-verdict.field-0 in
    let verdict = decision.verdict in
    let notices = decision.notices in
    let is : decision ≡ decide_course (standing_in settings parts) (view_in parts frame.moment) (course_seen c.args.course.now) =
    c.in_ok-verdict.ensures.parts ∙ ap (λ (m : ℕ). decide_course (standing_in settings parts) (view_in parts m) (course_seen c.args.course.now)) now in
    let lines : first.lines ≡ old.lines ++ frame_line frame.number frame.moment parts.count verdict =
    c.in_ok-push_frame_line.ensures
    ∙ ap (λ (n : ℕ). old.lines ++ frame_line inside.number inside.moment n verdict) c.count-entries.ensures
    ∙ ap (λ (f : Frame). old.lines ++ frame_line f.number f.moment parts.count verdict) c.frame.view_is in
    let sent : Sends (packets_of frame.moment (packet_of verdict)) first mid =
    subst (λ (m : ℕ). Sends (packets_of m (packet_of verdict)) first mid) now c.in_ok-push_sent.ensures in
    let few = c.in_ok-verdict.ensures.notices.1 in
    on_ok_three c.note_all.result c.note_all.ensures.sends c.note_all.ensures.state c.note_all.ensures.few (λ sends left most.
    let noted : NotedAs settings parts inside.moment c.as_slice.result.now after mid new = record { sends = sends; left = left; few = most } in
    let all : NotedAs settings parts frame.moment notices after mid new =
    subst (λ (m : ℕ). NotedAs settings parts m notices after mid new) now
    (subst (λ (l : List Notice). NotedAs settings parts inside.moment l after mid new) c.as_slice.ensures noted) in
    let small = all.few in
    subst (λ (d : Decision). GathersFew (after_decision table router frame d) old new) is
    (data-gathers router frame verdict (all_noted settings parts frame.moment notices) after old first mid new lines refl refl sent all.sends all.left (omega (arith, small, few))))
