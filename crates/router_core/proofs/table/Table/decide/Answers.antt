use Rattle.std.proofs.Common.{◌≡◌, ◌∙◌, refl, ap, sym}
use Rattle.std.proofs.lemmas.Result.{IfOk-weaker}
use Rattle.capture_io.specs.Frame.{Frame}
use Rattle.lisp_settings.specs.declared.settings.Settings.{Settings}
use Rattle.router_model.specs.Course.{course_of}
use Rattle.router_model.specs.Decide.{decide_by, decide_course}
use Rattle.router_model.specs.Parts.{own_of, standing_in, view_in}
use Rattle.router_model.specs.View.{View}
use Rattle.router_model.proofs.FollowLemmas.{table-decides}
use Rattle.router_model.proofs.IsolationLemmas.{rising-isolated}
use Rattle.router_model.proofs.StandsLemmas.{proper-rises}
use Rattle.router_core.proofs.StandLemmas.{course-by}
use Rattle.router_core.proofs.table.Table.decide.Goals as goal

by_course : (settings : Settings) (v : View) (frame : Frame) → decide_course settings v (course_of settings frame) ≡ decide_by settings v frame
unfolding decide_by
by_course settings v frame = refl

pub returns-clause-parts : goal.returns-clause-parts
returns-clause-parts c =
    let settings = c.args.settings.now in
    let p = c.args.self.now.parts in
    let stands = standing_in settings p in
    let v = view_in p c.args.m in
    IfOk-weaker c.decide_course.result _ _ (λ decision is.
    is ∙ ap (decide_course stands v) (c.course_of.ensures.course ∙ sym (course-by settings (own_of p) c.args.frame.now))
    ∙ by_course stands v c.args.frame.now) c.decide_course.ensures.parts

pub returns-clause-journal : goal.returns-clause-journal
returns-clause-journal c =
    IfOk-weaker c.decide_course.result _ _ (λ decision is journal stands.
    is ∙ table-decides c.args.settings.now c.args.self.now.parts journal c.args.m c.args.frame.now stands) (returns-clause-parts c)

pub returns-clause-isolated : goal.returns-clause-isolated
returns-clause-isolated c =
    let settings = c.args.settings.now in
    IfOk-weaker c.decide_course.result _ _ (λ decision told journal i stands is.
    told journal stands ∙ rising-isolated settings journal i c.args.m c.args.frame.now (proper-rises settings journal stands.proper) is) (returns-clause-journal c)
