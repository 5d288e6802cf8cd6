use Rattle.std.proofs.Common.{◌≡◌, ℕ, ◌∙◌, sym, ap, ap₂, subst}
use Rattle.std.proofs.lemmas.Result.{IfOk-weaker}
use Rattle.capture_io.specs.Frame.{Frame}
use Rattle.lisp_settings.specs.declared.settings.Settings.{Settings}
use Rattle.router_model.specs.Changes.{unchanged}
use Rattle.router_model.specs.Course.{Course}
use Rattle.router_model.specs.Hear.{Heard, course_heard, hear}
use Rattle.router_model.specs.Journal.{Journal}
use Rattle.router_model.specs.Lifting.{AreOctets, Follows}
use Rattle.router_model.specs.Parts.{Parts, Stands, own_of, standing_in, table, view_in}
use Rattle.router_model.specs.Standing.{standing}
use Rattle.router_model.specs.Tenants.{heard_instance}
use Rattle.router_model.specs.View.{view}
use Rattle.router_model.proofs.DropLemmas.{course-still}
use Rattle.router_model.proofs.FollowLemmas.{table-hears}
use Rattle.router_model.proofs.StandsLemmas.{proper-rises, standing-sees}
use Rattle.router_model.proofs.TenantFrameLemmas.{hears-isolated}
use Rattle.router_model.proofs.UpsLemmas.{stands-in}
use Rattle.router_core.specs.Seen.{course_seen}
use Rattle.router_core.proofs.StandLemmas.{course-by}
use Rattle.router_core.proofs.table.Table.hear.Goals as goal

-- which request a frame answers, by a table as by its journal
heard-by : (settings : Settings) (p : Parts) (journal : Journal) (m : ℕ) (frame : Frame) → Stands settings p journal → heard_instance (standing settings journal) (view journal m) frame ≡ heard_instance (standing_in settings p) (view_in p m) frame
heard-by settings p journal m frame stands =
    ap₂ (λ s v. heard_instance s v frame) (sym (ap (standing_in settings) stands.whole ∙ stands-in settings journal)) (sym (standing-sees settings p journal m stands))

pub returns-clause-parts : goal.returns-clause-parts
returns-clause-parts c =
    let settings = c.args.settings.now in
    let p = c.args.self.now.parts in
    IfOk-weaker c.hear_course.result _ _ (λ heard is.
    is ∙ ap (λ (course : Course). course_heard table (standing_in settings p) c.args.m course (unchanged p)) (c.course_of.ensures.course ∙ sym (course-by settings (own_of p) c.args.frame.now))) c.hear_course.ensures.parts

pub returns-clause-verdict : goal.returns-clause-verdict
returns-clause-verdict c =
    let settings = c.args.settings.now in
    let m = c.args.m in
    let p = c.args.self.now.parts in
    let octets = subst AreOctets (c.as_slice.ensures ∙ ap (λ f. f.octets) c.frame.view_is) c.fit.ensures in
    IfOk-weaker c.hear_course.result _ _ (λ heard is journal stands may.
    ap (λ (h : Heard Parts). h.verdict) is ∙ (table-hears settings p journal m c.args.frame.now stands may octets).0) (returns-clause-parts c)

pub returns-clause-journal : goal.returns-clause-journal
returns-clause-journal c =
    let settings = c.args.settings.now in
    let m = c.args.m in
    let p = c.args.self.now.parts in
    let octets = subst AreOctets (c.as_slice.ensures ∙ ap (λ f. f.octets) c.frame.view_is) c.fit.ensures in
    IfOk-weaker c.hear_course.result _ _ (λ heard is journal stands may.
    subst (λ (h : Heard Parts). Follows settings h.change (hear settings journal m c.args.frame.now).change) (sym is)
    (table-hears settings p journal m c.args.frame.now stands may octets).1) (returns-clause-parts c)

pub returns-clause-isolated : goal.returns-clause-isolated
returns-clause-isolated c =
    let settings = c.args.settings.now in
    let m = c.args.m in
    let p = c.args.self.now.parts in
    let frame = c.args.frame.now in
    let octets = subst AreOctets (c.as_slice.ensures ∙ ap (λ f. f.octets) c.frame.view_is) c.fit.ensures in
    IfOk-weaker c.hear_course.result _ _ (λ heard is journal i stands may differ its.
    let hears = table-hears settings p journal m frame stands may octets in
    let alone = hears-isolated settings journal i m frame (proper-rises settings journal stands.proper) may.0 differ (heard-by settings p journal m frame stands ∙ its) in
    record {
      verdict = ap (λ (h : Heard Parts). h.verdict) is ∙ hears.0 ∙ alone.0.verdict;
      entries = ap (λ (h : Heard Parts). h.change.entries) is ∙ hears.1.entries ∙ alone.0.entries;
    }) (returns-clause-parts c)

pub returns-clause-drop : goal.returns-clause-drop
returns-clause-drop c =
    let settings = c.args.settings.now in
    let m = c.args.m in
    let p = c.args.self.now.parts in
    IfOk-weaker c.hear_course.result _ _ (λ heard is why dropped.
    is ∙ course-still table (standing_in settings p) m (course_seen c.course_of.result) (unchanged p) why (sym (ap (λ (h : Heard Parts). h.verdict) is) ∙ dropped)) c.hear_course.ensures.parts
