use Rattle.std.proofs.Common.{◌≡◌, ◌∙◌, ℕ, ap, subst, sym}
use Rattle.std.proofs.lemmas.Result.{IfOk-weaker}
use Rattle.lisp_settings.specs.Lawful.{IsLawful}
use Rattle.lisp_settings.specs.declared.settings.Settings.{Settings}
use Rattle.router_model.specs.Decide.{decide_course, tunnelled}
use Rattle.router_model.specs.Parts.{Parts, own_of, standing_in, view_in}
use Rattle.router_core.specs.Seen.{course_seen, datagram_seen}
use Rattle.router_core.specs.Site.{IsSite}
use Rattle.router_core.specs.Table.{Viewed, seen}
use Rattle.router_core.specs.declared.courses.Course.{Course}
use Rattle.router_core.proofs.StandLemmas.{site-by}
use Rattle.router_core.proofs.table.Table.decide_course.Goals as goal

-- the site is one that stands for lawful settings
viewed : (settings : Settings) (p : Parts) (m : ℕ) (site : Settings) (view : Viewed) → IsLawful settings → site ≡ standing_in settings p → view ≡ record { site = site; parts = p; m = m } → IsSite view.site
viewed settings p m site view lawful stands is =
    subst (λ (v : Viewed). IsSite v.site) (sym is) (subst IsSite (sym stands) (site-by settings (own_of p) lawful))

pub tunnelled-requires : goal.tunnelled-requires
tunnelled-requires c = viewed c.args.settings.now c.args.self.now.parts c.args.m c.site-site.result c.of-view.result c.requires.lawful c.site-site.ensures c.of-view.ensures

pub routed-requires-clause-lawful : goal.routed-requires-clause-lawful
routed-requires-clause-lawful c = viewed c.args.settings.now c.args.self.now.parts c.args.m c.site-site.result c.of-view.result c.requires.lawful c.site-site.ensures c.of-view.ensures

pub returns-in-Data-clause-parts : goal.returns-in-Data-clause-parts
returns-in-Data-clause-parts c =
    let d = datagram_seen c.in-Data.datagram in
    let v = view_in c.args.self.now.parts c.args.m in
    IfOk-weaker c.tunnelled.result _ _ (λ decision is.
    is ∙ ap (λ (view : Viewed). tunnelled view.site (seen view) d) c.of-view.ensures
    ∙ ap (λ (settings : Settings). tunnelled settings v d) c.site-site.ensures
    ∙ ap (λ (course : Course). decide_course (standing_in c.args.settings.now c.args.self.now.parts) v (course_seen course)) (sym c.in-Data.is)) c.tunnelled.ensures.decision
