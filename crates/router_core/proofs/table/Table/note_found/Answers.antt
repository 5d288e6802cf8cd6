use Rattle.std.proofs.Common.{◌∙◌, ap, map, subst, sym}
use Rattle.std.proofs.lemmas.Result.{IfOk-weaker}
use Rattle.router_model.specs.Apart.{emit_apart, entry_apart}
use Rattle.router_model.specs.Changes.{Change}
use Rattle.router_model.specs.Lifting.{Follows}
use Rattle.router_model.specs.Note.{note}
use Rattle.router_model.specs.Parts.{Parts}
use Rattle.router_model.proofs.FollowLemmas.{table-notes}
use Rattle.router_model.proofs.StandsLemmas.{proper-rises}
use Rattle.router_model.proofs.TenantFrameLemmas.{notes-isolated}
use Rattle.router_core.proofs.table.Table.note_found.Goals as goal

pub returns-clause-journal : goal.returns-clause-journal
returns-clause-journal c =
    let settings = c.args.settings.now in
    let m = c.args.m in
    let notice = c.args.notice.now in
    IfOk-weaker c.note_by.result _ _ (λ changed is journal stands may.
    subst (λ (t : Change Parts). Follows settings t (note settings journal m notice)) (sym (rw c.site-site.ensures at is))
    (table-notes settings c.args.self.now.parts journal m notice stands may c.requires.sound)) c.note_by.ensures.parts

pub returns-clause-isolated : goal.returns-clause-isolated
returns-clause-isolated c =
    let settings = c.args.settings.now in
    IfOk-weaker c.note_by.result _ _ (λ changed told journal i stands may differ is.
    let follows = told journal stands may in
    let apart = notes-isolated settings journal i c.args.m c.args.notice.now (proper-rises settings journal stands.proper) may.0 differ is in
    record { entries = ap (map entry_apart) follows.entries ∙ apart.entries; emits = ap (map emit_apart) follows.emits ∙ apart.emits }) (returns-clause-journal c)
