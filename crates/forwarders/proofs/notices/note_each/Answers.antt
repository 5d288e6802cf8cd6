use Rattle.std.proofs.Common.{◌≡◌, ◌∙◌, ◌+◌, [], ◌∷◌, ◌++◌, List, take, sym, ap, subst}
use Rattle.std.proofs.lemmas.List.{take_more}
use Rattle.router_log.specs.declared.notice.Notice.{Notice}
use Rattle.router_model.specs.Parts.{standing_in}
use Rattle.forwarders.specs.Gathering.{Notes}
use Rattle.forwarders.proofs.NoteLemmas.{notes-both, notes-stand}
use Rattle.forwarders.proofs.notices.note_each.Goals as goal

pub loop-notice-preserved : goal.loop-notice-preserved
loop-notice-preserved c =
    let stands = standing_in c.args.closing.now.settings.now c.args.table.now.parts in
    let moment = c.args.closing.now.moment in
    let notices : List Notice = c.args.notices.now in
    let i = c.loop-notice.notice-index in
    let one : Notice = c.notice-item.result in
    let sliced : List Notice = c.as_slice-notice-items.result.now in
    let more : take i sliced ++ one ∷ [] ≡ take (i + 1) sliced =
    ap (λ (n : Notice). take i sliced ++ n ∷ []) c.notice-item.is ∙ sym (take_more sliced i one c.loop-notice-test.true) in
    let whole : take i notices ++ one ∷ [] ≡ take (i + 1) notices =
    subst (λ (l : List Notice). take i l ++ one ∷ [] ≡ take (i + 1) l) c.as_slice-notice-items.ensures more in
    subst (λ (l : List Notice). Notes stands moment l c.args.table.now.parts c.args.entries.now.items c.args.items.now.items c.note_one.new.table.parts c.note_one.new.entries.items c.note_one.new.items.items) whole
    (notes-both stands moment (take i notices) (one ∷ []) c.args.table.now.parts c.loop-notice.table.parts c.note_one.new.table.parts c.args.entries.now.items c.loop-notice.entries.items c.note_one.new.entries.items
    c.args.items.now.items c.loop-notice.items.items c.note_one.new.items.items c.loop-notice.invariant
    (notes-stand c.args.closing.now.settings.now moment (one ∷ []) c.args.table.now.parts c.loop-notice.table.parts c.note_one.new.table.parts c.loop-notice.entries.items c.note_one.new.entries.items c.loop-notice.items.items c.note_one.new.items.items c.loop-notice.invariant.entered c.in_ok-note_one.ensures))
