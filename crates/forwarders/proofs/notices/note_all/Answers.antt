use Rattle.std.proofs.Common.{rules, ◌≡◌, ◌+◌, ◌++◌, List, map, take, sym, subst, arith}
use Rattle.router_log.specs.declared.notice.Notice.{Notice}
use Rattle.router_model.specs.Parts.{standing_in}
use Rattle.router_model.specs.Sides.{notices_of}
use Rattle.forwarders.specs.declared.ruling.Ruled.{Ruled}
use Rattle.forwarders.specs.Gathering.{Notes}
use Rattle.forwarders.specs.Given.{IsGiven}
use Rattle.forwarders.specs.Ruling.{ruling_of}
use Rattle.forwarders.proofs.NoteLemmas.{given-few, notes-both, notes-stand, notices-more}
use Rattle.forwarders.proofs.notices.note_all.Goals as goal

pub note_each-requires-clause-count : goal.note_each-requires-clause-count
note_each-requires-clause-count c =
    let inv = c.loop-one.invariant.entered in
    let count = inv.count in
    let i = c.loop-one.one-index in
    let below = c.loop-one-test.true in
    let few = given-few c.args.ruled.now i c.requires.may.given below in
    let given : IsGiven c.one-item.result.decision = search rules in
    let here = given.notices.1 in
    let room = c.requires.may.count in
    omega (arith, count, below, few, here, room)

pub loop-one-preserved : goal.loop-one-preserved
loop-one-preserved c =
    let stands = standing_in c.args.closing.now.settings.now c.args.table.now.parts in
    let moment = c.args.closing.now.moment in
    let ruled : List Ruled = c.args.ruled.now in
    let i = c.loop-one.one-index in
    let one : Ruled = c.one-item.result in
    let past : List Notice = notices_of (map ruling_of (take i ruled)) in
    let whole : past ++ one.decision.notices ≡ notices_of (map ruling_of (take (i + 1) ruled)) =
    sym (notices-more ruled i one c.loop-one-test.true c.one-item.is) in
    subst (λ (l : List Notice). Notes stands moment l c.args.table.now.parts c.args.entries.now.items c.args.items.now.items c.note_each.new.table.parts c.note_each.new.entries.items c.note_each.new.items.items) whole
    (notes-both stands moment past one.decision.notices c.args.table.now.parts c.loop-one.table.parts c.note_each.new.table.parts c.args.entries.now.items c.loop-one.entries.items c.note_each.new.entries.items
    c.args.items.now.items c.loop-one.items.items c.note_each.new.items.items c.loop-one.invariant
    (notes-stand c.args.closing.now.settings.now moment one.decision.notices c.args.table.now.parts c.loop-one.table.parts c.note_each.new.table.parts c.loop-one.entries.items c.note_each.new.entries.items c.loop-one.items.items c.note_each.new.items.items c.loop-one.invariant.entered c.in_ok-note_each.ensures))
