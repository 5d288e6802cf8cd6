use Rattle.std.proofs.Common.{◌≡◌, ◌∙◌, ◌≤◌, ◌&&◌, ℕ, min, not, true, false, List, [], ◌∷◌, ◌++◌, length, take, sym, ap, arith}
use Rattle.std.proofs.lemmas.List.{length-take}
use Rattle.mapping_records.specs.declared.record.Record.{Record}
use Rattle.router_log.specs.declared.entry.Entry.{Entry}
use Rattle.router_log.specs.declared.entry.Entry.TheVariants.{Learned}
use Rattle.router_model.specs.Changes.{has_room}
use Rattle.router_model.specs.Hear.{is_asked_for, is_static, shortened}
use Rattle.router_model.specs.Parts.{Parts, view_in, with_entry}
use Rattle.router_core.specs.Table.{change_of}
use Rattle.router_core.specs.declared.copies.Copies.{Copies}
use Rattle.router_core.proofs.ChangeLemmas.{both, taught-so}
use Rattle.router_core.proofs.LimitLemmas.{learned-limits, learned-place}
use Rattle.router_core.proofs.table.Table.learn_one.Goals as goal

few : (mapping : Record) → length (shortened mapping).locators ≤ 32
few mapping = least (length (take 32 mapping.locators)) (length mapping.locators) (length-take 32 mapping.locators)
  where
    least : (n k : ℕ) → n ≡ min 32 k → n ≤ 32
    least n k is = omega (arith, is)

pub learn-requires-clause-locators : goal.learn-requires-clause-locators
learn-requires-clause-locators c = rw (ap (λ (copy : Copies). copy.kept) c.requires.copies) (few c.args.mapping.now)

pub learn-requires-clause-place : goal.learn-requires-clause-place
learn-requires-clause-place c =
    let mapping = c.args.mapping.now in
    let p = c.args.self.now.parts in
    let is : (is_asked_for c.args.grounds.now.asked.now c.args.grounds.now.mappings.now mapping && (not (is_static c.args.grounds.now.site.now mapping) && has_room p.limits (view_in p c.args.grounds.now.m) mapping)) ≡ true = sym c.is_taken.ensures ∙ c.if-not-is_taken.false in
    rw (ap (λ (copy : Copies). copy.kept) c.requires.copies)
    (learned-place p c.args.grounds.now.m (shortened mapping) c.requires.may.later c.keeps_its_limits.ensures (both _ _ (both (is_asked_for c.args.grounds.now.asked.now c.args.grounds.now.mappings.now mapping) _ is).1).1)

pub learn-requires-clause-keeps : goal.learn-requires-clause-keeps
learn-requires-clause-keeps c =
    let mapping = c.args.mapping.now in
    let p = c.args.self.now.parts in
    let is : (is_asked_for c.args.grounds.now.asked.now c.args.grounds.now.mappings.now mapping && (not (is_static c.args.grounds.now.site.now mapping) && has_room p.limits (view_in p c.args.grounds.now.m) mapping)) ≡ true = sym c.is_taken.ensures ∙ c.if-not-is_taken.false in
    rw (ap (λ (copy : Copies). copy.kept) c.requires.copies)
    (learned-limits p c.args.grounds.now.m (shortened mapping) c.requires.may.later c.keeps_its_limits.ensures (both _ _ (both (is_asked_for c.args.grounds.now.asked.now c.args.grounds.now.mappings.now mapping) _ is).1).1)

pub returns-clause-change : goal.returns-clause-change
returns-clause-change c =
    let mapping = c.args.mapping.now in
    let p = c.args.self.now.parts in
    let entries = c.args.entries.now.items in
    let after : Record → List Entry → _ = λ r e. change_of (with_entry (Learned c.args.grounds.now.m r false) p) e [] in
    let range = c.requires.range in
    ap (λ (q : Parts). change_of q c.push_reserved.new.self.items []) c.learn.ensures.parts
    ∙ ap (λ (e : List Entry). after c.args.copies.kept e) c.push_reserved.ensures.items
    ∙ ap (λ (copy : Copies). after copy.kept (entries ++ Learned c.args.grounds.now.m copy.told false ∷ [])) c.requires.copies
    ∙ taught-so c.args.grounds.now.site.now c.args.grounds.now.m c.args.grounds.now.asked.now c.args.grounds.now.mappings.now mapping p entries c.requires.may.later (omega (arith, c.requires.may.count))
    range.action range.version (few mapping) (sym c.is_taken.ensures ∙ c.if-not-is_taken.false)
