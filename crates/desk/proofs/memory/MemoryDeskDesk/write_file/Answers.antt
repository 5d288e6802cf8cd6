use Rattle.std.proofs.Common.{◌≡◌, ◌∙◌, ◌/◌, ℕ, List, ap, length, sym, take}
use Rattle.std.proofs.lemmas.Result.{err_from_is_err_and}
use Rattle.desk.specs.Memory.{Memory, counted}
use Rattle.desk.specs.Shelf.{Shelf, wrote}
use Rattle.desk.proofs.SlotLemmas.{wrote-nothing, wrote-missing}
use Rattle.desk.proofs.memory.MemoryDeskDesk.write_file.Goals as goal

abbrev of_parts : List ℕ → ℕ → ℕ → Shelf → Memory
of_parts fails calls faults shelf = record { shelf = shelf; fails = fails; calls = calls; faults = faults }

abbrev with_shelf : Memory → Shelf → Memory
with_shelf d shelf = record d { shelf = shelf; calls = counted d.calls }

pub returns-in_err-write-clause-desk : goal.returns-in_err-write-clause-desk
returns-in_err-write-clause-desk c =
    let p = err_from_is_err_and c.from_residual.result c.from_residual.ensures.1 in
    let d = c.self.inside in
    let same = ap (of_parts d.fails d.calls d.faults) c.in_err-write.ensures.err in
    rw (p.1, p.2) (same ∙ c.self.view_is ∙ c.begin.ensures.counted ∙ ap (with_shelf c.args.self.now) (wrote-nothing c.args.id.number c.args.self.now.shelf))

pub returns-in_err-write-2-clause-desk : goal.returns-in_err-write-2-clause-desk
returns-in_err-write-2-clause-desk c =
    let p = err_from_is_err_and c.from_residual-in_err-write-2.result c.from_residual-in_err-write-2.ensures.1 in
    let d = c.self-2.inside in
    let same = ap (of_parts d.fails d.calls d.faults) c.in_err-write-2.ensures.err in
    rw (p.1, p.2) (same ∙ c.self-2.view_is ∙ c.begin.ensures.counted ∙ ap (with_shelf c.args.self.now) (wrote-nothing c.args.id.number c.args.self.now.shelf))

pub returns-else-branch-clause-desk : goal.returns-else-branch-clause-desk
returns-else-branch-clause-desk c =
    let d = c.self-2.inside in
    let id = c.args.id.number in
    let piece = c.args.piece.now in
    let half = take (length piece / 2) piece in
    let begun = c.self-2.view_is ∙ c.begin.ensures.counted in
    let shelf : d.shelf ≡ c.args.self.now.shelf = ap (λ (m : Memory). m.shelf) begun in
    let none = sym c.in_ok-write-2.ensures.known ∙ c.if-branch.false in
    let new = c.in_ok-write-2.ensures.shelf ∙ wrote-missing id piece half d.shelf (sym none) ∙ ap (wrote id half) shelf in
    rw c.fault-else-branch.ensures.fault
    (c.fault-else-branch.ensures.counted ∙ ap (λ (m : Memory). record m { faults = counted m.faults }) (ap (of_parts d.fails d.calls d.faults) new ∙ ap (λ (m : Memory). record m { shelf = wrote id half c.args.self.now.shelf }) begun))
