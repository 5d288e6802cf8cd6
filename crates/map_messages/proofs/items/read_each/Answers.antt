use Rattle.std.proofs.Common.{◌≡◌, ◌+◌, ℕ, List, None, drop, sym, ap, subst, ◌∙◌}
use Rattle.std.proofs.lemmas.List.Elements.{All-push}
use Rattle.std.proofs.lemmas.Result.{err_from_is_err_and}
use Rattle.std.specs.Prelude.{Err}
use Rattle.octets.specs.Rules.{first_failing}
use Rattle.mapping_records.specs.Record.{RefusesBy}
use Rattle.map_messages.proofs.ItemsLemmas.{goes_on, items_fault}
use Rattle.map_messages.proofs.items.read_each.Goals as goal

pub returns-in_err-item-clause-refused : goal.returns-in_err-item-clause-refused
returns-in_err-item-clause-refused g c =
    let p = err_from_is_err_and c.from_residual-in_err-item.result c.from_residual-in_err-item.ensures.1 in
    let octets = c.args.octets.now in
    let place = c.args.base + c.loop.at in
    let fault = c.in_err-item.field-0.0 in
    let refused = subst (λ (d : List ℕ). RefusesBy {T = g.row.T.Denot × ℕ} (first_failing (g.T.Item.rules place d)) (Err fault)) c.split_at.ensures.back c.in_err-item.ensures.refused in
    rw (p.1, p.2) (items_fault g.T.Item.IsAt g.T.Item.rules g.T.Item.size c.args.count c.args.base octets c.loop.counter c.loop.at c.loop.items fault c.loop-test.true c.loop.invariant.0 refused)

pub loop-preserved : goal.loop-preserved
loop-preserved g c =
    let octets = c.args.octets.now in
    let place = c.args.base + c.loop.at in
    let rest : List ℕ = drop c.loop.at octets in
    let back = c.split_at.ensures.back in
    let item = c.in_ok-item.item in
    let size_is : c.in_ok-item.size ≡ g.T.Item.size rest = c.in_ok-item.ensures.size ∙ ap (λ (d : List ℕ). g.T.Item.size d) back in
    let is = subst (λ (d : List ℕ). g.T.Item.IsAt d item) back c.in_ok-item.ensures.value in
    let none : first_failing (g.T.Item.rules place rest) ≡ None =
    ap (λ (d : List ℕ). first_failing (g.T.Item.rules place d)) (sym back) ∙ c.in_ok-item.ensures.refused in
    let before = goes_on g.T.Item.IsAt g.T.Item.rules g.T.Item.size c.args.count c.args.base octets c.loop.counter c.loop.at c.loop.items item c.loop-test.true c.loop.invariant.0 none is (rw (size_is, back) at c.in_ok-item.ensures.inside) in
    rw (c.in_ok-push.ensures.ok, size_is) (before, All-push g.T.Item.InRange c.loop.items item c.loop.invariant.1 c.in_ok-item.ensures.range)
