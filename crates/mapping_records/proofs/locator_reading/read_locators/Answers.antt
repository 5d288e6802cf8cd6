use Rattle.std.proofs.Common.{◌≡◌, ◌+◌, ◌∷◌, ◌++◌, [], ℕ, List, Some, None, drop, sym, ap, ◌∙◌}
use Rattle.std.proofs.lemmas.Result.{err_from_is_err_and}
use Rattle.octets.specs.Rules.{first_failing}
use Rattle.mapping_records.specs.Locator.{locator_at, locator_rules, locator_size}
use Rattle.mapping_records.specs.declared.record.Locator.{Locator}
use Rattle.mapping_records.proofs.LocatorLemmas.{goes_on, is_refused}
use Rattle.mapping_records.proofs.locator_reading.read_locators.Goals as goal

pub returns-in_err-locator-clause-refused : goal.returns-in_err-locator-clause-refused
returns-in_err-locator-clause-refused c =
    let p = err_from_is_err_and c.from_residual-in_err-locator.result c.from_residual-in_err-locator.ensures.1 in
    let octets = c.args.octets.now in
    let place = c.args.base + c.loop.at in
    let some : first_failing (locator_rules place (drop c.loop.at octets)) ≡ Some c.in_err-locator.field-0.0 =
    ap (λ (d : List ℕ). first_failing (locator_rules place d)) (sym c.split_at.ensures.back) ∙ sym c.in_err-locator.ensures.refused in
    rw (p.1, p.2) (is_refused c.args.count c.args.base octets c.loop.counter c.loop.at c.loop.locators c.in_err-locator.field-0.0 c.loop-test.true c.loop.invariant some)

pub loop-preserved : goal.loop-preserved
loop-preserved c =
    let octets = c.args.octets.now in
    let place = c.args.base + c.loop.at in
    let rest = drop c.loop.at octets in
    let back = c.split_at.ensures.back in
    let read = c.in_ok-locator.ensures.value in
    let size_is : c.in_ok-locator.size ≡ locator_size rest = ap (λ (r : Locator × ℕ). r.1) read ∙ ap (λ (d : List ℕ). locator_size d) back in
    let locator_is : c.in_ok-locator.locator ≡ locator_at rest = ap (λ (r : Locator × ℕ). r.0) read ∙ ap (λ (d : List ℕ). locator_at d) back in
    let list_is : c.push.new.self ≡ c.loop.locators ++ locator_at rest ∷ [] = c.in_ok-push.ensures.ok ∙ ap (λ (l : Locator). c.loop.locators ++ l ∷ []) locator_is in
    let none : first_failing (locator_rules place rest) ≡ None =
    ap (λ (d : List ℕ). first_failing (locator_rules place d)) (sym back) ∙ sym c.in_ok-locator.ensures.refused in
    rw (list_is, size_is) (goes_on c.args.count c.args.base octets c.loop.counter c.loop.at c.loop.locators c.loop-test.true c.loop.invariant none (rw (size_is, back) at c.in_ok-locator.ensures.inside))
