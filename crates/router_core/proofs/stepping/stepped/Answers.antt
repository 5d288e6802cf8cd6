use Rattle.std.proofs.Common.{◌∙◌, ◌≢◌, ◌≤◌, ℕ, ap, sym, arith}
use Rattle.router_model.specs.Standing.{stood_version}
use Rattle.router_model.proofs.StandingLemmas.{versions-step}
use Rattle.router_core.proofs.stepping.stepped.Goals as goal

some : (n : ℕ) → n ≢ 0 → 1 ≤ n
some n isn't = omega (arith, isn't)

pub returns-then-version-eq0 : goal.returns-then-version-eq0
returns-then-version-eq0 c = sym (ap (stood_version c.args.steps) c.if-version-eq0.true ∙ (versions-step c.args.steps).0)

pub returns : goal.returns
returns c = omega (arith, (versions-step c.args.steps).1 c.args.version (some c.args.version c.if-version-eq0.false) c.requires)
