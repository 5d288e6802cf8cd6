use Rattle.std.proofs.Common.{ℕ, [], ◌∷◌, refl, arith}
use Rattle.std.specs.List.{Contains}
use Rattle.std.proofs.lemmas.List.Elements.{All-replicate}
use Rattle.router_examples.proofs.OnLiterals.{router_on_literals}
use Rattle.router_examples.proofs.rounds.no_round_ends_within_a_reply.Goals as goal

pub returns-clause-begin : goal.returns-clause-begin
unfolding router_on_literals
returns-clause-begin c = (
  omega arith,
  (
    record { ends = All-replicate (Contains {X = ℕ} (0 ∷ [])) 4 0 (0, omega arith, refl); each = refl },
    (omega arith, (record { ends = All-replicate (Contains {X = ℕ} (1 ∷ 3 ∷ [])) 3 1 (0, omega arith, refl); each = refl }, refl)),
  ),
)

pub returns-clause-end : goal.returns-clause-end
unfolding router_on_literals
returns-clause-end c = (
  omega arith,
  (
    record { ends = All-replicate (Contains {X = ℕ} (0 ∷ [])) 4 0 (0, omega arith, refl); each = refl },
    (omega arith, (record { ends = All-replicate (Contains {X = ℕ} (1 ∷ 3 ∷ [])) 3 3 (1, omega arith, refl); each = refl }, refl)),
  ),
)
