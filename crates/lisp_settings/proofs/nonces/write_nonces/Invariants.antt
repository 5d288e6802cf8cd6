use Rattle.std.proofs.Common.{take}
use Rattle.toml.specs.View.{items_view}
use Rattle.lisp_settings.specs.Writing.{IsNonceArray}
use Rattle.lisp_settings.proofs.nonces.write_nonces.Given as goal

abbrev pub invariant-loop-nonce : goal.invariant-loop-nonce
invariant-loop-nonce l = IsNonceArray (take l.nonce-index l.nonces) (items_view l.array.items)
