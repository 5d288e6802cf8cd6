use Rattle.std.proofs.Common.{◌≡◌, drop, [], codes}
use Rattle.toml.specs.View.{items_view}
use Rattle.lisp_settings.specs.Lists.{each_nonce}
use Rattle.lisp_settings.proofs.nonces.read_nonces.Given as goal

abbrev pub invariant-loop-item : goal.invariant-loop-item
invariant-loop-item l = each_nonce (codes "nonces") [] (items_view l.items) ≡ each_nonce (codes "nonces") l.nonces (items_view (drop l.item-index l.items))
