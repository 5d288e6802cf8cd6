use Rattle.std.proofs.Common.{◌≡◌, get_or, refl, subst, take}
use Rattle.std.proofs.lemmas.List.{take_all}
use Rattle.toml.specs.View.{items_view}
use Rattle.lisp_settings.specs.Writing.{IsNonceArray}
use Rattle.lisp_settings.proofs.NonceLemmas.{nonces_none, nonces_more}
use Rattle.lisp_settings.proofs.nonces.write_nonces.Goals as goal

pub loop-nonce-init : goal.loop-nonce-init
loop-nonce-init c = nonces_none c.new-array.result.items c.new-array.ensures.items

pub loop-nonce-preserved : goal.loop-nonce-preserved
loop-nonce-preserved c =
    nonces_more c.args.nonces.now c.loop-nonce.nonce-index (get_or c.args.nonces.now c.loop-nonce.nonce-index 0) c.loop-nonce.array.items _ c.in_ok-number_text.field-0 c.loop-nonce-test.true refl c.loop-nonce.invariant c.in_ok-push.ensures.items c.in_ok-number_text.ensures

pub returns : goal.returns
returns c =
    let all : take c.loop-nonce.nonce-index c.args.nonces.now ≡ c.args.nonces.now = take_all c.loop-nonce.nonce-index c.args.nonces.now c.loop-nonce-test.false in
    subst (λ nonces. IsNonceArray nonces (items_view c.loop-nonce.array.items)) all c.loop-nonce.invariant
