use Rattle.std.proofs.Common.{◌∙◌, ap, arith, length, refl}
use Rattle.ip_headers.specs.Ip.{ttl_of}
use Rattle.encap.proofs.Lengths.{length-forwarded}
use Rattle.encap.proofs.Drops.{forward_expired, forward_passes}
use Rattle.encap.proofs.forwarding.forward_native.Goals as goal

pub returns-then-ttl-le1-clause-refused : goal.returns-then-ttl-le1-clause-refused
returns-then-ttl-le1-clause-refused c =
    let same = ap ttl_of c.args.inner.now.spells in
    rw (forward_expired c.args.inner.now.octets.now (omega arith)) refl

pub returns-clause-refused : goal.returns-clause-refused
returns-clause-refused c =
    let same = ap ttl_of c.args.inner.now.spells in
    rw (forward_passes c.args.inner.now.octets.now (omega arith)) tt

pub returns-clause-size : goal.returns-clause-size
returns-clause-size c =
    ap length c.in_ok-forwarded.ensures ∙ length-forwarded c.args.inner.now.base c.args.inner.now.octets.now c.args.inner.now.lawful
