use Rattle.std.proofs.Common.{◌∙◌, ap, arith, length, refl}
use Rattle.ip_headers.specs.Ip.{ttl_of}
use Rattle.encap.proofs.Sizes.{length-wrapped}
use Rattle.encap.proofs.Drops.{expired, too_big, passes}
use Rattle.encap.proofs.wrapping.encapsulate.Goals as goal

pub returns-then-ttl-le1-clause-refused : goal.returns-then-ttl-le1-clause-refused
returns-then-ttl-le1-clause-refused c =
    let same = ap ttl_of c.args.inner.now.spells in
    rw (expired c.args.inner.now.octets.now c.args.from (omega arith)) refl

pub returns-then-outer_len-inner-gt-MOST_TUNNEL_OCTETS-clause-refused :
    goal.returns-then-outer_len-inner-gt-MOST_TUNNEL_OCTETS-clause-refused
returns-then-outer_len-inner-gt-MOST_TUNNEL_OCTETS-clause-refused c =
    let same = ap ttl_of c.args.inner.now.spells in
    rw (too_big c.args.inner.now.octets.now c.args.from (omega arith) (omega arith)) refl

pub returns-clause-refused : goal.returns-clause-refused
returns-clause-refused c =
    let same = ap ttl_of c.args.inner.now.spells in
    rw (passes c.args.inner.now.octets.now c.args.from (omega arith) (omega arith)) tt

pub returns-clause-size : goal.returns-clause-size
returns-clause-size c =
    let inner = c.args.inner.now in
    let size = length-wrapped inner.base inner.octets.now c.args.from c.args.to c.args.port c.args.header.now inner.lawful in
    let same = ap length c.in_ok-wrapped.ensures ∙ size in
    omega arith
