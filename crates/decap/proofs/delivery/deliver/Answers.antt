use Rattle.std.proofs.Common.{◌≡◌, ◌<◌, arith, Some}
use Rattle.ip_headers.specs.Ip.{header_at}
use Rattle.decap.specs.Delivered.{lesser_ttl}
use Rattle.decap.specs.Ecn.{ecn, ecn_of}
use Rattle.decap.proofs.Drops.{passes, memory}
use Rattle.decap.proofs.Lengths.{length-marked}
use Rattle.decap.proofs.delivery.deliver.Goals as goal

pub returns-in_err-marked-clause-refused : goal.returns-in_err-marked-clause-refused
returns-in_err-marked-clause-refused c =
    let inner = c.args.tunnel.now.inner in
    let outer = c.args.tunnel.now.outer in
    let mark : Some c.in-Some.ecn ≡ ecn_of (ecn (header_at inner.octets.now)) (ecn outer) = rw (← inner.spells, ← c.class.ensures, ← c.class-2.ensures) c.in-Some.ensures.value in
    let alive : 1 < lesser_ttl (header_at inner.octets.now) outer = rw (← inner.spells) (omega arith) in
    rw (passes inner.octets.now outer c.in-Some.ecn mark alive) (memory _ _ c.from_residual.ensures.1)

pub returns-clause-refused : goal.returns-clause-refused
returns-clause-refused c =
    let inner = c.args.tunnel.now.inner in
    let outer = c.args.tunnel.now.outer in
    let mark : Some c.in-Some.ecn ≡ ecn_of (ecn (header_at inner.octets.now)) (ecn outer) = rw (← inner.spells, ← c.class.ensures, ← c.class-2.ensures) c.in-Some.ensures.value in
    let alive : 1 < lesser_ttl (header_at inner.octets.now) outer = rw (← inner.spells) (omega arith) in
    rw (passes inner.octets.now outer c.in-Some.ecn mark alive) tt

pub returns-clause-size : goal.returns-clause-size
returns-clause-size c = rw c.in_ok-marked.ensures (length-marked c.args.tunnel.now.inner.octets.now _ _)
