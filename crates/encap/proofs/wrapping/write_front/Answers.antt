use Rattle.std.proofs.Common.{◌≡◌, [], length, drop, refl, arith}
use Rattle.std.proofs.lemmas.List.{drop_all}
use Rattle.lisp_header.specs.Header.{canonical}
use Rattle.encap.specs.Forwarded.{forwarded}
use Rattle.encap.specs.Wrapped.{outer_header}
use Rattle.encap.proofs.Joined.{joined}
use Rattle.encap.proofs.Lengths.{length-forwarded}
use Rattle.encap.proofs.wrapping.write_front.Goals as goal

pub returns-clause-written : goal.returns-clause-written
returns-clause-written c =
    let inner = c.args.inner.now in
    let octets = inner.octets.now in
    let end : drop 68 c.args.front.now ≡ [] = drop_all 68 c.args.front.now (omega (arith, c.requires.room)) in
    rw (c.write_outer.ensures.written, c.write_octets-udp_at.ensures.written, c.write_octets-lisp_at.ensures.written, c.write_octets-inner_at.ensures.written, c.udp_header.ensures, c.write_header.ensures, end)
    (joined c.args.from c.args.to c.args.port (length octets) (outer_header octets c.args.from c.args.to) (canonical c.args.header.now) c.forwarded_front.result (drop 12 octets) (forwarded octets) refl (length-forwarded inner.base octets inner.lawful) c.forwarded_front.ensures)
