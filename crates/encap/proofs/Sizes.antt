-- The length of a tunnel packet.
use Rattle.std.proofs.Common.{◌≡◌, ◌+◌, ℕ, List, ◌++◌, length, false, None, refl, arith, length-append}
use Rattle.octets.specs.Rules.{first_failing}
use Rattle.ip_headers.specs.Ip.{ip_rules}
use Rattle.ip_headers.specs.Udp.{canonical_udp}
use Rattle.ip_headers.specs.declared.addr.Addr.{Addr}
use Rattle.ip_headers.specs.declared.addr.Addr.TheVariants.{V4, V6}
use Rattle.lisp_header.specs.Header.{canonical}
use Rattle.lisp_header.specs.declared.header.LispHeader.{LispHeader}
use Rattle.encap.specs.Forwarded.{forwarded}
use Rattle.encap.specs.Rules.{outer_len}
use Rattle.encap.specs.Wrapped.{outer_header, wrapped}
use Rattle.encap.proofs.Lengths.{length-forwarded}

length-outer_header : (inner : List ℕ) (from to : Addr) → length (outer_header inner from to) + 16 ≡ outer_len from
unfolding outer_header
length-outer_header inner (V4 source) to = refl
length-outer_header inner (V6 source) to = refl

pub length-wrapped : (base : ℕ) (inner : List ℕ) (from to : Addr) (port : ℕ) (lisp : LispHeader) → first_failing (ip_rules base inner) ≡ None
    → length (wrapped inner from to port lisp) ≡ outer_len from + length inner
length-wrapped base inner from to port lisp lawful =
    let outer = outer_header inner from to in
    let datagram = canonical_udp from to port 4341 (canonical lisp ++ forwarded inner) false in
    omega (arith, length-outer_header inner from to, length-append outer datagram, length-append (canonical lisp) (forwarded inner), length-forwarded base inner lawful)
