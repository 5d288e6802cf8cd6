-- The parts of a tunnel packet, one after another.
use Rattle.std.proofs.Common.{◌≡◌, ◌+◌, ℕ, List, [], ◌++◌, length, false, arith, length-append, append-nil, append_assoc}
use Rattle.ip_headers.specs.Udp.{canonical_udp, udp_octets}
use Rattle.ip_headers.specs.declared.addr.Addr.{Addr}

pub joined : (from to : Addr) (port size : ℕ) (outer lisp front rest out : List ℕ) → length lisp ≡ 8 → length out ≡ size → front ++ rest ≡ out
    → (outer ++ (udp_octets port 4341 (8 + (8 + size)) 0 ++ (lisp ++ (front ++ [])))) ++ rest ≡ outer ++ canonical_udp from to port 4341 (lisp ++ out) false
joined from to port size outer lisp front rest out eight same whole =
    let sizes : 8 + length (lisp ++ out) ≡ 8 + (8 + size) = omega (arith, length-append lisp out, eight, same) in
    let parts : (outer ++ (udp_octets port 4341 (8 + (8 + size)) 0 ++ (lisp ++ (front ++ [])))) ++ rest ≡ outer ++ (udp_octets port 4341 (8 + (8 + size)) 0 ++ (lisp ++ (front ++ rest))) =
    rw (append-nil front) (simp append_assoc) in
    rw (sizes, ← whole) parts
