-- A delivered packet is as long as it was.
use Rattle.std.proofs.Common.{◌≡◌, ℕ, List, length, Bool, true, false, refl}
use Rattle.std.proofs.lemmas.List.{length-set}
use Rattle.ip_headers.specs.Ip.{is_v4}
use Rattle.decap.specs.Delivered.{marked, v4_marked, v4_with, v6_marked}

pub length-v4_with : (packet : List ℕ) (class ttl sum : ℕ) → length (v4_with packet class ttl sum) ≡ length packet
length-v4_with packet class ttl sum = simp length-set

pub length-v4_marked : (packet : List ℕ) (class ttl : ℕ) → length (v4_marked packet class ttl) ≡ length packet
unfolding v4_marked
length-v4_marked packet class ttl = simp length-set

pub length-v6_marked : (packet : List ℕ) (class hops : ℕ) → length (v6_marked packet class hops) ≡ length packet
unfolding v6_marked
length-v6_marked packet class hops = simp length-set

by_version : (packet : List ℕ) (class ttl : ℕ) (four : Bool) → is_v4 packet ≡ four → length (marked packet class ttl) ≡ length packet
by_version packet class ttl true is = rw is (length-v4_marked packet class ttl)
by_version packet class ttl false is = rw is (length-v6_marked packet class ttl)

pub length-marked : (packet : List ℕ) (class ttl : ℕ) → length (marked packet class ttl) ≡ length packet
length-marked packet class ttl = by_version packet class ttl (is_v4 packet) refl
