-- The first rule that drops a packet, and its answer.
use Rattle.std.proofs.Common.{◌≡◌, ◌<◌, ℕ, List, Some, None, Result, Ok, Err, IfErr, IsErrAnd, arith}
use Rattle.std.proofs.lemmas.Grind.{common_steps}
use Rattle.octets.specs.Rules.{first_failing}
use Rattle.ip_headers.specs.Ip.{header_at}
use Rattle.ip_headers.specs.declared.header.IpHeader.{IpHeader}
use Rattle.decap.specs.Delivered.{deliver_rules, lesser_ttl}
use Rattle.decap.specs.Ecn.{ecn, ecn_of}
use Rattle.decap.specs.declared.fault.DecapDrop.{DecapDrop}

pub passes : (inner : List ℕ) (outer : IpHeader) (mark : ℕ) → Some mark ≡ ecn_of (ecn (header_at inner)) (ecn outer) → 1 < lesser_ttl (header_at inner) outer
    → first_failing (deliver_rules inner outer) ≡ None
passes inner outer mark is alive = rw (← is) (grind (arith, common_steps))

pub memory : {T : Type 0} (result : Result T DecapDrop) (drop : DecapDrop) → IsErrAnd result (λ given. given ≡ drop) → IfErr result (λ given. given ≡ drop)
memory (Ok value) drop is = tt
memory (Err given) drop is = is
