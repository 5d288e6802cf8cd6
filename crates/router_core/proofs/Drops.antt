-- What an answer of encapsulation or delivery says of its rules.
use Rattle.std.proofs.Common.{◌≡◌, Option, Some, None, Ok, Err, refl}
use Rattle.octets.specs.Rules.{FailsBy}
use Rattle.decap.specs.Delivered.{Undelivered, decap_drop}
use Rattle.decap.specs.Delivered as undelivered
use Rattle.decap.specs.declared.fault.DecapDrop.TheVariants as decap
use Rattle.encap.specs.Rules.{Unsent, encap_drop}
use Rattle.encap.specs.Rules as unsent
use Rattle.encap.specs.declared.fault.EncapDrop.TheVariants as encap

-- a packet was given: no rule fails
pub sent_none : {T : Type 0} (rule : Option Unsent) (packet : T) → FailsBy encap_drop encap.Memory rule (Ok packet) → rule ≡ None
sent_none None packet by_rules = refl
sent_none (Some unsent.TtlExpired) packet by_rules = cc
sent_none (Some unsent.TooBig) packet by_rules = cc

-- the TTL's rule failed
pub sent_expired : (T : Type 0) (rule : Option Unsent) → FailsBy {T = T} encap_drop encap.Memory rule (Err encap.TtlExpired) → rule ≡ Some unsent.TtlExpired
sent_expired T None by_rules = cc
sent_expired T (Some unsent.TtlExpired) by_rules = refl
sent_expired T (Some unsent.TooBig) by_rules = cc

-- the size's rule failed
pub sent_big : (T : Type 0) (rule : Option Unsent) → FailsBy {T = T} encap_drop encap.Memory rule (Err encap.TooBig) → rule ≡ Some unsent.TooBig
sent_big T None by_rules = cc
sent_big T (Some unsent.TtlExpired) by_rules = cc
sent_big T (Some unsent.TooBig) by_rules = refl

-- a packet was delivered: no rule fails
pub left_none : {T : Type 0} (rule : Option Undelivered) (packet : T) → FailsBy decap_drop decap.Memory rule (Ok packet) → rule ≡ None
left_none None packet by_rules = refl
left_none (Some undelivered.CongestionMark) packet by_rules = cc
left_none (Some undelivered.TtlExpired) packet by_rules = cc

-- the rule of the mark failed
pub left_marked : (T : Type 0) (rule : Option Undelivered) → FailsBy {T = T} decap_drop decap.Memory rule (Err decap.CongestionMark) → rule ≡ Some undelivered.CongestionMark
left_marked T None by_rules = cc
left_marked T (Some undelivered.CongestionMark) by_rules = refl
left_marked T (Some undelivered.TtlExpired) by_rules = cc

-- the rule of the TTL failed
pub left_expired : (T : Type 0) (rule : Option Undelivered) → FailsBy {T = T} decap_drop decap.Memory rule (Err decap.TtlExpired) → rule ≡ Some undelivered.TtlExpired
left_expired T None by_rules = cc
left_expired T (Some undelivered.CongestionMark) by_rules = cc
left_expired T (Some undelivered.TtlExpired) by_rules = refl
