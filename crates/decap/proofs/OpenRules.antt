-- The first rule by which a tunnel packet is not opened.
use Rattle.std.proofs.Common.{◌≡◌, ◌≢◌, ◌≤◌, ◌<◌, ◌^◌, ℕ, ◌+◌, ◌-◌, ◌%◌, Bool, true, false, List, [], ◌∷◌, ◌++◌, Some, None, Result, Ok, Err, IsErrAnd, length, drop, slice_index, refl, sym, ap, ◌∙◌, arith, length-drop}
use Rattle.std.proofs.lemmas.Bool.{leb-true}
use Rattle.std.proofs.lemmas.List.{length-take}
use Rattle.std.proofs.lemmas.Grind.{common_steps}
use Rattle.octets.specs.Refusals.{fault_of}
use Rattle.octets.specs.Rules.{first_failing}
use Rattle.octets.specs.declared.refused.Refused.{Refused}
use Rattle.octets.proofs.RuleLemmas.{all_hold, first_failing-append, first_failing-append_refused}
use Rattle.ip_headers.specs.Ip.{ip_rules}
use Rattle.ip_headers.specs.Udp.{payload_of, udp_checksum_rules, udp_read}
use Rattle.ip_headers.specs.declared.header.UdpHeader.{UdpHeader}
use Rattle.ip_headers.specs.declared.packet.IpPacket.{IpPacket}
use Rattle.ip_headers.proofs.UdpLemmas.{udp_read-within}
use Rattle.lisp_header.specs.Header.{lisp_rules}
use Rattle.decap.specs.Opened.{key_rules, open_rules, opened_rules, payload_base, refusing}
use Rattle.decap.specs.declared.fault.OpenDrop.{OpenDrop}
use Rattle.decap.specs.declared.fault.OpenDrop.TheVariants.{Encrypted}
use Rattle.decap.specs.declared.fault.OpenDrop.TheVariants as drops

-- rules that pass below pass here
passing : (rules : List (Bool × Refused)) → first_failing rules ≡ None → first_failing (refusing rules) ≡ None
passing [] none = refl
passing ((true, refused) ∷ rules) none = passing rules none
passing ((false, refused) ∷ rules) none = cc

-- a refusal below is answered as it is
refusing-some : (rules : List (Bool × Refused)) (refused : Refused) → first_failing rules ≡ Some refused → first_failing (refusing rules) ≡ Some (drops.Refused refused)
refusing-some [] refused some = cc
refusing-some ((true, other) ∷ rules) refused some = refusing-some rules refused some
refusing-some ((false, other) ∷ rules) refused some = cc

-- the rules from the key on
abbrev from_key : List ℕ → ℕ → List (Bool × OpenDrop)
from_key payload base = key_rules payload ++ refusing (ip_rules (base + 8) (drop 8 payload))

-- the rules from the LISP header on
abbrev from_lisp : List ℕ → ℕ → List (Bool × OpenDrop)
from_lisp payload base = refusing (lisp_rules base payload) ++ from_key payload base

pub checksum_refused : (packet : IpPacket) (udp : UdpHeader) (refused : Refused) → Some refused ≡ first_failing (udp_checksum_rules packet udp true)
    → Some (drops.Refused refused) ≡ first_failing (open_rules packet udp)
unfolding opened_rules
checksum_refused packet udp refused some =
    sym (first_failing-append_refused (refusing (udp_checksum_rules packet udp true)) (from_lisp (payload_of packet udp) (payload_base packet udp)) (drops.Refused refused)
    (refusing-some (udp_checksum_rules packet udp true) refused (sym some)))

-- the UDP checksum holds
abbrev pub Summed : IpPacket → UdpHeader → Type 0
Summed packet udp = None ≡ first_failing (udp_checksum_rules packet udp true)

-- behind the UDP checksum
behind_checksum : (packet : IpPacket) (udp : UdpHeader) → Summed packet udp
    → first_failing (open_rules packet udp) ≡ first_failing (from_lisp (payload_of packet udp) (payload_base packet udp))
unfolding opened_rules
behind_checksum packet udp summed =
    first_failing-append (refusing (udp_checksum_rules packet udp true)) (from_lisp (payload_of packet udp) (payload_base packet udp))
    (passing (udp_checksum_rules packet udp true) (sym summed))

pub lisp_refused : (packet : IpPacket) (udp : UdpHeader) (refused : Refused) → Summed packet udp
    → Some refused ≡ first_failing (lisp_rules (payload_base packet udp) (payload_of packet udp))
    → Some (drops.Refused refused) ≡ first_failing (open_rules packet udp)
lisp_refused packet udp refused summed some =
    let payload = payload_of packet udp in
    let base = payload_base packet udp in
    sym (behind_checksum packet udp summed
    ∙ first_failing-append_refused (refusing (lisp_rules base payload)) (from_key payload base) (drops.Refused refused) (refusing-some (lisp_rules base payload) refused (sym some)))

-- the LISP header is there
abbrev pub Headed : IpPacket → UdpHeader → Type 0
Headed packet udp = None ≡ first_failing (lisp_rules (payload_base packet udp) (payload_of packet udp))

-- behind the LISP header
behind_lisp : (packet : IpPacket) (udp : UdpHeader) → Summed packet udp → Headed packet udp
    → first_failing (open_rules packet udp) ≡ first_failing (from_key (payload_of packet udp) (payload_base packet udp))
behind_lisp packet udp summed headed =
    let payload = payload_of packet udp in
    let base = payload_base packet udp in
    behind_checksum packet udp summed ∙ first_failing-append (refusing (lisp_rules base payload)) (from_key payload base) (passing (lisp_rules base payload) (sym headed))

-- what the key says
key_set : (payload : List ℕ) (back : List (Bool × OpenDrop)) → slice_index payload 0 % 4 ≢ 0 → first_failing (key_rules payload ++ back) ≡ Some Encrypted
key_set payload back set = grind (arith, common_steps)

key_clear : (payload : List ℕ) (back : List (Bool × OpenDrop)) → slice_index payload 0 % 4 ≡ 0 → first_failing (key_rules payload ++ back) ≡ first_failing back
key_clear payload back clear = rw clear refl

-- the rules of the packet inside
abbrev pub inner_rules : IpPacket → UdpHeader → List (Bool × Refused)
inner_rules packet udp = ip_rules (payload_base packet udp + 8) (drop 8 (payload_of packet udp))

pub encrypted : (packet : IpPacket) (udp : UdpHeader) → Summed packet udp → Headed packet udp
    → slice_index (payload_of packet udp) 0 % 4 ≢ 0 → Some Encrypted ≡ first_failing (open_rules packet udp)
encrypted packet udp summed headed set =
    sym (behind_lisp packet udp summed headed ∙ key_set (payload_of packet udp) (refusing (inner_rules packet udp)) set)

-- behind the key
behind_key : (packet : IpPacket) (udp : UdpHeader) → Summed packet udp → Headed packet udp → slice_index (payload_of packet udp) 0 % 4 ≡ 0
    → first_failing (open_rules packet udp) ≡ first_failing (refusing (inner_rules packet udp))
behind_key packet udp summed headed clear =
    behind_lisp packet udp summed headed ∙ key_clear (payload_of packet udp) (refusing (inner_rules packet udp)) clear

pub inner_refused : (packet : IpPacket) (udp : UdpHeader) (refused : Refused) → Summed packet udp → Headed packet udp
    → slice_index (payload_of packet udp) 0 % 4 ≡ 0 → Some refused ≡ first_failing (inner_rules packet udp)
    → Some (drops.Refused refused) ≡ first_failing (open_rules packet udp)
inner_refused packet udp refused summed headed clear some =
    sym (behind_key packet udp summed headed clear ∙ refusing-some (inner_rules packet udp) refused (sym some))

pub opens : (packet : IpPacket) (udp : UdpHeader) → Summed packet udp → Headed packet udp
    → slice_index (payload_of packet udp) 0 % 4 ≡ 0 → None ≡ first_failing (inner_rules packet udp) → None ≡ first_failing (open_rules packet udp)
opens packet udp summed headed clear none =
    sym (behind_key packet udp summed headed clear ∙ passing (inner_rules packet udp) (sym none))

-- the payload lies in the packet, and its places are numbers of 32 bits
pub payload_room : (packet : IpPacket) (udp : UdpHeader) → udp_read packet ≡ Ok udp → payload_base packet udp + length (payload_of packet udp) < 2 ^ 32
payload_room packet udp read =
    let within = udp_read-within packet udp read in
    let rest = drop (udp.at + 8) packet.octets.now in
    omega (arith, within.whole, within.least, packet.room, length-take (udp.length - 8) rest, length-drop (udp.at + 8) packet.octets.now)

-- eight octets are there
pub eight : (base : ℕ) (payload : List ℕ) → first_failing (lisp_rules base payload) ≡ None → 8 ≤ length payload
eight base payload none = leb-true 8 (length payload) (all_hold (lisp_rules base payload) none).0

-- the drop of an answer that is known to be it
pub fault_of-err : {T : Type 0} (result : Result T OpenDrop) (drop : OpenDrop) → IsErrAnd result (λ given. given ≡ drop) → fault_of result ≡ Some drop
fault_of-err (Ok value) drop is = absurd is
fault_of-err (Err given) drop is = ap Some is
