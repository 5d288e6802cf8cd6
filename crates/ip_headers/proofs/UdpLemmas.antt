-- What a header that was read says of its packet.
use Rattle.std.proofs.Common.{◌≡◌, ◌≤◌, ◌+◌, length, Option, Some, None, Ok, refl, leb}
use Rattle.std.proofs.lemmas.Bool.{leb-true}
use Rattle.octets.specs.Numbers.{big}
use Rattle.octets.specs.Rules.{first_failing}
use Rattle.octets.specs.declared.refused.Refused.{Refused}
use Rattle.octets.proofs.RuleLemmas.{all_hold}
use Rattle.ip_headers.proofs.CutPacket.{both_hold}
use Rattle.ip_headers.specs.Udp.{answer_of, udp_at, udp_read, udp_rules}
use Rattle.ip_headers.specs.declared.header.UdpHeader.{UdpHeader}
use Rattle.ip_headers.specs.declared.packet.IpPacket.{IpPacket}

-- a reader that answers a value met no refusal
answer_of-ok : {T : Type 0} (refusal : Option Refused) (value given : T) → answer_of refusal value ≡ Ok given → (refusal ≡ None) × (given ≡ value)
answer_of-ok None value given ok = (refl, (cc))
answer_of-ok (Some refused) value given ok = cc

-- the header lies in the packet, with the length that it names
pub record Within (packet : IpPacket) (udp : UdpHeader) : Type 0 where
  pub value : udp ≡ udp_at packet.payload_at packet.octets.now
  pub header : packet.payload_at + 8 ≤ length packet.octets.now
  pub least : 8 ≤ udp.length
  pub whole : udp.at + udp.length ≤ length packet.octets.now

pub udp_read-within : (packet : IpPacket) (udp : UdpHeader) → udp_read packet ≡ Ok udp → Within packet udp
udp_read-within packet udp read =
    let octets = packet.octets.now in
    let at = packet.payload_at in
    let rules = udp_rules packet.base at octets in
    let given = answer_of-ok (first_failing rules) (udp_at at octets) udp read in
    let hold = all_hold rules given.0 in
    let sizes = both_hold (leb 8 (big 2 octets (at + 4))) (leb (at + big 2 octets (at + 4)) (length octets)) hold.1.0 in
    record {
      value = given.1;
      header = leb-true _ _ hold.0;
      least = rw given.1 (leb-true _ _ sizes.0);
      whole = rw given.1 (leb-true _ _ sizes.1);
    }
