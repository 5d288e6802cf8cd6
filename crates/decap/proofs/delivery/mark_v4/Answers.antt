use Rattle.std.proofs.Common.{◌≡◌, ◌≤◌, ◌∙◌, ℕ, ◌/◌, ◌%◌, length, slice_set, take, slice_index_or, ap, arith, refl}
use Rattle.std.proofs.lemmas.List.{length-set}
use Rattle.ip_headers.specs.Checksum.{checksum}
use Rattle.ip_headers.specs.Ip.{header_len}
use Rattle.decap.specs.Delivered.{v4_marked, v4_with}
use Rattle.decap.proofs.Overwritten.{overwritten}
use Rattle.decap.proofs.delivery.mark_v4.Goals as goal

pub returns : goal.returns
unfolding v4_marked
returns c =
    let packet = c.args.packet.now in
    let set = slice_set (slice_set packet 1 c.args.class) 8 c.args.ttl in
    let sum = c.checksum.result in
    let long : 12 ≤ length set = simp length-set (omega arith) in
    let high : slice_index_or c.to_be_bytes-sum.result 0 0 ≡ sum / 256 = rw c.to_be_bytes-sum.ensures (omega arith) in
    let low : slice_index_or c.to_be_bytes-sum.result 1 0 ≡ sum % 256 = rw c.to_be_bytes-sum.ensures refl in
    let is : sum ≡ checksum (take (header_len packet) (v4_with packet c.args.class c.args.ttl 0)) =
    c.checksum.ensures ∙ ap (λ (n : ℕ). checksum (take n (v4_with packet c.args.class c.args.ttl 0))) c.requires.header in
    overwritten set (slice_index_or c.to_be_bytes-sum.result 0 0) (slice_index_or c.to_be_bytes-sum.result 1 0) long ∙ rw (high, low) (ap (v4_with packet c.args.class c.args.ttl) is)
