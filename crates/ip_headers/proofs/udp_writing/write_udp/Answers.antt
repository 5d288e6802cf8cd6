use Rattle.std.proofs.Common.{◌≡◌, ◌∙◌, Bool, if◌then◌else◌, ap, sym}
use Rattle.ip_headers.specs.Udp.{udp_checksum}
use Rattle.ip_headers.proofs.udp_writing.write_udp.Goals as goal
use Rattle.ip_headers.proofs.udp_writing.write_udp.Goals.{then-summed, else-summed}

pub returns : goal.returns
returns c =
    let sum = udp_checksum c.args.from c.args.to c.args.source c.args.dest c.args.payload.now in
    let is : c.if-summed.sum ≡ (if c.args.summed then sum else 0) =
    elim c.if-summed.branch [
      | then-summed w ↦ w.sum-is ∙ w.udp_checksum-sum.ensures ∙ sym (ap (λ (b : Bool). if b then sum else 0) w.if-summed.true)
      | else-summed w ↦ w.sum-is ∙ sym (ap (λ (b : Bool). if b then sum else 0) w.if-summed.false)
    ] in
    record {
      ok = rw (← is) (rw c.udp_octets.ensures at c.append_both.ensures.ok);
      err = c.append_both.ensures.err;
    }
