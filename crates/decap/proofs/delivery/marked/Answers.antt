use Rattle.std.proofs.Common.{◌≡◌, ◌∙◌, length, refl, sym, ap}
use Rattle.std.proofs.lemmas.List.{with_items_is}
use Rattle.decap.proofs.Lengths.{length-v4_marked, length-v6_marked}
use Rattle.decap.proofs.Versions.{v4_spelled, v6_spelled}
use Rattle.decap.proofs.delivery.marked.Goals as goal
use Rattle.decap.proofs.delivery.marked.Goals.{in-V4, in-V6}

pub returns : goal.returns
returns c =
    let inner = c.args.inner.now in
    let octets = inner.octets.now in
    let vec = c.extend_from_slice.new.self in
    let copied : vec.items ≡ octets = rw (c.in_ok-extend_from_slice.ensures.items, c.in_ok-packet.ensures.items) refl in
    elim c.match-inner.branch [
      | in-V4 w ↦ let four = v4_spelled octets _ (sym w.in-V4.is ∙ inner.spells) in
          let size = ap length w.mark_v4.ensures ∙ length-v4_marked w.deref_mut.result.now c.args.class c.args.ttl ∙ w.deref_mut.ensures.len in
          rw (c.from_vec.ensures, w.packet-is, with_items_is vec w.mark_v4.new.packet size, w.mark_v4.ensures, w.deref_mut.ensures.value, copied, four) refl
      | in-V6 w ↦ let six = v6_spelled octets _ (sym w.in-V6.is ∙ inner.spells) in
          let size = ap length w.mark_v6.ensures ∙ length-v6_marked w.deref_mut-in-V6.result.now c.args.class c.args.ttl ∙ w.deref_mut-in-V6.ensures.len in
          rw (c.from_vec.ensures, w.packet-is, with_items_is vec w.mark_v6.new.packet size, w.mark_v6.ensures, w.deref_mut-in-V6.ensures.value, copied, six) refl
    ]
