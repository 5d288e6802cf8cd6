use Rattle.std.proofs.Common.{◌≡◌, ◌≤◌, ℕ, List, length, ◌∙◌, subst, sym}
use Rattle.map_messages.specs.Control.{canonical_carried}
use Rattle.map_messages.specs.Limits.{most_message_octets}
use Rattle.map_messages.proofs.WritingLemmas.{carried_short}
use Rattle.map_messages.proofs.ecm_writing.write_ecm.Goals as goal

pub write_packet-requires-clause-short : goal.write_packet-requires-clause-short
write_packet-requires-clause-short c =
    let payload : List ℕ = canonical_carried c.args.ecm.now.request c.args.ecm.now.reply in
    let is : c.as_slice.result.now ≡ payload = c.as_slice.ensures ∙ c.in_ok-payload.ensures in
    subst (λ (os : List ℕ). length os ≤ most_message_octets) (sym is) (carried_short c.args.ecm.now c.requires.short)
