use Rattle.std.proofs.Common.{◌≡◌, ◌∙◌, ◌+◌, [], ◌∷◌, ◌++◌, ℕ, List, take, sym, ap, subst}
use Rattle.std.proofs.lemmas.List.{take_more}
use Rattle.router_log.specs.declared.emit.Emit.{Emit}
use Rattle.router_model.specs.Emits.{emit_packet}
use Rattle.router_model.specs.Plain.{emit_packets}
use Rattle.router_model.specs.Standing.{standing_by}
use Rattle.replay.specs.Taking.{Sends}
use Rattle.replay.proofs.ReplayLemmas.{emits-more}
use Rattle.replay.proofs.taking.push_emits.Goals as goal

pub loop-emit-preserved : goal.loop-emit-preserved
loop-emit-preserved c =
    let stands = standing_by c.args.settings.now c.args.own.now in
    let moment = c.args.moment in
    let emits : List Emit = c.args.emits in
    let i = c.loop-emit.emit-index in
    let one : Emit = c.emit-item.result in
    let sliced : List Emit = c.as_slice-emit-items.result.now in
    let more : take i sliced ++ one ∷ [] ≡ take (i + 1) sliced =
    ap (λ (e : Emit). take i sliced ++ e ∷ []) c.emit-item.is ∙ sym (take_more sliced i one c.loop-emit-test.true) in
    let whole : take i emits ++ one ∷ [] ≡ take (i + 1) emits =
    subst (λ (l : List Emit). take i l ++ one ∷ [] ≡ take (i + 1) l) (c.as_slice-emit-items.ensures.value ∙ c.into_vec-items.ensures) more in
    let old = c.args.output.now in
    let mid = c.loop-emit.output in
    let new = c.gather_packet.new.output in
    let octets : List ℕ = c.as_slice.result.now in
    let is : octets ≡ emit_packet stands one = c.as_slice.ensures ∙ c.in_ok-packet.ensures.octets in
    let sent : Sends (emit_packets stands moment (one ∷ [])) mid new =
    subst (λ (o : List ℕ). Sends (record { moment = moment; octets = o } ∷ []) mid new) is c.in_ok-gather_packet.ensures in
    subst (λ (l : List Emit). Sends (emit_packets stands moment l) old new) whole (emits-more stands moment (take i emits) (one ∷ []) old mid new c.loop-emit.invariant sent)
