use Rattle.std.proofs.Common.{◌≡◌, ◌∙◌, ℕ, ◌==◌, false, length, Some, ap, subst, sym, ne_eqb}
use Rattle.std.proofs.lemmas.Bool.{cond-false}
use Rattle.std.proofs.lemmas.Result.{IfOk-weaker}
use Rattle.ip_headers.specs.declared.tuple.FiveTuple.{FiveTuple}
use Rattle.lisp_header.specs.declared.header.LispHeader.{LispHeader}
use Rattle.locator_choice.specs.Hash.{flow_hash, source_port}
use Rattle.router_log.specs.declared.decision.Decision.{Decision}
use Rattle.router_model.specs.Cache.{held_of}
use Rattle.router_model.specs.Choice.{chosen}
use Rattle.router_model.specs.Decide.{from_ours, hash_of, lisp_header, towards}
use Rattle.router_model.specs.Site.{ours}
use Rattle.router_core.specs.Seen.{packet_seen}
use Rattle.router_core.specs.Table.{seen}
use Rattle.router_core.proofs.departure.mapped.Goals as goal

pub returns-in-Some-clause-decision : goal.returns-in-Some-clause-decision
returns-in-Some-clause-decision c =
    let settings = c.args.view.now.site in
    let v = seen c.args.view.now in
    let iid = c.args.iid in
    let packet = packet_seen c.args.packet.now in
    let held = held_of c.args.mapping.now in
    let version = held.mapping.version in
    let hash : c.flow_hash-hash.result ≡ hash_of packet = c.flow_hash-hash.ensures ∙ ap (λ (t : FiveTuple). flow_hash t) c.five_tuple.ensures in
    let some : Some c.in-Some.to ≡ chosen settings v held.up held.mapping.locators (hash_of packet) = sym c.in-Some.is ∙ c.chosen.ensures ∙ ap (chosen settings v held.up held.mapping.locators) hash in
    let some_locators : length held.mapping.locators == 0 ≡ false = subst (λ (n : ℕ). n == 0 ≡ false) c.len.ensures (ne_eqb c.len.result 0 c.if-len-eq0.false) in
    let header : LispHeader → Decision = λ lisp. from_ours settings v lisp packet c.in-Some.to (ours settings.locators c.in-Some.to) in
    IfOk-weaker c.towards.result _ _ (λ decision is.
    is ∙ ap header c.header_to-header.ensures.header
    ∙ ap (λ (source : ℕ). header (lisp_header settings iid (v.echo_out c.in-Some.to) source version)) c.requires.source
    ∙ ap (towards settings v iid packet _ version) some
    ∙ sym (cond-false (length held.mapping.locators == 0) _ _ some_locators)) c.towards.ensures.decision

pub towards-requires-clause-port : goal.towards-requires-clause-port
towards-requires-clause-port c = c.source_port.ensures ∙ ap source_port (c.flow_hash-hash.ensures ∙ ap (λ (t : FiveTuple). flow_hash t) c.five_tuple.ensures)
