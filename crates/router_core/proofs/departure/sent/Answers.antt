use Rattle.std.proofs.Common.{◌≡◌, ◌∙◌, ℕ, List, None, Some, ap, ap₂, sym}
use Rattle.octets.specs.Rules.{first_failing}
use Rattle.encap.specs.Rules.{encap_rules}
use Rattle.encap.specs.Rules as unsent
use Rattle.encap.specs.Wrapped.{wrapped}
use Rattle.router_log.specs.declared.decision.Decision.{Decision}
use Rattle.router_log.specs.declared.notice.Notice.{Notice}
use Rattle.router_log.specs.declared.verdict.Verdict.TheVariants.{Encapsulated}
use Rattle.router_model.specs.Decide.{echo_notice, sent}
use Rattle.router_core.specs.Seen.{packet_seen}
use Rattle.router_core.specs.Table.{seen}
use Rattle.router_core.proofs.Drops.{sent_big, sent_expired, sent_none}
use Rattle.router_core.proofs.departure.sent.Goals as goal

pub returns-in_ok-echo_notices-in-Ok-clause-decision : goal.returns-in_ok-echo_notices-in-Ok-clause-decision
returns-in_ok-echo_notices-in-Ok-clause-decision c =
    let settings = c.args.view.now.site in
    let v = seen c.args.view.now in
    let lisp = c.args.header.now in
    let octets = c.args.packet.now.octets.now in
    let from = c.args.tunnel.from in
    let to = c.args.tunnel.to in
    let none : first_failing (encap_rules octets from) ≡ None = sent_none (first_failing (encap_rules octets from)) c.in-Ok.packet c.in-Ok.ensures.refused in
    let made : ℕ → List ℕ → List Notice → Decision = λ port packet notices. record { verdict = Encapsulated from to port packet; notices = notices } in
    ap₂ (made c.args.tunnel.port) c.in-Ok.ensures.ok c.in_ok-echo_notices-in-Ok.ensures.notices
    ∙ ap (λ (port : ℕ). made port (wrapped octets from to port lisp) (echo_notice settings v to)) c.requires.port
    ∙ sym (ap (sent settings v lisp (packet_seen c.args.packet.now) from to) none)

pub returns-in-Err-TtlExpired-clause-decision : goal.returns-in-Err-TtlExpired-clause-decision
returns-in-Err-TtlExpired-clause-decision c =
    let v = seen c.args.view.now in
    let octets = c.args.packet.now.octets.now in
    let some : first_failing (encap_rules octets c.args.tunnel.from) ≡ Some unsent.TtlExpired = sent_expired _ (first_failing (encap_rules octets c.args.tunnel.from)) (rw c.in-Err-TtlExpired.field-0-is at c.in-Err-TtlExpired.ensures.refused) in
    c.alone.ensures ∙ sym (ap (sent c.args.view.now.site v c.args.header.now (packet_seen c.args.packet.now) c.args.tunnel.from c.args.tunnel.to) some)

pub returns-in-Err-TooBig-clause-decision : goal.returns-in-Err-TooBig-clause-decision
returns-in-Err-TooBig-clause-decision c =
    let v = seen c.args.view.now in
    let octets = c.args.packet.now.octets.now in
    let some : first_failing (encap_rules octets c.args.tunnel.from) ≡ Some unsent.TooBig = sent_big _ (first_failing (encap_rules octets c.args.tunnel.from)) (rw c.in-Err-TooBig.field-0-is at c.in-Err-TooBig.ensures.refused) in
    c.alone-in-Err-TooBig.ensures ∙ sym (ap (sent c.args.view.now.site v c.args.header.now (packet_seen c.args.packet.now) c.args.tunnel.from c.args.tunnel.to) some)
