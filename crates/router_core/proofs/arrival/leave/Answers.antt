use Rattle.std.proofs.Common.{◌≡◌, ◌∙◌, ℕ, List, Option, Some, None, ap, ap₂, option_map, sym}
use Rattle.std.specs.Option.{option_copied}
use Rattle.octets.specs.Rules.{first_failing}
use Rattle.ip_headers.specs.Ip.{source_of}
use Rattle.decap.specs.Delivered.{Undelivered, deliver_rules, delivered}
use Rattle.decap.specs.Delivered as undelivered
use Rattle.router_log.specs.declared.decision.Decision.{Decision}
use Rattle.router_log.specs.declared.notice.Notice.{Notice}
use Rattle.router_log.specs.declared.verdict.Verdict.TheVariants.{Delivered}
use Rattle.router_model.specs.Cache.{held_of}
use Rattle.router_model.specs.Decide.{delivery_notices, leaves}
use Rattle.router_core.proofs.Drops.{left_expired, left_marked, left_none}
use Rattle.router_core.proofs.arrival.leave.Goals as goal

pub returns-in_ok-notices-in-Ok-clause-decision : goal.returns-in_ok-notices-in-Ok-clause-decision
returns-in_ok-notices-in-Ok-clause-decision c =
    let tunnel = c.args.tunnel.now in
    let inner = tunnel.inner.octets.now in
    let home = c.args.home.now in
    let rule : Option Undelivered = first_failing (deliver_rules inner tunnel.outer) in
    let held = option_map held_of (option_copied c.args.mapping) in
    let none : rule ≡ None = left_none rule c.in-Ok.packet c.in-Ok.ensures.refused in
    let made : ℕ → List ℕ → List Notice → Decision = λ iid packet notices. record { verdict = Delivered iid packet; notices = notices } in
    ap₂ (made c.args.iid) c.in-Ok.ensures.ok (c.in_ok-notices-in-Ok.ensures.notices ∙ ap (λ rloc. delivery_notices rloc tunnel.header home held) c.source-rloc.ensures)
    ∙ ap (λ (iid : ℕ). made iid (delivered inner tunnel.outer) (delivery_notices (source_of tunnel.outer) tunnel.header home held)) c.requires.instance
    ∙ sym (ap (leaves tunnel.outer tunnel.header inner home held) none)

pub returns-in-Err-CongestionMark-clause-decision : goal.returns-in-Err-CongestionMark-clause-decision
returns-in-Err-CongestionMark-clause-decision c =
    let tunnel = c.args.tunnel.now in
    let inner = tunnel.inner.octets.now in
    let rule : Option Undelivered = first_failing (deliver_rules inner tunnel.outer) in
    let held = option_map held_of (option_copied c.args.mapping) in
    let some : rule ≡ Some undelivered.CongestionMark = left_marked _ rule (rw c.in-Err-CongestionMark.field-0-is at c.in-Err-CongestionMark.ensures.refused) in
    c.alone.ensures ∙ sym (ap (leaves tunnel.outer tunnel.header inner c.args.home.now held) some)

pub returns-in-Err-TtlExpired-clause-decision : goal.returns-in-Err-TtlExpired-clause-decision
returns-in-Err-TtlExpired-clause-decision c =
    let tunnel = c.args.tunnel.now in
    let inner = tunnel.inner.octets.now in
    let rule : Option Undelivered = first_failing (deliver_rules inner tunnel.outer) in
    let held = option_map held_of (option_copied c.args.mapping) in
    let some : rule ≡ Some undelivered.TtlExpired = left_expired _ rule (rw c.in-Err-TtlExpired.field-0-is at c.in-Err-TtlExpired.ensures.refused) in
    c.alone-in-Err-TtlExpired.ensures ∙ sym (ap (leaves tunnel.outer tunnel.header inner c.args.home.now held) some)
