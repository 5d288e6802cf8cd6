use Rattle.std.proofs.Common.{◌≡◌, ◌∙◌, List, ℕ, drop, Option, None, ap}
use Rattle.std.proofs.lemmas.Result.{IfOk-weaker}
use Rattle.octets.specs.Rules.{first_failing}
use Rattle.ip_headers.specs.Ip.{dest_of, packet_in, source_of}
use Rattle.ip_headers.specs.Udp.{payload_in}
use Rattle.ip_headers.specs.declared.header.IpHeader.{IpHeader}
use Rattle.lisp_header.specs.Header.{header_at as lisp_header_at}
use Rattle.lisp_header.specs.declared.header.LispHeader.{LispHeader}
use Rattle.decap.specs.Opened.{opened_rules}
use Rattle.decap.specs.declared.fault.OpenDrop.{OpenDrop}
use Rattle.lisp_settings.specs.Home.{home_of}
use Rattle.lisp_settings.specs.declared.settings.Settings.{Settings}
use Rattle.router_log.specs.declared.decision.Decision.{Decision}
use Rattle.router_model.specs.Decide.{for_home, force_for, iid_of, opened}
use Rattle.router_model.specs.View.{View}
use Rattle.router_core.specs.Seen.{datagram_seen}
use Rattle.router_core.specs.Table.{seen}
use Rattle.router_core.proofs.arrival.tunnelled.Goals as goal

-- ### a packet out of its tunnel, by what its octets spell

-- by the headers and octets inside
abbrev inside : Settings → View → IpHeader → LispHeader → List ℕ → IpHeader → Decision
inside settings v outer lisp octets header =
    for_home outer lisp octets (force_for v (iid_of lisp) (source_of header)) (home_of settings.databases (iid_of lisp) (dest_of header))

pub returns-in-Ok-clause-decision : goal.returns-in-Ok-clause-decision
returns-in-Ok-clause-decision c =
    let settings = c.args.view.now.site in
    let v = seen c.args.view.now in
    let d = datagram_seen c.args.datagram.now in
    let payload = payload_in d.packet.octets d.udp in
    let tunnel = c.in-Ok.tunnel in
    let is = c.in-Ok.ensures.value in
    let rule : Option OpenDrop = first_failing (opened_rules d.packet.base d.packet.header d.packet.octets d.udp) in
    let none : None ≡ rule = c.in-Ok.ensures.rules in
    IfOk-weaker c.for_home.result _ _ (λ decision same.
    same
    ∙ ap (λ (outer : IpHeader). inside settings v outer tunnel.header tunnel.inner.octets.now tunnel.inner.header) is.outer
    ∙ ap (λ (lisp : LispHeader). inside settings v d.packet.header lisp tunnel.inner.octets.now tunnel.inner.header) is.header
    ∙ ap (λ (octets : List ℕ). inside settings v d.packet.header (lisp_header_at payload) octets tunnel.inner.header) is.inner.exact
    ∙ ap (λ (header : IpHeader). inside settings v d.packet.header (lisp_header_at payload) (packet_in (drop 8 payload)) header) is.inner.value
    ∙ ap (opened settings v d.packet.header payload) none) c.for_home.ensures.decision
