use Rattle.std.proofs.Common.{◌≡◌, ◌∙◌, ℕ, List, Option, Some, ap, ap₂, option_map, sym}
use Rattle.std.specs.Borrow.{Bor}
use Rattle.std.proofs.lemmas.Result.{IfOk-weaker}
use Rattle.ip_headers.specs.Addr.{width}
use Rattle.ip_headers.specs.Ip.{dest_of, source_of}
use Rattle.ip_headers.specs.declared.addr.Addr.{Addr}
use Rattle.ip_headers.specs.declared.header.IpHeader.{IpHeader}
use Rattle.lisp_header.specs.declared.header.LispHeader.{LispHeader}
use Rattle.lisp_settings.specs.Home.{home_of}
use Rattle.lisp_settings.specs.declared.settings.Database.{Database}
use Rattle.map_cache.specs.Cache.{mapping_named}
use Rattle.map_cache.specs.declared.mapping.Mapping.{Mapping}
use Rattle.mapping_records.specs.declared.eid.Eid.{Eid}
use Rattle.router_log.specs.declared.notice.Notice.{Notice}
use Rattle.router_model.specs.Cache.{held_of}
use Rattle.router_model.specs.Decide.{for_home, force_for, iid_of}
use Rattle.router_model.specs.Mappings.{Held, force}
use Rattle.router_model.specs.View.{View}
use Rattle.router_core.specs.Table.{seen}
use Rattle.router_core.proofs.arrival.for_home.Goals as goal

-- the mapping in force for the EID of the source is the one in force for the source
held-for : (v : View) (lisp : LispHeader) (header : IpHeader) (iid : ℕ) (source : Addr) (eid : Eid) → eid.iid ≡ iid → eid.prefix.addr ≡ source → eid.prefix.len ≡ width source → iid ≡ iid_of lisp → source ≡ source_of header → force v.mappings eid.iid eid.prefix.addr eid.prefix.len ≡ force_for v (iid_of lisp) (source_of header)
held-for v lisp header iid source eid same_iid addr len of_lisp of_header =
    ap (λ (i : ℕ). force v.mappings i eid.prefix.addr eid.prefix.len) (same_iid ∙ of_lisp)
    ∙ ap₂ (λ (a : Addr) (n : ℕ). force v.mappings (iid_of lisp) a n) addr len
    ∙ ap (force_for v (iid_of lisp)) of_header

-- the decision by the mapping and the prefix at hand
by-found : (v : View) (databases : List Database) (outer : IpHeader) (lisp : LispHeader) (octets : List ℕ) (header : IpHeader) (held : Option Held) (home : Database) → held ≡ force_for v (iid_of lisp) (source_of header) → Some home ≡ home_of databases (iid_of lisp) (dest_of header) → for_home outer lisp octets held (Some home) ≡ for_home outer lisp octets (force_for v (iid_of lisp) (source_of header)) (home_of databases (iid_of lisp) (dest_of header))
by-found v databases outer lisp octets header held home same found =
    ap (λ (o : Option Held). for_home outer lisp octets o (Some home)) same ∙ ap (for_home outer lisp octets (force_for v (iid_of lisp) (source_of header))) found

-- the mapping behind a name
abbrev held-named : Option (ℕ × Bor Mapping) → Option Held
held-named found = option_map held_of (mapping_named found)

pub returns-in_default-clause-decision : goal.returns-in_default-clause-decision
returns-in_default-clause-decision c =
    let tunnel = c.args.tunnel.now in
    let v = seen c.args.view.now in
    let databases = c.args.view.now.site.databases in
    let eid = c.host_eid-source.ensures in
    let found : Some c.in-Some.database ≡ home_of databases (iid_of tunnel.header) (dest_of tunnel.inner.header) = sym c.in-Some.is ∙ c.home.ensures ∙ ap₂ (home_of databases) c.unwrap_or-iid.ensures c.dest.ensures in
    let held = ap held-named (sym c.in_default.is) ∙ c.in_force_named.ensures ∙ held-for v tunnel.header tunnel.inner.header _ _ c.host_eid-source.result eid.iid eid.addr eid.len c.unwrap_or-iid.ensures c.source.ensures in
    IfOk-weaker c.arrive.result _ _ (λ decision is. is ∙ by-found v databases tunnel.outer tunnel.header tunnel.inner.octets.now tunnel.inner.header _ c.in-Some.database held found) c.arrive.ensures.decision

pub returns-in_ok-decision-in-Some-clause-decision : goal.returns-in_ok-decision-in-Some-clause-decision
returns-in_ok-decision-in-Some-clause-decision c =
    let tunnel = c.args.tunnel.now in
    let v = seen c.args.view.now in
    let databases = c.args.view.now.site.databases in
    let eid = c.host_eid-source.ensures in
    let decision = c.in_ok-decision-in-Some.decision in
    let found : Some c.in-Some.database ≡ home_of databases (iid_of tunnel.header) (dest_of tunnel.inner.header) = sym c.in-Some.is ∙ c.home.ensures ∙ ap₂ (home_of databases) c.unwrap_or-iid.ensures c.dest.ensures in
    let held = ap held-named (sym c.in-Some-in_force_named.is) ∙ c.in_force_named.ensures ∙ held-for v tunnel.header tunnel.inner.header _ _ c.host_eid-source.result eid.iid eid.addr eid.len c.unwrap_or-iid.ensures c.source.ensures in
    ap (λ (notices : List Notice). record { verdict = decision.verdict; notices = notices }) c.found_at.ensures
    ∙ c.in_ok-decision-in-Some.ensures.decision
    ∙ by-found v databases tunnel.outer tunnel.header tunnel.inner.octets.now tunnel.inner.header _ c.in-Some.database held found
