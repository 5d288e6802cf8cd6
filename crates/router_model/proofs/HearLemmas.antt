-- A message is heard by a table as by the journal.
use Rattle.std.proofs.Common.{◌≡◌, ℕ, suc, ◌+◌, ◌≤◌, ◌==◌, ◌&&◌, nat_le, min, not, Bool, true, false, cond, List, [], ◌∷◌, length, take, Option, Some, None, is_some, refl, sym, ap, subst, arith}
use Rattle.std.specs.List.{list_all}
use Rattle.std.proofs.lemmas.Bool.Decides.{nat_tests}
use Rattle.std.proofs.lemmas.List.{length-take}
use Rattle.std.proofs.lemmas.Option.{same_Some}
use Rattle.octets.specs.Rules.{first_failing}
use Rattle.octets.specs.declared.refused.Refused.{Refused}
use Rattle.ip_headers.specs.Udp.{payload_in, sum_rules}
use Rattle.ip_headers.specs.declared.addr.Addr.{Addr}
use Rattle.mapping_records.specs.Eids.{same_address}
use Rattle.mapping_records.specs.declared.eid.Eid.{Eid}
use Rattle.mapping_records.specs.declared.record.Record.{Record}
use Rattle.map_messages.specs.Message.{message_rules}
use Rattle.map_messages.specs.declared.message.MapReply.{MapReply}
use Rattle.map_messages.specs.declared.message.MapRequest.{MapRequest}
use Rattle.map_messages.specs.declared.message.Message.{Message}
use Rattle.map_messages.specs.declared.message.Message.TheVariants as message
use Rattle.lisp_settings.specs.Instances.{limits_in}
use Rattle.lisp_settings.specs.declared.settings.OwnLocator.{OwnLocator}
use Rattle.lisp_settings.specs.declared.settings.Settings.{Settings}
use Rattle.request_queue.specs.Queue.{with_nonce}
use Rattle.request_queue.specs.declared.request.Request.{Request}
use Rattle.router_log.specs.declared.entry.Entry.TheVariants as entry
use Rattle.router_log.specs.declared.verdict.Done.TheVariants.{ProbeReply}
use Rattle.router_log.specs.declared.verdict.Reason.{Reason}
use Rattle.router_log.specs.declared.verdict.Reason.TheVariants as reason
use Rattle.router_log.specs.declared.verdict.Reason.TheVariants.{Foreign, NotOurs, NotTunnel, Unexpected, Unfit, Unsolicited}
use Rattle.router_model.specs.Changes.{Change, each, entered, has_room, journal as of_journal, may_ask, may_open, seen}
use Rattle.router_model.specs.Course.{Course, Control, Datagram, course_of}
use Rattle.router_model.specs.Hear.{Asker, Heard, Path, Range, Route, answered, answering, asked_again, carried, counted, course_heard, datagram_heard, drops, is_asked_for, is_fit, is_static, payload_heard, probe_replied, ranges_of, read_heard, renewable, renewed, replied, replied_to, reply_heard, reply_of, reply_path, requested, route_of, shortened, takes, tallied, taught, unless_refused}
use Rattle.router_model.specs.Journal.{Journal}
use Rattle.router_model.specs.Lifting.{FramesLift, Goes, Hears, MessagesLift, Ready, entries_in, is_bounded, is_sound_message, requests_in, tabled}
use Rattle.router_model.specs.Mappings.{Held, force}
use Rattle.router_model.specs.Parts.{Parts, table}
use Rattle.router_model.specs.Received.{message_in}
use Rattle.router_model.specs.Standing.{standing_with}
use Rattle.router_model.specs.View.{View, view}
use Rattle.router_model.proofs.LiftLemmas.{goes-asked, goes-entered, goes-if, goes-on, may_ask-room, seen-same}
use Rattle.router_model.proofs.PartsLemmas.{and_both}

module _ (settings : Settings) (m : ℕ) where
  pub fewer-ready : (more fewer : ℕ) (journal : Journal) → fewer ≤ more → Ready settings m more journal → Ready settings m fewer journal
  fewer-ready more fewer journal less ready = record { proper = ready.proper; last = ready.last; room = (let room = ready.room in omega (arith, room, less)) }

  -- step by step, for items that pass a test
  pub goes-each : {A : Type 0} (by_table : A → Change Parts → Change Parts) (by_journal : A → Change Journal → Change Journal) (test : A → Bool) (one : (more : ℕ) (a : A) (change : Change Journal) → test a ≡ true → Ready settings m (suc more) change.after → Goes settings m more (by_table a (tabled settings change)) (by_journal a change)) (items : List A) → list_all test items ≡ true → (more : ℕ) (t : Change Parts) (j : Change Journal) → Goes settings m (more + length items) t j → Goes settings m more (each by_table items t) (each by_journal items j)
  goes-each by_table by_journal test one [] pass more t j goes = record { same = goes.same; ready = fewer-ready (more + 0) more j.after (omega arith) goes.ready }
  goes-each by_table by_journal test one (a ∷ items) pass more t j goes =
      goes-each by_table by_journal test one items (and_both (test a) _ pass).1 more (by_table a t) (by_journal a j)
      (subst (λ u. Goes settings m (more + length items) (by_table a u) (by_journal a j)) (sym goes.same)
      (one (more + length items) a j (and_both (test a) _ pass).0 (fewer-ready (more + suc (length items)) (suc (more + length items)) j.after (omega arith) goes.ready)))

module _ (settings : Settings) (locators : List OwnLocator) (steps m : ℕ) where
  -- the settings by which it is heard
  abbrev stands : Settings
  stands = standing_with settings locators steps

  -- a drop changes nothing
  drops-alike : (more : ℕ) (why : Reason) (change : Change Journal) → Ready settings m more change.after → Hears settings m more (drops why (tabled settings change)) (drops why change)
  drops-alike more why change ready = record { same = refl; ready = ready }

  -- ### Map-Replies

  bounded-range : (mapping : Record) → is_bounded mapping ≡ true → (nat_le mapping.action 7 && (nat_le mapping.version 4095 && nat_le (length (take 32 mapping.locators)) 32)) ≡ true
  bounded-range mapping bounded =
      let parts = and_both (nat_le mapping.action 7) _ bounded in
      rw (parts.0, parts.1) (few (length (take 32 mapping.locators)) (length mapping.locators) (length-take 32 mapping.locators))
    where
      few : (n k : ℕ) → n ≡ min 32 k → nat_le n 32 ≡ true
      few n k is = grind (arith, nat_tests)

  taught-alike : (asked : Eid) (mappings : List Record) (more : ℕ) (mapping : Record) (change : Change Journal) → is_bounded mapping ≡ true → Ready settings m (suc more) change.after → Goes settings m more (taught table stands m asked mappings mapping (tabled settings change)) (taught of_journal stands m asked mappings mapping change)
  taught-alike asked mappings more mapping change bounded ready =
      goes-if settings m more change (λ v. is_asked_for asked mappings mapping && (not (is_static stands mapping) && has_room (limits_in settings) v mapping)) _ _ ready
      (λ is. goes-entered settings m more change (entry.Learned m (shortened mapping) false) ready refl refl
      (rw (bounded-range mapping bounded) (and_both (not (is_static stands mapping)) _ (and_both (is_asked_for asked mappings mapping) _ is).1).1) refl)

  tallied-alike : (more : ℕ) (reply : MapReply) (t : Change Parts) (j : Change Journal) → Goes settings m more t j → Hears settings m more (tallied table stands m reply t) (tallied of_journal stands m reply j)
  tallied-alike more reply t j goes = record { same = ap (tallied table stands m reply) goes.same; ready = goes.ready }

  replied_to-alike : (more : ℕ) (reply : MapReply) (o : Option Request) (change : Change Journal) → list_all is_bounded reply.mappings ≡ true → Ready settings m (suc (more + length reply.mappings)) change.after → with_nonce (view change.after m).requests reply.nonce ≡ o → Hears settings m more (replied_to table stands m reply o (tabled settings change)) (replied_to of_journal stands m reply o change)
  replied_to-alike more reply None change bounded ready found = drops-alike more Unsolicited change (fewer-ready settings m _ more change.after (omega arith) ready)
  replied_to-alike more reply (Some request) change bounded ready found = by (is_fit request.eid reply.mappings)
    where
      t : Change Parts
      t = entered table stands m (entry.Answered m reply.nonce) (tabled settings change)

      j : Change Journal
      j = entered of_journal stands m (entry.Answered m reply.nonce) change

      first : Goes settings m (more + length reply.mappings) t j
      first = goes-entered settings m (more + length reply.mappings) change (entry.Answered m reply.nonce) ready refl refl (ap is_some found) refl

      by : (b : Bool) → Hears settings m more (cond b (tallied table stands m reply (each (taught table stands m request.eid reply.mappings) reply.mappings t)) (drops Unfit (tabled settings change))) (cond b (tallied of_journal stands m reply (each (taught of_journal stands m request.eid reply.mappings) reply.mappings j)) (drops Unfit change))
      by true =
          tallied-alike more reply _ _
          (goes-each settings m (taught table stands m request.eid reply.mappings) (taught of_journal stands m request.eid reply.mappings) is_bounded (taught-alike request.eid reply.mappings) reply.mappings bounded more t j first)
      by false = drops-alike more Unfit change (fewer-ready settings m _ more change.after (omega arith) ready)

  probe_replied-alike : (more : ℕ) (from : Addr) (reply : MapReply) (o : Option Addr) (change : Change Journal) → Ready settings m (suc more) change.after → (seen of_journal stands m change).probe_open reply.nonce ≡ o → Hears settings m more (probe_replied table stands m from reply o (tabled settings change)) (probe_replied of_journal stands m from reply o change)
  probe_replied-alike more from reply None change ready found = drops-alike more Unsolicited change (fewer-ready settings m (suc more) more change.after (omega arith) ready)
  probe_replied-alike more from reply (Some rloc) change ready found = by (same_address rloc from)
    where
      taken : {t : Change Parts} {j : Change Journal} → Goes settings m more t j → Hears settings m more (takes ProbeReply t) (takes ProbeReply j)
      taken goes = record { same = ap (takes ProbeReply) goes.same; ready = goes.ready }

      by : (b : Bool) → Hears settings m more (cond b (takes ProbeReply (entered table stands m (entry.ProbeAnswered m reply.nonce) (tabled settings change))) (drops Foreign (tabled settings change))) (cond b (takes ProbeReply (entered of_journal stands m (entry.ProbeAnswered m reply.nonce) change)) (drops Foreign change))
      by true = taken (goes-entered settings m more change (entry.ProbeAnswered m reply.nonce) ready refl refl (ap is_some found) refl)
      by false = drops-alike more Foreign change (fewer-ready settings m (suc more) more change.after (omega arith) ready)

  pub reply_heard-alike : (more : ℕ) (from : Addr) (reply : MapReply) (change : Change Journal) → list_all is_bounded reply.mappings ≡ true → Ready settings m (suc (more + length reply.mappings)) change.after → Hears settings m more (reply_heard table stands m from reply (tabled settings change)) (reply_heard of_journal stands m from reply change)
  unfolding reply_heard
  reply_heard-alike more from reply change bounded ready =
      subst (λ v. Hears settings m more (cond reply.probe (probe_replied table stands m from reply (v.probe_open reply.nonce) (tabled settings change)) (replied_to table stands m reply (with_nonce v.requests reply.nonce) (tabled settings change))) (reply_heard of_journal stands m from reply change))
      (sym (seen-same settings m _ change ready)) (by reply.probe)
    where
      v : View
      v = seen of_journal stands m change

      by : (b : Bool) → Hears settings m more (cond b (probe_replied table stands m from reply (v.probe_open reply.nonce) (tabled settings change)) (replied_to table stands m reply (with_nonce v.requests reply.nonce) (tabled settings change))) (cond b (probe_replied of_journal stands m from reply (v.probe_open reply.nonce) change) (replied_to of_journal stands m reply (with_nonce v.requests reply.nonce) change))
      by true = probe_replied-alike more from reply (v.probe_open reply.nonce) change (fewer-ready settings m _ (suc more) change.after (omega arith) ready) refl
      by false = replied_to-alike more reply (with_nonce v.requests reply.nonce) change bounded ready refl

  -- ### Map-Requests

  renewable-room : (v : View) (o : Option Held) (eid : Eid) → renewable stands (limits_in settings) v o ≡ Some eid → may_open (limits_in settings) v eid.iid ≡ true
  renewable-room v None eid is = cc
  renewable-room v (Some held) eid is = by (not held.fixed && may_ask stands (limits_in settings) v held.eid) refl is
    where
      by : (b : Bool) → (not held.fixed && may_ask stands (limits_in settings) v held.eid) ≡ b → cond b (Some held.eid) None ≡ Some eid → may_open (limits_in settings) v eid.iid ≡ true
      by true may is = subst (λ (e : Eid). may_open (limits_in settings) v e.iid ≡ true) (same_Some held.eid eid is) (may_ask-room stands m (limits_in settings) v held.eid (and_both (not held.fixed) _ may).1)
      by false may is = cc

  renewed-alike : (more : ℕ) (range : Range) (change : Change Journal) → Ready settings m (suc more) change.after → Goes settings m more (renewed table stands m range (tabled settings change)) (renewed of_journal stands m range change)
  renewed-alike more range change ready =
      subst (λ v. Goes settings m more (asked_again table stands m (renewable stands (limits_in settings) v (force v.mappings range.iid range.addr range.len)) (tabled settings change)) (renewed of_journal stands m range change))
      (sym (seen-same settings m (suc more) change ready))
      (by (renewable stands (limits_in settings) v (force v.mappings range.iid range.addr range.len)) refl)
    where
      v : View
      v = seen of_journal stands m change

      by : (o : Option Eid) → renewable stands (limits_in settings) v (force v.mappings range.iid range.addr range.len) ≡ o → Goes settings m more (asked_again table stands m o (tabled settings change)) (asked_again of_journal stands m o change)
      by None is = goes-on settings m more change ready
      by (Some eid) is = goes-asked settings m more change eid None true ready (renewable-room v _ eid is)

  counted-alike : (more : ℕ) (t : Change Parts) (j : Change Journal) → Goes settings m more t j → Hears settings m more (counted table stands m t) (counted of_journal stands m j)
  counted-alike more t j goes = record { same = ap (counted table stands m) goes.same; ready = goes.ready }

  replied-alike : (more : ℕ) (asker : Asker) (reply : MapReply) (path : Option Path) (change : Change Journal) → Ready settings m more change.after → Hears settings m more (replied asker reply path (tabled settings change)) (replied asker reply path change)
  replied-alike more asker reply None change ready = record { same = refl; ready = ready }
  replied-alike more asker reply (Some path) change ready = record { same = refl; ready = ready }

  answered-alike : (more : ℕ) (asker : Asker) (request : MapRequest) (change : Change Journal) → Ready settings m more change.after → Hears settings m more (answered stands asker request (tabled settings change)) (answered stands asker request change)
  answered-alike more asker request change ready = by (length (answering stands.databases request.eids) == 0)
    where
      reply : MapReply
      reply = reply_of stands asker request (answering stands.databases request.eids)

      by : (b : Bool) → Hears settings m more (cond b (drops NotOurs (tabled settings change)) (replied asker reply (reply_path stands asker request) (tabled settings change))) (cond b (drops NotOurs change) (replied asker reply (reply_path stands asker request) change))
      by true = drops-alike more NotOurs change ready
      by false = replied-alike more asker reply (reply_path stands asker request) change ready

  all-pass : {A : Type 0} (items : List A) → list_all (λ a. true) items ≡ true
  all-pass [] = refl
  all-pass (a ∷ items) = all-pass items

  pub requested-alike : (more : ℕ) (asker : Asker) (request : MapRequest) (change : Change Journal) → Ready settings m (more + length (ranges_of request)) change.after → Hears settings m more (requested table stands m asker request (tabled settings change)) (requested of_journal stands m asker request change)
  unfolding requested
  requested-alike more asker request change ready = by (request.smr && not asker.probe)
    where
      by : (b : Bool) → Hears settings m more (cond b (counted table stands m (each (renewed table stands m) (ranges_of request) (tabled settings change))) (answered stands asker request (tabled settings change))) (cond b (counted of_journal stands m (each (renewed of_journal stands m) (ranges_of request) change)) (answered stands asker request change))
      by true =
          counted-alike more _ _
          (goes-each settings m (renewed table stands m) (renewed of_journal stands m) (λ range. true) (λ more range change pass ready. renewed-alike more range change ready) (ranges_of request) (all-pass (ranges_of request)) more (tabled settings change) change (record { same = refl; ready = ready }))
      by false = answered-alike more asker request change (fewer-ready settings m _ more change.after (omega arith) ready)

  carried-alike : (more : ℕ) (dest : Addr) (port : ℕ) (o : Option MapRequest) (change : Change Journal) → Ready settings m (more + requests_in o) change.after → Hears settings m more (carried table stands m dest port o (tabled settings change)) (carried of_journal stands m dest port o change)
  carried-alike more dest port None change ready = drops-alike more Unexpected change (fewer-ready settings m (more + 0) more change.after (omega arith) ready)
  carried-alike more dest port (Some request) change ready = requested-alike more _ request change ready

pub messages-lift : MessagesLift
messages-lift settings locators steps m more route (message.Request request) before sound ready = requested-alike settings locators steps m more _ request before ready
messages-lift settings locators steps m more route (message.Reply reply) before sound ready = reply_heard-alike settings locators steps m more route.from reply before sound (fewer-ready settings m _ _ before.after (omega arith) ready)
messages-lift settings locators steps m more route (message.Control ecm) before sound ready = carried-alike settings locators steps m more route.dest ecm.source_port ecm.request before ready

-- ### frames

module _ (settings : Settings) (locators : List OwnLocator) (steps m more most : ℕ) (change : Change Journal) (ready : Ready settings m (more + most) change.after) where
  enough : Ready settings m more change.after
  enough = fewer-ready settings m (more + most) more change.after (omega arith) ready

  refused-alike : (o : Option Refused) (t : Heard Parts) (j : Heard Journal) → Hears settings m more t j → Hears settings m more (unless_refused table (stands settings locators steps m) m o (tabled settings change) t) (unless_refused of_journal (stands settings locators steps m) m o change j)
  refused-alike None t j hears = hears
  refused-alike (Some refused) t j hears = drops-alike settings locators steps m more (reason.Refused refused) change enough

  read-alike : (route : Route) (o : Option Message) → ((read : Message) → o ≡ Some read → (is_sound_message read ≡ true) × (entries_in read ≤ most)) → Hears settings m more (read_heard table (stands settings locators steps m) m route o (tabled settings change)) (read_heard of_journal (stands settings locators steps m) m route o change)
  read-alike route None sound = drops-alike settings locators steps m more Unexpected change enough
  read-alike route (Some read) sound =
      let few = (sound read refl).1 in
      messages-lift settings locators steps m more route read change (sound read refl).0
      (fewer-ready settings m (more + most) (more + entries_in read) change.after (omega (arith, few)) ready)

  course-alike : (c : Course) → ((d : Datagram) (read : Message) → c ≡ Control d → message_in (payload_in d.packet.octets d.udp) ≡ Some read → (is_sound_message read ≡ true) × (entries_in read ≤ most)) → Hears settings m more (course_heard table (stands settings locators steps m) m c (tabled settings change)) (course_heard of_journal (stands settings locators steps m) m c change)
  unfolding datagram_heard payload_heard
  course-alike (Control d) sound =
      refused-alike (first_failing (sum_rules d.packet.base d.packet.header d.packet.octets d.udp false)) _ _
      (refused-alike (first_failing (message_rules (d.packet.base + d.udp.at + 8) (payload_in d.packet.octets d.udp))) _ _
      (read-alike (route_of d) (message_in (payload_in d.packet.octets d.udp)) (λ read is. sound d read refl is)))
  course-alike _ sound = drops-alike settings locators steps m more NotTunnel change enough

pub frames-lift : FramesLift
frames-lift settings locators steps m more most frame before sound ready =
    course-alike settings locators steps m more most before ready (course_of (standing_with settings locators steps) frame) sound
