-- What a router does at an event: each notice, each second and each message makes a change of which that holds.
use Rattle.std.proofs.Common.{◌≡◌, ℕ, ◌==◌, ◌&&◌, ◌%◌, ◌^◌, ◌≤◌, ◌+◌, nat_lt, not, Bool, true, false, cond, IfSome, IsTrue, List, [], ◌∷◌, ◌++◌, filter, filter_map, flat_map, length, map, Option, Some, None, refl, sym, ap, subst, ◌∙◌}
use Rattle.std.specs.List.{All}
use Rattle.std.specs.Ordering.{is_lt}
use Rattle.std.specs.Prelude.{is_some}
use Rattle.std.proofs.lemmas.Bool.{and_parts}
use Rattle.std.proofs.lemmas.List.Elements.{All-push}
use Rattle.octets.specs.Rules.{first_failing}
use Rattle.octets.specs.declared.refused.Refused.{Refused}
use Rattle.ip_headers.specs.Udp.{payload_in, sum_rules}
use Rattle.ip_headers.specs.declared.addr.Addr.{Addr}
use Rattle.capture_io.specs.Frame.{Frame}
use Rattle.mapping_records.specs.Eids.{same_address}
use Rattle.mapping_records.specs.Orders.{addr_order}
use Rattle.mapping_records.specs.declared.eid.Eid.{Eid}
use Rattle.mapping_records.specs.declared.record.Record.{Record}
use Rattle.map_messages.specs.Message.{message_rules}
use Rattle.map_messages.specs.Reply.{canonical_reply}
use Rattle.map_messages.specs.declared.message.MapReply.{MapReply}
use Rattle.map_messages.specs.declared.message.MapRequest.{MapRequest}
use Rattle.map_messages.specs.declared.message.Message.{Message}
use Rattle.map_messages.specs.declared.message.Message.TheVariants as message
use Rattle.lisp_settings.specs.Instances.{limits_in}
use Rattle.lisp_settings.specs.declared.settings.Database.{Database}
use Rattle.lisp_settings.specs.declared.settings.Settings.{Settings}
use Rattle.locator_state.specs.Turns.{goes_before, with_target}
use Rattle.locator_state.specs.declared.target.Target.{Target}
use Rattle.request_queue.specs.Queue.{due, with_nonce}
use Rattle.request_queue.specs.declared.request.Request.{Request}
use Rattle.router_log.specs.declared.emit.Emit.{Emit}
use Rattle.router_log.specs.declared.emit.Emit.TheVariants as emit
use Rattle.router_log.specs.declared.entry.Entry.{Entry}
use Rattle.router_log.specs.declared.entry.Entry.TheVariants as entry
use Rattle.router_log.specs.declared.entry.Entry.TheVariants.{Learned}
use Rattle.router_log.specs.declared.notice.Notice.{Notice}
use Rattle.router_log.specs.declared.notice.Notice.TheVariants as notice
use Rattle.router_log.specs.declared.verdict.Reason.TheVariants.{Foreign, NotOurs, Unfit}
use Rattle.router_model.specs.Changes.{Change, each, entered, has_room, journal as of_journal, may_ask, next_nonce, seen}
use Rattle.router_model.specs.Course.{Course, Settled, Data, Control, Leaving, Datagram, course_of}
use Rattle.router_model.specs.Hear.{Asker, Heard, Path, Range, Route, answered, answering, asked_again, carried, counted, course_heard, datagram_heard, drops, hear_by, is_asked_for, is_fit, is_static, message_heard, payload_heard, probe_replied, ranges_of, read_heard, renewable, renewed, replied, replied_to, reply_heard, reply_of, reply_path, requested, route_of, shortened, tallied, taught, unless_refused}
use Rattle.router_model.specs.Journal.{Journal, drawn, extended, statics}
use Rattle.router_model.specs.Mappings.{Held, exact, force}
use Rattle.router_model.specs.Note.{is_echo, is_learned, is_missing, is_news, noted}
use Rattle.router_model.specs.Received.{message_in}
use Rattle.router_model.specs.Site.{ours, reaches_resolver}
use Rattle.router_model.specs.Tick.{after_changes, all_probed, all_retried, all_told, candidates, first_told, is_probed, is_told, named, named_in, next_targets, probed, retried, retried_where, targets, told, told_all, with_address}
use Rattle.router_model.specs.View.{View}
use Rattle.router_core.specs.Site.{IsSite}
use Rattle.router_core.proofs.AnsweringLemmas.{reply-short}
use Rattle.audit.specs.Lifted.{each_once}
use Rattle.audit_laws.specs.Drawn.{first_nonces, IsInRange}
use Rattle.audit_laws.specs.Sent.{CanBeMade}
use Rattle.audit_laws.proofs.DrawnLemmas.{drawn-same, drawn-short, each-filter, each-passing, each-put, each-take, once-again, requests-drawn, AreNext, Each, IsDrawn}
use Rattle.audit_laws.proofs.EmitLemmas.{emit_nonce}
use Rattle.audit_laws.proofs.EmitOctetLemmas.{IsMade, reply-octets}
use Rattle.audit_laws.proofs.OctetLemmas.{AreOctets}
use Rattle.audit_laws.proofs.SoundLemmas.{IsShort, IsSound, may-resolver, more-nonces, sound-all, sound-asked, sound-drawn, sound-each, sound-echo, sound-entered, sound-if, sound-reply_sent}

module _ (settings : Settings) (site : IsSite settings) (before : List ℕ) (m : ℕ) where
  -- ### notices

  sound-noted : (one : Notice) (change : Change Journal) → IsSound settings before change → IsSound settings before (noted of_journal settings m one change)
  unfolding noted
  sound-noted (notice.Ask eid source) change sound =
      sound-if settings before m (is_missing settings (limits_in settings) (seen of_journal settings m change) eid) _ change
      (λ is. sound-asked settings before m eid source false change (may-resolver settings before m (seen of_journal settings m change) eid (and_parts _ _ is).0) sound) sound
  sound-noted (notice.Refresh eid) change sound =
      sound-if settings before m (is_learned (exact (seen of_journal settings m change).mappings eid) && may_ask settings (limits_in settings) (seen of_journal settings m change) eid) _ change
      (λ is. sound-asked settings before m eid None false change (may-resolver settings before m (seen of_journal settings m change) eid (and_parts _ _ is).1) sound) sound
  sound-noted (notice.Bits eid rloc bits width) change sound =
      sound-if settings before m (is_news rloc bits width (exact (seen of_journal settings m change).mappings eid)) _ change
      (λ is. sound-entered settings before m (entry.Bits m eid bits width) change refl tt sound) sound
  sound-noted (notice.EchoWanted rloc nonce) change sound =
      sound-if settings before m ((seen of_journal settings m change).may_want rloc nonce) _ change (λ is. sound-entered settings before m (entry.EchoWanted m rloc nonce) change refl tt sound) sound
  sound-noted (notice.EchoHeard rloc nonce) change sound =
      sound-if settings before m (is_echo nonce ((seen of_journal settings m change).echo_on rloc)) _ change (λ is. sound-entered settings before m (entry.EchoHeard m rloc) change refl tt sound) sound
  sound-noted (notice.DataFrom rloc) change sound =
      sound-if settings before m ((seen of_journal settings m change).data_due rloc) _ change (λ is. sound-entered settings before m (entry.DataFrom m rloc) change refl tt sound) sound
  sound-noted (notice.Solicit rloc eid) change sound =
      let nonce = next_nonce of_journal settings m change in
      sound-if settings before m (is_some (ours settings.locators rloc) && (seen of_journal settings m change).may_solicit rloc eid) _ change
      (λ is. sound-drawn settings before m (entry.Solicited m rloc eid nonce) (emit.Solicit rloc eid nonce) change refl tt (and_parts _ _ is).0 tt refl sound) sound
  sound-noted (notice.EchoDue rloc) change sound =
      sound-if settings before m (settings.echo && (seen of_journal settings m change).may_start rloc) _ change
      (λ is. sound-echo settings before m rloc (next_nonce of_journal settings m change % 2 ^ 24) change (and_parts _ _ is).0 sound) sound

  pub all-noted : (notices : List Notice) (change : Change Journal) → IsSound settings before change → IsSound settings before (each (noted of_journal settings m) notices change)
  all-noted notices change sound = sound-all settings before m (noted of_journal settings m) sound-noted notices change sound

  -- ### seconds

  -- one that is sent again has a nonce that was drawn
  sound-retried : IsTrue (reaches_resolver settings) → (request : Request) (change : Change Journal) → IsDrawn settings (drawn change.after) request.nonce → IsSound settings before change → IsSound settings before (retried of_journal settings m request change)
  sound-retried reaches request change was sound =
      let e : Entry = entry.Retried m request.nonce in
      let packet : Emit = emit.Request request.eid request.source request.invoked request.nonce in
      let entered_sound = sound-entered settings before m e change refl tt sound in
      let nonces : List ℕ = before ++ filter_map emit_nonce change.emits in
      record {
        made = All-push (CanBeMade settings) change.emits packet sound.made reaches;
        next = entered_sound.next;
        short = λ short. All-push IsShort change.emits packet (sound.short short) (drawn-short settings (drawn change.after) request.nonce short was);
        octets = λ range. All-push IsMade change.emits packet (sound.octets range) tt;
        nonces = λ off.
            ap each_once (more-nonces before change.emits packet request.nonce refl)
            ∙ once-again nonces (first_nonces settings (drawn change.after)) request.nonce (sound.nonces off) was
            ∙ ap (λ (k : ℕ). each_once (first_nonces settings k)) (sym (drawn-same e change.after refl));
      }

  each-retried : IsTrue (reaches_resolver settings) → (k : ℕ) (requests : List Request) (change : Change Journal) → Each (λ (request : Request). IsDrawn settings k request.nonce) requests → drawn change.after ≡ k → IsSound settings before change → IsSound settings before (each (retried of_journal settings m) requests change)
  each-retried reaches k [] change all is sound = sound
  each-retried reaches k (request ∷ requests) change all is sound =
      each-retried reaches k requests (retried of_journal settings m request change) all.1 (drawn-same (entry.Retried m request.nonce) change.after refl ∙ is)
      (sound-retried reaches request change (subst (λ (n : ℕ). IsDrawn settings n request.nonce) (sym is) all.0) sound)

  sound-all_retried : (change : Change Journal) → IsTrue (reaches_resolver settings) → IsSound settings before change → IsSound settings before (all_retried of_journal settings m change)
  sound-all_retried change reaches sound =
      let P : Request → Type 0 = λ (request : Request). IsDrawn settings (drawn change.after) request.nonce in
      let v = seen of_journal settings m change in
      each-retried reaches (drawn change.after) (filter (due v.now) v.requests) change (each-filter P (due v.now) v.requests (requests-drawn settings change.after m sound.next)) refl sound

  sound-where : (reaches : Bool) → reaches_resolver settings ≡ reaches → (change : Change Journal) → IsSound settings before change → IsSound settings before (retried_where of_journal settings m reaches change)
  sound-where true is change sound = sound-all_retried change is sound
  sound-where false is change sound = sound

  -- a target has an own address of its family
  abbrev IsReached : Target → Type 0
  IsReached target = IsTrue (is_some (ours settings.locators target.rloc))

  with-reached : (target : Target) (items : List Target) → IsReached target → Each IsReached items → Each IsReached (with_target target items)
  with-reached target [] one all = (one, tt)
  with-reached target (first ∷ others) one all = by (same_address target.rloc first.rloc) (goes_before target first) (with-reached target others one all.1)
    where
      by : (b c : Bool) → Each IsReached (with_target target others) → Each IsReached (cond b (first ∷ others) (cond c (target ∷ first ∷ others) (first ∷ with_target target others)))
      by true c rest = all
      by false true rest = (one, all)
      by false false rest = (all.0, rest)

  is-reached : (now : ℕ) (target : Target) → is_probed settings now target ≡ true → IsReached target
  is-reached now target is = (and_parts _ _ (and_parts _ _ is).1).0

  next-reached : (v : View) → Each IsReached (next_targets settings v)
  next-reached v =
      each-take IsReached 16 (candidates settings v)
      (each-put IsReached with_target with-reached (filter (is_probed settings v.now) (targets v)) [] (each-passing IsReached (is_probed settings v.now) (is-reached v.now) (targets v)) tt)

  sound-probed : (target : Target) (change : Change Journal) → IsReached target → IsSound settings before change → IsSound settings before (probed of_journal settings m target change)
  sound-probed target change reached sound =
      let nonce = next_nonce of_journal settings m change in
      sound-if settings before m (nat_lt (seen of_journal settings m change).probe_count 9600) _ change
      (λ is. sound-drawn settings before m (entry.Probed m target.rloc nonce) (emit.Probe target.rloc target.eid nonce) change refl tt reached tt refl sound) sound

  sound-all_probed : (change : Change Journal) → IsSound settings before change → IsSound settings before (all_probed of_journal settings m change)
  sound-all_probed change sound =
      sound-if settings before m settings.probe _ change
      (λ is. sound-each settings before m (probed of_journal settings m) IsReached sound-probed (next_targets settings (seen of_journal settings m change)) change (next-reached (seen of_journal settings m change)) sound) sound

  -- so has a locator that is told
  abbrev IsFamiliar : Addr → Type 0
  IsFamiliar address = IsTrue (is_some (ours settings.locators address))

  with-familiar : (address : Addr) (items : List Addr) → IsFamiliar address → Each IsFamiliar items → Each IsFamiliar (with_address address items)
  with-familiar address [] one all = (one, tt)
  with-familiar address (first ∷ others) one all = by (same_address address first) (is_lt (addr_order address first)) (with-familiar address others one all.1)
    where
      by : (b c : Bool) → Each IsFamiliar (with_address address others) → Each IsFamiliar (cond b (first ∷ others) (cond c (address ∷ first ∷ others) (first ∷ with_address address others)))
      by true c rest = all
      by false true rest = (one, all)
      by false false rest = (all.0, rest)

  is-familiar : (address : Addr) → is_told settings address ≡ true → IsFamiliar address
  is-familiar address is = (and_parts _ _ is).1

  named-familiar : (v : View) → Each IsFamiliar (named settings v)
  named-familiar v =
      let addresses : List Addr = flat_map named_in v.mappings in
      each-put IsFamiliar with_address with-familiar (filter (is_told settings) addresses) [] (each-passing IsFamiliar (is_told settings) is-familiar addresses) tt

  first-familiar : (addresses : List Addr) → Each IsFamiliar addresses → Each IsFamiliar (first_told addresses)
  unfolding first_told
  first-familiar addresses all = each-take IsFamiliar 64 addresses all

  sound-told : (address : Addr) → IsFamiliar address → (database : Database) (change : Change Journal) → IsSound settings before change → IsSound settings before (told of_journal settings m address database change)
  sound-told address familiar database change sound =
      let nonce = next_nonce of_journal settings m change in
      let e : Entry = entry.Solicited m address database.eid nonce in
      sound-if settings before m ((seen of_journal settings m change).may_solicit address database.eid) _ change
      (λ is. sound-drawn settings before m e (emit.Solicit address database.eid nonce) change refl tt familiar tt refl sound) sound

  sound-told_all : (address : Addr) (change : Change Journal) → IsFamiliar address → IsSound settings before change → IsSound settings before (told_all of_journal settings m address change)
  sound-told_all address change familiar sound = sound-all settings before m (told of_journal settings m address) (sound-told address familiar) settings.databases change sound

  sound-all_told : (came : Bool) (change : Change Journal) → IsSound settings before change → IsSound settings before (all_told of_journal settings m came change)
  sound-all_told came change sound =
      let v = seen of_journal settings m change in
      sound-if settings before m came _ change
      (λ is. sound-each settings before m (told_all of_journal settings m) IsFamiliar sound-told_all (first_told (named settings v)) change (first-familiar (named settings v) (named-familiar v)) sound) sound

  pub all-followed : (came : Bool) (change : Change Journal) → IsSound settings before change → IsSound settings before (after_changes of_journal settings m came change)
  unfolding after_changes
  all-followed came change sound =
      let told_them : Change Journal = all_told of_journal settings m came change in
      sound-all_probed (retried_where of_journal settings m (reaches_resolver settings) told_them) (sound-where (reaches_resolver settings) refl told_them (sound-all_told came change sound))

  -- ### control messages

  sound-choice : (b : Bool) (one other : Heard Journal) → IsSound settings before one.change → IsSound settings before other.change → IsSound settings before (cond b one other).change
  sound-choice true one other a o = a
  sound-choice false one other a o = o

  sound-asked_again : (eid : Option Eid) (change : Change Journal) → IfSome eid (λ eid. IsTrue (reaches_resolver settings)) → IsSound settings before change → IsSound settings before (asked_again of_journal settings m eid change)
  sound-asked_again None change some sound = sound
  sound-asked_again (Some eid) change some sound = sound-asked settings before m eid None true change some sound

  renewable-resolver : (v : View) (o : Option Held) → IfSome (renewable settings (limits_in settings) v o) (λ eid. IsTrue (reaches_resolver settings))
  renewable-resolver v None = tt
  renewable-resolver v (Some held) = by (not held.fixed && may_ask settings (limits_in settings) v held.eid) refl
    where
      by : (b : Bool) → (not held.fixed && may_ask settings (limits_in settings) v held.eid) ≡ b → IfSome (cond b (Some held.eid) None) (λ eid. IsTrue (reaches_resolver settings))
      by true is = may-resolver settings before m v held.eid (and_parts _ _ is).1
      by false is = tt

  sound-renewed : (range : Range) (change : Change Journal) → IsSound settings before change → IsSound settings before (renewed of_journal settings m range change)
  sound-renewed range change sound =
      let v = seen of_journal settings m change in
      let held : Option Held = force v.mappings range.iid range.addr range.len in
      sound-asked_again (renewable settings (limits_in settings) v held) change (renewable-resolver v held) sound

  sound-replied : (asker : Asker) (reply : MapReply) (path : Option Path) (change : Change Journal) → length (canonical_reply reply) ≤ 65000 → (All IsInRange settings.locators → AreOctets (canonical_reply reply)) → IsSound settings before change → IsSound settings before (replied asker reply path change).change
  sound-replied asker reply None change short made sound = sound
  sound-replied asker reply (Some path) change short made sound = sound-reply_sent settings before m (emit.Reply path.from path.to asker.port reply) change short refl made sound

  sound-answered : (asker : Asker) (request : MapRequest) (change : Change Journal) → IsSound settings before change → IsSound settings before (answered settings asker request change).change
  sound-answered asker request change sound =
      sound-choice (length (answering settings.databases request.eids) == 0) (drops NotOurs change) _ sound
      (sound-replied asker (reply_of settings asker request (answering settings.databases request.eids)) (reply_path settings asker request) change (reply-short settings site asker request) (λ range. reply-octets settings site range asker request) sound)

  sound-requested : (asker : Asker) (request : MapRequest) (change : Change Journal) → IsSound settings before change → IsSound settings before (requested of_journal settings m asker request change).change
  unfolding requested
  sound-requested asker request change sound =
      sound-choice (request.smr && not asker.probe) (counted of_journal settings m (each (renewed of_journal settings m) (ranges_of request) change)) (answered settings asker request change)
      (sound-all settings before m (renewed of_journal settings m) sound-renewed (ranges_of request) change sound)
      (sound-answered asker request change sound)

  sound-taught : (eid : Eid) (mappings : List Record) (mapping : Record) (change : Change Journal) → IsSound settings before change → IsSound settings before (taught of_journal settings m eid mappings mapping change)
  sound-taught eid mappings mapping change sound =
      sound-if settings before m (is_asked_for eid mappings mapping && (not (is_static settings mapping) && has_room (limits_in settings) (seen of_journal settings m change) mapping)) _ change
      (λ is. sound-entered settings before m (entry.Learned m (shortened mapping) false) change refl tt sound) sound

  sound-replied_to : (reply : MapReply) (o : Option Request) (change : Change Journal) → IsSound settings before change → IsSound settings before (replied_to of_journal settings m reply o change).change
  sound-replied_to reply None change sound = sound
  sound-replied_to reply (Some request) change sound =
      sound-choice (is_fit request.eid reply.mappings)
      (tallied of_journal settings m reply (each (taught of_journal settings m request.eid reply.mappings) reply.mappings (entered of_journal settings m (entry.Answered m reply.nonce) change)))
      (drops Unfit change)
      (sound-all settings before m (taught of_journal settings m request.eid reply.mappings) (sound-taught request.eid reply.mappings) reply.mappings (entered of_journal settings m (entry.Answered m reply.nonce) change) (sound-entered settings before m (entry.Answered m reply.nonce) change refl tt sound))
      sound

  sound-probe_replied : (from : Addr) (reply : MapReply) (o : Option Addr) (change : Change Journal) → IsSound settings before change → IsSound settings before (probe_replied of_journal settings m from reply o change).change
  sound-probe_replied from reply None change sound = sound
  sound-probe_replied from reply (Some rloc) change sound =
      sound-choice (same_address rloc from) _ (drops Foreign change) (sound-entered settings before m (entry.ProbeAnswered m reply.nonce) change refl tt sound) sound

  sound-reply : (from : Addr) (reply : MapReply) (change : Change Journal) → IsSound settings before change → IsSound settings before (reply_heard of_journal settings m from reply change).change
  unfolding reply_heard
  sound-reply from reply change sound =
      sound-choice reply.probe _ _
      (sound-probe_replied from reply ((seen of_journal settings m change).probe_open reply.nonce) change sound)
      (sound-replied_to reply (with_nonce (seen of_journal settings m change).requests reply.nonce) change sound)

  sound-carried : (dest : Addr) (port : ℕ) (request : Option MapRequest) (change : Change Journal) → IsSound settings before change → IsSound settings before (carried of_journal settings m dest port request change).change
  sound-carried dest port None change sound = sound
  sound-carried dest port (Some request) change sound = sound-requested (record { dest = dest; port = port; probe = false }) request change sound

  sound-message : (route : Route) (read : Message) (change : Change Journal) → IsSound settings before change → IsSound settings before (message_heard of_journal settings m route read change).change
  sound-message route (message.Request request) change sound = sound-requested (record { dest = route.dest; port = route.port; probe = request.probe }) request change sound
  sound-message route (message.Reply reply) change sound = sound-reply route.from reply change sound
  sound-message route (message.Control ecm) change sound = sound-carried route.dest ecm.source_port ecm.request change sound

  sound-read : (route : Route) (read : Option Message) (change : Change Journal) → IsSound settings before change → IsSound settings before (read_heard of_journal settings m route read change).change
  sound-read route None change sound = sound
  sound-read route (Some read) change sound = sound-message route read change sound

  sound-unless : (o : Option Refused) (change : Change Journal) (others : Heard Journal) → IsSound settings before change → IsSound settings before others.change → IsSound settings before (unless_refused of_journal settings m o change others).change
  sound-unless None change others sound sound_others = sound_others
  sound-unless (Some refused) change others sound sound_others = sound

  sound-payload : (route : Route) (base : ℕ) (payload : List ℕ) (change : Change Journal) → IsSound settings before change → IsSound settings before (payload_heard of_journal settings m route base payload change).change
  unfolding payload_heard
  sound-payload route base payload change sound =
      sound-unless (first_failing (message_rules base payload)) change _ sound (sound-read route (message_in payload) change sound)

  sound-datagram : (d : Datagram) (change : Change Journal) → IsSound settings before change → IsSound settings before (datagram_heard of_journal settings m d change).change
  unfolding datagram_heard
  sound-datagram d change sound =
      sound-unless (first_failing (sum_rules d.packet.base d.packet.header d.packet.octets d.udp false)) change _ sound
      (sound-payload (route_of d) (d.packet.base + d.udp.at + 8) (payload_in d.packet.octets d.udp) change sound)

  sound-course : (course : Course) (change : Change Journal) → IsSound settings before change → IsSound settings before (course_heard of_journal settings m course change).change
  sound-course (Settled verdict) change sound = sound
  sound-course (Data d) change sound = sound
  sound-course (Control d) change sound = sound-datagram d change sound
  sound-course (Leaving iid packet) change sound = sound

  pub all-heard : (frame : Frame) (change : Change Journal) → IsSound settings before change → IsSound settings before (hear_by of_journal settings m frame change).change
  all-heard frame change sound = sound-course (course_of settings frame) change sound

-- ### the static mappings

learned-next : (settings : Settings) (mappings : List Record) (journal : Journal) → AreNext settings journal → AreNext settings (extended journal (map (λ mapping. Learned 0 mapping true) mappings))
learned-next settings [] journal next = next
learned-next settings (mapping ∷ mappings) journal next = learned-next settings mappings (Learned 0 mapping true ∷ journal) (tt, next)

-- a router begins without a request
pub statics-next : (settings : Settings) → AreNext settings (statics settings)
statics-next settings = learned-next settings settings.mappings [] tt

learned-drawn : (mappings : List Record) (journal : Journal) → drawn journal ≡ 0 → drawn (extended journal (map (λ mapping. Learned 0 mapping true) mappings)) ≡ 0
learned-drawn [] journal none = none
learned-drawn (mapping ∷ mappings) journal none = learned-drawn mappings (Learned 0 mapping true ∷ journal) (drawn-same (Learned 0 mapping true) journal refl ∙ none)

-- and without a nonce
pub statics-drawn : (settings : Settings) → drawn (statics settings) ≡ 0
statics-drawn settings = learned-drawn settings.mappings [] refl
