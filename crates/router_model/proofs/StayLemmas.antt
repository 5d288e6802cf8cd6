-- What stays where entries are added that change no own locator, and where packets go out.
use Rattle.std.proofs.Common.{◌≡◌, ℕ, ◌==◌, ◌&&◌, ◌%◌, ◌^◌, nat_lt, not, Bool, true, false, cond, List, [], ◌∷◌, filter, length, Option, Some, None, is_some, refl}
use Rattle.octets.specs.Rules.{first_failing}
use Rattle.octets.specs.declared.refused.Refused.{Refused}
use Rattle.ip_headers.specs.Udp.{sum_rules}
use Rattle.ip_headers.specs.declared.addr.Addr.{Addr}
use Rattle.capture_io.specs.Frame.{Frame}
use Rattle.mapping_records.specs.Eids.{same_address}
use Rattle.mapping_records.specs.declared.eid.Eid.{Eid}
use Rattle.mapping_records.specs.declared.record.Record.{Record}
use Rattle.map_messages.specs.Message.{message_rules}
use Rattle.map_messages.specs.declared.message.MapReply.{MapReply}
use Rattle.map_messages.specs.declared.message.MapRequest.{MapRequest}
use Rattle.map_messages.specs.declared.message.Message.{Message}
use Rattle.map_messages.specs.declared.message.Message.TheVariants as message
use Rattle.lisp_settings.specs.declared.settings.Database.{Database}
use Rattle.lisp_settings.specs.declared.settings.Settings.{Settings}
use Rattle.locator_state.specs.declared.target.Target.{Target}
use Rattle.request_queue.specs.Queue.{due, with_nonce}
use Rattle.request_queue.specs.declared.request.Request.{Request}
use Rattle.router_log.specs.declared.emit.Emit.{Emit}
use Rattle.router_log.specs.declared.emit.Emit.TheVariants as emit
use Rattle.router_log.specs.declared.entry.Entry.{Entry}
use Rattle.router_log.specs.declared.entry.Entry.TheVariants as entry
use Rattle.router_log.specs.declared.notice.Notice.{Notice}
use Rattle.router_log.specs.declared.notice.Notice.TheVariants as notice
use Rattle.router_log.specs.declared.verdict.Reason.TheVariants.{Foreign, NotOurs, Unfit}
use Rattle.router_model.specs.Changes.{Change, Ledger, asked, each, emitted, entered, has_room, limits_of, may_ask, next_nonce, seen}
use Rattle.router_model.specs.Course.{Course, Settled, Data, Control, Leaving, Datagram, course_of}
use Rattle.router_model.specs.Hear.{Asker, Heard, Path, Range, Route, answered, answering, asked_again, carried, counted, course_heard, datagram_heard, drops, hear_by, is_asked_for, is_fit, is_static, message_heard, payload_heard, probe_replied, ranges_of, read_heard, renewable, renewed, replied, replied_to, reply_heard, reply_of, reply_path, requested, shortened, tallied, taught, unless_refused}
use Rattle.router_model.specs.Journal.{is_changed}
use Rattle.router_model.specs.Mappings.{exact, force}
use Rattle.router_model.specs.Note.{is_echo, is_learned, is_missing, is_news, noted, solicited}
use Rattle.router_model.specs.Received.{message_in}
use Rattle.router_model.specs.Site.{ours, reaches_resolver}
use Rattle.router_model.specs.Tick.{after_changes, all_probed, all_retried, all_told, first_told, named, next_targets, probed, retried, retried_where, told, told_all}

module _ {S : Type 0} (ledger : Ledger S) (settings : Settings) (m : ℕ) (P : Change S → Type 0) (adds : (e : Entry) → is_changed e ≡ false → (change : Change S) → P change → P (entered ledger settings m e change)) (sends : (packet : Emit) (change : Change S) → P change → P (emitted packet change)) where
  stays-if : (b : Bool) (then change : Change S) → P then → P change → P (cond b then change)
  stays-if true then change a grown = a
  stays-if false then change a grown = grown

  pub stays-each : {A : Type 0} (step : A → Change S → Change S) → ((a : A) (change : Change S) → P change → P (step a change)) → (items : List A) (change : Change S) → P change → P (each step items change)
  stays-each step one [] change grown = grown
  stays-each step one (a ∷ items) change grown = stays-each step one items (step a change) (one a change grown)

  stays-asked : (eid : Eid) (source : Option Addr) (invoked : Bool) (change : Change S) → P change → P (asked ledger settings m eid source invoked change)
  stays-asked eid source invoked change grown =
      let e : Entry = entry.Asked m eid source invoked (next_nonce ledger settings m change) in
      sends (emit.Request eid source invoked (next_nonce ledger settings m change)) (entered ledger settings m e change) (adds e refl change grown)

  stays-solicited : (rloc : Addr) (eid : Eid) (nonce : ℕ) (change : Change S) → P change → P (solicited ledger settings m nonce rloc eid change)
  stays-solicited rloc eid nonce change grown =
      let e : Entry = entry.Solicited m rloc eid nonce in
      sends (emit.Solicit rloc eid nonce) (entered ledger settings m e change) (adds e refl change grown)

  -- ### notices

  pub stays-noted : (one : Notice) (change : Change S) → P change → P (noted ledger settings m one change)
  unfolding noted
  stays-noted (notice.Ask eid source) change grown =
      stays-if (is_missing settings (limits_of ledger settings m change) (seen ledger settings m change) eid) _ change (stays-asked eid source false change grown) grown
  stays-noted (notice.Refresh eid) change grown =
      stays-if (is_learned (exact (seen ledger settings m change).mappings eid) && may_ask settings (limits_of ledger settings m change) (seen ledger settings m change) eid) _ change
      (stays-asked eid None false change grown) grown
  stays-noted (notice.Bits eid rloc bits width) change grown =
      stays-if (is_news rloc bits width (exact (seen ledger settings m change).mappings eid)) _ change
      (adds (entry.Bits m eid bits width) refl change grown) grown
  stays-noted (notice.EchoWanted rloc nonce) change grown =
      stays-if ((seen ledger settings m change).may_want rloc nonce) _ change (adds (entry.EchoWanted m rloc nonce) refl change grown) grown
  stays-noted (notice.EchoHeard rloc nonce) change grown =
      stays-if (is_echo nonce ((seen ledger settings m change).echo_on rloc)) _ change (adds (entry.EchoHeard m rloc) refl change grown) grown
  stays-noted (notice.DataFrom rloc) change grown =
      stays-if ((seen ledger settings m change).data_due rloc) _ change (adds (entry.DataFrom m rloc) refl change grown) grown
  stays-noted (notice.Solicit rloc eid) change grown =
      stays-if (is_some (ours settings.locators rloc) && (seen ledger settings m change).may_solicit rloc eid) _ change
      (stays-solicited rloc eid (next_nonce ledger settings m change) change grown) grown
  stays-noted (notice.EchoDue rloc) change grown =
      stays-if (settings.echo && (seen ledger settings m change).may_start rloc) _ change
      (adds (entry.EchoStarted m rloc (next_nonce ledger settings m change % 2 ^ 24)) refl change grown) grown

  -- ### seconds

  stays-retried : (request : Request) (change : Change S) → P change → P (retried ledger settings m request change)
  stays-retried request change grown =
      let e : Entry = entry.Retried m request.nonce in
      sends (emit.Request request.eid request.source request.invoked request.nonce) (entered ledger settings m e change) (adds e refl change grown)

  stays-probed : (target : Target) (change : Change S) → P change → P (probed ledger settings m target change)
  stays-probed target change grown =
      stays-if (nat_lt (seen ledger settings m change).probe_count 9600) _ change
      (let nonce : ℕ = next_nonce ledger settings m change in
      let e : Entry = entry.Probed m target.rloc nonce in
      sends (emit.Probe target.rloc target.eid nonce) (entered ledger settings m e change) (adds e refl change grown)) grown

  stays-all_retried : (change : Change S) → P change → P (all_retried ledger settings m change)
  stays-all_retried change grown =
      stays-each (retried ledger settings m) stays-retried (filter (due (seen ledger settings m change).now) (seen ledger settings m change).requests) change grown

  stays-all_probed : (change : Change S) → P change → P (all_probed ledger settings m change)
  stays-all_probed change grown =
      stays-if settings.probe _ change
      (stays-each (probed ledger settings m) stays-probed (next_targets settings (seen ledger settings m change)) change grown) grown

  stays-told : (address : Addr) (database : Database) (change : Change S) → P change → P (told ledger settings m address database change)
  stays-told address database change grown =
      stays-if ((seen ledger settings m change).may_solicit address database.eid) _ change
      (stays-solicited address database.eid (next_nonce ledger settings m change) change grown) grown

  stays-told_all : (address : Addr) (change : Change S) → P change → P (told_all ledger settings m address change)
  stays-told_all address change grown = stays-each (told ledger settings m address) (stays-told address) settings.databases change grown

  stays-all_told : (came : Bool) (change : Change S) → P change → P (all_told ledger settings m came change)
  stays-all_told came change grown =
      stays-if came _ change (stays-each (told_all ledger settings m) stays-told_all (first_told (named settings (seen ledger settings m change))) change grown) grown

  stays-retried_where : (reaches : Bool) (change : Change S) → P change → P (retried_where ledger settings m reaches change)
  stays-retried_where reaches change grown = stays-if reaches _ change (stays-all_retried change grown) grown

  pub stays-after : (came : Bool) (change : Change S) → P change → P (after_changes ledger settings m came change)
  unfolding after_changes
  stays-after came change grown =
      let told : Change S = all_told ledger settings m came change in
      stays-all_probed (retried_where ledger settings m (reaches_resolver settings) told)
      (stays-retried_where (reaches_resolver settings) told (stays-all_told came change grown))

  -- ### control messages

  stays-choice : (b : Bool) (one other : Heard S) → P one.change → P other.change → P (cond b one other).change
  stays-choice true one other a o = a
  stays-choice false one other a o = o

  stays-asked_again : (eid : Option Eid) (change : Change S) → P change → P (asked_again ledger settings m eid change)
  stays-asked_again None change grown = grown
  stays-asked_again (Some eid) change grown = stays-asked eid None true change grown

  stays-renewed : (range : Range) (change : Change S) → P change → P (renewed ledger settings m range change)
  stays-renewed range change grown =
      stays-asked_again (renewable settings (limits_of ledger settings m change) (seen ledger settings m change) (force (seen ledger settings m change).mappings range.iid range.addr range.len)) change grown

  stays-replied : (asker : Asker) (reply : MapReply) (path : Option Path) (change : Change S) → P change → P (replied asker reply path change).change
  stays-replied asker reply None change grown = grown
  stays-replied asker reply (Some path) change grown = sends (emit.Reply path.from path.to asker.port reply) change grown

  stays-answered : (asker : Asker) (request : MapRequest) (change : Change S) → P change → P (answered settings asker request change).change
  stays-answered asker request change grown =
      stays-choice (length (answering settings.databases request.eids) == 0) (drops NotOurs change) _ grown
      (stays-replied asker (reply_of settings asker request (answering settings.databases request.eids)) (reply_path settings asker request) change grown)

  stays-requested : (asker : Asker) (request : MapRequest) (change : Change S) → P change → P (requested ledger settings m asker request change).change
  unfolding requested
  stays-requested asker request change grown =
      stays-choice (request.smr && not asker.probe) (counted ledger settings m (each (renewed ledger settings m) (ranges_of request) change)) (answered settings asker request change)
      (stays-each (renewed ledger settings m) stays-renewed (ranges_of request) change grown)
      (stays-answered asker request change grown)

  stays-taught : (eid : Eid) (mappings : List Record) (mapping : Record) (change : Change S) → P change → P (taught ledger settings m eid mappings mapping change)
  stays-taught eid mappings mapping change grown =
      stays-if (is_asked_for eid mappings mapping && (not (is_static settings mapping) && has_room (limits_of ledger settings m change) (seen ledger settings m change) mapping)) _ change
      (adds (entry.Learned m (shortened mapping) false) refl change grown) grown

  stays-replied_to : (reply : MapReply) (o : Option Request) (change : Change S) → P change → P (replied_to ledger settings m reply o change).change
  stays-replied_to reply None change grown = grown
  stays-replied_to reply (Some request) change grown =
      stays-choice (is_fit request.eid reply.mappings)
      (tallied ledger settings m reply (each (taught ledger settings m request.eid reply.mappings) reply.mappings (entered ledger settings m (entry.Answered m reply.nonce) change)))
      (drops Unfit change)
      (stays-each (taught ledger settings m request.eid reply.mappings) (stays-taught request.eid reply.mappings) reply.mappings _ (adds (entry.Answered m reply.nonce) refl change grown))
      grown

  stays-probe_replied : (from : Addr) (reply : MapReply) (o : Option Addr) (change : Change S) → P change → P (probe_replied ledger settings m from reply o change).change
  stays-probe_replied from reply None change grown = grown
  stays-probe_replied from reply (Some rloc) change grown =
      stays-choice (same_address rloc from) _ (drops Foreign change) (adds (entry.ProbeAnswered m reply.nonce) refl change grown) grown

  stays-reply : (from : Addr) (reply : MapReply) (change : Change S) → P change → P (reply_heard ledger settings m from reply change).change
  unfolding reply_heard
  stays-reply from reply change grown =
      stays-choice reply.probe _ _
      (stays-probe_replied from reply ((seen ledger settings m change).probe_open reply.nonce) change grown)
      (stays-replied_to reply (with_nonce (seen ledger settings m change).requests reply.nonce) change grown)

  stays-carried : (dest : Addr) (port : ℕ) (request : Option MapRequest) (change : Change S) → P change → P (carried ledger settings m dest port request change).change
  stays-carried dest port None change grown = grown
  stays-carried dest port (Some request) change grown = stays-requested _ request change grown

  stays-message : (route : Route) (read : Message) (change : Change S) → P change → P (message_heard ledger settings m route read change).change
  stays-message route (message.Request request) change grown = stays-requested _ request change grown
  stays-message route (message.Reply reply) change grown = stays-reply route.from reply change grown
  stays-message route (message.Control ecm) change grown = stays-carried route.dest ecm.source_port ecm.request change grown

  stays-read : (route : Route) (read : Option Message) (change : Change S) → P change → P (read_heard ledger settings m route read change).change
  stays-read route None change grown = grown
  stays-read route (Some read) change grown = stays-message route read change grown

  stays-unless : (o : Option Refused) (change : Change S) (others : Heard S) → P change → P others.change → P (unless_refused ledger settings m o change others).change
  stays-unless None change others grown grown_others = grown_others
  stays-unless (Some refused) change others grown grown_others = grown

  stays-payload : (route : Route) (base : ℕ) (payload : List ℕ) (change : Change S) → P change → P (payload_heard ledger settings m route base payload change).change
  unfolding payload_heard
  stays-payload route base payload change grown =
      stays-unless (first_failing (message_rules base payload)) change _ grown (stays-read route (message_in payload) change grown)

  stays-datagram : (d : Datagram) (change : Change S) → P change → P (datagram_heard ledger settings m d change).change
  unfolding datagram_heard
  stays-datagram d change grown =
      stays-unless (first_failing (sum_rules d.packet.base d.packet.header d.packet.octets d.udp false)) change _ grown (stays-payload _ _ _ change grown)

  stays-course : (course : Course) (change : Change S) → P change → P (course_heard ledger settings m course change).change
  stays-course (Settled verdict) change grown = grown
  stays-course (Data d) change grown = grown
  stays-course (Control d) change grown = stays-datagram d change grown
  stays-course (Leaving iid packet) change grown = grown

  pub stays-heard : (frame : Frame) (change : Change S) → P change → P (hear_by ledger settings m frame change).change
  stays-heard frame change grown = stays-course (course_of settings frame) change grown
