-- Control messages, heard by a router with other nonces.
use Rattle.std.proofs.Common.{◌≡◌, ℕ, ◌<◌, ◌+◌, ◌==◌, ◌&&◌, not, Bool, true, false, cond, List, length, Option, Some, None, ◌⊎◌, inl, inr, refl, sym, ap, subst}
use Rattle.octets.specs.Rules.{first_failing}
use Rattle.octets.specs.declared.refused.Refused.{Refused}
use Rattle.ip_headers.specs.Udp.{payload_in, sum_rules}
use Rattle.ip_headers.specs.declared.addr.Addr.{Addr}
use Rattle.capture_io.specs.Frame.{Frame}
use Rattle.mapping_records.specs.Eids.{same_address}
use Rattle.mapping_records.specs.declared.eid.Eid.{Eid}
use Rattle.mapping_records.specs.declared.record.Record.{Record}
use Rattle.map_messages.specs.Message.{message_rules}
use Rattle.map_messages.specs.declared.message.MapReply.{MapReply}
use Rattle.map_messages.specs.declared.message.MapRequest.{MapRequest}
use Rattle.map_messages.specs.declared.message.Message.{Message}
use Rattle.map_messages.specs.declared.message.Message.TheVariants as message
use Rattle.lisp_settings.specs.Instances.{limits_in}
use Rattle.lisp_settings.specs.declared.settings.Settings.{Settings}
use Rattle.request_queue.specs.Queue.{with_nonce}
use Rattle.request_queue.specs.declared.request.Request.{Request}
use Rattle.router_log.specs.declared.entry.Entry.TheVariants as entry
use Rattle.router_model.specs.Changes.{Change, each, entered, has_room, journal as of_journal, seen}
use Rattle.router_model.specs.Course.{Course, Settled, Data, Control, Leaving, Datagram, course_of, packet_course}
use Rattle.router_model.specs.Hear.{Asker, Heard, Path, Range, Route, answered, answering, asked_again, carried, counted, course_heard, datagram_heard, drops, hear_by, is_asked_for, is_fit, is_static, message_heard, payload_heard, probe_replied, ranges_of, read_heard, renewable, renewed, replied, replied_to, reply_heard, reply_of, reply_path, requested, route_of, shortened, takes, tallied, taught, unless_refused}
use Rattle.router_log.specs.declared.verdict.Done.TheVariants.{ProbeReply}
use Rattle.router_log.specs.declared.verdict.Reason.TheVariants.{Foreign, NotOurs, Unfit}
use Rattle.router_model.specs.Journal.{Journal, drawn}
use Rattle.router_model.specs.Mappings.{force}
use Rattle.router_model.specs.Received.{message_in}
use Rattle.audit_laws.specs.Drawn.{nonce_at, with_nonces}
use Rattle.audit_laws.proofs.AlikeLemmas.{Alike, IsPast, alike-asked, alike-each, alike-entered, alike-if, alike-none, alike-then}

-- what is past stays so, and what isn't is heard the same
pub record HeardAlike (n : ℕ) (other hear : Change Journal → Heard Journal) : Type 0 where
  pub kept : (change : Change Journal) → IsPast n change → IsPast n (hear change).change
  pub same : (change : Change Journal) → IsPast n (hear change).change ⊎ (other change ≡ hear change)

module _ (n : ℕ) (settings : Settings) (seed nonces : List ℕ) (agree : (i : ℕ) → i < n → nonce_at (with_nonces settings seed nonces) i ≡ nonce_at settings i) (m : ℕ) where
  abbrev others : Settings
  others = with_nonces settings seed nonces

  heard-self : (hear : Change Journal → Heard Journal) → ((change : Change Journal) → IsPast n change → IsPast n (hear change).change) → HeardAlike n hear hear
  heard-self hear kept = record { kept = kept; same = λ change. inr refl }

  heard-by : (test : Change Journal → Bool) (one_other one two_other two : Change Journal → Heard Journal) → HeardAlike n one_other one → HeardAlike n two_other two
      → HeardAlike n (λ change. cond (test change) (one_other change) (two_other change)) (λ change. cond (test change) (one change) (two change))
  heard-by test one_other one two_other two first second = record { kept = λ change past. kept change past (test change); same = λ change. same change (test change) }
    where
      kept : (change : Change Journal) → IsPast n change → (b : Bool) → IsPast n (cond b (one change) (two change)).change
      kept change past true = first.kept change past
      kept change past false = second.kept change past

      same : (change : Change Journal) (b : Bool) → IsPast n (cond b (one change) (two change)).change ⊎ (cond b (one_other change) (two_other change) ≡ cond b (one change) (two change))
      same change true = first.same change
      same change false = second.same change

  -- a change, and what is said of it
  heard-of : (tell : Change Journal → Heard Journal) (other step : Change Journal → Change Journal) → ((change : Change Journal) → (tell change).change ≡ change) → Alike n other step → HeardAlike n (λ change. tell (other change)) (λ change. tell (step change))
  heard-of tell other step keeps alike = record {
    kept = λ change past. subst (IsPast n) (sym (keeps (step change))) (alike.kept change past);
    same = λ change. by change (alike.same change);
  }
    where
      by : (change : Change Journal) → IsPast n (step change) ⊎ (other change ≡ step change) → IsPast n (tell (step change)).change ⊎ (tell (other change) ≡ tell (step change))
      by change (inl past) = inl (subst (IsPast n) (sym (keeps (step change))) past)
      by change (inr is) = inr (ap tell is)

  heard-unless : (o : Option Refused) (other hear : Change Journal → Heard Journal) → HeardAlike n other hear
      → HeardAlike n (λ change. unless_refused of_journal others m o change (other change)) (λ change. unless_refused of_journal settings m o change (hear change))
  heard-unless None other hear alike = alike
  heard-unless (Some refused) other hear alike = heard-self (λ change. unless_refused of_journal settings m (Some refused) change (hear change)) (λ change past. past)

  alike-again : (eid : Option Eid) → Alike n (asked_again of_journal others m eid) (asked_again of_journal settings m eid)
  alike-again None = alike-none n
  alike-again (Some eid) = alike-asked n settings seed nonces agree m eid None true

  alike-renewed : (range : Range) → Alike n (renewed of_journal others m range) (renewed of_journal settings m range)
  alike-renewed range = record {
    kept = λ change past. (alike-again (found change)).kept change past;
    same = λ change. (alike-again (found change)).same change;
  }
    where
      found : Change Journal → Option Eid
      found change = renewable settings (limits_in settings) (seen of_journal settings m change) (force (seen of_journal settings m change).mappings range.iid range.addr range.len)

  heard-answered : (asker : Asker) (request : MapRequest) → HeardAlike n (answered others asker request) (answered settings asker request)
  heard-answered asker request = heard-self (answered settings asker request) (λ change past. subst (λ k. n < k) (sym (ap drawn (same change))) past)
    where
      replied_same : (reply : MapReply) (path : Option Path) (change : Change Journal) → (replied asker reply path change).change.after ≡ change.after
      replied_same reply None change = refl
      replied_same reply (Some path) change = refl

      by : (b : Bool) (change : Change Journal) (hear : Heard Journal) → hear.change.after ≡ change.after → (cond b (drops NotOurs change) hear).change.after ≡ change.after
      by true change hear is = refl
      by false change hear is = is

      same : (change : Change Journal) → (answered settings asker request change).change.after ≡ change.after
      same change =
          by (length (answering settings.databases request.eids) == 0) change _
          (replied_same (reply_of settings asker request (answering settings.databases request.eids)) (reply_path settings asker request) change)

  heard-requested : (asker : Asker) (request : MapRequest) → HeardAlike n (requested of_journal others m asker request) (requested of_journal settings m asker request)
  unfolding requested
  heard-requested asker request =
      heard-by (λ change. request.smr && not asker.probe) _ _ _ _
      (heard-of (counted of_journal settings m) (each (renewed of_journal others m) (ranges_of request)) (each (renewed of_journal settings m) (ranges_of request)) (λ change. refl)
      (alike-each n (renewed of_journal others m) (renewed of_journal settings m) alike-renewed (ranges_of request)))
      (heard-answered asker request)

  alike-taught : (eid : Eid) (mappings : List Record) (mapping : Record) → Alike n (taught of_journal others m eid mappings mapping) (taught of_journal settings m eid mappings mapping)
  alike-taught eid mappings mapping =
      alike-if n (λ change. is_asked_for eid mappings mapping && (not (is_static settings mapping) && has_room (limits_in settings) (seen of_journal settings m change) mapping)) _ _
      (alike-entered n settings seed nonces agree m (λ change. entry.Learned m (shortened mapping) false))

  heard-replied_to : (reply : MapReply) (o : Option Request) → HeardAlike n (replied_to of_journal others m reply o) (replied_to of_journal settings m reply o)
  heard-replied_to reply None = heard-self (replied_to of_journal settings m reply None) (λ change past. past)
  heard-replied_to reply (Some request) =
      heard-by (λ change. is_fit request.eid reply.mappings) _ _ _ _
      (heard-of (tallied of_journal settings m reply) _ _ (λ change. refl)
      (alike-then n (entered of_journal others m (entry.Answered m reply.nonce)) (entered of_journal settings m (entry.Answered m reply.nonce))
      (each (taught of_journal others m request.eid reply.mappings) reply.mappings) (each (taught of_journal settings m request.eid reply.mappings) reply.mappings) (alike-entered n settings seed nonces agree m (λ change. entry.Answered m reply.nonce))
      (alike-each n (taught of_journal others m request.eid reply.mappings) (taught of_journal settings m request.eid reply.mappings) (alike-taught request.eid reply.mappings) reply.mappings)))
      (heard-self (drops Unfit) (λ change past. past))

  heard-probe_replied : (from : Addr) (reply : MapReply) (o : Option Addr) → HeardAlike n (probe_replied of_journal others m from reply o) (probe_replied of_journal settings m from reply o)
  heard-probe_replied from reply None = heard-self (probe_replied of_journal settings m from reply None) (λ change past. past)
  heard-probe_replied from reply (Some rloc) =
      heard-by (λ change. same_address rloc from) _ _ _ _
      (heard-of (takes ProbeReply) _ _ (λ change. refl) (alike-entered n settings seed nonces agree m (λ change. entry.ProbeAnswered m reply.nonce)))
      (heard-self (drops Foreign) (λ change past. past))

  -- by what is seen of the change
  heard-read_of : {A : Type 0} (read : Change Journal → A) (other hear : A → Change Journal → Heard Journal) → ((a : A) → HeardAlike n (other a) (hear a)) → HeardAlike n (λ change. other (read change) change) (λ change. hear (read change) change)
  heard-read_of read other hear one = record { kept = λ change past. (one (read change)).kept change past; same = λ change. (one (read change)).same change }

  heard-reply : (from : Addr) (reply : MapReply) → HeardAlike n (reply_heard of_journal others m from reply) (reply_heard of_journal settings m from reply)
  unfolding reply_heard
  heard-reply from reply =
      heard-by (λ change. reply.probe) _ _ _ _
      (heard-read_of (λ change. (seen of_journal settings m change).probe_open reply.nonce) (probe_replied of_journal others m from reply) (probe_replied of_journal settings m from reply) (heard-probe_replied from reply))
      (heard-read_of (λ change. with_nonce (seen of_journal settings m change).requests reply.nonce) (replied_to of_journal others m reply) (replied_to of_journal settings m reply) (heard-replied_to reply))

  heard-carried : (dest : Addr) (port : ℕ) (request : Option MapRequest) → HeardAlike n (carried of_journal others m dest port request) (carried of_journal settings m dest port request)
  heard-carried dest port None = heard-self (carried of_journal settings m dest port None) (λ change past. past)
  heard-carried dest port (Some request) = heard-requested (record { dest = dest; port = port; probe = false }) request

  heard-message : (route : Route) (read : Message) → HeardAlike n (message_heard of_journal others m route read) (message_heard of_journal settings m route read)
  heard-message route (message.Request request) = heard-requested (record { dest = route.dest; port = route.port; probe = request.probe }) request
  heard-message route (message.Reply reply) = heard-reply route.from reply
  heard-message route (message.Control ecm) = heard-carried route.dest ecm.source_port ecm.request

  heard-read : (route : Route) (read : Option Message) → HeardAlike n (read_heard of_journal others m route read) (read_heard of_journal settings m route read)
  heard-read route None = heard-self (read_heard of_journal settings m route None) (λ change past. past)
  heard-read route (Some read) = heard-message route read

  heard-payload : (route : Route) (base : ℕ) (payload : List ℕ) → HeardAlike n (payload_heard of_journal others m route base payload) (payload_heard of_journal settings m route base payload)
  unfolding payload_heard
  heard-payload route base payload = heard-unless (first_failing (message_rules base payload)) _ _ (heard-read route (message_in payload))

  heard-datagram : (d : Datagram) → HeardAlike n (datagram_heard of_journal others m d) (datagram_heard of_journal settings m d)
  unfolding datagram_heard
  heard-datagram d =
      heard-unless (first_failing (sum_rules d.packet.base d.packet.header d.packet.octets d.udp false)) _ _
      (heard-payload (route_of d) (d.packet.base + d.udp.at + 8) (payload_in d.packet.octets d.udp))

  heard-course : (course : Course) → HeardAlike n (course_heard of_journal others m course) (course_heard of_journal settings m course)
  heard-course (Settled verdict) = heard-self (course_heard of_journal settings m (Settled verdict)) (λ change past. past)
  heard-course (Data d) = heard-self (course_heard of_journal settings m (Data d)) (λ change past. past)
  heard-course (Control d) = heard-datagram d
  heard-course (Leaving iid packet) = heard-self (course_heard of_journal settings m (Leaving iid packet)) (λ change past. past)

  pub alike-heard : (frame : Frame) → HeardAlike n (hear_by of_journal others m frame) (hear_by of_journal settings m frame)
  unfolding packet_course
  alike-heard frame = heard-course (course_of settings frame)
