-- A message that is dropped changes nothing.
use Rattle.std.proofs.Common.{◌≡◌, ℕ, ◌==◌, ◌&&◌, not, Bool, true, false, cond, List, length, Option, Some, None, ap}
use Rattle.octets.specs.Rules.{first_failing}
use Rattle.octets.specs.declared.refused.Refused.{Refused}
use Rattle.ip_headers.specs.Udp.{sum_rules}
use Rattle.ip_headers.specs.declared.addr.Addr.{Addr}
use Rattle.mapping_records.specs.Eids.{same_address}
use Rattle.lisp_settings.specs.declared.settings.Settings.{Settings}
use Rattle.map_messages.specs.Message.{message_rules}
use Rattle.map_messages.specs.declared.message.MapReply.{MapReply}
use Rattle.map_messages.specs.declared.message.MapRequest.{MapRequest}
use Rattle.map_messages.specs.declared.message.Message.{Message}
use Rattle.map_messages.specs.declared.message.Message.TheVariants as message
use Rattle.request_queue.specs.Queue.{with_nonce}
use Rattle.request_queue.specs.declared.request.Request.{Request}
use Rattle.router_log.specs.declared.verdict.Done.{Done}
use Rattle.router_log.specs.declared.verdict.Reason.{Reason}
use Rattle.router_log.specs.declared.verdict.Reason.TheVariants.{Foreign, NoReplyPath, NotOurs, NotTunnel, Unexpected, Unfit, Unsolicited}
use Rattle.router_log.specs.declared.verdict.Reason.TheVariants as reason
use Rattle.router_log.specs.declared.verdict.Verdict.TheVariants.{Drop}
use Rattle.router_model.specs.Changes.{Change, Ledger, each, seen}
use Rattle.router_model.specs.Course.{Course, Settled, Data, Control, Leaving, Datagram}
use Rattle.router_model.specs.Hear.{Asker, Heard, Path, Route, answered, answering, carried, counted, course_heard, datagram_heard, drops, is_fit, message_heard, payload_heard, probe_replied, ranges_of, read_heard, renewed, replied, replied_to, reply_heard, reply_of, reply_path, requested, takes, unless_refused}
use Rattle.router_model.specs.Received.{message_in}

-- where the verdict is a drop, nothing else came
abbrev pub Still : {S : Type 0} → Heard S → Change S → Type 0
Still heard change = (why : Reason) → heard.verdict ≡ Drop why → heard ≡ drops why change

module _ {S : Type 0} where
  dropped : (why : Reason) (change : Change S) → Still (drops why change) change
  dropped why change other is = ap (λ v. record { verdict = v; change = change }) is

  taken : (done : Done) (after change : Change S) → Still (takes done after) change
  taken done after change why is = absurd cc

  chosen : (b : Bool) (done : Done) (after : Change S) (why : Reason) (change : Change S) → Still (cond b (takes done after) (drops why change)) change
  chosen true done after why change = taken done after change
  chosen false done after why change = dropped why change

  replied-still : (asker : Asker) (reply : MapReply) (path : Option Path) (change : Change S) → Still (replied asker reply path change) change
  replied-still asker reply None change = dropped NoReplyPath change
  replied-still asker reply (Some path) change = taken _ _ change

  answered-still : (settings : Settings) (asker : Asker) (request : MapRequest) (change : Change S) → Still (answered settings asker request change) change
  answered-still settings asker request change = by (length (answering settings.databases request.eids) == 0)
    where
      reply : MapReply
      reply = reply_of settings asker request (answering settings.databases request.eids)

      by : (b : Bool) → Still (cond b (drops NotOurs change) (replied asker reply (reply_path settings asker request) change)) change
      by true = dropped NotOurs change
      by false = replied-still asker reply (reply_path settings asker request) change

module _ {S : Type 0} (ledger : Ledger S) (settings : Settings) (m : ℕ) where
  refused-still : (o : Option Refused) (change : Change S) (others : Heard S) → Still others change → Still (unless_refused ledger settings m o change others) change
  refused-still None change others still = still
  refused-still (Some refused) change others still = dropped (reason.Refused refused) change

  replied_to-still : (reply : MapReply) (o : Option Request) (change : Change S) → Still (replied_to ledger settings m reply o change) change
  replied_to-still reply None change = dropped Unsolicited change
  replied_to-still reply (Some request) change = chosen (is_fit request.eid reply.mappings) _ _ Unfit change

  probe_replied-still : (from : Addr) (reply : MapReply) (o : Option Addr) (change : Change S) → Still (probe_replied ledger settings m from reply o change) change
  probe_replied-still from reply None change = dropped Unsolicited change
  probe_replied-still from reply (Some rloc) change = chosen (same_address rloc from) _ _ Foreign change

  reply-still : (from : Addr) (reply : MapReply) (change : Change S) → Still (reply_heard ledger settings m from reply change) change
  unfolding reply_heard
  reply-still from reply change = by reply.probe
    where
      by : (b : Bool) → Still (cond b (probe_replied ledger settings m from reply ((seen ledger settings m change).probe_open reply.nonce) change) (replied_to ledger settings m reply (with_nonce (seen ledger settings m change).requests reply.nonce) change)) change
      by true = probe_replied-still from reply ((seen ledger settings m change).probe_open reply.nonce) change
      by false = replied_to-still reply (with_nonce (seen ledger settings m change).requests reply.nonce) change

  requested-still : (asker : Asker) (request : MapRequest) (change : Change S) → Still (requested ledger settings m asker request change) change
  unfolding requested
  requested-still asker request change = by (request.smr && not asker.probe)
    where
      by : (b : Bool) → Still (cond b (counted ledger settings m (each (renewed ledger settings m) (ranges_of request) change)) (answered settings asker request change)) change
      by true = taken _ _ change
      by false = answered-still settings asker request change

  carried-still : (dest : Addr) (port : ℕ) (request : Option MapRequest) (change : Change S) → Still (carried ledger settings m dest port request change) change
  carried-still dest port None change = dropped Unexpected change
  carried-still dest port (Some request) change = requested-still _ request change

  message-still : (route : Route) (read : Message) (change : Change S) → Still (message_heard ledger settings m route read change) change
  message-still route (message.Request request) change = requested-still _ request change
  message-still route (message.Reply reply) change = reply-still route.from reply change
  message-still route (message.Control ecm) change = carried-still route.dest ecm.source_port ecm.request change

  read-still : (route : Route) (read : Option Message) (change : Change S) → Still (read_heard ledger settings m route read change) change
  read-still route None change = dropped Unexpected change
  read-still route (Some read) change = message-still route read change

  payload-still : (route : Route) (base : ℕ) (payload : List ℕ) (change : Change S) → Still (payload_heard ledger settings m route base payload change) change
  unfolding payload_heard
  payload-still route base payload change =
      refused-still (first_failing (message_rules base payload)) change _ (read-still route (message_in payload) change)

  datagram-still : (d : Datagram) (change : Change S) → Still (datagram_heard ledger settings m d change) change
  unfolding datagram_heard
  datagram-still d change =
      refused-still (first_failing (sum_rules d.packet.base d.packet.header d.packet.octets d.udp false)) change _ (payload-still _ _ _ change)

  pub course-still : (course : Course) (change : Change S) → Still (course_heard ledger settings m course change) change
  course-still (Settled verdict) change = dropped NotTunnel change
  course-still (Data d) change = dropped NotTunnel change
  course-still (Control d) change = datagram-still d change
  course-still (Leaving iid packet) change = dropped NotTunnel change
