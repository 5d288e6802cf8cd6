-- Views that answer alike are equal, so what is decided by one is decided by the other.
use Rattle.std.specs.Prelude.{◌≡◌, ℕ, false, true, None, Some, refl}
use Rattle.ip_headers.specs.declared.addr.Addr.{Addr}
use Rattle.mapping_records.specs.Eids.{same_address}
use Rattle.lisp_settings.specs.declared.settings.Settings.{Settings}
use Rattle.map_messages.specs.declared.message.MapReply.{MapReply}
use Rattle.router_log.specs.declared.verdict.Reason.TheVariants.{Foreign, Unsolicited}
use Rattle.router_model.specs.Changes.{Change, Ledger, seen}
use Rattle.router_model.specs.Hear.{drops, reply_heard}
use Rattle.request_queue.specs.Queue.{with_nonce}
use Rattle.router_model.specs.View.{Agrees, View}

-- each question at its place on the way from one view to the other
pub agrees-equal : {v w : View} → Agrees v w → v ≡ w
agrees-equal a = λ i. record {
  now = a.now i;
  mappings = a.mappings i;
  requests = a.requests i;
  probe_open = λ nonce. a.probe_open nonce i;
  last_probe = λ rloc. a.last_probe rloc i;
  probe_count = a.probe_count i;
  up = λ rloc. a.up rloc i;
  echo_on = λ rloc. a.echo_on rloc i;
  data_due = λ rloc. a.data_due rloc i;
  echo_out = λ rloc. a.echo_out rloc i;
  may_start = λ rloc. a.may_start rloc i;
  may_want = λ rloc nonce. a.may_want rloc nonce i;
  may_solicit = λ rloc eid. a.may_solicit rloc eid i;
  drawn = a.drawn i;
}

-- a reply to no open request is dropped, and nothing changes
pub reply_heard-unsolicited : {S : Type 0} (ledger : Ledger S) (settings : Settings) (m : ℕ) (from : Addr) (reply : MapReply) (change : Change S) → reply.probe ≡ false → with_nonce (seen ledger settings m change).requests reply.nonce ≡ None → reply_heard ledger settings m from reply change ≡ drops Unsolicited change
unfolding reply_heard
reply_heard-unsolicited ledger settings m from reply change plain closed = rw (plain, closed) refl

-- so is an answer to no open probe
pub probe_heard-unsolicited : {S : Type 0} (ledger : Ledger S) (settings : Settings) (m : ℕ) (from : Addr) (reply : MapReply) (change : Change S) → reply.probe ≡ true → (seen ledger settings m change).probe_open reply.nonce ≡ None → reply_heard ledger settings m from reply change ≡ drops Unsolicited change
unfolding reply_heard
probe_heard-unsolicited ledger settings m from reply change probe closed = rw (probe, closed) refl

-- and one from another address
pub probe_heard-foreign : {S : Type 0} (ledger : Ledger S) (settings : Settings) (m : ℕ) (from rloc : Addr) (reply : MapReply) (change : Change S) → reply.probe ≡ true → (seen ledger settings m change).probe_open reply.nonce ≡ Some rloc → same_address rloc from ≡ false → reply_heard ledger settings m from reply change ≡ drops Foreign change
unfolding reply_heard
probe_heard-foreign ledger settings m from rloc reply change probe found other = rw (probe, found, other) refl
