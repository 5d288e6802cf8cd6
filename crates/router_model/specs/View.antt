-- The view of a journal at a moment: the answers to all questions of a decision.
use Rattle.std.specs.Prelude.{◌≡◌, ℕ, Bool, List, Option}
use Rattle.ip_headers.specs.declared.addr.Addr.{Addr}
use Rattle.mapping_records.specs.declared.eid.Eid.{Eid}
use Rattle.router_log.specs.declared.kept.EchoOut.{EchoOut}
use Rattle.request_queue.specs.declared.request.Request.{Request}
use Rattle.router_model.specs.Journal.{Journal, at, drawn}
use Rattle.router_model.specs.Mappings.{Held, live_mappings}
use Rattle.locator_state.specs.Echoes.{data_due, echo_on, echo_out, may_start, may_want}
use Rattle.locator_state.specs.Observed.{Observed, is_up}
use Rattle.locator_state.specs.Probes.{last_probe, probe_count, probe_open}
use Rattle.locator_state.specs.Solicits.{may_solicit}
use Rattle.router_model.specs.Observed.{observed}
use Rattle.router_model.specs.Requests.{open_requests}

-- a view: all by which decisions and entries are judged
pub record View : Type 0 where
  -- the moment as of which questions are answered
  pub now : ℕ
  -- the live mappings, in order of EID
  pub mappings : List Held
  -- the open requests, in asking order
  pub requests : List Request
  -- the locator of the open probe with a nonce
  pub probe_open : ℕ → Option Addr
  -- the moment of a locator's last probe, if it counts
  pub last_probe : Addr → Option ℕ
  -- the number of probes that count
  pub probe_count : ℕ
  -- whether neither probes nor echoes count against a locator
  pub up : Addr → Bool
  -- the nonce of the echo that is requested of a locator
  pub echo_on : Addr → Option ℕ
  -- whether an echo is requested of a locator, and no packet came from it since
  pub data_due : Addr → Bool
  -- how a header to a locator deals with echoes
  pub echo_out : Addr → EchoOut
  -- whether an echo may be requested of a locator
  pub may_start : Addr → Bool
  -- whether the wish of a locator for an echo of a nonce may be noted
  pub may_want : Addr → ℕ → Bool
  -- whether a locator may be solicited for an EID
  pub may_solicit : Addr → Eid → Bool
  -- the number of nonces used
  pub drawn : ℕ

-- the view of the mappings, requests and observations that count now
abbrev pub view_of : ℕ → List Held → List Request → Observed → ℕ → View
view_of now mappings requests o drawn = record {
  now = now;
  mappings = mappings;
  requests = requests;
  probe_open = probe_open now o.probes;
  last_probe = last_probe now o.probes;
  probe_count = probe_count now o.probes;
  up = is_up now o;
  echo_on = echo_on now o.starts;
  data_due = data_due now o.starts;
  echo_out = echo_out now o.starts o.wishes;
  may_start = may_start now o.starts o.wishes;
  may_want = may_want now o.wishes;
  may_solicit = may_solicit now o.solicits;
  drawn = drawn;
}

-- the view of a journal at exactly that moment
abbrev pub seen_at : Journal → ℕ → View
seen_at journal now =
    view_of now (live_mappings now journal) (open_requests now journal) (observed journal) (drawn journal)

-- the view of a journal at m, or at its last entry if that is later
unfoldable pub view : Journal → ℕ → View
view journal m = seen_at journal (at journal m)

-- two views answer each question alike
pub record Agrees (v w : View) : Type 0 where
  pub now : v.now ≡ w.now
  pub mappings : v.mappings ≡ w.mappings
  pub requests : v.requests ≡ w.requests
  pub probe_open : (nonce : ℕ) → v.probe_open nonce ≡ w.probe_open nonce
  pub last_probe : (rloc : Addr) → v.last_probe rloc ≡ w.last_probe rloc
  pub probe_count : v.probe_count ≡ w.probe_count
  pub up : (rloc : Addr) → v.up rloc ≡ w.up rloc
  pub echo_on : (rloc : Addr) → v.echo_on rloc ≡ w.echo_on rloc
  pub data_due : (rloc : Addr) → v.data_due rloc ≡ w.data_due rloc
  pub echo_out : (rloc : Addr) → v.echo_out rloc ≡ w.echo_out rloc
  pub may_start : (rloc : Addr) → v.may_start rloc ≡ w.may_start rloc
  pub may_want : (rloc : Addr) (nonce : ℕ) → v.may_want rloc nonce ≡ w.may_want rloc nonce
  pub may_solicit : (rloc : Addr) (eid : Eid) → v.may_solicit rloc eid ≡ w.may_solicit rloc eid
  pub drawn : v.drawn ≡ w.drawn
