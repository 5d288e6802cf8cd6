-- Limits of an instance keep instances apart: requests and learned mappings of one of them depend on its own part of
-- the journal alone.
use Rattle.std.specs.Prelude.{◌≡◌, ℕ, ◌+◌, ◌≤◌, ◌==◌, ◌||◌, ◌&&◌, Bool, false, true, [], ◌∷◌, filter, length, Option, Some, None, is_some, option_and_then, option_map, if◌then◌else◌}
use Rattle.std.specs.List.{list_all}
use Rattle.std.specs.Option.{option_or}
use Rattle.octets.specs.Rules.{first_failing}
use Rattle.ip_headers.specs.Udp.{payload_in, sum_rules}
use Rattle.ip_headers.specs.declared.addr.Addr.{Addr}
use Rattle.capture_io.specs.Frame.{Frame}
use Rattle.mapping_records.specs.declared.eid.Eid.{Eid}
use Rattle.map_messages.specs.Message.{message_rules}
use Rattle.map_messages.specs.declared.message.MapReply.{MapReply}
use Rattle.map_messages.specs.declared.message.Message.{Message}
use Rattle.map_messages.specs.declared.message.Message.TheVariants as message
use Rattle.lisp_settings.specs.declared.settings.Settings.{Settings}
use Rattle.request_queue.specs.Limits.{request_seconds}
use Rattle.request_queue.specs.Queue.{with_nonce}
use Rattle.request_queue.specs.declared.request.Request.{Request}
use Rattle.router_log.specs.Moments.{younger}
use Rattle.router_log.specs.declared.entry.Entry.TheVariants.{Asked}
use Rattle.router_log.specs.declared.notice.Notice.{Notice}
use Rattle.router_log.specs.declared.notice.Notice.TheVariants as notice
use Rattle.router_model.specs.Apart.{AreApart}
use Rattle.router_model.specs.Changes.{journal as of_journal, unchanged}
use Rattle.router_model.specs.Course.{Course, Control, Datagram, course_of}
use Rattle.router_model.specs.Hear.{Heard, hear, reply_heard}
use Rattle.router_model.specs.Isolation.{of_instance}
use Rattle.router_model.specs.Journal.{Journal, last_moment, IsRising}
use Rattle.router_model.specs.Lifting.{is_bounded}
use Rattle.router_model.specs.Limits.{most_message_records}
use Rattle.router_model.specs.Note.{note}
use Rattle.router_model.specs.Received.{message_in}
use Rattle.router_model.specs.Requests.{open_requests}
use Rattle.router_model.specs.Standing.{standing}
use Rattle.router_model.specs.View.{View, view}

-- ### the premise on nonces

-- whether a request with that nonce was sent within the time for which requests wait
abbrev pub asked_since : ℕ → ℕ → Journal → Bool
asked_since now nonce [] = false
asked_since now nonce (Asked moment eid source invoked asked ∷ before) =
    (asked == nonce) && younger now request_seconds moment || asked_since now nonce before
asked_since now nonce (_ ∷ before) = asked_since now nonce before

-- no two requests that were sent within the time for which requests wait share a nonce
abbrev pub NoncesDiffer : ℕ → Journal → Type 0
NoncesDiffer now [] = Unit {0}
NoncesDiffer now (Asked moment eid source invoked nonce ∷ before) =
    ((younger now request_seconds moment && asked_since now nonce before) ≡ false) × NoncesDiffer now before
NoncesDiffer now (_ ∷ before) = NoncesDiffer now before

-- ### what is asked and what is learned

-- the EID that a notice is of: one that may be requested, or one of whose locators it has status bits; else None
abbrev pub notice_eid : Notice → Option Eid
notice_eid (notice.Ask eid source) = Some eid
notice_eid (notice.Refresh eid) = Some eid
notice_eid (notice.Bits eid rloc bits width) = Some eid
notice_eid _ = None

-- the instance of the EID that a notice is of; None for a notice of a locator, because all instances share the state of
-- locators
abbrev pub notice_instance : Notice → Option ℕ
notice_instance told = option_map (λ (eid : Eid). eid.iid) (notice_eid told)

-- the message of a datagram, if its checksum and its octets keep their rules
abbrev pub message_of : Datagram → Option Message
message_of d =
    let payload = payload_in d.packet.octets d.udp in
    let sum = first_failing (sum_rules d.packet.base d.packet.header d.packet.octets d.udp false) in
    let rules = first_failing (message_rules (d.packet.base + d.udp.at + 8) payload) in
    if is_some (option_or sum rules) then None else message_in payload

-- the instance of the open request that a message answers; None for the answer to a probe
abbrev pub answered_instance : View → Message → Option ℕ
answered_instance v (message.Reply reply) =
    if reply.probe then None else option_map (λ (request : Request). request.eid.iid) (with_nonce v.requests reply.nonce)
answered_instance v _ = None

-- the instance of the open request that a control message answers, by the course of its frame
abbrev pub course_instance : View → Course → Option ℕ
course_instance v (Control d) = option_and_then (answered_instance v) (message_of d)
course_instance v _ = None

-- the instance of the open request that a frame answers
abbrev pub heard_instance : Settings → View → Frame → Option ℕ
heard_instance settings v frame = course_instance v (course_of settings frame)

-- two messages were heard alike: the same verdict, and the same entries
pub record AreAlike {S T : Type 0} (one : Heard S) (other : Heard T) : Type 0 where
  pub verdict : one.verdict ≡ other.verdict
  pub entries : one.change.entries ≡ other.change.entries

-- a Map-Reply as it is read: its records fit their bits, and are at most as many as its count of 8 bits holds
pub record IsRead (reply : MapReply) : Type 0 where
  pub bounded : list_all is_bounded reply.mappings ≡ true
  pub few : length reply.mappings ≤ most_message_records

-- ### what is promised of journals

-- the open requests of an instance are those by its own journal, where no two young requests share a nonce
abbrev pub RequestsIsolated : Type 0
RequestsIsolated = (journal : Journal) (i now : ℕ) → IsRising journal → NoncesDiffer now journal → filter (λ (request : Request). request.eid.iid == i) (open_requests now journal) ≡ open_requests now (of_instance journal i)

-- a notice for an EID of an instance makes the same entries and packets as by the instance's journal, but for nonces
abbrev pub NotesIsolated : Type 0
NotesIsolated = (settings : Settings) (journal : Journal) (i m : ℕ) (told : Notice) → IsRising journal → last_moment journal ≤ m → NoncesDiffer m journal → notice_instance told ≡ Some i → AreApart (note settings journal m told) (note settings (of_instance journal i) m told)

-- a reply to an open request of an instance is heard as by the instance's own journal: the same records are learned
abbrev pub LearningIsolated : Type 0
LearningIsolated = (settings : Settings) (journal : Journal) (i m : ℕ) (from : Addr) (reply : MapReply) (request : Request) → IsRising journal → last_moment journal ≤ m → NoncesDiffer m journal → reply.probe ≡ false → with_nonce (open_requests m journal) reply.nonce ≡ Some request → request.eid.iid ≡ i → AreAlike (reply_heard of_journal settings m from reply (unchanged journal)) (reply_heard of_journal settings m from reply (unchanged (of_instance journal i)))

-- a frame that answers an open request of an instance is heard as by the instance's own journal: the same verdict, the
-- same entries, and no packets
abbrev pub HearsIsolated : Type 0
HearsIsolated = (settings : Settings) (journal : Journal) (i m : ℕ) (frame : Frame) → IsRising journal → last_moment journal ≤ m → NoncesDiffer m journal → heard_instance (standing settings journal) (view journal m) frame ≡ Some i → let all = hear settings journal m frame in let mine = hear settings (of_instance journal i) m frame in AreAlike all mine × (all.change.emits ≡ []) × (mine.change.emits ≡ [])
