-- Laws that a tenant decides, requests and learns as if the other tenants weren't there, nonces apart. Left out is the
-- state that all tenants share: locators (probes and echoes), own locators and their changes, the probes of a second,
-- which locators get an SMR, and which seconds begin.
use Rattle.std.specs.Prelude.{◌≡◌, ℕ, max, ◌≤◌, ◌==◌, not, Bool, true, false, filter, length, map, Some}
use Rattle.std.specs.List.{list_all}
use Rattle.std.specs.Option.{option_map_or}
use Rattle.ip_headers.specs.declared.addr.Addr.{Addr}
use Rattle.capture_io.specs.Frame.{Frame}
use Rattle.mapping_records.specs.declared.eid.Eid.{Eid}
use Rattle.map_messages.specs.declared.message.MapReply.{MapReply}
use Rattle.map_messages.specs.declared.message.MapRequest.{MapRequest}
use Rattle.lisp_settings.specs.declared.settings.Settings.{Settings}
use Rattle.request_queue.specs.Queue.{due, with_nonce}
use Rattle.request_queue.specs.declared.request.Request.{Request}
use Rattle.router_log.specs.Moments.{seconds}
use Rattle.router_log.specs.declared.notice.Notice.{Notice}
use Rattle.router_log.specs.declared.notice.Notice.TheVariants as notice
use Rattle.router_model.specs.Apart.{AreOneIn, StayOne, HeardAsOne, by_number, number_of, numbered}
use Rattle.router_model.specs.Changes.{journal as of_journal, unchanged}
use Rattle.router_model.specs.Decide.{decide_by}
use Rattle.router_model.specs.Hear.{Asker, Range, ranges_of, reply_heard, requested}
use Rattle.router_model.specs.Isolation.{frame_instance, of_instance}
use Rattle.router_model.specs.Journal.{Journal, IsRising, extended, last_moment}
use Rattle.router_model.specs.Lifting.{MayGo}
use Rattle.router_model.specs.Limits.{most_heard}
use Rattle.router_model.specs.Note.{noted}
use Rattle.router_model.specs.Parts.{Parts, Stands, standing_in, table, view_in}
use Rattle.router_model.specs.Requests.{open_requests}
use Rattle.router_model.specs.Standing.{standing}
use Rattle.router_model.specs.Tenants.{IsRead, NoncesDiffer, notice_eid}
use Rattle.router_model.specs.Tick.{ticked}
use Rattle.router_model.specs.View.{View, seen_at}

-- ### what is promised of decisions

-- whether a notice is of no EID of another instance
abbrev pub is_told_in : ℕ → Notice → Bool
is_told_in i told = option_map_or (λ eid. eid.iid == i) (notice_eid told) true

-- a decision on a frame of an instance gives no notice of an EID of another instance
abbrev pub NoticesOfOne : Type 0
NoticesOfOne = (settings : Settings) (i : ℕ) (v : View) (frame : Frame) → frame_instance settings frame ≡ Some i → list_all (is_told_in i) (decide_by settings v frame).notices ≡ true

-- ### what is promised of journals

-- request numbers in place of nonces change no decision
abbrev pub NumberedDecides : Type 0
NumberedDecides = (settings : Settings) (journal : Journal) (now : ℕ) (frame : Frame) → decide_by (standing settings journal) (seen_at journal now) frame ≡ decide_by (standing settings (numbered journal)) (seen_at (numbered journal) now) frame

-- by request numbers in place of nonces the open requests of a journal are the same, each with its number
abbrev pub NumberedRequests : Type 0
NumberedRequests = (journal : Journal) (now : ℕ) → IsRising journal → NoncesDiffer now journal → open_requests now (numbered journal) ≡ map (by_number journal) (open_requests now journal)

-- the requests of an instance that are due to be sent again are those by the instance's own journal
abbrev pub RetriesIsolated : Type 0
RetriesIsolated = (journal : Journal) (i now : ℕ) → IsRising journal → NoncesDiffer now journal → filter (λ (request : Request). request.eid.iid == i) (filter (due now) (open_requests now journal)) ≡ filter (due now) (open_requests now (of_instance journal i))

-- journals equal for an instance have the same requests of it due for a retry, in the same order, with the same numbers
abbrev pub RetriesApart : Type 0
RetriesApart = (mine theirs : Journal) (i now : ℕ) → IsRising mine × IsRising theirs → NoncesDiffer now mine × NoncesDiffer now theirs → AreOneIn i mine theirs → map (by_number (of_instance mine i)) (filter (due now) (open_requests now (of_instance mine i))) ≡ map (by_number (of_instance theirs i)) (filter (due now) (open_requests now (of_instance theirs i)))

-- a journal and its part of an instance are equal for the instance
abbrev pub PartIsOne : Type 0
PartIsOne = (journal : Journal) (i : ℕ) → AreOneIn i journal (of_instance journal i)

-- an SMR of ranges of an instance is heard as one by journals that are equal for the instance, where no two young
-- requests share a nonce, those that the SMR leads to among them
abbrev pub SolicitedApart : Type 0
SolicitedApart = (settings : Settings) (i m : ℕ) (mine theirs : Journal) (asker : Asker) (request : MapRequest) → IsRising mine × IsRising theirs → (last_moment mine ≤ m) × (last_moment theirs ≤ m) → AreOneIn i mine theirs → request.smr ≡ true → asker.probe ≡ false → list_all (λ (range : Range). range.iid == i) (ranges_of request) ≡ true → let one = requested of_journal (standing settings mine) m asker request (unchanged mine) in let other = requested of_journal (standing settings theirs) m asker request (unchanged theirs) in NoncesDiffer m one.change.after × NoncesDiffer m other.change.after → HeardAsOne i mine theirs one other

-- ### what is promised of tables

-- two tables that stand for journals equal for an instance decide alike on its frames, at questions as of one moment
abbrev pub TablesAlike : Type 0
TablesAlike = (settings : Settings) (one other : Parts) (mine theirs : Journal) (i m n : ℕ) (frame : Frame) → Stands settings one mine → Stands settings other theirs → AreOneIn i mine theirs → max m one.now ≡ max n other.now → frame_instance settings frame ≡ Some i → decide_by (standing_in settings one) (view_in one m) frame ≡ decide_by (standing_in settings other) (view_in other n) frame

-- two tables, `one` and `other`, that stand for journals equal for instance i, `mine` and `theirs`, where both journals
-- may go on at m, and no two young requests of either share a nonce
pub record AreOneTo (settings : Settings) (i m : ℕ) (one other : Parts) (mine theirs : Journal) : Type 0 where
  pub stand : Stands settings one mine × Stands settings other theirs
  pub may : MayGo mine m × MayGo theirs m
  pub same : AreOneIn i mine theirs
  pub differ : NoncesDiffer m mine × NoncesDiffer m theirs

-- two tables that are equal for an instance note alike a notice of an EID of that instance: the same entries and
-- packets but for nonces, or none
abbrev pub TablesAsk : Type 0
TablesAsk = (settings : Settings) (i m : ℕ) (one other : Parts) (mine theirs : Journal) (told : Notice) (eid : Eid) → AreOneTo settings i m one other mine theirs → notice_eid told ≡ Some eid → eid.iid ≡ i → StayOne i mine theirs (noted table (standing_in settings one) m told (unchanged one)) (noted table (standing_in settings other) m told (unchanged other))

-- tables equal for an instance have journals equal for it after any notice of its frames, where echoes are off
abbrev pub NotesStay : Type 0
NotesStay = (settings : Settings) (i m : ℕ) (one other : Parts) (mine theirs : Journal) (told : Notice) → AreOneTo settings i m one other mine theirs → settings.echo ≡ false → is_told_in i told ≡ true → AreOneIn i (extended mine (noted table (standing_in settings one) m told (unchanged one)).entries) (extended theirs (noted table (standing_in settings other) m told (unchanged other)).entries)

-- two tables that are equal for an instance hear alike replies that differ at most in the nonce, each to the request of
-- the instance with the same number: the same records are learned, or none; with equal nonces the entries are equal
abbrev pub TablesLearn : Type 0
TablesLearn = (settings : Settings) (i m : ℕ) (one other : Parts) (mine theirs : Journal) (from : Addr) (reply : MapReply) (nonce : ℕ) (request : Request) → AreOneTo settings i m one other mine theirs → IsRead reply → reply.probe ≡ false → with_nonce (view_in one m).requests reply.nonce ≡ Some request → request.eid.iid ≡ i → number_of reply.nonce (of_instance mine i) ≡ number_of nonce (of_instance theirs i) → let by_one = reply_heard table (standing_in settings one) m from reply (unchanged one) in let by_other = reply_heard table (standing_in settings other) m from (record reply { nonce = nonce }) (unchanged other) in HeardAsOne i mine theirs by_one by_other × (reply.nonce ≡ nonce → by_one.change.entries ≡ by_other.change.entries)

-- two tables that are equal for an instance hear alike an SMR of ranges of that instance: it leads to requests for the
-- same EIDs, where no two young requests share a nonce, those that it leads to among them
abbrev pub TablesSolicited : Type 0
TablesSolicited = (settings : Settings) (i m : ℕ) (one other : Parts) (mine theirs : Journal) (asker : Asker) (request : MapRequest) → AreOneTo settings i m one other mine theirs → request.smr ≡ true → asker.probe ≡ false → length (ranges_of request) ≤ most_heard → list_all (λ (range : Range). range.iid == i) (ranges_of request) ≡ true → let by_one = requested table (standing_in settings one) m asker request (unchanged one) in let by_other = requested table (standing_in settings other) m asker request (unchanged other) in NoncesDiffer m (extended mine by_one.change.entries) × NoncesDiffer m (extended theirs by_other.change.entries) → HeardAsOne i mine theirs by_one by_other

-- two tables that are equal for an instance have journals equal for it after a second without probes: own locators
-- change alike, and the same requests of it are sent again
abbrev pub SecondsStay : Type 0
SecondsStay = (settings : Settings) (i s : ℕ) (one other : Parts) (mine theirs : Journal) → AreOneTo settings i (seconds s) one other mine theirs → settings.probe ≡ false → AreOneIn i (extended mine (ticked table settings (seconds s) (unchanged one)).entries) (extended theirs (ticked table settings (seconds s) (unchanged other)).entries)

-- ### what is promised of other instances

-- a notice of an EID of another instance leaves a table's journal as it was for an instance
abbrev pub OthersNote : Type 0
OthersNote = (settings : Settings) (i m : ℕ) (parts : Parts) (journal : Journal) (told : Notice) (eid : Eid) → notice_eid told ≡ Some eid → (eid.iid == i) ≡ false → of_instance (extended journal (noted table (standing_in settings parts) m told (unchanged parts)).entries) i ≡ of_instance journal i

-- a Map-Reply to a request of another instance leaves a table's journal as it was for an instance
abbrev pub OthersLearn : Type 0
OthersLearn = (settings : Settings) (i m : ℕ) (parts : Parts) (journal : Journal) (from : Addr) (reply : MapReply) (request : Request) → Stands settings parts journal → MayGo journal m → IsRead reply → reply.probe ≡ false → with_nonce (view_in parts m).requests reply.nonce ≡ Some request → (request.eid.iid == i) ≡ false → of_instance (extended journal (reply_heard table (standing_in settings parts) m from reply (unchanged parts)).change.entries) i ≡ of_instance journal i

-- an SMR of ranges of other instances leaves a table's journal as it was for an instance
abbrev pub OthersSolicit : Type 0
OthersSolicit = (settings : Settings) (i m : ℕ) (parts : Parts) (journal : Journal) (asker : Asker) (request : MapRequest) → Stands settings parts journal → MayGo journal m → request.smr ≡ true → asker.probe ≡ false → length (ranges_of request) ≤ most_heard → list_all (λ (range : Range). not (range.iid == i)) (ranges_of request) ≡ true → of_instance (extended journal (requested table (standing_in settings parts) m asker request (unchanged parts)).change.entries) i ≡ of_instance journal i

-- an SMR that is sent, for whatever prefix, leaves a table's journal equal to itself for each instance
abbrev pub SolicitsStay : Type 0
SolicitsStay = (settings : Settings) (i m : ℕ) (parts : Parts) (journal : Journal) (rloc : Addr) (eid : Eid) → AreOneIn i (extended journal (noted table (standing_in settings parts) m (notice.Solicit rloc eid) (unchanged parts)).entries) journal
