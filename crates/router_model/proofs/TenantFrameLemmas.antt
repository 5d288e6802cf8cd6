-- Notices for an instance, and frames that answer its requests, make of a journal what they make of the instance's part of it.
use Rattle.std.proofs.Common.{◌≡◌, ℕ, ◌+◌, ◌≤◌, ◌&&◌, not, Bool, true, false, cond, List, [], ◌∷◌, Option, Some, None, is_some, option_and_then, option_map, refl, sym, ap, subst, ◌∙◌, arith}
use Rattle.std.specs.Option.{option_or}
use Rattle.std.proofs.lemmas.Option.{same_Some}
use Rattle.octets.specs.Rules.{first_failing}
use Rattle.octets.specs.declared.refused.Refused.{Refused}
use Rattle.ip_headers.specs.Udp.{payload_in, sum_rules}
use Rattle.ip_headers.specs.declared.addr.Addr.{Addr}
use Rattle.mapping_records.specs.declared.eid.Eid.{Eid}
use Rattle.mapping_records.specs.declared.record.Record.{Record}
use Rattle.map_messages.specs.Message.{message_rules}
use Rattle.map_messages.specs.declared.message.MapReply.{MapReply}
use Rattle.map_messages.specs.declared.message.Message.{Message}
use Rattle.map_messages.specs.declared.message.Message.TheVariants as message
use Rattle.lisp_settings.specs.Instances.{limits_in}
use Rattle.lisp_settings.specs.declared.settings.Settings.{Settings}
use Rattle.request_queue.specs.Queue.{with_nonce}
use Rattle.request_queue.specs.declared.request.Request.{Request}
use Rattle.router_log.specs.declared.entry.Entry.TheVariants as entry
use Rattle.router_log.specs.declared.notice.Notice.{Notice}
use Rattle.router_log.specs.declared.notice.Notice.TheVariants as notice
use Rattle.router_log.specs.declared.verdict.Reason.TheVariants.{Unfit}
use Rattle.router_model.specs.Apart.{AreApart}
use Rattle.router_model.specs.Changes.{Change, asked, each, entered, has_room, journal as of_journal, unchanged}
use Rattle.router_model.specs.Course.{Course, Control, Datagram, course_of}
use Rattle.router_model.specs.Hear.{Heard, Route, course_heard, datagram_heard, drops, hear, hear_by, is_asked_for, is_fit, is_static, message_heard, payload_heard, read_heard, replied_to, reply_heard, route_of, shortened, tallied, taught, unless_refused}
use Rattle.router_model.specs.Isolation.{of_instance}
use Rattle.router_model.specs.Journal.{Journal, IsRising, last_moment}
use Rattle.router_model.specs.Mappings.{exact}
use Rattle.router_model.specs.Note.{is_news, note, noted}
use Rattle.router_model.specs.Received.{message_in}
use Rattle.router_model.specs.Standing.{standing}
use Rattle.router_model.specs.Tenants.{AreAlike, HearsIsolated, NoncesDiffer, NotesIsolated, answered_instance, course_instance, notice_instance}
use Rattle.router_model.specs.View.{View, seen_at, view}
use Rattle.router_model.proofs.IsolationLemmas.{all-standing, mine-before}
use Rattle.router_model.proofs.TenantLemmas.{asks, asks-mine, exact-mine}
use Rattle.router_model.proofs.TenantTableLemmas.{learning-isolated, reply-plain, seen-then}

-- the journal of an instance ends no later than a moment at which the whole one has ended
mine-last : (journal : Journal) (i m : ℕ) → IsRising journal → last_moment journal ≤ m → last_moment (of_instance journal i) ≤ m
mine-last journal i m rising last = let before = mine-before i journal rising in omega (arith, before, last)

-- ### notices

module _ (settings : Settings) (journal : Journal) (i m : ℕ) (rising : IsRising journal) (last : last_moment journal ≤ m) (differ : NoncesDiffer m journal) where
  -- two steps by tests that are the same
  steps-apart : (b c : Bool) (one other : Change Journal) → b ≡ c → AreApart one other → AreApart (cond b one (unchanged journal)) (cond c other (unchanged (of_instance journal i)))
  steps-apart true true one other same apart = apart
  steps-apart false false one other same apart = record { entries = refl; emits = refl }
  steps-apart true false one other same apart = cc
  steps-apart false true one other same apart = cc

  -- both ask, or neither does
  asks-same : (told : Notice) (eid : Eid) → asks settings (limits_in settings) (seen_at journal m) told ≡ asks settings (limits_in settings) (seen_at (of_instance journal i) m) told → asks settings (limits_in settings) (view journal m) told ≡ asks settings (limits_in settings) (view (of_instance journal i) m) told
  asks-same told eid same =
      ap (λ v. asks settings (limits_in settings) v told) (seen-then journal m last) ∙ same
      ∙ ap (λ v. asks settings (limits_in settings) v told) (sym (seen-then (of_instance journal i) m (mine-last journal i m rising last)))

  noted-apart : (told : Notice) → notice_instance told ≡ Some i → AreApart (noted of_journal settings m told (unchanged journal)) (noted of_journal settings m told (unchanged (of_instance journal i)))
  unfolding noted
  noted-apart (notice.Ask eid source) is =
      steps-apart _ _ (asked of_journal settings m eid source false (unchanged journal)) (asked of_journal settings m eid source false (unchanged (of_instance journal i)))
      (asks-same (notice.Ask eid source) eid (asks-mine journal i m rising differ settings (limits_in settings) (notice.Ask eid source) eid refl (same_Some eid.iid i is)))
      (record { entries = refl; emits = refl })
  noted-apart (notice.Refresh eid) is =
      steps-apart _ _ (asked of_journal settings m eid None false (unchanged journal)) (asked of_journal settings m eid None false (unchanged (of_instance journal i)))
      (asks-same (notice.Refresh eid) eid (asks-mine journal i m rising differ settings (limits_in settings) (notice.Refresh eid) eid refl (same_Some eid.iid i is)))
      (record { entries = refl; emits = refl })
  noted-apart (notice.Bits eid rloc bits width) is =
      steps-apart _ _ (entered of_journal settings m (entry.Bits m eid bits width) (unchanged journal)) (entered of_journal settings m (entry.Bits m eid bits width) (unchanged (of_instance journal i)))
      (ap (is_news rloc bits width)
      (ap (λ (v : View). exact v.mappings eid) (seen-then journal m last)
      ∙ exact-mine journal i m eid (same_Some eid.iid i is)
      ∙ ap (λ (v : View). exact v.mappings eid) (sym (seen-then (of_instance journal i) m (mine-last journal i m rising last)))))
      (record { entries = refl; emits = refl })
  noted-apart _ is = cc

pub notes-isolated : NotesIsolated
notes-isolated settings journal i m told rising last differ is =
    subst (λ s. AreApart (note settings journal m told) (noted of_journal s m told (unchanged (of_instance journal i)))) (sym (all-standing settings i journal))
    (noted-apart (standing settings journal) journal i m rising last differ told is)

-- ### frames

-- heard alike, with no packets
abbrev AreQuiet : Heard Journal → Heard Journal → Type 0
AreQuiet one other = AreAlike one other × (one.change.emits ≡ []) × (other.change.emits ≡ [])

-- what a Map-Reply to a request makes has no packets
module _ (settings : Settings) (m : ℕ) where
  taught-quiet : (asked : Eid) (mappings records : List Record) (change : Change Journal) → change.emits ≡ [] → (each (taught of_journal settings m asked mappings) records change).emits ≡ []
  taught-quiet asked mappings [] change is = is
  taught-quiet asked mappings (mapping ∷ records) change is =
      taught-quiet asked mappings records (taught of_journal settings m asked mappings mapping change)
      (by (is_asked_for asked mappings mapping && (not (is_static settings mapping) && has_room (limits_in settings) (view change.after m) mapping)))
    where
      by : (b : Bool) → (cond b (entered of_journal settings m (entry.Learned m (shortened mapping) false) change) change).emits ≡ []
      by true = is
      by false = is

  replied-quiet : (reply : MapReply) (o : Option Request) (journal : Journal) → (replied_to of_journal settings m reply o (unchanged journal)).change.emits ≡ []
  replied-quiet reply None journal = refl
  replied-quiet reply (Some request) journal = by (is_fit request.eid reply.mappings)
    where
      answered : Change Journal
      answered = entered of_journal settings m (entry.Answered m reply.nonce) (unchanged journal)

      by : (b : Bool) → (cond b (tallied of_journal settings m reply (each (taught of_journal settings m request.eid reply.mappings) reply.mappings answered)) (drops Unfit (unchanged journal))).change.emits ≡ []
      by true = taught-quiet request.eid reply.mappings reply.mappings answered refl
      by false = refl

  reply-quiet : (from : Addr) (reply : MapReply) (journal : Journal) → reply.probe ≡ false → (reply_heard of_journal settings m from reply (unchanged journal)).change.emits ≡ []
  reply-quiet from reply journal plain =
      ap (λ (h : Heard Journal). h.change.emits) (reply-plain settings m from reply journal plain)
      ∙ replied-quiet reply (with_nonce (view journal m).requests reply.nonce) journal

module _ (settings : Settings) (journal : Journal) (i m : ℕ) (rising : IsRising journal) (last : last_moment journal ≤ m) (differ : NoncesDiffer m journal) where
  abbrev mine : Journal
  mine = of_instance journal i

  -- a Map-Reply
  reply-alone : (from : Addr) (reply : MapReply) → answered_instance (view journal m) (message.Reply reply) ≡ Some i → AreQuiet (reply_heard of_journal settings m from reply (unchanged journal)) (reply_heard of_journal settings m from reply (unchanged mine))
  reply-alone from reply is = by reply.probe (with_nonce (view journal m).requests reply.nonce) refl refl is
    where
      by : (b : Bool) (o : Option Request) → reply.probe ≡ b → with_nonce (view journal m).requests reply.nonce ≡ o → cond b None (option_map (λ (request : Request). request.eid.iid) o) ≡ Some i → AreQuiet (reply_heard of_journal settings m from reply (unchanged journal)) (reply_heard of_journal settings m from reply (unchanged mine))
      by true o plain found is = cc
      by false None plain found is = cc
      by false (Some request) plain found is = (
        learning-isolated settings journal i m from reply request rising last differ plain
            (ap (λ (v : View). with_nonce v.requests reply.nonce) (sym (seen-then journal m last)) ∙ found) (same_Some request.eid.iid i is),
        reply-quiet settings m from reply journal plain,
        reply-quiet settings m from reply mine plain,
      )

  message-alone : (route : Route) (read : Message) → answered_instance (view journal m) read ≡ Some i → AreQuiet (message_heard of_journal settings m route read (unchanged journal)) (message_heard of_journal settings m route read (unchanged mine))
  message-alone route (message.Reply reply) is = reply-alone route.from reply is
  message-alone route _ is = cc

  read-alone : (route : Route) (o : Option Message) → option_and_then (answered_instance (view journal m)) o ≡ Some i → AreQuiet (read_heard of_journal settings m route o (unchanged journal)) (read_heard of_journal settings m route o (unchanged mine))
  read-alone route None is = cc
  read-alone route (Some read) is = message-alone route read is

  -- a datagram
  datagram-alone : (d : Datagram) → course_instance (view journal m) (Control d) ≡ Some i → AreQuiet (datagram_heard of_journal settings m d (unchanged journal)) (datagram_heard of_journal settings m d (unchanged mine))
  unfolding datagram_heard payload_heard
  datagram-alone d is = by (first_failing (sum_rules d.packet.base d.packet.header d.packet.octets d.udp false)) (first_failing (message_rules (d.packet.base + d.udp.at + 8) payload)) is
    where
      payload : List ℕ
      payload = payload_in d.packet.octets d.udp

      others : Journal → Heard Journal
      others j = read_heard of_journal settings m (route_of d) (message_in payload) (unchanged j)

      by : (o p : Option Refused) → option_and_then (answered_instance (view journal m)) (cond (is_some (option_or o p)) None (message_in payload)) ≡ Some i → AreQuiet (unless_refused of_journal settings m o (unchanged journal) (unless_refused of_journal settings m p (unchanged journal) (others journal))) (unless_refused of_journal settings m o (unchanged mine) (unless_refused of_journal settings m p (unchanged mine) (others mine)))
      by None None is = read-alone (route_of d) (message_in payload) is
      by None (Some refused) is = cc
      by (Some refused) p is = cc

  course-alone : (course : Course) → course_instance (view journal m) course ≡ Some i → AreQuiet (course_heard of_journal settings m course (unchanged journal)) (course_heard of_journal settings m course (unchanged mine))
  course-alone (Control d) is = datagram-alone d is
  course-alone _ is = cc

pub hears-isolated : HearsIsolated
hears-isolated settings journal i m frame rising last differ is =
    subst (λ s. AreQuiet (hear settings journal m frame) (hear_by of_journal s m frame (unchanged (of_instance journal i)))) (sym (all-standing settings i journal))
    (course-alone (standing settings journal) journal i m rising last differ (course_of (standing settings journal) frame) is)
