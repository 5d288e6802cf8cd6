-- The packets of a play: each is exactly one packet, and they come in order.
use Rattle.std.proofs.Common.{◌≡◌, ◌≤◌, ℕ, Bool, true, false, cond, IfSome, List, [], ◌∷◌, ◌++◌, Option, Some, None, refl, sym, ap, ap₂, subst, ◌∙◌, arith, filter_map, append-nil, append_assoc}
use Rattle.std.specs.List.{All, cons_option}
use Rattle.std.proofs.lemmas.List.Elements.{All-append, All-cons, All-head, All-map, All-nil, All-tail, All-weaker, filter_map-append}
use Rattle.ip_headers.specs.Addr.{IsAddr}
use Rattle.ip_headers.specs.Ip.{header_at, source_of}
use Rattle.ip_headers.specs.Packet.{IsPacket}
use Rattle.capture_io.specs.Frame.{Frame}
use Rattle.capture_io.specs.Run.{AreLater}
use Rattle.lisp_settings.specs.Lawful.{IsLawful}
use Rattle.lisp_settings.specs.declared.settings.Change.{Change as OwnChange}
use Rattle.lisp_settings.specs.declared.settings.OwnLocator.{OwnLocator}
use Rattle.lisp_settings.specs.declared.settings.Settings.{Settings}
use Rattle.capture_events.specs.Came.{IsRead}
use Rattle.capture_events.specs.Events.{Arrival, Event, Outcome, Packet, Tick, events, played}
use Rattle.router_log.specs.Moments.{seconds}
use Rattle.router_log.specs.declared.decision.Decision.{Decision}
use Rattle.router_log.specs.declared.emit.Emit.{Emit}
use Rattle.router_log.specs.declared.entry.Entry.{Entry}
use Rattle.router_log.specs.declared.entry.Entry.TheVariants.{Changed}
use Rattle.router_log.specs.declared.verdict.Verdict.{Verdict}
use Rattle.router_log.specs.declared.verdict.Verdict.TheVariants.{Control, Delivered, Drop, Encapsulated, Local, Native, Own}
use Rattle.router_model.specs.Changes.{Change, each, journal as of_journal, unchanged}
use Rattle.router_model.specs.Course.{control}
use Rattle.router_model.specs.Decide.{decide_by}
use Rattle.router_model.specs.Emits.{emit_packet}
use Rattle.router_model.specs.Hear.{Heard, hear_by}
use Rattle.router_model.specs.Journal.{Journal, drawn, statics}
use Rattle.router_model.specs.Lifting.{AreInOrder, AreOctets, HasOctets, event_moment}
use Rattle.router_model.specs.Note.{noted}
use Rattle.router_model.specs.Plain.{Router, after_decision, after_message, emit_packets, packet_of, packets_of, plain, started}
use Rattle.router_model.specs.Standing.{standing}
use Rattle.router_model.specs.Tick.{after_changes, all_changed, due_now, made, some_came, ticked}
use Rattle.router_model.specs.View.{view}
use Rattle.router_model.proofs.ReplayLemmas.{events-order}
use Rattle.router_model.proofs.RunLemmas.{in_order}
use Rattle.router_model.proofs.StandingLemmas.{is_own-after}
use Rattle.router_model.proofs.StillLemmas.{heard-still}
use Rattle.router_core.specs.Site.{IsSite}
use Rattle.audit.specs.Lifted.{each_once}
use Rattle.audit_laws.specs.Delivers.{ComesFromOther, DeliverOthers, DeliversOther}
use Rattle.audit_laws.specs.Drawn.{first_nonces, journal_after, AreInRange, IsInRange}
use Rattle.audit_laws.specs.Sent.{CanBeMade, sent_packets}
use Rattle.audit_laws.specs.Whole.{IsWhole}
use Rattle.audit_laws.proofs.ChangeLemmas.{all-followed, all-heard, all-noted, statics-drawn, statics-next}
use Rattle.audit_laws.proofs.SoundLemmas.{AreDrawn, IsShort, IsSound}
use Rattle.audit_laws.proofs.StandLemmas.{followed-stands, nonce-stands, noted-stands, range-stands, site-stands}
use Rattle.audit_laws.proofs.DecideLemmas.{SendsPacket, decided-sends, sends-packet}
use Rattle.audit_laws.proofs.DrawnLemmas.{drawn-same, first-same, next-same, nonces-short, AreNext}
use Rattle.audit_laws.proofs.EarlyLemmas.{events-early, AreEarly, IsEarly}
use Rattle.audit_laws.proofs.EmitLemmas.{emit-whole, emit_nonce}
use Rattle.audit_laws.proofs.EmitOctetLemmas.{emit-octets, IsMade}
use Rattle.audit_laws.proofs.EmitNonceLemmas.{DoFit, emit-nonce}
use Rattle.audit_laws.proofs.NonceLemmas.{other-none, packet_nonce, tunnel-none}
use Rattle.audit_laws.proofs.VerdictLemmas.{packet-whole, whole-packet}

-- exactly one packet, which goes at that moment
pub record IsSentAt (m : ℕ) (packet : Packet) : Type 0 where
  pub whole : IsWhole packet.octets
  pub moment : packet.moment ≡ m

-- ### one event

-- a router that drew these nonces goes on
pub record GoesOn (settings : Settings) (before : List ℕ) (journal : Journal) : Type 0 where
  pub next : AreNext settings journal
  pub nonces : settings.echo ≡ false → AreDrawn settings before journal

locators-fit : (locators : List OwnLocator) → All IsInRange locators → DoFit locators
locators-fit locators range = All-weaker IsInRange (λ (own : OwnLocator). IsAddr own.addr) (λ own is. is.addr) locators range

-- the nonces that are lifted out of packets
abbrev pub nonces_in : Settings → List Packet → List ℕ
nonces_in settings packets = filter_map (λ (packet : Packet). packet_nonce settings.locators packet.octets) packets

-- they are lifted alike by the settings that stand
in-stands : (settings : Settings) (journal : Journal) (packets : List Packet) → nonces_in (standing settings journal) packets ≡ nonces_in settings packets
in-stands settings journal packets = λ i. filter_map (λ (packet : Packet). nonce-stands settings journal packet.octets i) packets

-- it consists of octets
abbrev pub IsOfOctets : Packet → Type 0
IsOfOctets packet = AreOctets packet.octets

-- what is sent at an event, and what is left of the router
record Goes (settings : Settings) (before : List ℕ) (m : ℕ) (others : Type 0) (outcome : Outcome (Router Journal)) : Type 0 where
  pub sent : All (IsSentAt m) outcome.packets
  pub octets : All IsInRange settings.locators → All IsOfOctets outcome.packets
  pub same : outcome.after.settings ≡ settings
  pub drawn : List ℕ
  pub goes_on : GoesOn settings (before ++ drawn) outcome.after.memory
  pub nonces : AreInRange settings → others → nonces_in settings outcome.packets ≡ drawn

-- packets that are made at a moment, of which these nonces are lifted
record AreMade (settings : Settings) (m : ℕ) (packets : List Packet) (drawn : List ℕ) : Type 0 where
  pub sent : All (IsSentAt m) packets
  pub octets : All IsInRange settings.locators → All IsOfOctets packets
  pub nonces : AreInRange settings → nonces_in settings packets ≡ drawn

module _ (settings : Settings) (site : IsSite settings) where
  emits-sent : (m : ℕ) (emits : List Emit) → All (CanBeMade settings) emits → All (IsSentAt m) (emit_packets settings m emits)
  emits-sent m emits made =
      let packet : Emit → Packet = λ emit. record { moment = m; octets = emit_packet settings emit } in
      let one : (emit : Emit) → CanBeMade settings emit → IsSentAt m (packet emit) = λ emit can. record { whole = emit-whole settings emit site can; moment = refl } in
      All-map (IsSentAt m) packet emits (All-weaker (CanBeMade settings) (λ emit. IsSentAt m (packet emit)) one emits made)

  -- the nonces of emits are lifted out of their packets
  emits-nonces : DoFit settings.locators → (m : ℕ) (emits : List Emit) → All (CanBeMade settings) emits → All IsShort emits → nonces_in settings (emit_packets settings m emits) ≡ filter_map emit_nonce emits
  emits-nonces fit m [] made short = refl
  emits-nonces fit m (emit ∷ emits) made short =
      ap₂ (λ (o : Option ℕ) (rest : List ℕ). cons_option o rest)
      (emit-nonce settings site fit emit (All-head (CanBeMade settings) emit emits made) (All-head IsShort emit emits short))
      (emits-nonces fit m emits (All-tail (CanBeMade settings) emit emits made) (All-tail IsShort emit emits short))

  emits-octets : (m : ℕ) (emits : List Emit) → All IsMade emits → All IsOfOctets (emit_packets settings m emits)
  emits-octets m emits made =
      let packet : Emit → Packet = λ emit. record { moment = m; octets = emit_packet settings emit } in
      All-map IsOfOctets packet emits (All-weaker IsMade (λ emit. IsOfOctets (packet emit)) (λ emit is. emit-octets settings emit site is) emits made)

verdict-octets : (m : ℕ) (packet : Option (List ℕ)) → IfSome packet (IsPacket 0) → All IsOfOctets (packets_of m packet)
verdict-octets m None is = All-nil IsOfOctets
verdict-octets m (Some packet) is = All-cons IsOfOctets (record { moment = m; octets = packet }) [] is.octets (All-nil IsOfOctets)

verdict-sent : (m : ℕ) (packet : Option (List ℕ)) → IfSome packet (IsPacket 0) → All (IsSentAt m) (packets_of m packet)
verdict-sent m None is = All-nil (IsSentAt m)
verdict-sent m (Some packet) is =
    All-cons (IsSentAt m) (record { moment = m; octets = packet }) [] (record { whole = packet-whole packet is; moment = refl }) (All-nil (IsSentAt m))

module _ (settings : Settings) (lawful : IsLawful settings) (before : List ℕ) where
  -- no nonce is lifted out of the packet of a decision
  one-none : (m : ℕ) (packet : List ℕ) → packet_nonce settings.locators packet ≡ None → nonces_in settings (packets_of m (Some packet)) ≡ []
  one-none m packet none = ap (λ (o : Option ℕ). cons_option o []) none

  verdict-none : (journal : Journal) (m : ℕ) (verdict : Verdict) → SendsPacket (standing settings journal) verdict → ComesFromOther settings verdict → nonces_in settings (packets_of m (packet_of verdict)) ≡ []
  verdict-none journal m (Encapsulated from to port packet) sends other = one-none m packet (tunnel-none settings.locators packet sends.1)
  verdict-none journal m (Delivered iid packet) sends other = one-none m packet (other-none settings.locators packet other)
  verdict-none journal m (Native packet) sends other =
      one-none m packet (other-none settings.locators packet (sym (is_own-after settings journal (source_of (header_at packet))) ∙ sends.1))
  verdict-none journal m Own sends other = refl
  verdict-none journal m Local sends other = refl
  verdict-none journal m (Control done) sends other = refl
  verdict-none journal m (Drop why) sends other = refl

  -- a router by its journal
  abbrev router_of : Journal → Router Journal
  router_of journal = record { settings = settings; memory = journal }

  -- nothing was emitted yet
  quiet-sound : (journal : Journal) (change : Change Journal) → change.emits ≡ [] → GoesOn settings before change.after → IsSound (standing settings journal) before change
  quiet-sound journal change none goes =
      let here : Settings = standing settings journal in
      record {
        made = subst (All (CanBeMade here)) (sym none) (All-nil (CanBeMade here));
        next = next-same settings here (λ i. refl) change.after goes.next;
        short = λ short. subst (All IsShort) (sym none) (All-nil IsShort);
        octets = λ range. subst (All IsMade) (sym none) (All-nil IsMade);
        nonces = λ off.
            ap (λ (emits : List Emit). each_once (before ++ filter_map emit_nonce emits)) none
            ∙ ap each_once (append-nil before)
            ∙ goes.nonces off
            ∙ ap each_once (first-same settings here (λ i. refl) (drawn change.after));
      }

  sound-goes : (journal : Journal) (change : Change Journal) → IsSound (standing settings journal) before change → GoesOn settings (before ++ filter_map emit_nonce change.emits) change.after
  sound-goes journal change sound =
      let here : Settings = standing settings journal in
      record {
        next = next-same here settings (λ i. refl) change.after sound.next;
        nonces = λ off. sound.nonces off ∙ ap each_once (first-same here settings (λ i. refl) (drawn change.after));
      }

  -- the packets of a change that leaves the settings that stand
  change-made : (journal : Journal) (m : ℕ) (change : Change Journal) → IsSound (standing settings journal) before change → standing settings change.after ≡ standing settings journal
      → AreMade settings m (emit_packets (standing settings change.after) m change.emits) (filter_map emit_nonce change.emits)
  change-made journal m change sound stays =
      let here : Settings = standing settings journal in
      let site : IsSite here = site-stands settings journal lawful in
      let packets : List Packet = emit_packets here m change.emits in
      let made : AreMade settings m packets (filter_map emit_nonce change.emits) =
      record {
        sent = emits-sent here site m change.emits sound.made;
        octets = λ range. emits-octets here site m change.emits (sound.octets (range-stands settings journal range));
        nonces = λ fit.
            sym (in-stands settings journal packets)
            ∙ emits-nonces here site (locators-fit here.locators (range-stands settings journal fit.locators)) m change.emits sound.made (sound.short (nonces-short settings fit.nonces));
      } in
      subst (λ (s : Settings). AreMade settings m (emit_packets s m change.emits) (filter_map emit_nonce change.emits)) (sym stays) made

  -- own locators go up and down
  goes-changed : (m : ℕ) (changes : List OwnChange) (change : Change Journal) → GoesOn settings before change.after → GoesOn settings before (all_changed of_journal settings m changes change).after
  goes-changed m [] change goes = goes
  goes-changed m (own ∷ changes) change goes =
      let e : Entry = Changed m own.address own.up in
      goes-changed m changes (made of_journal settings m own change)
      (record { next = (tt, goes.next); nonces = λ off. goes.nonces off ∙ ap (λ (k : ℕ). each_once (first_nonces settings k)) (sym (drawn-same e change.after refl)) })

  quiet-changed : (m : ℕ) (changes : List OwnChange) (change : Change Journal) → (all_changed of_journal settings m changes change).emits ≡ change.emits
  quiet-changed m [] change = refl
  quiet-changed m (own ∷ changes) change = quiet-changed m changes (made of_journal settings m own change)

  tick-goes : (s : ℕ) (journal : Journal) → GoesOn settings before journal → Goes settings before (seconds s) (Unit {0}) (plain (router_of journal) (Tick s))
  unfolding ticked
  tick-goes s journal goes =
      let m = seconds s in
      let changes : List OwnChange = due_now of_journal settings m journal in
      let first : Change Journal = all_changed of_journal settings m changes (unchanged journal) in
      let here : Settings = standing settings first.after in
      let change : Change Journal = after_changes of_journal here m (some_came changes) first in
      let sound = all-followed here (site-stands settings first.after lawful) before m (some_came changes) first
      (quiet-sound first.after first (quiet-changed m changes (unchanged journal)) (goes-changed m changes (unchanged journal) goes)) in
      let made = change-made first.after m change sound (followed-stands settings here here m (some_came changes) first refl) in
      record {
        sent = made.sent;
        octets = made.octets;
        same = refl;
        drawn = filter_map emit_nonce change.emits;
        goes_on = sound-goes first.after change sound;
        nonces = λ fit others. made.nonces fit;
      }

  message-goes : (frame : Frame) (journal : Journal) (others : Type 0) (heard : Heard Journal) → IsSound (standing settings journal) before heard.change → standing settings heard.change.after ≡ standing settings journal
      → Goes settings before frame.moment others (after_message of_journal (router_of journal) frame heard)
  message-goes frame journal others heard sound stays =
      let made = change-made journal frame.moment heard.change sound stays in
      record {
        sent = made.sent;
        octets = made.octets;
        same = refl;
        drawn = filter_map emit_nonce heard.change.emits;
        goes_on = sound-goes journal heard.change sound;
        nonces = λ fit others. made.nonces fit;
      }

  decision-goes : (frame : Frame) (journal : Journal) (decision : Decision) → SendsPacket (standing settings journal) decision.verdict → GoesOn settings before journal
      → Goes settings before frame.moment (ComesFromOther settings decision.verdict) (after_decision of_journal (router_of journal) frame decision)
  decision-goes frame journal decision sends goes =
      let m = frame.moment in
      let here : Settings = standing settings journal in
      let change : Change Journal = each (noted of_journal here m) decision.notices (unchanged journal) in
      let sound = all-noted here (site-stands settings journal lawful) before m decision.notices (unchanged journal) (quiet-sound journal (unchanged journal) refl goes) in
      let made = change-made journal m change sound (noted-stands settings here here m decision.notices (unchanged journal) refl) in
      let first : List Packet = packets_of m (packet_of decision.verdict) in
      let more : List Packet = emit_packets (standing settings change.after) m change.emits in
      let sent = sends-packet here decision.verdict sends in
      record {
        sent = All-append (IsSentAt m) first more (verdict-sent m (packet_of decision.verdict) sent) made.sent;
        octets = λ range. All-append IsOfOctets first more (verdict-octets m (packet_of decision.verdict) sent) (made.octets range);
        same = refl;
        drawn = filter_map emit_nonce change.emits;
        goes_on = sound-goes journal change sound;
        nonces = λ fit others.
            filter_map-append (λ (packet : Packet). packet_nonce settings.locators packet.octets) first more
            ∙ ap (λ (l : List ℕ). l ++ nonces_in settings more) (verdict-none journal m decision.verdict sends others)
            ∙ made.nonces fit;
      }

  frame-goes : (frame : Frame) (journal : Journal) → AreOctets frame.octets → GoesOn settings before journal
      → Goes settings before frame.moment (DeliversOther (router_of journal) (Arrival frame)) (plain (router_of journal) (Arrival frame))
  frame-goes frame journal are goes = by (control settings frame)
    where
      here : Settings
      here = standing settings journal

      heard : Heard Journal
      heard = hear_by of_journal here frame.moment frame (unchanged journal)

      decision : Decision
      decision = decide_by here (view journal frame.moment) frame

      by : (b : Bool) → Goes settings before frame.moment (ComesFromOther settings decision.verdict) (cond b (after_message of_journal (router_of journal) frame heard) (after_decision of_journal (router_of journal) frame decision))
      by true =
          message-goes frame journal (ComesFromOther settings decision.verdict) heard
          (all-heard here (site-stands settings journal lawful) before frame.moment frame (unchanged journal) (quiet-sound journal (unchanged journal) refl goes))
          (heard-still settings journal here frame.moment frame)
      by false = decision-goes frame journal decision (decided-sends here (view journal frame.moment) frame are) goes

  event-goes : (event : Event) (journal : Journal) → HasOctets event → GoesOn settings before journal → Goes settings before (event_moment event) (DeliversOther (router_of journal) event) (plain (router_of journal) event)
  event-goes (Tick s) journal are goes = tick-goes s journal goes
  event-goes (Arrival frame) journal are goes = frame-goes frame journal are goes

-- ### events in order

-- packets that come in order from a moment on, each of which a record can have
abbrev pub AreSent : ℕ → List Packet → Type 0
AreSent m [] = Unit {0}
AreSent m (packet ∷ packets) = (m ≤ packet.moment) × (IsEarly packet.moment × (IsWhole packet.octets × AreSent packet.moment packets))

earlier-sent : (m n : ℕ) (packets : List Packet) → m ≤ n → AreSent n packets → AreSent m packets
earlier-sent m n [] later sent = tt
earlier-sent m n (packet ∷ packets) later sent = (let first = sent.0 in omega (arith, later, first), sent.1)

-- each of them is exactly one packet
whole-all : (m : ℕ) (packets : List Packet) → AreSent m packets → All (λ (packet : Packet). IsWhole packet.octets) packets
whole-all m [] sent = All-nil (λ (packet : Packet). IsWhole packet.octets)
whole-all m (packet ∷ packets) sent = All-cons (λ (packet : Packet). IsWhole packet.octets) packet packets sent.1.1.0 (whole-all packet.moment packets sent.1.1.1)

-- those of one event, and then those of the next ones
more-sent : (m n : ℕ) (packets more : List Packet) → m ≤ n → IsEarly n → All (IsSentAt n) packets → AreSent n more → AreSent m (packets ++ more)
more-sent m n [] more later early all sent = earlier-sent m n more later sent
more-sent m n (packet ∷ packets) more later early all sent =
    let first = All-head (IsSentAt n) packet packets all in
    let now : packet.moment ≡ n = first.moment in (
      omega (arith, later, now),
      (omega (arith, early, now), (first.whole, more-sent packet.moment n packets more (omega (arith, now)) early (All-tail (IsSentAt n) packet packets all) sent)),
    )

-- an event of a router with these settings
event-played : (settings : Settings) (lawful : IsLawful settings) (before : List ℕ) (event : Event) (router : Router Journal) → router.settings ≡ settings → HasOctets event → GoesOn settings before router.memory
    → Goes settings before (event_moment event) (DeliversOther router event) (plain router event)
event-played settings lawful before event router same are goes =
    subst (λ (s : Settings). Goes settings before (event_moment event) (DeliversOther (record { settings = s; memory = router.memory }) event) (plain (record { settings = s; memory = router.memory }) event)) (sym same)
    (event-goes settings lawful before event router.memory are goes)

all-sent : (settings : Settings) (lawful : IsLawful settings) (before : List ℕ) (m : ℕ) (events : List Event) (router : Router Journal) → router.settings ≡ settings → GoesOn settings before router.memory → AreInOrder m events → AreEarly events
    → AreSent m (played plain router events).packets
all-sent settings lawful before m [] router same goes order early = tt
all-sent settings lawful before m (event ∷ events) router same goes order early =
    let one = event-played settings lawful before event router same order.1.0 goes in
    more-sent m (event_moment event) (plain router event).packets (played plain (plain router event).after events).packets order.0 early.0 one.sent
    (all-sent settings lawful (before ++ one.drawn) (event_moment event) events (plain router event).after one.same one.goes_on order.1.1 early.1)

-- all that is sent consists of octets
all-octets : (settings : Settings) (lawful : IsLawful settings) (before : List ℕ) (m : ℕ) (events : List Event) (router : Router Journal) → router.settings ≡ settings → GoesOn settings before router.memory → AreInOrder m events
    → All IsInRange settings.locators → All IsOfOctets (played plain router events).packets
all-octets settings lawful before m [] router same goes order range = All-nil IsOfOctets
all-octets settings lawful before m (event ∷ events) router same goes order range =
    let one = event-played settings lawful before event router same order.1.0 goes in
    All-append IsOfOctets (plain router event).packets (played plain (plain router event).after events).packets (one.octets range)
    (all-octets settings lawful (before ++ one.drawn) (event_moment event) events (plain router event).after one.same one.goes_on order.1.1 range)

-- the nonces of all that is sent are those that were drawn
all-drawn : (settings : Settings) (lawful : IsLawful settings) (before : List ℕ) (m : ℕ) (events : List Event) (router : Router Journal) → router.settings ≡ settings → GoesOn settings before router.memory → AreInOrder m events
    → AreInRange settings → DeliverOthers router events → settings.echo ≡ false → AreDrawn settings (before ++ nonces_in settings (played plain router events).packets) (played plain router events).after.memory
all-drawn settings lawful before m [] router same goes order fit others off = ap each_once (append-nil before) ∙ goes.nonces off
all-drawn settings lawful before m (event ∷ events) router same goes order fit others off =
    let one = event-played settings lawful before event router same order.1.0 goes in
    let first : List Packet = (plain router event).packets in
    let rest : Outcome (Router Journal) = played plain (plain router event).after events in
    let nonces : nonces_in settings (first ++ rest.packets) ≡ one.drawn ++ nonces_in settings rest.packets =
    filter_map-append (λ (packet : Packet). packet_nonce settings.locators packet.octets) first rest.packets ∙ ap (λ (l : List ℕ). l ++ nonces_in settings rest.packets) (one.nonces fit others.0) in
    ap (λ (l : List ℕ). each_once (before ++ l)) nonces
    ∙ ap each_once (sym (append_assoc before one.drawn (nonces_in settings rest.packets)))
    ∙ all-drawn settings lawful (before ++ one.drawn) (event_moment event) events (plain router event).after one.same one.goes_on order.1.1 fit others.1 off

-- ### all of a capture

-- a router begins without a request and without a nonce
statics-goes : (settings : Settings) → GoesOn settings [] (statics settings)
statics-goes settings = record {
  next = statics-next settings;
  nonces = λ off. ap (λ (k : ℕ). each_once (first_nonces settings k)) (sym (statics-drawn settings));
}

module _ (settings : Settings) (frames : List Frame) (lawful : IsLawful settings) (read : All IsRead frames) (later : AreLater 0 frames) where
  pub plain-sent : AreSent 0 (sent_packets settings frames)
  plain-sent =
      all-sent settings lawful [] 0 (events frames) (started settings) refl (statics-goes settings) (events-order frames (in_order 0 frames read later)) (events-early frames read later)

  pub plain-whole : All (λ (packet : Packet). IsWhole packet.octets) (sent_packets settings frames)
  plain-whole = whole-all 0 (sent_packets settings frames) plain-sent

  pub plain-drawn : AreInRange settings → DeliverOthers (started settings) (events frames) → settings.echo ≡ false → AreDrawn settings (nonces_in settings (sent_packets settings frames)) (journal_after settings frames)
  plain-drawn fit others off = all-drawn settings lawful [] 0 (events frames) (started settings) refl (statics-goes settings) (events-order frames (in_order 0 frames read later)) fit others off

  pub plain-packets : All IsInRange settings.locators → All (λ (packet : Packet). IsPacket 0 packet.octets) (sent_packets settings frames)
  plain-packets range =
      let octets : All IsOfOctets (sent_packets settings frames) =
      all-octets settings lawful [] 0 (events frames) (started settings) refl (statics-goes settings) (events-order frames (in_order 0 frames read later)) range in
      λ k d below. whole-packet _ (plain-whole k d below) (octets k d below)
