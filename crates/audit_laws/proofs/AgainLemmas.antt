-- A replay with the nonces that it drew sends the same packets, whatever its seed is.
use Rattle.std.proofs.Common.{◌≡◌, ℕ, zero, suc, ◌<◌, ◌≤◌, nat_lt, Bool, true, false, cond, List, [], ◌∷◌, ◌++◌, length, ◌⊎◌, inl, inr, refl, sym, ap, ap₂, subst, ◌∙◌, arith}
use Rattle.std.specs.Prelude.{slice_index}
use Rattle.std.proofs.lemmas.Bool.{cases_lt}
use Rattle.std.proofs.lemmas.Bool.Decides.{nat_tests}
use Rattle.std.proofs.lemmas.List.{get_or_append_left, get_or_push}
use Rattle.capture_io.specs.Frame.{Frame}
use Rattle.lisp_settings.specs.declared.settings.Settings.{Settings}
use Rattle.capture_events.specs.Events.{Arrival, Event, Outcome, Packet, Tick, events, played}
use Rattle.router_log.specs.Moments.{seconds}
use Rattle.router_log.specs.declared.decision.Decision.{Decision}
use Rattle.router_log.specs.declared.emit.Emit.{Emit}
use Rattle.router_log.specs.declared.emit.Emit.TheVariants.{Request, Probe, Solicit, Reply}
use Rattle.router_model.specs.Changes.{Change, each, journal as of_journal, unchanged}
use Rattle.router_model.specs.Course.{control, packet_course}
use Rattle.router_model.specs.Decide.{decide_by, routed}
use Rattle.router_model.specs.Emits.{emit_packet}
use Rattle.router_model.specs.Hear.{Heard, hear_by}
use Rattle.router_model.specs.Journal.{Journal, drawn, statics}
use Rattle.router_model.specs.Note.{noted}
use Rattle.router_model.specs.Plain.{Router, after_decision, after_message, emit_packets, packet_of, packets_of, plain}
use Rattle.router_model.specs.Standing.{standing}
use Rattle.router_model.specs.Tick.{ticked}
use Rattle.router_model.specs.View.{View, view}
use Rattle.audit_laws.specs.Drawn.{drawn_nonces, first_nonces, journal_after, nonce_at, with_nonces}
use Rattle.audit_laws.specs.Sent.{sent_packets}
use Rattle.audit_laws.proofs.AlikeLemmas.{alike-each, alike-noted, alike-ticked, standing-others}
use Rattle.audit_laws.proofs.DrawnLemmas.{length-first_nonces}
use Rattle.audit_laws.proofs.HeardLemmas.{alike-heard}

-- ### what doesn't ask for nonces

emit-alike : (settings : Settings) (seed nonces : List ℕ) (emit : Emit) → emit_packet (with_nonces settings seed nonces) emit ≡ emit_packet settings emit
unfolding emit_packet
emit-alike settings seed nonces (Request eid source invoked nonce) = refl
emit-alike settings seed nonces (Probe to eid nonce) = refl
emit-alike settings seed nonces (Solicit to eid nonce) = refl
emit-alike settings seed nonces (Reply from to port reply) = refl

emits-alike : (settings : Settings) (seed nonces : List ℕ) (m : ℕ) (emits : List Emit) → emit_packets (with_nonces settings seed nonces) m emits ≡ emit_packets settings m emits
emits-alike settings seed nonces m [] = refl
emits-alike settings seed nonces m (emit ∷ emits) =
    ap₂ (λ (octets : List ℕ) (rest : List Packet). record { moment = m; octets = octets } ∷ rest) (emit-alike settings seed nonces emit) (emits-alike settings seed nonces m emits)

decide-alike : (settings : Settings) (seed nonces : List ℕ) (v : View) (frame : Frame) → decide_by (with_nonces settings seed nonces) v frame ≡ decide_by settings v frame
unfolding decide_by routed packet_course
decide-alike settings seed nonces v frame = refl

control-alike : (settings : Settings) (seed nonces : List ℕ) (frame : Frame) → control (with_nonces settings seed nonces) frame ≡ control settings frame
unfolding packet_course
control-alike settings seed nonces frame = refl

-- ### one event

-- a router by its journal
abbrev router_of : Settings → Journal → Router Journal
router_of settings journal = record { settings = settings; memory = journal }

module _ (settings : Settings) (seed nonces : List ℕ) (n : ℕ) (agree : (i : ℕ) → i < n → nonce_at (with_nonces settings seed nonces) i ≡ nonce_at settings i) where
  abbrev others : Settings
  others = with_nonces settings seed nonces

  -- the same packets, and the same journal
  record IsSame (other outcome : Outcome (Router Journal)) : Type 0 where
    pub packets : other.packets ≡ outcome.packets
    pub memory : Journal
    pub other_after : other.after ≡ router_of others memory
    pub after : outcome.after ≡ router_of settings memory

  -- no nonce is taken back, and it is the same, or more nonces are drawn
  record EventAlike (journal : Journal) (other outcome : Outcome (Router Journal)) : Type 0 where
    pub kept : n < drawn journal → n < drawn outcome.after.memory
    pub same : (n < drawn outcome.after.memory) ⊎ IsSame other outcome

  -- an outcome by a change
  abbrev made : Settings → ℕ → List ℕ → List Packet → Change Journal → Outcome (Router Journal)
  made s m lines first change = record { lines = lines; packets = first ++ emit_packets (standing s change.after) m change.emits; after = router_of s change.after }

  made-same : (m : ℕ) (other_lines lines : List ℕ) (first : List Packet) (other change : Change Journal) → other ≡ change → IsSame (made others m other_lines first other) (made settings m lines first change)
  made-same m other_lines lines first other change is = record {
    packets =
        ap (λ (c : Change Journal). first ++ emit_packets (standing others c.after) m c.emits) is
        ∙ ap (λ (s : Settings). first ++ emit_packets s m change.emits) (standing-others settings seed nonces change.after)
        ∙ ap (λ (l : List Packet). first ++ l) (emits-alike (standing settings change.after) seed nonces m change.emits);
    memory = change.after;
    other_after = ap (λ (c : Change Journal). router_of others c.after) is;
    after = refl;
  }

  either : (journal : Journal) (m : ℕ) (other_lines lines : List ℕ) (first : List Packet) (other change : Change Journal) → (n < drawn journal → n < drawn change.after) → (n < drawn change.after) ⊎ (other ≡ change)
      → EventAlike journal (made others m other_lines first other) (made settings m lines first change)
  either journal m other_lines lines first other change kept (inl past) = record { kept = kept; same = inl past }
  either journal m other_lines lines first other change kept (inr is) = record { kept = kept; same = inr (made-same m other_lines lines first other change is) }

  tick-alike : (s : ℕ) (journal : Journal) → EventAlike journal (plain (router_of others journal) (Tick s)) (plain (router_of settings journal) (Tick s))
  tick-alike s journal =
      let alike = alike-ticked n settings seed nonces agree (seconds s) in
      either journal (seconds s) [] [] [] (ticked of_journal others (seconds s) (unchanged journal)) (ticked of_journal settings (seconds s) (unchanged journal)) (alike.kept (unchanged journal)) (alike.same (unchanged journal))

  -- what is heard and noted over the settings that stand
  module _ (frame : Frame) (journal : Journal) where
    abbrev here : Settings
    here = standing settings journal

    abbrev heard_by : Settings → Heard Journal
    heard_by by = hear_by of_journal by frame.moment frame (unchanged journal)

    abbrev noted_by : Settings → Decision → Change Journal
    noted_by by decision = each (noted of_journal by frame.moment) decision.notices (unchanged journal)

    heard-over : (n < drawn (heard_by here).change.after) ⊎ (heard_by (standing others journal) ≡ heard_by here)
    heard-over =
        subst (λ (by : Settings). (n < drawn (heard_by here).change.after) ⊎ (heard_by by ≡ heard_by here)) (sym (standing-others settings seed nonces journal))
        ((alike-heard n here seed nonces agree frame.moment frame).same (unchanged journal))

    noted-over : (decision : Decision) → (n < drawn (noted_by here decision).after) ⊎ (noted_by (standing others journal) decision ≡ noted_by here decision)
    noted-over decision =
        subst (λ (by : Settings). (n < drawn (noted_by here decision).after) ⊎ (noted_by by decision ≡ noted_by here decision)) (sym (standing-others settings seed nonces journal))
        ((alike-each n (noted of_journal (with_nonces here seed nonces) frame.moment) (noted of_journal here frame.moment) (alike-noted n here seed nonces agree frame.moment) decision.notices).same (unchanged journal))

    message-alike : EventAlike journal (after_message of_journal (router_of others journal) frame (heard_by (standing others journal))) (after_message of_journal (router_of settings journal) frame (heard_by here))
    message-alike = by (heard_by (standing others journal)) (heard_by here) ((alike-heard n here seed nonces agree frame.moment frame).kept (unchanged journal)) heard-over
      where
        by : (other heard : Heard Journal) → (n < drawn journal → n < drawn heard.change.after) → (n < drawn heard.change.after) ⊎ (other ≡ heard)
            → EventAlike journal (after_message of_journal (router_of others journal) frame other) (after_message of_journal (router_of settings journal) frame heard)
        by other heard kept (inl past) = record { kept = kept; same = inl past }
        by other heard kept (inr is) = record { kept = kept; same = inr (made-same frame.moment _ _ [] other.change heard.change (ap (λ (h : Heard Journal). h.change) is)) }

    decision-alike : (decision : Decision) → EventAlike journal (after_decision of_journal (router_of others journal) frame decision) (after_decision of_journal (router_of settings journal) frame decision)
    decision-alike decision =
        let alike = alike-each n (noted of_journal (with_nonces here seed nonces) frame.moment) (noted of_journal here frame.moment) (alike-noted n here seed nonces agree frame.moment) decision.notices in
        either journal frame.moment _ _ (packets_of frame.moment (packet_of decision.verdict)) (noted_by (standing others journal) decision) (noted_by here decision) (alike.kept (unchanged journal)) (noted-over decision)

    decided-same : decide_by (standing others journal) (view journal frame.moment) frame ≡ decide_by here (view journal frame.moment) frame
    decided-same =
        ap (λ (by : Settings). decide_by by (view journal frame.moment) frame) (standing-others settings seed nonces journal) ∙ decide-alike here seed nonces (view journal frame.moment) frame

    frame-alike : EventAlike journal (plain (router_of others journal) (Arrival frame)) (plain (router_of settings journal) (Arrival frame))
    frame-alike =
        let decision : Decision = decide_by here (view journal frame.moment) frame in
        subst (λ (b : Bool). EventAlike journal (cond b (after_message of_journal (router_of others journal) frame (heard_by (standing others journal))) (after_decision of_journal (router_of others journal) frame (decide_by (standing others journal) (view journal frame.moment) frame))) (plain (router_of settings journal) (Arrival frame)))
        (sym (control-alike settings seed nonces frame))
        (subst (λ (d : Decision). EventAlike journal (cond (control settings frame) (after_message of_journal (router_of others journal) frame (heard_by (standing others journal))) (after_decision of_journal (router_of others journal) frame d)) (plain (router_of settings journal) (Arrival frame)))
        (sym decided-same)
        (by (control settings frame) (heard_by (standing others journal)) (heard_by here) decision message-alike (decision-alike decision)))
      where
        by : (b : Bool) (other_heard heard : Heard Journal) (decision : Decision)
            → EventAlike journal (after_message of_journal (router_of others journal) frame other_heard) (after_message of_journal (router_of settings journal) frame heard)
            → EventAlike journal (after_decision of_journal (router_of others journal) frame decision) (after_decision of_journal (router_of settings journal) frame decision)
            → EventAlike journal (cond b (after_message of_journal (router_of others journal) frame other_heard) (after_decision of_journal (router_of others journal) frame decision))
            (cond b (after_message of_journal (router_of settings journal) frame heard) (after_decision of_journal (router_of settings journal) frame decision))
        by true other_heard heard decision told decided = told
        by false other_heard heard decision told decided = decided

  event-alike : (event : Event) (journal : Journal) → EventAlike journal (plain (router_of others journal) event) (plain (router_of settings journal) event)
  event-alike (Tick s) journal = tick-alike s journal
  event-alike (Arrival frame) journal = frame-alike frame journal

  -- ### events in order

  same-settings : (event : Event) (journal : Journal) → (plain (router_of settings journal) event).after ≡ router_of settings (plain (router_of settings journal) event).after.memory
  same-settings (Tick s) journal = refl
  same-settings (Arrival frame) journal = by (control settings frame) (hear_by of_journal (standing settings journal) frame.moment frame (unchanged journal)) (decide_by (standing settings journal) (view journal frame.moment) frame)
    where
      by : (b : Bool) (heard : Heard Journal) (decision : Decision)
          → (cond b (after_message of_journal (router_of settings journal) frame heard) (after_decision of_journal (router_of settings journal) frame decision)).after
          ≡ router_of settings (cond b (after_message of_journal (router_of settings journal) frame heard) (after_decision of_journal (router_of settings journal) frame decision)).after.memory
      by true heard decision = refl
      by false heard decision = refl

  -- the events go on from the journal of the first
  goes-on : (event : Event) (events : List Event) (journal : Journal) → played plain (plain (router_of settings journal) event).after events ≡ played plain (router_of settings (plain (router_of settings journal) event).after.memory) events
  goes-on event events journal = ap (λ (router : Router Journal). played plain router events) (same-settings event journal)

  all-kept : (events : List Event) (journal : Journal) → n < drawn journal → n < drawn (played plain (router_of settings journal) events).after.memory
  all-kept [] journal past = past
  all-kept (event ∷ events) journal past =
      let memory : Journal = (plain (router_of settings journal) event).after.memory in
      subst (λ (outcome : Outcome (Router Journal)). n < drawn outcome.after.memory) (sym (goes-on event events journal)) (all-kept events memory ((event-alike event journal).kept past))

  -- where no more are drawn, the same packets are sent
  all-alike : (events : List Event) (journal : Journal) → drawn (played plain (router_of settings journal) events).after.memory ≤ n → (played plain (router_of others journal) events).packets ≡ (played plain (router_of settings journal) events).packets
  all-alike [] journal few = refl
  all-alike (event ∷ later) journal few = by (event-alike event journal).same (all-alike later)
    where
      outcome : Outcome (Router Journal)
      outcome = plain (router_of settings journal) event

      few_behind : drawn (played plain (router_of settings outcome.after.memory) later).after.memory ≤ n
      few_behind = subst (λ (o : Outcome (Router Journal)). drawn o.after.memory ≤ n) (goes-on event later journal) few

      by : (n < drawn outcome.after.memory) ⊎ IsSame (plain (router_of others journal) event) outcome
          → ((journal : Journal) → drawn (played plain (router_of settings journal) later).after.memory ≤ n → (played plain (router_of others journal) later).packets ≡ (played plain (router_of settings journal) later).packets)
          → (played plain (router_of others journal) (event ∷ later)).packets ≡ (played plain (router_of settings journal) (event ∷ later)).packets
      by (inl past) alike = let more = all-kept later outcome.after.memory past in absurd (let none = few_behind in omega (arith, more, none))
      by (inr is) alike =
          let here : Journal = outcome.after.memory in
          let there : here ≡ is.memory = ap (λ (router : Router Journal). router.memory) is.after in
          let rest : (played plain (router_of others is.memory) later).packets ≡ (played plain (router_of settings is.memory) later).packets =
          alike is.memory (subst (λ (j : Journal). drawn (played plain (router_of settings j) later).after.memory ≤ n) there few_behind) in
          ap₂ (λ (first more : List Packet). first ++ more) is.packets
          (ap (λ (router : Router Journal). (played plain router later).packets) is.other_after ∙ rest ∙ sym (ap (λ (router : Router Journal). (played plain router later).packets) is.after))

-- ### the nonces that were drawn

first-at : (settings : Settings) (n i : ℕ) → i < n → slice_index (first_nonces settings n) i ≡ nonce_at settings i
first-at settings zero i below = absurd (omega (arith, below))
first-at settings (suc n) i below = by (cases_lt i n) (first-at settings n i)
  where
    length_is : length (first_nonces settings n) ≡ n
    length_is = length-first_nonces settings n

    by : (i < n) ⊎ (n ≤ i) → (i < n → slice_index (first_nonces settings n) i ≡ nonce_at settings i) → slice_index (first_nonces settings n ++ nonce_at settings n ∷ []) i ≡ nonce_at settings i
    by (inl before) rest = get_or_append_left (first_nonces settings n) (nonce_at settings n ∷ []) 0 i (let is = length_is in omega (arith, is, before)) ∙ rest before
    by (inr last) rest =
        let is : n ≡ i = omega (arith, last, below) in
        get_or_push (first_nonces settings n) (nonce_at settings n) 0 i (length_is ∙ is) ∙ ap (nonce_at settings) is

-- listed, they are drawn again
drawn-again : (settings : Settings) (seed : List ℕ) (n i : ℕ) → i < n → nonce_at (with_nonces settings seed (first_nonces settings n)) i ≡ nonce_at settings i
drawn-again settings seed n i below =
    let listed : nat_lt i (length (first_nonces settings n)) ≡ true = let is = length-first_nonces settings n in is_below i (length (first_nonces settings n)) (omega (arith, is, below)) in
    rw listed (first-at settings n i below)
  where
    is_below : (a b : ℕ) → a < b → nat_lt a b ≡ true
    is_below a b less = grind (arith, nat_tests)

-- so the replay sends the same
pub sent-again : (settings : Settings) (seed : List ℕ) (frames : List Frame) → sent_packets (with_nonces settings seed (drawn_nonces settings frames)) frames ≡ sent_packets settings frames
sent-again settings seed frames =
    let n = drawn (journal_after settings frames) in
    all-alike settings seed (first_nonces settings n) n (drawn-again settings seed n) (events frames) (statics settings) (omega arith)
