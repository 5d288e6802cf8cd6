-- With rounds of one frame the router with forwarders is the plain one.
use Rattle.std.proofs.Common.{◌≡◌, ℕ, suc, ◌-◌, ◌<◌, not, Bool, true, false, cond, List, [], ◌∷◌, ◌++◌, drop, get_or, length, map, replicate, Option, Some, None, refl, sym, ap, subst, ◌∙◌, inl, inr, arith, append_assoc}
use Rattle.std.specs.List.{All, Contains, range_with_len}
use Rattle.std.proofs.lemmas.List.{append-nil, length-replicate}
use Rattle.std.proofs.lemmas.List.Elements.{All-head, All-replicate, All-tail, Contains-get_or}
use Rattle.capture_io.specs.Frame.{Frame}
use Rattle.lisp_settings.specs.declared.settings.Settings.{Settings}
use Rattle.capture_events.specs.Events.{Event, Outcome, Packet, Tick, Arrival, events, events_after, events_of, followed, idle, played, second_of}
use Rattle.capture_events.proofs.EventLemmas.{played-append}
use Rattle.router_log.specs.Moments.{seconds}
use Rattle.router_log.specs.declared.decision.Decision.{Decision}
use Rattle.router_log.specs.declared.notice.Notice.{Notice}
use Rattle.router_model.specs.Changes.{Change, each, journal as of_journal, unchanged}
use Rattle.router_model.specs.Course.{control}
use Rattle.router_model.specs.Decide.{decide}
use Rattle.router_model.specs.Hear.{Heard, hear, hear_by}
use Rattle.router_model.specs.Journal.{Journal, first}
use Rattle.router_model.specs.Note.{noted}
use Rattle.router_model.specs.Plain.{Router, after_decision, after_message, emit_packets, packet_of, packets_of, plain, started}
use Rattle.router_model.specs.Rounds.{AllLawful, AreLawful, Told, advanced, after_round, all_advanced, and_then, closing_moment, data_frames, decided, ends, lengths, nothing, of_data, of_events, of_message, round, round_of_events, rounds_from, with_if, with_notices}
use Rattle.router_model.specs.Sharing.{NumbersExist, SinglesAreForced, SinglesArePlain, RoundsFollow, LawfulFollow, previous_after}
use Rattle.router_model.specs.Standing.{standing}
use Rattle.router_model.specs.Tick.{tick}
use Rattle.router_model.proofs.CutLemmas.{cut-singly}
use Rattle.router_model.proofs.SideLemmas.{none-of, one-of}

-- all of a journal
first-all : (journal : Journal) → first (length journal) journal ≡ journal
first-all journal = ap (λ n. drop n journal) (let none : length journal - length journal ≡ 0 = omega arith in none)

-- seconds, and then a frame
abbrev behind_seconds : List ℕ → Frame → List Event
behind_seconds ss frame = map Tick ss ++ Arrival frame ∷ []

module _ (settings : Settings) (frame : Frame) where
  abbrev router_of : Journal → Router Journal
  router_of journal = record { settings = settings; memory = journal }

  -- the round is what the plain router does
  abbrev IsPlain : List Event → Journal → List ℕ → Type 0
  IsPlain events journal ns = after_round (router_of journal) (round_of_events settings frame.moment journal events ns) ≡ played plain (router_of journal) events

  message-plain : (journal : Journal) (heard : Heard Journal) → after_round (router_of journal) (with_notices settings frame.moment heard.change.after (and_then (of_message settings journal frame heard) nothing)) ≡ followed (after_message of_journal (router_of journal) frame heard) (idle (after_message of_journal (router_of journal) frame heard).after)
  message-plain journal heard =
      let packets : List Packet = emit_packets (standing settings heard.change.after) frame.moment heard.change.emits in
      ap (λ p. record (after_round (router_of journal) (with_notices settings frame.moment heard.change.after (and_then (of_message settings journal frame heard) nothing))) { packets = p })
      (append-nil (packets ++ []))

  abbrev change_of : Journal → List Notice → Change Journal
  change_of journal notices = each (noted of_journal (standing settings journal) frame.moment) notices (unchanged journal)

  abbrev sent : Journal → List Notice → List Packet
  sent journal notices = emit_packets (standing settings (change_of journal notices).after) frame.moment (change_of journal notices).emits

  -- the outcome of a decision, with these packets
  abbrev out : Journal → Decision → List Notice → List Packet → Outcome (Router Journal)
  out journal decision notices packets = record {
    lines = (after_decision of_journal (router_of journal) frame decision).lines ++ [];
    packets = packets;
    after = router_of (change_of journal notices).after;
  }

  data-plain : (journal : Journal) (decision : Decision) → after_round (router_of journal) (with_notices settings frame.moment journal (and_then (of_data settings frame (length journal) decision) nothing)) ≡ followed (after_decision of_journal (router_of journal) frame decision) (idle (after_decision of_journal (router_of journal) frame decision).after)
  data-plain journal decision =
      let first : List Packet = packets_of frame.moment (packet_of decision.verdict) in
      ap (λ notices. out journal decision notices ((first ++ []) ++ sent journal notices)) (append-nil decision.notices)
      ∙ ap (λ p. out journal decision decision.notices (p ++ sent journal decision.notices)) (append-nil first)
      ∙ ap (λ p. out journal decision decision.notices p) (sym (append-nil (first ++ sent journal decision.notices)))

  -- a number of a round of one data packet
  abbrev IsWhole : Journal → List ℕ → Type 0
  IsWhole journal ns = control settings frame ≡ false → get_or ns 0 0 ≡ length journal

  frame-plain : (journal : Journal) (ns : List ℕ) → IsWhole journal ns → IsPlain (Arrival frame ∷ []) journal ns
  frame-plain journal ns whole = by (control settings frame) refl
    where
      by : (b : Bool) → control settings frame ≡ b → let last = cond b (hear settings journal frame.moment frame).change.after journal in after_round (router_of journal) (with_notices settings frame.moment last (and_then (cond b (of_message settings journal frame (hear settings journal frame.moment frame)) (of_data settings frame (get_or ns 0 0) (decided settings last (get_or ns 0 0) frame))) nothing)) ≡ let out = cond b (after_message of_journal (router_of journal) frame (hear_by of_journal (standing settings journal) frame.moment frame (unchanged journal))) (after_decision of_journal (router_of journal) frame (decide settings journal frame.moment frame)) in followed out (idle out.after)
      by true is = message-plain journal (hear settings journal frame.moment frame)
      by false is =
          ap (λ n. after_round (router_of journal) (with_notices settings frame.moment journal (and_then (of_data settings frame n (decide settings (first n journal) frame.moment frame)) nothing))) (whole is)
          ∙ ap (λ j. after_round (router_of journal) (with_notices settings frame.moment journal (and_then (of_data settings frame (length journal) (decide settings j frame.moment frame)) nothing))) (first-all journal)
          ∙ data-plain journal (decide settings journal frame.moment frame)

  -- the number of a data packet in a round of one frame
  whole-number : (journal : Journal) (ns : List ℕ) → All (Contains (length journal ∷ lengths settings journal (Arrival frame ∷ []))) ns → length ns ≡ length (data_frames settings (frame ∷ [])) → IsWhole journal ns
  whole-number journal ns all each = by (control settings frame) all each
    where
      by : (b : Bool) → All (Contains (length journal ∷ with_if b (length (cond b (hear settings journal frame.moment frame).change.after journal)) [])) ns → length ns ≡ length (cond (not b) (frame ∷ []) []) → b ≡ false → get_or ns 0 0 ≡ length journal
      by true all each is = absurd cc
      by false all each is =
          elim (one-of (length journal) [] (get_or ns 0 0) (all 0 0 (omega (arith, each)))) as (λ _. get_or ns 0 0 ≡ length journal)
          [ inl same ↦ sym same | inr more ↦ absurd (none-of (get_or ns 0 0) more) ]

  -- seconds, and then the frame
  seconds-plain : (ss : List ℕ) (journal : Journal) (ns : List ℕ) → All (Contains (ends settings journal (behind_seconds ss frame))) ns → length ns ≡ length (data_frames settings (frame ∷ [])) → IsPlain (behind_seconds ss frame) journal ns
  seconds-plain [] journal ns all each = frame-plain journal ns (whole-number journal ns all each)
  seconds-plain (s ∷ ss) journal ns all each =
      let change : Change Journal = tick settings journal s in
      let events : List Event = behind_seconds ss frame in
      let last : Journal = all_advanced settings change.after events in
      let told : Told = of_events settings last change.after ns events in
      let packets : List Packet = emit_packets (standing settings change.after) (seconds s) change.emits in
      ap (λ p. record (after_round (router_of journal) (with_notices settings frame.moment last told)) { packets = p })
      (append_assoc packets told.packets (sent last told.notices))
      ∙ ap (followed (plain (router_of journal) (Tick s))) (seconds-plain ss change.after ns all each)

-- the events of a frame
events-behind : (previous : Option ℕ) (frame : Frame) → (ss : List ℕ) × (events_of previous frame ≡ behind_seconds ss frame)
events-behind None frame = ([], refl)
events-behind (Some from) frame =
    (range_with_len (suc (second_of from)) (second_of frame.moment - second_of from), refl)

events-one : (previous : Option ℕ) (frame : Frame) → events_after previous (frame ∷ []) ≡ events_of previous frame
events-one previous frame = append-nil (events_of previous frame)

-- a round of one frame
single-plain : (router : Router Journal) (previous : Option ℕ) (frame : Frame) (ns : List ℕ) → AreLawful router.settings previous (frame ∷ []) router.memory ns → after_round router (round router.settings previous (frame ∷ []) router.memory ns) ≡ played plain router (events_of previous frame)
single-plain router previous frame ns lawful =
    let behind = events-behind previous frame in
    let same : events_after previous (frame ∷ []) ≡ behind_seconds behind.0 frame = events-one previous frame ∙ behind.1 in
    ap (λ events. after_round router (round_of_events router.settings frame.moment router.memory events ns)) same
    ∙ seconds-plain router.settings frame behind.0 router.memory ns
    (subst (λ events. All (Contains (ends router.settings router.memory events)) ns) same lawful.ends) lawful.each
    ∙ ap (played plain router) (sym behind.1)

abbrev singles : List Frame → List (List Frame)
singles frames = map (λ frame. frame ∷ []) frames

all-plain : (router : Router Journal) (previous : Option ℕ) (frames : List Frame) (ns : List (List ℕ)) → AllLawful router previous (singles frames) ns → rounds_from router previous (singles frames) ns ≡ played plain router (events_after previous frames)
all-plain router previous [] ns lawful = refl
all-plain router previous (frame ∷ frames) ns lawful =
    let one : Outcome (Router Journal) = after_round router (round router.settings previous (frame ∷ []) router.memory (get_or ns 0 [])) in
    let rest : List Event = events_after (Some frame.moment) frames in
    ap (followed one) (all-plain one.after (Some frame.moment) frames (drop 1 ns) lawful.1.1)
    ∙ ap (λ (t : Outcome (Router Journal)). followed t (played plain t.after rest)) (single-plain router previous frame (get_or ns 0 []) lawful.1.0)
    ∙ sym (played-append plain router (events_of previous frame) rest)

pub singles-are-plain : SinglesArePlain
singles-are-plain settings frames ns lawful =
    ap (λ r. rounds_from (started settings) None r ns) (cut-singly frames)
    ∙ all-plain (started settings) None frames ns (subst (λ r. AllLawful (started settings) None r ns) (cut-singly frames) lawful)

-- ### no choice of numbers

alike : (x : ℕ) (ms ns : List ℕ) → All (Contains (x ∷ [])) ms → All (Contains (x ∷ [])) ns → length ms ≡ length ns → ms ≡ ns
alike x [] [] first next same = refl
alike x [] (n ∷ ns) first next same = absurd (let bad : ⊥ = omega (arith, same) in bad)
alike x (m ∷ ms) [] first next same = absurd (let bad : ⊥ = omega (arith, same) in bad)
alike x (m ∷ ms) (n ∷ ns) first next same =
    let one = only m (All-head (Contains (x ∷ [])) m ms first) in
    let other = only n (All-head (Contains (x ∷ [])) n ns next) in
    ap (λ k. k ∷ ms) (sym one ∙ other)
    ∙ ap (λ l. n ∷ l) (alike x ms ns (All-tail (Contains (x ∷ [])) m ms first) (All-tail (Contains (x ∷ [])) n ns next) (omega (arith, same)))
  where
    only : (k : ℕ) → Contains (x ∷ []) k → x ≡ k
    only k has = elim (one-of x [] k has) as (λ _. x ≡ k) [ inl is ↦ is | inr more ↦ absurd (none-of k more) ]

empty-list : (ns : List ℕ) → length ns ≡ 0 → ns ≡ []
empty-list [] none = refl
empty-list (n ∷ ns) none = absurd (let bad : ⊥ = omega (arith, none) in bad)

module _ (settings : Settings) (frame : Frame) where
  -- numbers that a round of this frame may have, by its events
  abbrev MayHave : List Event → Journal → List ℕ → Type 0
  MayHave events journal ns = All (Contains (ends settings journal events)) ns × (length ns ≡ length (data_frames settings (frame ∷ [])))

  frame-forced : (journal : Journal) (ms ns : List ℕ) → MayHave (Arrival frame ∷ []) journal ms → MayHave (Arrival frame ∷ []) journal ns → ms ≡ ns
  frame-forced journal ms ns = by (control settings frame)
    where
      by : (b : Bool) → let list = length journal ∷ with_if b (length (cond b (hear settings journal frame.moment frame).change.after journal)) [] in let most = length (cond (not b) (frame ∷ []) []) in All (Contains list) ms × (length ms ≡ most) → All (Contains list) ns × (length ns ≡ most) → ms ≡ ns
      by true one other = empty-list ms one.1 ∙ sym (empty-list ns other.1)
      by false one other = alike (length journal) ms ns one.0 other.0 (one.1 ∙ sym other.1)

  seconds-forced : (ss : List ℕ) (journal : Journal) (ms ns : List ℕ) → MayHave (behind_seconds ss frame) journal ms → MayHave (behind_seconds ss frame) journal ns → ms ≡ ns
  seconds-forced [] journal ms ns one other = frame-forced journal ms ns one other
  seconds-forced (s ∷ ss) journal ms ns one other =
      seconds-forced ss (tick settings journal s).after ms ns one other

single-forced : (settings : Settings) (previous : Option ℕ) (frame : Frame) (journal : Journal) (ms ns : List ℕ) → AreLawful settings previous (frame ∷ []) journal ms → AreLawful settings previous (frame ∷ []) journal ns → ms ≡ ns
single-forced settings previous frame journal ms ns one other =
    let behind = events-behind previous frame in
    let same : events_after previous (frame ∷ []) ≡ behind_seconds behind.0 frame = events-one previous frame ∙ behind.1 in
    seconds-forced settings frame behind.0 journal ms ns
    (subst (λ events. All (Contains (ends settings journal events)) ms) same one.ends, one.each)
    (subst (λ events. All (Contains (ends settings journal events)) ns) same other.ends, other.each)

some-list : (ns : List (List ℕ)) → 0 < length ns → ns ≡ get_or ns 0 [] ∷ drop 1 ns
some-list [] some = absurd (let bad : ⊥ = omega (arith, some) in bad)
some-list (n ∷ ns) some = refl

all-forced : (router : Router Journal) (previous : Option ℕ) (frames : List Frame) (ms ns : List (List ℕ)) → AllLawful router previous (singles frames) ms → AllLawful router previous (singles frames) ns → ms ≡ ns
all-forced router previous [] ms ns one other = one ∙ sym other
all-forced router previous (frame ∷ frames) ms ns one other =
    let first : get_or ms 0 [] ≡ get_or ns 0 [] = single-forced router.settings previous frame router.memory (get_or ms 0 []) (get_or ns 0 []) one.1.0 other.1.0 in
    some-list ms one.0
    ∙ ap (λ l. l ∷ drop 1 ms) first
    ∙ ap (λ l. get_or ns 0 [] ∷ l) (all-forced (after_round router (round router.settings previous (frame ∷ []) router.memory (get_or ns 0 []))).after (Some frame.moment) frames (drop 1 ms) (drop 1 ns)
    (subst (λ l. AllLawful (after_round router (round router.settings previous (frame ∷ []) router.memory l)).after (Some frame.moment) (singles frames) (drop 1 ms)) first one.1.1) other.1.1)
    ∙ sym (some-list ns other.0)

pub singles-are-forced : SinglesAreForced
singles-are-forced settings frames ms ns one other =
    all-forced (started settings) None frames ms ns
    (subst (λ r. AllLawful (started settings) None r ms) (cut-singly frames) one)
    (subst (λ r. AllLawful (started settings) None r ns) (cut-singly frames) other)

-- ### numbers for each round: its first length

ends-some : (settings : Settings) (journal : Journal) (events : List Event) → 0 < length (ends settings journal events)
ends-some settings journal [] = omega arith
ends-some settings journal (Tick s ∷ events) = ends-some settings (advanced settings journal (Tick s)) events
ends-some settings journal (Arrival frame ∷ events) = omega arith

pub numbers-exist : NumbersExist
numbers-exist router previous [] = ([], refl)
numbers-exist router previous (frames ∷ others) =
    let all : List ℕ = ends router.settings router.memory (events_after previous frames) in
    let few : ℕ = length (data_frames router.settings frames) in
    let ns : List ℕ = replicate few (get_or all 0 0) in
    let rest = numbers-exist (after_round router (round router.settings previous frames router.memory ns)).after (Some (closing_moment frames)) others in (
      ns ∷ rest.0,
      (
        omega arith,
        (
          record {
            ends = All-replicate (Contains all) few (get_or all 0 0) (Contains-get_or all 0 0 (ends-some router.settings router.memory (events_after previous frames)));
            each = length-replicate few (get_or all 0 0);
          },
          rest.1,
        ),
      ),
    )

-- ### rounds one after another

followed-assoc : {S : Type 0} (a b c : Outcome S) → followed (followed a b) c ≡ followed a (followed b c)
followed-assoc a b c =
    ap (λ l. record (followed (followed a b) c) { lines = l }) (append_assoc a.lines b.lines c.lines)
    ∙ ap (λ p. record (followed a (followed b c)) { packets = p }) (append_assoc a.packets b.packets c.packets)

no-numbers : (ms : List (List ℕ)) → length ms ≡ 0 → [] ≡ ms
no-numbers [] none = refl
no-numbers (m ∷ ms) none = absurd (let bad : ⊥ = omega (arith, none) in bad)

pub rounds-follow : RoundsFollow
rounds-follow router previous [] next ms ns same =
    subst (λ l. rounds_from router previous next (l ++ ns) ≡ followed (idle router) (rounds_from router previous next ns)) (no-numbers ms same) refl
rounds-follow router previous (frames ∷ one) next [] ns same = absurd (let bad : ⊥ = omega (arith, same) in bad)
rounds-follow router previous (frames ∷ one) next (m ∷ ms) ns same =
    let first : Outcome (Router Journal) = after_round router (round router.settings previous frames router.memory m) in
    let before : Outcome (Router Journal) = rounds_from first.after (Some (closing_moment frames)) one ms in
    ap (followed first) (rounds-follow first.after (Some (closing_moment frames)) one next ms ns (omega (arith, same)))
    ∙ sym (followed-assoc first before (rounds_from before.after (previous_after (Some (closing_moment frames)) one) next ns))

pub lawful-follow : LawfulFollow
lawful-follow router previous [] next ms ns first others =
    subst (λ l. AllLawful router previous next (l ++ ns)) (sym first) others
lawful-follow router previous (frames ∷ one) next [] ns first others = absurd (let some = first.0 in let bad : ⊥ = omega (arith, some) in bad)
lawful-follow router previous (frames ∷ one) next (m ∷ ms) ns first others =
    (omega arith, (first.1.0, lawful-follow (after_round router (round router.settings previous frames router.memory m)).after (Some (closing_moment frames)) one next ms ns first.1.1 others))
