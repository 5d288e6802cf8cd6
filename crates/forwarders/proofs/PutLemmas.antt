-- Lines and packets that are put together are those of the items that were gathered.
use Rattle.std.proofs.Common.{◌≡◌, ◌∙◌, ℕ, suc, ◌+◌, ◌*◌, ◌^◌, ◌≤◌, ◌<◌, Bool, true, false, cond, List, [], ◌∷◌, ◌++◌, length, map, Option, Some, None, All, IfSome, append_assoc, refl, sym, ap, subst, arith}
use Rattle.std.specs.List.{AllZip}
use Rattle.std.proofs.lemmas.List.{length-append, map-append}
use Rattle.std.proofs.lemmas.List.Elements.{All-append, All-cons, All-nil}
use Rattle.capture_io.specs.Frame.{Frame}
use Rattle.capture_io.specs.Limits.{most_frame_octets}
use Rattle.lisp_settings.specs.declared.settings.Settings.{Settings}
use Rattle.capture_events.specs.Events as events
use Rattle.capture_events.specs.Events.{Event, Tick, Arrival, arrivals}
use Rattle.router_log.specs.Moments.{seconds}
use Rattle.router_log.specs.declared.verdict.Verdict.{Verdict}
use Rattle.router_model.specs.Changes.{Change, unchanged}
use Rattle.router_model.specs.Course.{control}
use Rattle.router_model.specs.Hear.{hear_by}
use Rattle.router_model.specs.Parts.{Parts, standing_in, table}
use Rattle.router_model.specs.Plain.{emit_packets, packet_of, packets_of}
use Rattle.router_model.specs.Rounds as rounds
use Rattle.router_model.specs.Sides.{Item, Second, Message, Data, data_in, left_for_later, lines_by, message_written, packets_by, writing}
use Rattle.router_model.specs.Tick.{ticked}
use Rattle.forwarders.specs.declared.gathering.Gathered.{Gathered}
use Rattle.forwarders.specs.declared.gathering.Gathered.TheVariants as mark
use Rattle.forwarders.specs.declared.round_done.Line.{Line}
use Rattle.forwarders.specs.declared.round_done.Packet.{Packet}
use Rattle.forwarders.specs.declared.ruling.Ruled.{Ruled}
use Rattle.forwarders.specs.Given.{IsGiven}
use Rattle.forwarders.specs.Gathering.{IsFit, IsWritable, all_gathered, left_in, left_of, lines_in, packet_gathered, packet_made, packets_in, sent_of}
use Rattle.forwarders.specs.Rounding.{HasCome, line_seen, packet_seen}
use Rattle.forwarders.specs.Ruling.{HasLooked, HaveLooked, ruling_of}

-- packets that are gathered
abbrev pub all_packets : List events.Packet → List Gathered
all_packets packets = map packet_gathered packets

-- ### lines

-- packets have no lines
lines-packets : (packets : List events.Packet) (items : List Gathered) (ruled : List Ruled) → lines_in (all_packets packets ++ items) ruled ≡ lines_in items ruled
lines-packets [] items ruled = refl
lines-packets (packet ∷ packets) items ruled = lines-packets packets items ruled

lines-only : (packets : List events.Packet) (ruled : List Ruled) → lines_in (all_packets packets) ruled ≡ []
lines-only [] ruled = refl
lines-only (packet ∷ packets) ruled = lines-only packets ruled

-- behind packets, and before more
lines-behind : (packets : List events.Packet) (items more : List Gathered) (ruled : List Ruled) → lines_in ((all_packets packets ++ items) ++ more) ruled ≡ lines_in (items ++ more) ruled
lines-behind packets items more ruled =
    ap (λ (l : List Gathered). lines_in l ruled) (append_assoc (all_packets packets) items more) ∙ lines-packets packets (items ++ more) ruled

-- the lines of items, with the packets of notices behind them
pub lines-seen : (items : List Item) (more : List events.Packet) (ruled : List Ruled) → map line_seen (lines_in (all_gathered items ++ all_packets more) ruled) ≡ lines_by items (map ruling_of ruled)
lines-seen [] more ruled = ap (λ (l : List Line). map line_seen l) (lines-only more ruled)
lines-seen (Second packets ∷ items) more ruled =
    ap (λ (l : List Line). map line_seen l) (lines-behind packets (all_gathered items) (all_packets more) ruled) ∙ lines-seen items more ruled
lines-seen (Message line packets ∷ items) more ruled =
    ap (λ (l : List rounds.Line). line ∷ l)
    (ap (λ (l : List Line). map line_seen l) (lines-behind packets (all_gathered items) (all_packets more) ruled) ∙ lines-seen items more ruled)
lines-seen (Data frame ∷ items) more [] = lines-seen items more []
lines-seen (Data frame ∷ items) more (one ∷ ruled) =
    ap (λ (l : List rounds.Line). rounds.line_of frame one.n one.decision.verdict ∷ l) (lines-seen items more ruled)

-- ### data packets

-- packets are none
left-packets : (packets : List events.Packet) (items : List Gathered) → left_in (all_packets packets ++ items) ≡ left_in items
left-packets [] items = refl
left-packets (packet ∷ packets) items = let rest = left-packets packets items in omega (arith, rest)

left-only : (packets : List events.Packet) → left_in (all_packets packets) ≡ 0
left-only [] = refl
left-only (packet ∷ packets) = let rest = left-only packets in omega (arith, rest)

left-behind : (items : List Gathered) (packets : List events.Packet) → left_in (items ++ all_packets packets) ≡ left_in items
left-behind [] packets = left-only packets
left-behind (item ∷ items) packets = ap (λ (n : ℕ). left_of item + n) (left-behind items packets)

-- with packets behind what was gathered, there are as many
pub left-noted : (old new : List Gathered) (packets : List events.Packet) → new ≡ old ++ all_packets packets → left_in new ≡ left_in old
left-noted old new packets is = ap left_in is ∙ left-behind old packets

-- those of items are gathered
pub left-data : (items : List Item) → left_in (all_gathered items) ≡ length (data_in items)
left-data [] = refl
left-data (Second packets ∷ items) = left-packets packets (all_gathered items) ∙ left-data items
left-data (Message line packets ∷ items) =
    let here = left-packets packets (all_gathered items) in
    let rest = left-data items in
    omega (arith, here, rest)
left-data (Data frame ∷ items) = let rest = left-data items in omega (arith, rest)

-- ### packets

seen-made : (packets : List events.Packet) → map packet_seen (map packet_made packets) ≡ packets
seen-made [] = refl
seen-made (packet ∷ packets) = ap (λ (l : List events.Packet). packet ∷ l) (seen-made packets)

packets-packets : (packets : List events.Packet) (items : List Gathered) (ruled : List Ruled) → packets_in (all_packets packets ++ items) ruled ≡ map packet_made packets ++ packets_in items ruled
packets-packets [] items ruled = refl
packets-packets (packet ∷ packets) items ruled = ap (λ (l : List Packet). packet_made packet ∷ l) (packets-packets packets items ruled)

packets-only : (packets : List events.Packet) (ruled : List Ruled) → packets_in (all_packets packets) ruled ≡ map packet_made packets
packets-only [] ruled = refl
packets-only (packet ∷ packets) ruled = ap (λ (l : List Packet). packet_made packet ∷ l) (packets-only packets ruled)

packets-behind : (packets : List events.Packet) (items more : List Gathered) (ruled : List Ruled) → packets_in ((all_packets packets ++ items) ++ more) ruled ≡ map packet_made packets ++ packets_in (items ++ more) ruled
packets-behind packets items more ruled =
    ap (λ (l : List Gathered). packets_in l ruled) (append_assoc (all_packets packets) items more) ∙ packets-packets packets (items ++ more) ruled

-- packets in front of others
seen-behind : (packets by more : List events.Packet) (items : List Packet) → map packet_seen items ≡ by ++ more → map packet_seen (map packet_made packets ++ items) ≡ (packets ++ by) ++ more
seen-behind packets by more items is =
    map-append packet_seen (map packet_made packets) items
    ∙ (ap (λ (l : List events.Packet). l ++ map packet_seen items) (seen-made packets)
    ∙ (ap (λ (l : List events.Packet). packets ++ l) is ∙ sym (append_assoc packets by more)))

-- the packets of items, and those of notices behind them
pub packets-seen : (items : List Item) (more : List events.Packet) (ruled : List Ruled) → map packet_seen (packets_in (all_gathered items ++ all_packets more) ruled) ≡ packets_by items (map ruling_of ruled) ++ more
packets-seen [] more ruled = ap (λ (l : List Packet). map packet_seen l) (packets-only more ruled) ∙ seen-made more
packets-seen (Second packets ∷ items) more ruled =
    ap (λ (l : List Packet). map packet_seen l) (packets-behind packets (all_gathered items) (all_packets more) ruled)
    ∙ seen-behind packets (packets_by items (map ruling_of ruled)) more _ (packets-seen items more ruled)
packets-seen (Message line packets ∷ items) more ruled =
    ap (λ (l : List Packet). map packet_seen l) (packets-behind packets (all_gathered items) (all_packets more) ruled)
    ∙ seen-behind packets (packets_by items (map ruling_of ruled)) more _ (packets-seen items more ruled)
packets-seen (Data frame ∷ items) more [] = packets-seen items more []
packets-seen (Data frame ∷ items) more (one ∷ ruled) =
    seen-behind (packets_of frame.moment (packet_of one.decision.verdict)) (packets_by items (map ruling_of ruled)) more _ (packets-seen items more ruled)

-- ### packets fit records

sent-fit : (moment : ℕ) (packet : Option (List ℕ)) → IfSome packet (λ octets. length octets ≤ most_frame_octets) → moment < 2 ^ 32 * 1000000000 → All IsWritable (map packet_made (packets_of moment packet))
sent-fit moment None size early = All-nil IsWritable
sent-fit moment (Some octets) size early =
    All-cons IsWritable (packet_made (record { moment = moment; octets = octets })) [] (record { size = size; moment = early }) (All-nil IsWritable)

-- the first of all, and the others
first-all : {A : Type 0} (P : A → Type 0) (x : A) (xs : List A) → All P (x ∷ xs) → P x
first-all P x xs all = all 0 x (omega arith)

others-all : {A : Type 0} (P : A → Type 0) (x : A) (xs : List A) → All P (x ∷ xs) → All P xs
others-all P x xs all = λ k d below. all (suc k) d (omega (arith, below))

abbrev AreGiven : List Ruled → Type 0
AreGiven ruled = All (λ one. IsGiven one.decision) ruled

pub packets-fit : (items : List Gathered) (ruled : List Ruled) → All IsFit items → AreGiven ruled → All IsWritable (packets_in items ruled)
packets-fit [] ruled fit given = All-nil IsWritable
packets-fit (mark.Packet packet ∷ items) ruled fit given =
    All-cons IsWritable packet (packets_in items ruled) (first-all IsFit (mark.Packet packet) items fit) (packets-fit items ruled (others-all IsFit (mark.Packet packet) items fit) given)
packets-fit (mark.Message line ∷ items) ruled fit given = packets-fit items ruled (others-all IsFit (mark.Message line) items fit) given
packets-fit (mark.Left number moment ∷ items) [] fit given = packets-fit items [] (others-all IsFit (mark.Left number moment) items fit) given
packets-fit (mark.Left number moment ∷ items) (one ∷ ruled) fit given =
    let here : IsGiven one.decision = first-all (λ (r : Ruled). IsGiven r.decision) one ruled given in
    All-append IsWritable (sent_of moment one.decision.verdict) (packets_in items ruled)
    (sent-fit moment (packet_of one.decision.verdict) here.size (first-all IsFit (mark.Left number moment) items fit))
    (packets-fit items ruled (others-all IsFit (mark.Left number moment) items fit) (others-all (λ (r : Ruled). IsGiven r.decision) one ruled given))

sent-few : (moment : ℕ) (packet : Option (List ℕ)) → length (map packet_made (packets_of moment packet)) ≤ 1
sent-few moment None = omega arith
sent-few moment (Some octets) = omega arith

-- there are no more packets than is gathered
pub packets-few : (items : List Gathered) (ruled : List Ruled) → length (packets_in items ruled) ≤ length items
packets-few [] ruled = omega arith
packets-few (mark.Packet packet ∷ items) ruled = let rest = packets-few items ruled in omega (arith, rest)
packets-few (mark.Message line ∷ items) ruled = let rest = packets-few items ruled in omega (arith, rest)
packets-few (mark.Left number moment ∷ items) [] = let rest = packets-few items [] in omega (arith, rest)
packets-few (mark.Left number moment ∷ items) (one ∷ ruled) =
    let rest = packets-few items ruled in
    let sent = sent-few moment (packet_of one.decision.verdict) in
    let both = length-append (sent_of moment one.decision.verdict) (packets_in items ruled) in
    omega (arith, rest, sent, both)

-- ### where lines came from

module _ (settings : Settings) (last : ℕ) (more : List events.Packet) where
  abbrev Come : List Frame → List Item → List Ruled → Type 0
  Come frames items ruled = AllZip (HasCome settings last) frames (lines_in (all_gathered items ++ all_packets more) ruled)

  abbrev Enough : List Item → List Ruled → Type 0
  Enough items ruled = length ruled ≡ length (data_in items)

  -- the line of a control message
  message-comes : (frame : Frame) (n : ℕ) (verdict : Verdict) (packets : List events.Packet) (frames : List Frame) (rest : List Item) (ruled : List Ruled) → control settings frame ≡ true → Come frames rest ruled → Come (frame ∷ frames) (Message (rounds.line_of frame n verdict) packets ∷ rest) ruled
  message-comes frame n verdict packets frames rest ruled message come = (
    record { look = tt; message = λ _. refl; alone = λ is. absurd (cc (message, is)) },
    subst (AllZip (HasCome settings last) frames) (sym (lines-behind packets (all_gathered rest) (all_packets more) ruled)) come,
  )

  -- the line of a data packet
  data-comes : (frame : Frame) (frames : List Frame) (rest : List Item) (one : Ruled) (ruled : List Ruled) → control settings frame ≡ false → HasLooked last one → Come frames rest ruled → Come (frame ∷ frames) (Data frame ∷ rest) (one ∷ ruled)
  data-comes frame frames rest one ruled apart looked come =
      (record { look = looked.look; message = λ is. absurd (cc (apart, is)); alone = λ _. looked.alone }, come)

  abbrev Follow : List Event → Parts → Type 0
  Follow events parts = (ruled : List Ruled) → HaveLooked last ruled → Enough (writing table settings parts events).items ruled → Come (arrivals events) (writing table settings parts events).items ruled

  -- of a frame, by what follows it
  frame-comes : (frame : Frame) (events : List Event) (parts : Parts) → Follow events (hear_by table (standing_in settings parts) frame.moment frame (unchanged parts)).change.after → Follow events parts → Follow (Arrival frame ∷ events) parts
  frame-comes frame events parts heard left = by (control settings frame) refl
    where
      by : (b : Bool) → control settings frame ≡ b → (ruled : List Ruled) → HaveLooked last ruled → let written = cond b (message_written table settings parts.count frame (hear_by table (standing_in settings parts) frame.moment frame (unchanged parts))) (left_for_later parts frame) in Enough (written.items ++ (writing table settings written.after events).items) ruled → Come (frame ∷ arrivals events) (written.items ++ (writing table settings written.after events).items) ruled
      by true is ruled looked enough =
          let h = hear_by table (standing_in settings parts) frame.moment frame (unchanged parts) in
          message-comes frame parts.count h.verdict (emit_packets (standing_in settings h.change.after) frame.moment h.change.emits) (arrivals events) (writing table settings h.change.after events).items ruled is (heard ruled looked enough)
      by false is [] looked enough = absurd (let bad : ⊥ = omega (arith, enough) in bad)
      by false is (one ∷ ruled) looked enough =
          data-comes frame (arrivals events) (writing table settings parts events).items one ruled is (first-all (HasLooked last) one ruled looked)
          (left ruled (others-all (HasLooked last) one ruled looked) (omega (arith, enough)))

  -- of events in order, with a ruling for each data packet
  pub lines-come : (events : List Event) (parts : Parts) → Follow events parts
  lines-come [] parts ruled looked enough = subst (AllZip (HasCome settings last) []) (sym (lines-only more ruled)) tt
  lines-come (Tick s ∷ events) parts ruled looked enough =
      let change : Change Parts = ticked table settings (seconds s) (unchanged parts) in
      let rest : List Item = (writing table settings change.after events).items in
      subst (AllZip (HasCome settings last) (arrivals events)) (sym (lines-behind (emit_packets (standing_in settings change.after) (seconds s) change.emits) (all_gathered rest) (all_packets more) ruled))
      (lines-come events change.after ruled looked enough)
  lines-come (Arrival frame ∷ events) parts ruled looked enough =
      frame-comes frame events parts
      (λ r l e. lines-come events (hear_by table (standing_in settings parts) frame.moment frame (unchanged parts)).change.after r l e)
      (λ r l e. lines-come events parts r l e) ruled looked enough
