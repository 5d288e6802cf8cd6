-- Packets that are held against the records of a capture, one after another.
use Rattle.std.proofs.Common.{◌≡◌, ◌≤◌, ◌<◌, ◌+◌, ℕ, zero, suc, List, [], ◌∷◌, ◌++◌, length, drop, nat_lt, Option, Some, None, Ok, Err, is_some, slice_get, append_assoc, refl, ap, sym, subst, inl, inr, arith, ◌∙◌}
use Rattle.std.specs.Option.{IfSome, IsSomeAnd}
use Rattle.std.proofs.lemmas.Bool.{le-ltb, lt-ltb}
use Rattle.std.proofs.lemmas.List.{append-nil, drop-drop, length-append, map-append}
use Rattle.std.proofs.lemmas.Option.{slice_get_cases}
use Rattle.std.proofs.Math.Seq.{drop-nil}
use Rattle.audit.specs.Compared.{all_expected, compared, expected, finished}
use Rattle.audit.specs.declared.outcome.Outcome.{Outcome as Comparison}
use Rattle.audit.specs.declared.outcome.Outcome.TheVariants.{Same}
use Rattle.desk.specs.World.{World}
use Rattle.capture_events.specs.Events.{Packet, records_of}
use Rattle.capture_io.specs.Frame.{Frame}
use Rattle.capture_io.specs.Reading.{Reading}
use Rattle.capture_io.specs.Run.{Run}
use Rattle.capture_io.specs.declared.fault.CaptureFault.{CaptureFault}
use Rattle.auditing.specs.Auditing.{octets_of, run_in}
use Rattle.auditing.specs.Coming.{Comes, IsFaultOf, StaysBut}
use Rattle.auditing.specs.Holding.{IsHeld}
use Rattle.auditing.specs.declared.holding.Holding.{Holding}

-- the first of those that are left
first-left : (frames : List Frame) (n : ℕ) → slice_get frames n ≡ slice_get (drop n frames) 0
first-left [] n = ap (λ (l : List Frame). slice_get l 0) (sym (drop-nil n))
first-left (frame ∷ frames) zero = refl
first-left (frame ∷ frames) (suc n) = first-left frames n

-- there is a further one
further : (frames : List Frame) (n : ℕ) → is_some (slice_get frames n) ≡ nat_lt n (length frames)
further frames n =
    elim (slice_get_cases frames n).1 [
      | inl there ↦ ap is_some there.2 ∙ sym (lt-ltb n (length frames) there.1)
      | inr past ↦ ap is_some past.1 ∙ sym (le-ltb n (length frames) past.0)
    ]

-- what a reader gave was the first frame that was left, and leaves the others
record IsTaken (found : Option Frame) (run rest : Run CaptureFault) : Type 0 where
  first : slice_get run.frames 0 ≡ found
  frames : rest.frames ≡ drop 1 run.frames
  fault : rest.fault ≡ run.fault

taken : (found : Option Frame) (a next : Reading) (w v : World) → Comes (Ok found) a next w (Some v) → IsTaken found (run_in a w) (run_in next v)
taken None a next w v comes = record {
  first = ap (λ (run : Run CaptureFault). slice_get run.frames 0) comes.0;
  frames = ap (λ (run : Run CaptureFault). run.frames) comes.1.0 ∙ ap (λ (run : Run CaptureFault). drop 1 run.frames) (sym comes.0);
  fault = ap (λ (run : Run CaptureFault). run.fault) comes.1.0 ∙ ap (λ (run : Run CaptureFault). run.fault) (sym comes.0);
}
taken (Some f) a next w v comes = record {
  first = ap (λ (run : Run CaptureFault). slice_get run.frames 0) comes.0;
  frames = ap (λ (run : Run CaptureFault). drop 1 run.frames) (sym comes.0);
  fault = ap (λ (run : Run CaptureFault). run.fault) (sym comes.0);
}

-- and it leaves what others read
stays-taken : (found : Option Frame) (a next : Reading) (w v : World) → Comes (Ok found) a next w (Some v) → StaysBut a.id w v
stays-taken None a next w v comes = comes.1.1
stays-taken (Some f) a next w v comes = comes.1

-- a packet more, with the record that is next
pub held-next : (packets : List (List ℕ)) (packet : List ℕ) (run : Run CaptureFault) (base : World) (a : Holding) (next : Reading) (auditor : Comparison) (found : Option Frame) (told now : Option World)
    → ((outcome : Comparison) (packets : List (List ℕ)) (packet : List ℕ) (frames : List Frame) → all_expected outcome (packets ++ packet ∷ []) frames ≡ expected (all_expected outcome packets frames) packet (slice_get frames (length packets)))
    → IsSomeAnd told (IsHeld packets run base a) → IfSome told (λ w. Comes (Ok found) a.sent next w now) → next.id ≡ a.sent.id → auditor ≡ expected a.auditor packet found
    → IsSomeAnd now (IsHeld (packets ++ packet ∷ []) run base (record { sent = next; auditor = auditor }))
held-next packets packet run base a next auditor found None now law held comes id is = absurd held
held-next packets packet run base a next auditor None (Some w) None law held comes id is = absurd comes.1
held-next packets packet run base a next auditor (Some f) (Some w) None law held comes id is = absurd comes
held-next packets packet run base a next auditor found (Some w) (Some v) law held comes id is =
    let n = length packets in
    let got = taken found a.sent next w v comes in
    let stays = stays-taken found a.sent next w v comes in
    let here : slice_get run.frames n ≡ found = first-left run.frames n ∙ ap (λ (l : List Frame). slice_get l 0) (sym held.frames) ∙ got.first in
    let more : length (packets ++ packet ∷ []) ≡ n + 1 = length-append packets (packet ∷ []) in
    record {
      compares = is ∙ ap (λ (o : Comparison). expected o packet found) held.compares
          ∙ ap (expected (all_expected (Same 0) packets run.frames) packet) (sym here) ∙ sym (law (Same 0) packets packet run.frames);
      frames = got.frames ∙ ap (drop 1) held.frames ∙ drop-drop 1 n run.frames ∙ ap (λ (m : ℕ). drop m run.frames) (sym more);
      fault = got.fault ∙ held.fault;
      others = λ other apart. (let not_it = rw id at apart in stays other not_it ∙ held.others other not_it);
    }

-- a fault in place of a record
pub held-fault : (packets : List (List ℕ)) (run : Run CaptureFault) (base : World) (a : Holding) (next : Reading) (fault : CaptureFault) (told now : Option World)
    → IsSomeAnd told (IsHeld packets run base a) → IfSome told (λ w. Comes (Err fault) a.sent next w now) → IsFaultOf run fault
held-fault packets run base a next fault None now held comes = absurd held
held-fault packets run base a next fault (Some w) now held comes = λ own. sym held.fault ∙ ap (λ (r : Run CaptureFault). r.fault) (comes own)

-- ### the end

-- a fault of the rest is one of the whole
pub rest-fault : (packets : List (List ℕ)) (run : Run CaptureFault) (base : World) (a : Holding) (next : Reading) (found : Option Frame) (fault : CaptureFault) (told mid : Option World)
    → IsSomeAnd told (IsHeld packets run base a) → IfSome told (λ w. Comes (Ok found) a.sent next w mid) → IfSome mid (λ v. IsFaultOf (run_in next v) fault) → IsFaultOf run fault
rest-fault packets run base a next found fault None mid held comes is = absurd held
rest-fault packets run base a next None fault (Some w) None held comes is = absurd comes.1
rest-fault packets run base a next (Some f) fault (Some w) None held comes is = absurd comes
rest-fault packets run base a next found fault (Some w) (Some v) held comes is = λ own.
    sym held.fault ∙ sym (taken found a.sent next w v comes).fault ∙ is own

-- it has none, and there was a further record or not
pub held-all : (packets : List (List ℕ)) (run : Run CaptureFault) (base : World) (a : Holding) (next : Reading) (found : Option Frame) (outcome : Comparison) (told mid : Option World)
    → ((packets : List (List ℕ)) (frames : List Frame) → finished (all_expected (Same 0) packets frames) (nat_lt (length packets) (length frames)) ≡ compared packets frames)
    → IsSomeAnd told (IsHeld packets run base a) → IfSome told (λ w. Comes (Ok found) a.sent next w mid) → IfSome mid (λ v. (run_in next v).fault ≡ None)
    → outcome ≡ finished a.auditor (is_some found) → (run.fault ≡ None) × (outcome ≡ compared packets run.frames)
held-all packets run base a next found outcome None mid law held comes none is = absurd held
held-all packets run base a next None outcome (Some w) None law held comes none is = absurd comes.1
held-all packets run base a next (Some f) outcome (Some w) None law held comes none is = absurd comes
held-all packets run base a next found outcome (Some w) (Some v) law held comes none is =
    let n = length packets in
    let got = taken found a.sent next w v comes in
    let here : slice_get run.frames n ≡ found = first-left run.frames n ∙ ap (λ (l : List Frame). slice_get l 0) (sym held.frames) ∙ got.first in
    let more : is_some found ≡ nat_lt n (length run.frames) = ap is_some (sym here) ∙ further run.frames n in (
      sym held.fault ∙ sym got.fault ∙ none,
      is ∙ ap (λ (o : Comparison). finished o (is_some found)) held.compares ∙ ap (finished (all_expected (Same 0) packets run.frames)) more ∙ law packets run.frames,
    )

-- ### the packets of records

-- more packets were held
abbrev pub HeldSince : List (List ℕ) → Holding → Option World → Holding → Option World → Type 0
HeldSince more before told after now =
    (packets : List (List ℕ)) (run : Run CaptureFault) (base : World) → IsSomeAnd told (IsHeld packets run base before) → IsSomeAnd now (IsHeld (packets ++ more) run base after)

-- some packets were held, and the records of the others are left
pub record Reached (packets : List Packet) (rest : List ℕ) (before : Holding) (told : Option World) (after : Holding) (now : Option World) : Type 0 where
  pub done : List Packet
  pub others : List Packet
  pub whole : done ++ others ≡ packets
  pub left : rest ≡ records_of others
  pub holds : HeldSince (octets_of done) before told after now

-- a fact of packets, under another name
held-as : (a b : List (List ℕ)) (run : Run CaptureFault) (base : World) (holding : Holding) (now : Option World) → a ≡ b → IsSomeAnd now (IsHeld a run base holding) → IsSomeAnd now (IsHeld b run base holding)
held-as a b run base holding now same held = subst (λ (l : List (List ℕ)). IsSomeAnd now (IsHeld l run base holding)) same held

-- a packet more
pub reached-on : (packets : List Packet) (rest more packet : List ℕ) (before mid after : Holding) (told then now : Option World) → Reached packets rest before told mid then → 16 ≤ length rest
    → ((p : Packet) (others : List Packet) → rest ≡ records_of (p ∷ others) → packet ≡ p.octets)
    → ((p : Packet) (others : List Packet) → rest ≡ records_of (p ∷ others) → more ≡ records_of others)
    → HeldSince (packet ∷ []) mid then after now → Reached packets more before told after now
reached-on packets rest more packet before mid after told then now reached header is are holds = by reached.others reached.whole reached.left
  where
    by : (others : List Packet) → reached.done ++ others ≡ packets → rest ≡ records_of others → Reached packets more before told after now
    by [] whole left = (let none = ap length left in absurd (omega (arith, none, header)))
    by (p ∷ others) whole left =
        let done = reached.done in
        let one : octets_of done ++ packet ∷ [] ≡ octets_of (done ++ p ∷ []) =
        ap (λ (o : List ℕ). octets_of done ++ o ∷ []) (is p others left) ∙ sym (map-append (λ (q : Packet). q.octets) done (p ∷ [])) in
        record {
          done = done ++ p ∷ [];
          others = others;
          whole = append_assoc done (p ∷ []) others ∙ whole;
          left = are p others left;
          holds = λ past run base held.
              held-as ((past ++ octets_of done) ++ packet ∷ []) (past ++ octets_of (done ++ p ∷ [])) run base after now
              (append_assoc past (octets_of done) (packet ∷ []) ∙ ap (λ (l : List (List ℕ)). past ++ l) one)
              (holds (past ++ octets_of done) run base (reached.holds past run base held));
        }

-- all of them
pub reached-all : (packets : List Packet) (rest : List ℕ) (before after : Holding) (told now : Option World) → Reached packets rest before told after now → length rest < 16
    → HeldSince (octets_of packets) before told after now
reached-all packets rest before after told now reached few = by reached.others reached.whole reached.left
  where
    by : (others : List Packet) → reached.done ++ others ≡ packets → rest ≡ records_of others → HeldSince (octets_of packets) before told after now
    by [] whole left = subst (λ (l : List Packet). HeldSince (octets_of l) before told after now) (sym (append-nil reached.done) ∙ whole) reached.holds
    by (p ∷ others) whole left = (let some = ap length left in absurd (omega (arith, some, few)))
