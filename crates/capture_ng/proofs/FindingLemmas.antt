-- What a reader finds, block by block, against what it passed.
use Rattle.std.proofs.Common.{◌≡◌, ◌≤◌, ◌+◌, ℕ, Bool, Global, Vec, false, List, [], ◌∷◌, drop, Option, Some, None, Result, Ok, Err, unwrap_or, refl, subst, sym, ap, ◌∙◌, arith}
use Rattle.std.specs.Option.{option_map, IfSome, MatchOption}
use Rattle.std.proofs.lemmas.List.{drop-drop}
use Rattle.desk.specs.World.{World, after_read, left_of}
use Rattle.desk.proofs.Reading.{IfSome_both, left_on, read_nothing, reads_on}
use Rattle.octets.specs.Rules.{first_failing}
use Rattle.capture_io.specs.Frame.{Frame}
use Rattle.capture_ng.proofs.BodyLemmas.{after-take, body-take, packet-take}
use Rattle.capture_ng.proofs.Runs.{found-end, found-step}
use Rattle.capture_ng.specs.Answers.{IsAnswer, is_outside_fault}
use Rattle.capture_ng.specs.Blocks.{head_of}
use Rattle.capture_ng.specs.Faults.{block_fault, body_rules, end_fault}
use Rattle.capture_ng.specs.Finding.{IsPast}
use Rattle.capture_ng.specs.Found.{Found, at_block, behind_block, found, further, stopped}
use Rattle.capture_ng.specs.Frames.{advanced, after_block, block_frame, rest}
use Rattle.capture_ng.specs.Held.{IsFront, IsHeld, block_size, next_fault}
use Rattle.capture_ng.specs.Packets.{frame_of, packet_in, packet_in_kind}
use Rattle.capture_ng.specs.Position.{Position}
use Rattle.capture_ng.specs.Reading.{IsNext, after_found}
use Rattle.capture_ng.specs.declared.head.Head.{Head}
use Rattle.capture_ng.specs.declared.fault.NgFault.{NgFault}

-- where what is next has a fault, it is found
found-fault : (vlans : Bool) (at : Position) (left : List ℕ) (fault : NgFault) → Some fault ≡ next_fault at left → found vlans at left ≡ stopped (Some fault) at
found-fault vlans at [] fault is = found-end vlans at ∙ ap (λ (o : Option NgFault). stopped o at) (sym is)
found-fault vlans at (x ∷ left) fault is =
    let l = x ∷ left in
    found-step vlans at x left
    ∙ ap (λ (o : Option NgFault). at_block o (block_frame vlans at l) at (advanced at l) (head_of at l).length (found vlans (advanced at l) (rest at l))) (sym is)

-- and the end is found where nothing is left
found-none : (vlans : Bool) (at : Position) (left : List ℕ) → left ≡ [] → None ≡ end_fault at → found vlans at left ≡ stopped None at
found-none vlans at left empty is =
    ap (λ (l : List ℕ). found vlans at l) empty ∙ found-end vlans at ∙ ap (λ (o : Option NgFault). stopped o at) (sym is)

-- a block whose body breaks a rule
front-refused : (vlans : Bool) (at : Position) (left octets : List ℕ) (head : Head) (fault : NgFault) → IsFront at left head octets → IsHeld at head octets
    → Some fault ≡ first_failing (body_rules head.kind at head octets) → found vlans at left ≡ stopped (Some fault) at
front-refused vlans at [] octets head fault front held fails = (let some = front.some in absurd (omega (arith, some)))
front-refused vlans at (x ∷ left) octets head fault front held fails =
    let l = x ∷ left in
    found-fault vlans at l fault (fails ∙ body-take head.kind head.order head.length at l octets held.least front.held ∙ sym front.fault)

-- a block that breaks none
front-taken : (vlans : Bool) (at next : Position) (left octets : List ℕ) (head : Head) (o : Option Frame) → IsFront at left head octets → IsHeld at head octets
    → first_failing (body_rules head.kind at head octets) ≡ None → next ≡ after_block head.kind at head octets → o ≡ option_map (frame_of vlans) (packet_in at head octets)
    → found vlans at left ≡ behind_block o next head.length (found vlans next (drop head.length left))
front-taken vlans at next [] octets head o front held none next_is o_is = (let some = front.some in absurd (omega (arith, some)))
front-taken vlans at next (x ∷ left) octets head o front held none next_is o_is =
    let l = x ∷ left in
    let passes : first_failing (body_rules head.kind at head l) ≡ None = sym (body-take head.kind head.order head.length at l octets held.least front.held) ∙ none in
    let block : block_fault at l ≡ None = front.fault ∙ passes in
    let position : next ≡ advanced at l = next_is ∙ after-take head.kind head.order head.length at l octets held.least front.held passes
    ∙ ap (λ (h : Head). after_block h.kind at h l) front.is in
    let frame : o ≡ block_frame vlans at l = o_is ∙ ap (λ p. option_map (frame_of vlans) p) (packet-take head.kind head.order head.length at l octets held.least front.held passes)
    ∙ ap (λ (h : Head). option_map (frame_of vlans) (packet_in_kind h.kind at h l)) front.is in
    let size : head.length ≡ (head_of at l).length = ap (λ (h : Head). h.length) front.is in
    let behind = found vlans (advanced at l) (rest at l) in
    found-step vlans at x left
    ∙ ap (λ (f : Option NgFault). at_block f (block_frame vlans at l) at (advanced at l) (head_of at l).length behind) block
    ∙ ap (λ (f : Option Frame). behind_block f (advanced at l) (head_of at l).length behind) (sym frame)
    ∙ ap (λ (p : Position). behind_block o p (head_of at l).length (found vlans p (rest at l))) (sym position)
    ∙ ap (λ (k : ℕ). behind_block o next k (found vlans next (drop k l))) (sym size)

-- no octets further, and so many after others
further-none : (f : Found) → f ≡ further 0 f
further-none f = let same : f.taken ≡ 0 + f.taken = omega arith in ap (λ (k : ℕ). record f { taken = k }) same

further-further : (a b : ℕ) (f : Found) → further a (further b f) ≡ further (a + b) f
further-further a b f = let same : a + (b + f.taken) ≡ a + b + f.taken = omega arith in ap (λ (k : ℕ). record f { taken = k }) same

-- what holds of each world
each : (o : Option World) {P : World → Type 0} → ((w : World) → P w) → IfSome o P
each None all = tt
each (Some w) all = all w

-- a fact that waits for another
waits : (o : Option World) (P : World → Type 0) (Q : Type 0) → (Q → IfSome o P) → IfSome o (λ w. Q → P w)
waits None P Q fact = tt
waits (Some w) P Q fact = fact

-- at first nothing was passed
pub past-start : (id : ℕ) (vlans : Bool) (told : Option World) (at : Position) → IsPast id vlans told told at at
past-start id vlans told at = record {
  taken = 0;
  told = read_nothing id told;
  found = each told (λ w. further-none (found vlans at (left_of id w)));
  count = refl;
  greatest = refl;
}

-- what is found where the reader stands is found from the old position
pub past-found : (id : ℕ) (vlans : Bool) (start now : Option World) (old at : Position) (e : Found) (past : IsPast id vlans start now old at)
    → IfSome now (λ w. found vlans at (left_of id w) ≡ e) → IfSome start (λ w. found vlans old (left_of id w) ≡ further past.taken e)
past-found id vlans start now old at e past is =
    IfSome_both start past.found (left_on id past.taken start now (λ left. found vlans at left ≡ e) past.told is) (λ w so_far here. so_far ∙ ap (λ (f : Found). further past.taken f) here)

-- a block, of a desk that may tell its octets
pub front_of : (id : ℕ) (now : Option World) (at : Position) (o : Option (Head × Vec ℕ Global)) (head : Head) (octets : Vec ℕ Global) → o ≡ Some (head, octets)
    → IfSome now (λ w. MatchOption o ((left_of id w ≡ []) × (None ≡ end_fault at)) (λ block. IsFront at (left_of id w) block.0 block.1.items))
    → IfSome now (λ w. IsFront at (left_of id w) head octets.items)
front_of id now at o head octets is front =
    subst (λ (b : Option (Head × Vec ℕ Global)). IfSome now (λ w. MatchOption b ((left_of id w ≡ []) × (None ≡ end_fault at)) (λ block. IsFront at (left_of id w) block.0 block.1.items))) is front

pub held_of : (at : Position) (o : Option (Head × Vec ℕ Global)) (head : Head) (octets : Vec ℕ Global) → o ≡ Some (head, octets)
    → IfSome o (λ block. IsHeld at block.0 block.1.items) → IsHeld at head octets.items
held_of at o head octets is held = subst (λ (b : Option (Head × Vec ℕ Global)). IfSome b (λ block. IsHeld at block.0 block.1.items)) is held

pub size_of : (id : ℕ) (now new : Option World) (o : Option (Head × Vec ℕ Global)) (head : Head) (octets : Vec ℕ Global) → o ≡ Some (head, octets)
    → new ≡ option_map (after_read id (block_size o)) now → new ≡ option_map (after_read id head.length) now
size_of id now new o head octets is told = subst (λ (b : Option (Head × Vec ℕ Global)). new ≡ option_map (after_read id (block_size b)) now) is told

-- what a block that breaks no rule is found to be
pub found_block : (id : ℕ) (vlans : Bool) (now : Option World) (at next : Position) (head : Head) (octets : List ℕ) (o : Option Frame)
    → IfSome now (λ w. IsFront at (left_of id w) head octets) → IsHeld at head octets
    → first_failing (body_rules head.kind at head octets) ≡ None → next ≡ after_block head.kind at head octets → o ≡ option_map (frame_of vlans) (packet_in at head octets)
    → IfSome now (λ w. found vlans at (left_of id w) ≡ behind_block o next head.length (found vlans next (drop head.length (left_of id w))))
found_block id vlans now at next head octets o front held none next_is o_is =
    IfSome_both now front front (λ w is same. front-taken vlans at next (left_of id w) octets head o is held none next_is o_is)

-- a block without a frame is passed
pub past-block : (id : ℕ) (vlans : Bool) (start now new : Option World) (old at next : Position) (size : ℕ) → IsPast id vlans start now old at
    → IfSome now (λ w. found vlans at (left_of id w) ≡ behind_block None next size (found vlans next (drop size (left_of id w))))
    → new ≡ option_map (after_read id size) now → (next.count ≡ at.count) × (next.greatest ≡ at.greatest) → IsPast id vlans start new old next
past-block id vlans start now new old at next size past here moved stays = record {
  taken = past.taken + size;
  told = reads_on id past.taken size start now new past.told moved;
  found = IfSome_both start past.found (left_on id past.taken start now (λ left. found vlans at left ≡ further size (found vlans next (drop size left))) past.told here) (λ w so_far step.
      so_far ∙ ap (λ (f : Found). further past.taken f) step
      ∙ further-further past.taken size (found vlans next (drop size (drop past.taken (left_of id w))))
      ∙ ap (λ (l : List ℕ). further (past.taken + size) (found vlans next l)) (drop-drop size past.taken (left_of id w)));
  count = stays.0 ∙ past.count;
  greatest = stays.1 ∙ past.greatest;
}

-- what is found of a fault
pub fault_found : (id : ℕ) (vlans : Bool) (start now : Option World) (old at : Position) (fault : NgFault) (past : IsPast id vlans start now old at)
    → (is_outside_fault fault ≡ false → IfSome now (λ w. Some fault ≡ next_fault at (left_of id w)))
    → IfSome start (λ w. is_outside_fault fault ≡ false → found vlans old (left_of id w) ≡ further past.taken (stopped (Some fault) at))
fault_found id vlans start now old at fault past fails =
    waits start (λ w. found vlans old (left_of id w) ≡ further past.taken (stopped (Some fault) at)) (is_outside_fault fault ≡ false) (λ inside.
    let here = fails inside in
    past-found id vlans start now old at (stopped (Some fault) at) past (IfSome_both now here here (λ w is same. found-fault vlans at (left_of id w) fault is)))

pub refused_found : (id : ℕ) (vlans : Bool) (start now : Option World) (old at : Position) (head : Head) (octets : List ℕ) (fault : NgFault) (past : IsPast id vlans start now old at)
    → IfSome now (λ w. IsFront at (left_of id w) head octets) → IsHeld at head octets
    → (is_outside_fault fault ≡ false → Some fault ≡ first_failing (body_rules head.kind at head octets))
    → IfSome start (λ w. is_outside_fault fault ≡ false → found vlans old (left_of id w) ≡ further past.taken (stopped (Some fault) at))
refused_found id vlans start now old at head octets fault past front held fails =
    waits start (λ w. found vlans old (left_of id w) ≡ further past.taken (stopped (Some fault) at)) (is_outside_fault fault ≡ false) (λ inside.
    past-found id vlans start now old at (stopped (Some fault) at) past (IfSome_both now front front (λ w is same. front-refused vlans at (left_of id w) octets head fault is held (fails inside))))

-- the end, and what is found there
pub end_found : (id : ℕ) (vlans : Bool) (start now : Option World) (old at : Position) (o : Option (Head × Vec ℕ Global)) (past : IsPast id vlans start now old at) → o ≡ None
    → IfSome now (λ w. MatchOption o ((left_of id w ≡ []) × (None ≡ end_fault at)) (λ block. IsFront at (left_of id w) block.0 block.1.items))
    → IfSome start (λ w. found vlans old (left_of id w) ≡ further past.taken (stopped None at))
end_found id vlans start now old at o past is ends =
    let here : IfSome now (λ w. (left_of id w ≡ []) × (None ≡ end_fault at)) =
    subst (λ (b : Option (Head × Vec ℕ Global)). IfSome now (λ w. MatchOption b ((left_of id w ≡ []) × (None ≡ end_fault at)) (λ block. IsFront at (left_of id w) block.0 block.1.items))) is ends in
    past-found id vlans start now old at (stopped None at) past (IfSome_both now here here (λ w at_end same. found-none vlans at (left_of id w) at_end.0 at_end.1))

-- a frame, and what is found then
pub frame_found : (id : ℕ) (vlans : Bool) (start now : Option World) (old at next : Position) (f : Frame) (size : ℕ) (past : IsPast id vlans start now old at)
    → IfSome now (λ w. found vlans at (left_of id w) ≡ behind_block (Some f) next size (found vlans next (drop size (left_of id w))))
    → IfSome start (λ w. found vlans old (left_of id w) ≡ record { answer = Ok (Some f); position = next; taken = past.taken + size })
frame_found id vlans start now old at next f size past here =
    past-found id vlans start now old at (record { answer = Ok (Some f); position = next; taken = size }) past here

-- where it stands then, and what the desk has read
pub found_stands : (id : ℕ) (vlans : Bool) (start : Option World) (old : Position) (e : Found) → IfSome start (λ w. found vlans old (left_of id w) ≡ e)
    → IfSome start (λ w. false ≡ false → e.position ≡ (found vlans old (left_of id w)).position)
found_stands id vlans start old e is = IfSome_both start is is (λ w here same inside. sym (ap (λ (f : Found). f.position) here))

pub found_told : (id : ℕ) (vlans : Bool) (start new : Option World) (old : Position) (e : Found) → IfSome start (λ w. found vlans old (left_of id w) ≡ e)
    → new ≡ option_map (after_read id e.taken) start → new ≡ option_map (after_found id vlans old) start
found_told id vlans None new old e is told = told
found_told id vlans (Some w) new old e is told = told ∙ ap (λ (f : Found). Some (after_read id f.taken w)) (sym is)

-- an answer, unless it tells of the desk or of memory
pub answers : (id : ℕ) (vlans : Bool) (start : Option World) (old : Position) (e : Found) (result : Result (Option Frame) NgFault) → result ≡ e.answer
    → IfSome start (λ w. found vlans old (left_of id w) ≡ e) → IfSome start (λ w. IsAnswer result (found vlans old (left_of id w)).answer)
answers id vlans start old e result same is = IfSome_both start is is (λ w here other outside. same ∙ sym (ap (λ (f : Found). f.answer) here))

pub fault_answers : (id : ℕ) (vlans : Bool) (start : Option World) (old at : Position) (fault : NgFault) (taken : ℕ)
    → IfSome start (λ w. is_outside_fault fault ≡ false → found vlans old (left_of id w) ≡ further taken (stopped (Some fault) at))
    → IfSome start (λ w. is_outside_fault fault ≡ false → Err fault ≡ (found vlans old (left_of id w)).answer)
fault_answers id vlans start old at fault taken is = IfSome_both start is is (λ w here other inside. sym (ap (λ (f : Found). f.answer) (here inside)))

pub fault_stands : (id : ℕ) (vlans : Bool) (start : Option World) (old at next : Position) (fault : NgFault) (taken : ℕ) → next ≡ at
    → IfSome start (λ w. is_outside_fault fault ≡ false → found vlans old (left_of id w) ≡ further taken (stopped (Some fault) at))
    → IfSome start (λ w. is_outside_fault fault ≡ false → next ≡ (found vlans old (left_of id w)).position)
fault_stands id vlans start old at next fault taken same is = IfSome_both start is is (λ w here other inside. same ∙ sym (ap (λ (f : Found). f.position) (here inside)))

-- the desk at the end
pub end_told : (id : ℕ) (vlans : Bool) (start now new : Option World) (old at : Position) (o : Option (Head × Vec ℕ Global)) (past : IsPast id vlans start now old at) → o ≡ None
    → new ≡ option_map (after_read id (block_size o)) now → IfSome start (λ w. found vlans old (left_of id w) ≡ further past.taken (stopped None at))
    → new ≡ option_map (after_found id vlans old) start
end_told id vlans start now new old at o past none told is =
    let here : new ≡ option_map (after_read id 0) now = subst (λ (b : Option (Head × Vec ℕ Global)). new ≡ option_map (after_read id (block_size b)) now) none told in
    found_told id vlans start new old (further past.taken (stopped None at)) is (reads_on id past.taken 0 start now new past.told here)

-- a frame that may come at a position may come where it was reached without one
pub next_past : (vlans : Bool) (old at : Position) (o : Option Frame) (f : Frame) → at.count ≡ old.count → at.greatest ≡ old.greatest → o ≡ Some f
    → IfSome o (IsNext vlans at) → IsNext vlans old f
next_past vlans old at o f count greatest is next =
    let here : IsNext vlans at f = subst (λ (b : Option Frame). IfSome b (IsNext vlans at)) is next in
    record {
      number = here.number ∙ ap (λ (n : ℕ). n + 1) count;
      most = here.most;
      later = subst (λ (m : Option ℕ). unwrap_or m 0 ≤ f.moment) greatest here.later;
      moment = here.moment;
      size = here.size;
      octets = here.octets;
    }
