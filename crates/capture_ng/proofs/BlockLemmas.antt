-- A block that is read to its end: what its octets in memory say is what the file says.
use Rattle.std.proofs.Common.{◌≡◌, ◌≤◌, ◌<◌, ◌+◌, ◌-◌, ◌++◌, ◌==◌, ◌%◌, ◌&&◌, ◌||◌, not, nat_le, nat_lt, ℕ, IsTrue, Bool, true, false, List, [], ◌∷◌, drop, take, length, Option, Some, None, Ok, Err, is_some, if◌then◌else◌, refl, subst, sym, ap, ◌∙◌, arith, inl, inr}
use Rattle.std.proofs.lemmas.Bool.{cases_Bool, cases_lt, le-leb, lt-leb, leb-true, ltb-true}
use Rattle.std.proofs.lemmas.List.{append_assoc, drop_at, length-take, take_all}
use Rattle.std.proofs.Math.Seq.{take-add}
use Rattle.std.specs.Option.{option_map, IfSome}
use Rattle.desk.specs.World.{World, after_read, left_of}
use Rattle.desk.proofs.Reading.{IfSome_both, left_on, reads_on}
use Rattle.octets.proofs.RuleLemmas.{all_hold, first_failing-append, first_failing-append_refused}
use Rattle.octets.specs.Rules.{first_failing}
use Rattle.capture_io.proofs.Fronts.{number-take}
use Rattle.capture_io.specs.Limits.{most_records}
use Rattle.capture_io.specs.Capture.{number}
use Rattle.capture_io.specs.declared.order.Order.{Order}
use Rattle.capture_ng.proofs.EndLemmas.{ended-whole, last_number-rest}
use Rattle.capture_ng.proofs.Fronts.{kind_at-take, order_of-take, section-take}
use Rattle.capture_ng.specs.Answers.{is_outside_fault, unless}
use Rattle.capture_ng.specs.Blocks.{begins_section, first_size, head_of, is_magic, is_packet, is_read, kind_at, last_number, least_length, order_of}
use Rattle.capture_ng.specs.Faults.{begin_rules, block_fault, body_rules, ended_rules, has_room, head_rules, length_rules, whole_rules}
use Rattle.capture_ng.specs.Held.{IsFront, next_fault}
use Rattle.capture_ng.specs.Limits.{most_blocks}
use Rattle.capture_ng.specs.Position.{Position}
use Rattle.capture_ng.specs.declared.head.Head.{Head}
use Rattle.capture_ng.specs.declared.head.Kind.{Kind}
use Rattle.capture_ng.specs.declared.head.Kind.TheVariants.{SectionHeader, InterfaceDescription, ObsoletePacket, SimplePacket, EnhancedPacket, Other}
use Rattle.capture_ng.specs.declared.fault.NgFault.{NgFault}
use Rattle.capture_ng.specs.declared.fault.NgFault.TheVariants.{TooManyRecords, CutBlock, BadMagic}

-- a front of so many octets has them, where the whole has
size-take : (k size : ℕ) (left : List ℕ) → k ≤ size → nat_le k (length (take size left)) ≡ nat_le k (length left)
size-take k size left within =
    elim (cases_lt (length left) k) [
      | inl short ↦ rw (lt-leb k (length (take size left)) (omega (arith, short, length-take size left)), lt-leb k (length left) short) refl
      | inr long ↦ rw (le-leb k (length (take size left)) (omega (arith, long, length-take size left)), le-leb k (length left) long) refl
    ]

-- at least eight octets are first ones
least_first : (left : List ℕ) → 8 ≤ first_size left
least_first left = elim (cases_Bool (begins_section left)) [ inl yes_section ↦ rw yes_section (omega arith) | inr none_section ↦ rw none_section (omega arith) ]

-- what a block's first octets say
pub head_of-first : (at : Position) (left : List ℕ) → head_of at (take (first_size left) left) ≡ head_of at left
head_of-first at left =
    let size = first_size left in
    let some = least_first left in
    let order = order_of-take at size left (omega arith) in
    let total = ap (λ (o : Order). number o 4 (take size left) 4) order ∙ number-take (order_of at left) 4 4 size left (omega (arith, some)) in
    rw (kind_at-take at size left (omega (arith, some)), total, order) refl

-- the five rules of a block's first octets, by their tests
abbrev five : Position → Bool → Bool → Bool → Bool → Bool → List (Bool × NgFault)
five at a b c d e = (a, TooManyRecords) ∷ (b, CutBlock at.place) ∷ (c, BadMagic) ∷ (d, CutBlock at.place) ∷ (e, BadMagic) ∷ []

five-same : (at : Position) (a b c d e f g h i j : Bool) → a ≡ f → b ≡ g → c ≡ h → d ≡ i → e ≡ j → five at a b c d e ≡ five at f g h i j
five-same at a b c d e f g h i j p q r s t = rw (p, q, r, s, t) refl

-- a test that is asked of a section header alone
asked : (section a b : Bool) → (section ≡ true → a ≡ b) → (not section || a) ≡ (not section || b)
asked true a b same = same refl
asked false a b same = refl

-- there are twelve of a section header
section_first : (left : List ℕ) → begins_section left ≡ true → 12 ≤ first_size left
section_first left section = rw section (omega arith)

-- those rules read no more than the first octets
begin_rules-first : (at : Position) (left : List ℕ) → begin_rules at (take (first_size left) left) ≡ begin_rules at left
begin_rules-first at left =
    let size = first_size left in
    let front = take size left in
    let some = least_first left in
    let section = section-take size left (omega (arith, some)) in
    let order = order_of-take at size left (omega arith) in
    let room : has_room at front ≡ has_room at left =
    ap (λ (b : Bool). nat_lt at.blocks most_blocks && (not (b && is_packet (kind_at at front)) || nat_lt at.count most_records)) (size-take 4 size left (omega (arith, some)))
    ∙ ap (λ (k : Kind). nat_lt at.blocks most_blocks && (not (nat_le 4 (length left) && is_packet k) || nat_lt at.count most_records)) (kind_at-take at size left (omega (arith, some))) in
    let known = ap (λ (b : Bool). b || is_some at.order) section in
    let long = ap (λ (b : Bool). not b || nat_le 12 (length front)) section
    ∙ asked (begins_section left) (nat_le 12 (length front)) (nat_le 12 (length left)) (λ is. size-take 12 size left (section_first left is)) in
    let magic = ap (λ (b : Bool). not b || is_magic (number (order_of at front) 4 front 8)) section
    ∙ asked (begins_section left) (is_magic (number (order_of at front) 4 front 8)) (is_magic (number (order_of at left) 4 left 8)) (λ is.
    let whole = section_first left is in
    ap (λ (o : Order). is_magic (number o 4 front 8)) order ∙ ap (λ (m : ℕ). is_magic m) (number-take (order_of at left) 4 8 size left (omega (arith, whole)))) in
    five-same at (has_room at front) (nat_le 8 (length front)) (begins_section front || is_some at.order) (not (begins_section front) || nat_le 12 (length front)) (not (begins_section front) || is_magic (number (order_of at front) 4 front 8))
    (has_room at left) (nat_le 8 (length left)) (begins_section left || is_some at.order) (not (begins_section left) || nat_le 12 (length left)) (not (begins_section left) || is_magic (number (order_of at left) 4 left 8))
    room (size-take 8 size left (omega (arith, some))) known long magic

-- and so do those of the whole head
pub head_rules-first : (at : Position) (left : List ℕ) → first_failing (head_rules at (take (first_size left) left)) ≡ first_failing (head_rules at left)
head_rules-first at left =
    ap (λ (h : Head). first_failing (begin_rules at (take (first_size left) left) ++ length_rules at h)) (head_of-first at left)
    ∙ ap (λ (rules : List (Bool × NgFault)). first_failing (rules ++ length_rules at (head_of at left))) (begin_rules-first at left)

-- a rule that is broken in the first two of four tables
refused_front : (a b c : List (Bool × NgFault)) (f : NgFault) → first_failing (a ++ b) ≡ Some f → first_failing (a ++ (b ++ c)) ≡ Some f
refused_front a b c f is = ap (λ (rules : List (Bool × NgFault)). first_failing rules) (sym (append_assoc a b c)) ∙ first_failing-append_refused (a ++ b) c f is

passed_front : (a b c : List (Bool × NgFault)) → first_failing (a ++ b) ≡ None → first_failing (a ++ (b ++ c)) ≡ first_failing c
passed_front a b c is = ap (λ (rules : List (Bool × NgFault)). first_failing rules) (sym (append_assoc a b c)) ∙ first_failing-append (a ++ b) c is

-- a block whose head breaks a rule
block_fault-head : (at : Position) (left : List ℕ) (f : NgFault) → first_failing (head_rules at left) ≡ Some f → block_fault at left ≡ Some f
block_fault-head at left f is =
    let head = head_of at left in
    refused_front (begin_rules at left) (length_rules at head) (whole_rules at head left ++ body_rules head.kind at head left) f is

-- one whose head breaks none
block_fault-whole : (at : Position) (left : List ℕ) → first_failing (head_rules at left) ≡ None
    → block_fault at left ≡ first_failing (whole_rules at (head_of at left) left ++ body_rules (head_of at left).kind at (head_of at left) left)
block_fault-whole at left is =
    let head = head_of at left in
    passed_front (begin_rules at left) (length_rules at head) (whole_rules at head left ++ body_rules head.kind at head left) is

-- where something is left, what is next is a block
next_fault-block : (at : Position) (left : List ℕ) → 0 < length left → next_fault at left ≡ block_fault at left
next_fault-block at [] some = absurd (omega arith)
next_fault-block at (x ∷ left) some = refl

-- what was judged
unless_ok : {T : Type 0} (o : Option NgFault) (value given : T) → Ok given ≡ unless o value → (o ≡ None) × (given ≡ value)
unless_ok None value given e = (refl, cc)
unless_ok (Some fault) value given e = (cc, cc)

unless_err : {T : Type 0} (o : Option NgFault) (value : T) (fault : NgFault) → Err fault ≡ unless o value → o ≡ Some fault
unless_err None value fault e = cc
unless_err (Some other) value fault e = cc

-- some octets came, so some were left
some_left : (left first : List ℕ) → first ≡ take (first_size left) left → 0 < length first → 0 < length left
some_left left first is some = omega (arith, some, length-take (first_size left) left, ap (λ (l : List ℕ). length l) is)

-- a head that breaks a rule is the fault of what is next
pub bad_head : (at : Position) (left first : List ℕ) (fault : NgFault) → first ≡ take (first_size left) left → 0 < length first
    → Err fault ≡ unless (first_failing (head_rules at first)) (head_of at first) → Some fault ≡ next_fault at left
bad_head at left first fault is some judged =
    let fails = unless_err (first_failing (head_rules at first)) (head_of at first) fault judged in
    let same = sym (head_rules-first at left) ∙ ap (λ (l : List ℕ). first_failing (head_rules at l)) (sym is) ∙ fails in
    sym (next_fault-block at left (some_left left first is some) ∙ block_fault-head at left fault same)

-- a head that breaks none is that of the block that is next
pub good_head : (at : Position) (left first : List ℕ) (head : Head) → first ≡ take (first_size left) left
    → Ok head ≡ unless (first_failing (head_rules at first)) (head_of at first) → (first_failing (head_rules at left) ≡ None) × (head ≡ head_of at left)
good_head at left first head is judged =
    let says = unless_ok (first_failing (head_rules at first)) (head_of at first) head judged in (
      sym (head_rules-first at left) ∙ ap (λ (l : List ℕ). first_failing (head_rules at l)) (sym is) ∙ says.0,
      says.1 ∙ ap (λ (l : List ℕ). head_of at l) is ∙ head_of-first at left,
    )

-- what a head that breaks none says by itself
room_for : (a b c d : Bool) → (a && (not (b && c) || d)) ≡ true → b ≡ true → c ≡ true → d ≡ true
room_for true true true d e _ _ = e
room_for true true false d e _ bad = cc
room_for true false c d e bad _ = cc
room_for false b c d e _ _ = cc

first_of : (a b : Bool) → (a && b) ≡ true → a ≡ true
first_of true b e = refl
first_of false b e = cc

second_of : (a b : Bool) → (a && b) ≡ true → b ≡ true
second_of true b e = e
second_of false b e = cc

-- the least length of a block leaves four octets behind its first ones
rest_some : (at : Position) (first : List ℕ) (total : ℕ) → least_length (kind_at at first) ≤ total → length first ≤ first_size first → length first + 4 ≤ total
rest_some at first total least most =
    elim (cases_Bool (begins_section first)) [
      | inl yes_section ↦ (let a : 28 ≤ total = rw yes_section at least in (let b : length first ≤ 12 = rw yes_section at most in omega (arith, a, b)))
      | inr none_section ↦ (let a = rest_other (kind_at at first) total least in (let b : length first ≤ 8 = rw none_section at most in omega (arith, a, b)))
    ]
  where
    rest_other : (kind : Kind) (total : ℕ) → least_length kind ≤ total → 12 ≤ total
    rest_other SectionHeader total least = omega (arith, least)
    rest_other InterfaceDescription total least = omega (arith, least)
    rest_other ObsoletePacket total least = least
    rest_other SimplePacket total least = omega (arith, least)
    rest_other EnhancedPacket total least = omega (arith, least)
    rest_other Other total least = least

-- a head that was read of its first octets
pub record IsHead (at : Position) (head : Head) (first : List ℕ) : Type 0 where
  pub room : at.blocks < most_blocks
  pub frames : IsTrue (is_packet head.kind) → at.count < most_records
  pub least : least_length head.kind ≤ head.length
  pub rest : length first + 4 ≤ head.length

pub head_read : (at : Position) (first : List ℕ) (head : Head) → length first ≤ first_size first
    → Ok head ≡ unless (first_failing (head_rules at first)) (head_of at first) → IsHead at head first
head_read at first head most judged =
    let says = unless_ok (first_failing (head_rules at first)) (head_of at first) head judged in
    let all = all_hold (head_rules at first) says.0 in
    let long = leb-true 8 (length first) all.1.0 in
    let there = le-leb 4 (length first) (omega (arith, long)) in
    let least = leb-true (least_length (kind_at at first)) (head_of at first).length (second_of ((head_of at first).length % 4 == 0) _ all.1.1.1.1.1.0) in
    let facts : IsHead at (head_of at first) first = record {
      room = ltb-true at.blocks most_blocks (first_of (nat_lt at.blocks most_blocks) _ all.0);
      frames = λ packet. ltb-true at.count most_records (room_for (nat_lt at.blocks most_blocks) (nat_le 4 (length first)) (is_packet (kind_at at first)) (nat_lt at.count most_records) all.0 there packet);
      least = least;
      rest = rest_some at first (head_of at first).length least most;
    } in
    subst (λ (h : Head). IsHead at h first) (sym says.1) facts

-- the rules of the whole block, by the number at its end
ended_is : (at : Position) (left first : List ℕ) (head : Head) (last : Option ℕ) → length first + 4 ≤ head.length
    → last ≡ last_number head.order (head.length - length first) (drop (length first) left)
    → first_failing (ended_rules at head last) ≡ first_failing (whole_rules at head left)
ended_is at left first head last some is =
    ap (λ (o : Option ℕ). first_failing (ended_rules at head o)) (is ∙ last_number-rest head.order (length first) head.length left some) ∙ ended-whole at head left

-- a block that breaks one of these
pub bad_end : (at : Position) (left first : List ℕ) (head : Head) (last : Option ℕ) (fault : NgFault) → first ≡ take (first_size left) left → 0 < length first
    → Ok head ≡ unless (first_failing (head_rules at first)) (head_of at first) → length first + 4 ≤ head.length
    → last ≡ last_number head.order (head.length - length first) (drop (length first) left)
    → first_failing (ended_rules at head last) ≡ Some fault → Some fault ≡ next_fault at left
bad_end at left first head last fault is some judged rest comes fails =
    let says = good_head at left first head is judged in
    let whole = sym (ended_is at left first head last rest comes) ∙ fails in
    let here = subst (λ (h : Head). first_failing (whole_rules at h left) ≡ Some fault) says.1 whole in
    sym (next_fault-block at left (some_left left first is some) ∙ block_fault-whole at left says.0
    ∙ first_failing-append_refused (whole_rules at (head_of at left) left) (body_rules (head_of at left).kind at (head_of at left) left) fault here)

-- one that breaks none of them
pub good_end : (at : Position) (left first octets : List ℕ) (head : Head) (last : Option ℕ) → first ≡ take (first_size left) left
    → Ok head ≡ unless (first_failing (head_rules at first)) (head_of at first) → length first + 4 ≤ head.length
    → last ≡ last_number head.order (head.length - length first) (drop (length first) left)
    → first_failing (ended_rules at head last) ≡ None
    → (IsTrue (is_read head.kind) → octets ≡ first ++ take (head.length - length first) (drop (length first) left))
    → IsFront at left head octets
good_end at left first octets head last is judged rest comes none held =
    let says = good_head at left first head is judged in
    let whole = sym (ended_is at left first head last rest comes) ∙ none in
    let here = subst (λ (h : Head). first_failing (whole_rules at h left) ≡ None) says.1 whole in
    let body = block_fault-whole at left says.0 ∙ first_failing-append (whole_rules at (head_of at left) left) (body_rules (head_of at left).kind at (head_of at left) left) here in
    let sum : length first + (head.length - length first) ≡ head.length = omega (arith, rest) in
    let front : first ≡ take (length first) left = front_is left first (first_size left) is in
    let long = leb-true 8 (length left) (all_hold (head_rules at left) says.0).1.0 in
    record {
      some = omega (arith, long);
      is = says.1;
      fault = subst (λ (h : Head). block_fault at left ≡ first_failing (body_rules h.kind at h left)) (sym says.1) body;
      held = λ read. held read ∙ ap (λ (l : List ℕ). l ++ take (head.length - length first) (drop (length first) left)) front
          ∙ sym (take-add (length first) (head.length - length first) left) ∙ ap (λ (k : ℕ). take k left) sum;
    }
  where
    front_is : (left first : List ℕ) (size : ℕ) → first ≡ take size left → first ≡ take (length first) left
    front_is left first size is =
        elim (cases_lt (length left) size) [
          | inl short ↦ (let len : length first ≡ length left = omega (arith, short, length-take size left, ap (λ (l : List ℕ). length l) is) in
              is ∙ take_all size left (omega (arith, short)) ∙ sym (ap (λ (k : ℕ). take k left) len ∙ take_all (length left) left (omega arith)))
          | inr long ↦ (let len : length first ≡ size = omega (arith, long, length-take size left, ap (λ (l : List ℕ). length l) is) in
              is ∙ ap (λ (k : ℕ). take k left) (sym len))
        ]

-- where a block breaks none, all of its octets came
pub last_some : (at : Position) (head : Head) (last : Option ℕ) → first_failing (ended_rules at head last) ≡ None → (number : ℕ) × (last ≡ Some number)
last_some at head None none = absurd (some_none none) where
  some_none : Some (CutBlock at.place) ≡ None → ⊥
  some_none e = cc
last_some at head (Some number) none = (number, refl)

-- the number at the end of a block whose other octets came behind the first ones
pub last_number-held : (order : Order) (total : ℕ) (first left : List ℕ) → length first + 4 ≤ total
    → last_number order total (first ++ take (total - length first) left) ≡ last_number order (total - length first) left
last_number-held order total first left some =
    let size = total - length first in
    let rest : List ℕ = take size left in
    sym (last_number-rest order (length first) total (first ++ rest) some)
    ∙ ap (λ (l : List ℕ). last_number order size l) (drop_at first rest (length first) refl)
    ∙ last_take order size left (omega arith)
  where
    last_take : (order : Order) (size : ℕ) (left : List ℕ) → 4 ≤ size → last_number order size (take size left) ≡ last_number order size left
    last_take order size left some =
        ap (λ (b : Bool). if b then Some (number order 4 (take size left) (size - 4)) else None) (size-take size size left (omega arith))
        ∙ ap (λ (m : ℕ). if nat_le size (length left) then Some m else None) (number-take order 4 (size - 4) size left (omega arith))

-- rules that tell of the file
abbrev OfFile : List (Bool × NgFault) → Type 0
OfFile [] = Unit {0}
OfFile (rule ∷ rules) = (is_outside_fault rule.1 ≡ false) × OfFile rules

failing_of_file : (rules : List (Bool × NgFault)) (fault : NgFault) → OfFile rules → first_failing rules ≡ Some fault → is_outside_fault fault ≡ false
failing_of_file [] fault all e = cc
failing_of_file (rule ∷ rules) fault all e =
    elim (cases_Bool rule.0)
    [ inl holds ↦ failing_of_file rules fault all.1 (rw holds at e) | inr fails ↦ (let is : Some rule.1 ≡ Some fault = rw fails at e in (let same : rule.1 ≡ fault = cc in ap (λ (f : NgFault). is_outside_fault f) (sym same) ∙ all.0)) ]

-- a head that breaks a rule is a fault of the file
pub head_of_file : (at : Position) (first slice : List ℕ) (fault : NgFault) → slice ≡ first → Err fault ≡ unless (first_failing (head_rules at slice)) (head_of at slice) → is_outside_fault fault ≡ false
head_of_file at first slice fault same judged =
    failing_of_file (head_rules at slice) fault (refl, (refl, (refl, (refl, (refl, (refl, (refl, tt))))))) (unless_err (first_failing (head_rules at slice)) (head_of at slice) fault judged)

-- the same over a desk that may tell its octets
pub bad_head_read : (id : ℕ) (told : Option World) (at : Position) (first slice : List ℕ) (fault : NgFault) → slice ≡ first → 0 < length first
    → Err fault ≡ unless (first_failing (head_rules at slice)) (head_of at slice) → IfSome told (λ w. first ≡ take (first_size (left_of id w)) (left_of id w))
    → IfSome told (λ w. Some fault ≡ next_fault at (left_of id w))
bad_head_read id told at first slice fault same some judged came =
    let here = subst (λ (l : List ℕ). Err fault ≡ unless (first_failing (head_rules at l)) (head_of at l)) same judged in
    IfSome_both told came came (λ w is other. bad_head at (left_of id w) first fault is some here)

pub bad_end_read : (id : ℕ) (told mid : Option World) (at : Position) (first slice : List ℕ) (head : Head) (last : Option ℕ) (fault : NgFault) → slice ≡ first → 0 < length first
    → Ok head ≡ unless (first_failing (head_rules at slice)) (head_of at slice) → length first + 4 ≤ head.length
    → first_failing (ended_rules at head last) ≡ Some fault
    → mid ≡ option_map (after_read id (length first)) told
    → IfSome told (λ w. first ≡ take (first_size (left_of id w)) (left_of id w))
    → IfSome mid (λ w. last ≡ last_number head.order (head.length - length first) (left_of id w))
    → IfSome told (λ w. Some fault ≡ next_fault at (left_of id w))
bad_end_read id told mid at first slice head last fault same some judged rest fails moved came comes =
    let here = subst (λ (l : List ℕ). Ok head ≡ unless (first_failing (head_rules at l)) (head_of at l)) same judged in
    IfSome_both told came (left_on id (length first) told mid (λ left. last ≡ last_number head.order (head.length - length first) left) moved comes) (λ w is behind.
    bad_end at (left_of id w) first head last fault is some here rest behind fails)

pub good_end_read : (id : ℕ) (told mid : Option World) (at : Position) (first slice octets : List ℕ) (head : Head) (last : Option ℕ) → slice ≡ first
    → Ok head ≡ unless (first_failing (head_rules at slice)) (head_of at slice) → length first + 4 ≤ head.length
    → first_failing (ended_rules at head last) ≡ None
    → mid ≡ option_map (after_read id (length first)) told
    → IfSome told (λ w. first ≡ take (first_size (left_of id w)) (left_of id w))
    → IfSome mid (λ w. last ≡ last_number head.order (head.length - length first) (left_of id w))
    → IfSome mid (λ w. IsTrue (is_read head.kind) → octets ≡ first ++ take (head.length - length first) (left_of id w))
    → IfSome told (λ w. IsFront at (left_of id w) head octets)
good_end_read id told mid at first slice octets head last same judged rest none moved came comes held =
    let here = subst (λ (l : List ℕ). Ok head ≡ unless (first_failing (head_rules at l)) (head_of at l)) same judged in
    let n = length first in
    let behind = IfSome_both mid {R = λ w. (last ≡ last_number head.order (head.length - n) (left_of id w)) × (IsTrue (is_read head.kind) → octets ≡ first ++ take (head.length - n) (left_of id w))} comes held (λ w a b. (a, b)) in
    IfSome_both told came (left_on id n told mid (λ left. (last ≡ last_number head.order (head.length - n) left) × (IsTrue (is_read head.kind) → octets ≡ first ++ take (head.length - n) left)) moved behind) (λ w is both.
    good_end at (left_of id w) first octets head last is here rest both.0 none both.1)

-- what the file says of a whole block in memory is so of what a desk told
pub held_read : (at : Position) (first slice : List ℕ) (head : Head) → slice ≡ first → length first ≤ first_size first
    → Ok head ≡ unless (first_failing (head_rules at slice)) (head_of at slice) → IsHead at head first
held_read at first slice head same most judged = head_read at first head most (subst (λ (l : List ℕ). Ok head ≡ unless (first_failing (head_rules at l)) (head_of at l)) same judged)

-- what is known where there is a number
pub where_some : (last : Option ℕ) (P : Type 0) → ((number : ℕ) × (last ≡ Some number)) → IfSome last (λ _. P) → P
where_some None P is known = (let e = is.1 in cc)
where_some (Some number) P is known = known

-- the whole block was read
pub told_whole : (id first total : ℕ) (told mid new : Option World) → first + 4 ≤ total → mid ≡ option_map (after_read id first) told
    → new ≡ option_map (after_read id (total - first)) mid → new ≡ option_map (after_read id total) told
told_whole id first total told mid new some moved more =
    let sum : first + (total - first) ≡ total = omega (arith, some) in
    subst (λ (k : ℕ). new ≡ option_map (after_read id k) told) sum (reads_on id first (total - first) told mid new moved more)

-- the number at the end of what was added
pub last_held : (id : ℕ) (told : Option World) (order : Order) (total size : ℕ) (first new slice : List ℕ) (last : Option ℕ) → size ≡ total - length first → length first + 4 ≤ total
    → slice ≡ new → last ≡ last_number order total slice
    → IfSome told (λ w. new ≡ first ++ take size (left_of id w)) → IfSome told (λ w. last ≡ last_number order (total - length first) (left_of id w))
last_held id told order total size first new slice last sum some same is added =
    IfSome_both told added added (λ w adds other.
    is ∙ ap (λ (l : List ℕ). last_number order total l) (same ∙ adds ∙ ap (λ (k : ℕ). first ++ take k (left_of id w)) sum)
    ∙ last_number-held order total first (left_of id w) some)
