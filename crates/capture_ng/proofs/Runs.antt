-- The blocks of a file, one by one, and what a reader finds of them.
use Rattle.std.proofs.Common.{◌≡◌, ◌≤◌, ◌==◌, ◌%◌, ◌&&◌, ℕ, zero, suc, Bool, true, false, List, [], ◌∷◌, drop, length, Option, Some, None, refl, sym, ap, ◌∙◌, arith}
use Rattle.std.proofs.lemmas.Bool.{leb-true}
use Rattle.std.proofs.lemmas.List.{length-drop, drop-drop}
use Rattle.octets.proofs.RuleLemmas.{all_hold}
use Rattle.capture_io.specs.Frame.{Frame}
use Rattle.capture_io.specs.Run.{Run, ended, goes_on}
use Rattle.capture_ng.specs.Blocks.{head_of, is_length}
use Rattle.capture_ng.specs.Faults.{block_fault, block_rules, end_fault}
use Rattle.capture_ng.specs.Found.{Found, at_block, behind_block, found, found_within, stopped}
use Rattle.capture_ng.specs.Frames.{advanced, behind, block_frame, blocks_within, of_block, read_on, rest}
use Rattle.capture_ng.specs.Position.{Position}
use Rattle.capture_ng.specs.declared.head.Kind.{Kind}
use Rattle.capture_ng.specs.declared.head.Kind.TheVariants.{SectionHeader, InterfaceDescription, ObsoletePacket, SimplePacket, EnhancedPacket, Other}
use Rattle.capture_ng.specs.declared.fault.NgFault.{NgFault}

-- the second of two tests
second : (a b : Bool) → (a && b) ≡ true → b ≡ true
second true b e = e
second false b e = cc

-- each kind of block has at least twelve octets
least : (kind : Kind) (total : ℕ) → is_length kind total ≡ true → 12 ≤ total
least SectionHeader total e = let long = leb-true 28 total (second (total % 4 == 0) _ e) in omega (arith, long)
least InterfaceDescription total e = let long = leb-true 20 total (second (total % 4 == 0) _ e) in omega (arith, long)
least ObsoletePacket total e = leb-true 12 total (second (total % 4 == 0) _ e)
least SimplePacket total e = let long = leb-true 16 total (second (total % 4 == 0) _ e) in omega (arith, long)
least EnhancedPacket total e = let long = leb-true 32 total (second (total % 4 == 0) _ e) in omega (arith, long)
least Other total e = leb-true 12 total (second (total % 4 == 0) _ e)

-- so has one without a fault
pub block_least : (at : Position) (left : List ℕ) → None ≡ block_fault at left → 12 ≤ (head_of at left).length
block_least at left none =
    let all = all_hold (block_rules at left) (sym none) in
    least (head_of at left).kind (head_of at left).length all.1.1.1.1.1.0

-- of two ways to go on behind a block that are one where it has no fault
of_block-same : (fault : Option NgFault) (frame : Option Frame) (one other : Run NgFault) → (None ≡ fault → one ≡ other) → of_block fault frame one ≡ of_block fault frame other
of_block-same None frame one other same = ap (behind frame) (same refl)
of_block-same (Some fault) frame one other same = refl

-- as many blocks as there are octets are enough
enough : (n m : ℕ) (vlans : Bool) (at : Position) (left : List ℕ) → length left ≤ n → length left ≤ m → blocks_within n vlans at left ≡ blocks_within m vlans at left
unfolding blocks_within
enough zero zero vlans at left a b = refl
enough zero (suc m) vlans at [] a b = refl
enough zero (suc m) vlans at (x ∷ left) a b = absurd (omega arith)
enough (suc n) zero vlans at [] a b = refl
enough (suc n) zero vlans at (x ∷ left) a b = absurd (omega arith)
enough (suc n) (suc m) vlans at [] a b = refl
enough (suc n) (suc m) vlans at (x ∷ left) a b =
    let l = x ∷ left in
    of_block-same (block_fault at l) (block_frame vlans at l) (blocks_within n vlans (advanced at l) (rest at l)) (blocks_within m vlans (advanced at l) (rest at l)) (λ none.
    let least = block_least at l none in
    enough n m vlans (advanced at l) (rest at l) (omega (arith, least, length-drop (head_of at l).length l)) (omega (arith, least, length-drop (head_of at l).length l)))

-- the end
pub read_on-end : (vlans : Bool) (at : Position) → read_on vlans at [] ≡ ended (end_fault at)
unfolding read_on blocks_within
read_on-end vlans at = refl

-- a block, and then the rest
pub read_on-step : (vlans : Bool) (at : Position) (x : ℕ) (left : List ℕ)
    → read_on vlans at (x ∷ left) ≡ of_block (block_fault at (x ∷ left)) (block_frame vlans at (x ∷ left)) (read_on vlans (advanced at (x ∷ left)) (rest at (x ∷ left)))
unfolding read_on blocks_within
read_on-step vlans at x left =
    let l = x ∷ left in
    of_block-same (block_fault at l) (block_frame vlans at l) (blocks_within (length left) vlans (advanced at l) (rest at l)) (blocks_within (length (rest at l)) vlans (advanced at l) (rest at l)) (λ none.
    let least = block_least at l none in
    enough (length left) (length (rest at l)) vlans (advanced at l) (rest at l) (omega (arith, least, length-drop (head_of at l).length l)) (omega arith))

-- of two findings behind a block that are one where it has no fault
at_block-same : (fault : Option NgFault) (frame : Option Frame) (at next : Position) (size : ℕ) (one other : Found) → (None ≡ fault → one ≡ other) → at_block fault frame at next size one ≡ at_block fault frame at next size other
at_block-same None frame at next size one other same = ap (behind_block frame next size) (same refl)
at_block-same (Some fault) frame at next size one other same = refl

-- as many blocks as there are octets are enough to find what is next
enough_found : (n m : ℕ) (vlans : Bool) (at : Position) (left : List ℕ) → length left ≤ n → length left ≤ m → found_within n vlans at left ≡ found_within m vlans at left
unfolding found_within
enough_found zero zero vlans at left a b = refl
enough_found zero (suc m) vlans at [] a b = refl
enough_found zero (suc m) vlans at (x ∷ left) a b = absurd (omega arith)
enough_found (suc n) zero vlans at [] a b = refl
enough_found (suc n) zero vlans at (x ∷ left) a b = absurd (omega arith)
enough_found (suc n) (suc m) vlans at [] a b = refl
enough_found (suc n) (suc m) vlans at (x ∷ left) a b =
    let l = x ∷ left in
    at_block-same (block_fault at l) (block_frame vlans at l) at (advanced at l) (head_of at l).length (found_within n vlans (advanced at l) (rest at l)) (found_within m vlans (advanced at l) (rest at l)) (λ none.
    let least = block_least at l none in
    enough_found n m vlans (advanced at l) (rest at l) (omega (arith, least, length-drop (head_of at l).length l)) (omega (arith, least, length-drop (head_of at l).length l)))

-- what is found at the end
pub found-end : (vlans : Bool) (at : Position) → found vlans at [] ≡ stopped (end_fault at) at
unfolding found found_within
found-end vlans at = refl

-- what is found in a block, or behind it
pub found-step : (vlans : Bool) (at : Position) (x : ℕ) (left : List ℕ)
    → found vlans at (x ∷ left) ≡ at_block (block_fault at (x ∷ left)) (block_frame vlans at (x ∷ left)) at (advanced at (x ∷ left)) (head_of at (x ∷ left)).length (found vlans (advanced at (x ∷ left)) (rest at (x ∷ left)))
unfolding found found_within
found-step vlans at x left =
    let l = x ∷ left in
    at_block-same (block_fault at l) (block_frame vlans at l) at (advanced at l) (head_of at l).length (found_within (length left) vlans (advanced at l) (rest at l)) (found_within (length (rest at l)) vlans (advanced at l) (rest at l)) (λ none.
    let least = block_least at l none in
    enough_found (length left) (length (rest at l)) vlans (advanced at l) (rest at l) (omega (arith, least, length-drop (head_of at l).length l)) (omega arith))

-- the run of what was found and of what comes behind it
abbrev run_of : Bool → Found → List ℕ → Run NgFault
run_of vlans f left = goes_on f.answer (read_on vlans f.position (drop f.taken left))

-- the end of a run, as it is found
run_of-stopped : (fault : Option NgFault) (vlans : Bool) (at : Position) (left : List ℕ) → run_of vlans (stopped fault at) left ≡ ended fault
run_of-stopped None vlans at left = refl
run_of-stopped (Some fault) vlans at left = refl

-- a block, and what is found in it or behind it
run_of-block : (fault : Option NgFault) (frame : Option Frame) (vlans : Bool) (at next : Position) (size : ℕ) (left : List ℕ) (f : Found)
    → (None ≡ fault → read_on vlans next (drop size left) ≡ run_of vlans f (drop size left))
    → of_block fault frame (read_on vlans next (drop size left)) ≡ run_of vlans (at_block fault frame at next size f) left
run_of-block None None vlans at next size left f more = more refl ∙ ap (λ (l : List ℕ). goes_on f.answer (read_on vlans f.position l)) (drop-drop f.taken size left)
run_of-block None (Some frame) vlans at next size left f more = refl
run_of-block (Some fault) frame vlans at next size left f more = refl

-- what is found, and then the rest, in at most n octets
first_within : (n : ℕ) (vlans : Bool) (at : Position) (left : List ℕ) → length left ≤ n → read_on vlans at left ≡ run_of vlans (found vlans at left) left
first_within n vlans at [] short =
    read_on-end vlans at ∙ sym (run_of-stopped (end_fault at) vlans at []) ∙ ap (λ (f : Found). run_of vlans f []) (sym (found-end vlans at))
first_within zero vlans at (x ∷ left) short = absurd (omega arith)
first_within (suc n) vlans at (x ∷ left) short =
    let l = x ∷ left in
    read_on-step vlans at x left
    ∙ run_of-block (block_fault at l) (block_frame vlans at l) vlans at (advanced at l) (head_of at l).length l (found vlans (advanced at l) (rest at l)) (λ none.
    let least = block_least at l none in
    first_within n vlans (advanced at l) (rest at l) (omega (arith, least, length-drop (head_of at l).length l)))
    ∙ ap (λ (f : Found). run_of vlans f l) (sym (found-step vlans at x left))

-- the frames that are left are the one that is found, and then the rest
pub read_on-found : (vlans : Bool) (at : Position) (left : List ℕ)
    → read_on vlans at left ≡ goes_on (found vlans at left).answer (read_on vlans (found vlans at left).position (drop (found vlans at left).taken left))
read_on-found vlans at left = first_within (length left) vlans at left (omega arith)

-- a block's frame is before the run behind it, and leaves the run's fault
behind-fault : (frame : Option Frame) (run : Run NgFault) → (behind frame run).fault ≡ run.fault
behind-fault None run = refl
behind-fault (Some f) run = refl

of_block-fault : (fault : Option NgFault) (one other : Option Frame) (a b : Run NgFault) → a.fault ≡ b.fault → (of_block fault one a).fault ≡ (of_block fault other b).fault
of_block-fault None one other a b same = behind-fault one a ∙ same ∙ sym (behind-fault other b)
of_block-fault (Some fault) one other a b same = refl

-- the fault is the same, whether or not interfaces are VLANs
pub blocks-fault : (n : ℕ) (one other : Bool) (at : Position) (left : List ℕ) → (blocks_within n one at left).fault ≡ (blocks_within n other at left).fault
unfolding blocks_within
blocks-fault zero one other at left = refl
blocks-fault (suc n) one other at [] = refl
blocks-fault (suc n) one other at (x ∷ left) =
    let l = x ∷ left in
    of_block-fault (block_fault at l) (block_frame one at l) (block_frame other at l) (blocks_within n one (advanced at l) (rest at l)) (blocks_within n other (advanced at l) (rest at l)) (blocks-fault n one other (advanced at l) (rest at l))
