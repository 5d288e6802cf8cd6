-- Finds of a reader in the octets that are left: blocks up to a frame, the end or a fault.
use Rattle.std.specs.Prelude.{ℕ, zero, suc, ◌+◌, Bool, List, [], ◌∷◌, length, Option, Some, None, Result, Ok, Err}
use Rattle.capture_io.specs.Frame.{Frame}
use Rattle.capture_ng.specs.Blocks.{head_of}
use Rattle.capture_ng.specs.Faults.{block_fault, end_fault}
use Rattle.capture_ng.specs.Frames.{advanced, block_frame, rest}
use Rattle.capture_ng.specs.Position.{Position}
use Rattle.capture_ng.specs.declared.fault.NgFault.{NgFault}

-- a find of a reader: its answer, its position then, and how many octets it took
pub record Found : Type 0 where
  pub answer : Result (Option Frame) NgFault
  pub position : Position
  pub taken : ℕ

-- the answer at the end of a run: no frame, or the fault
abbrev pub ending : Option NgFault → Result (Option Frame) NgFault
ending None = Ok None
ending (Some fault) = Err fault

-- the find of a reader that stops at its position, at the end or with a fault
abbrev pub stopped : Option NgFault → Position → Found
stopped fault at = record { answer = ending fault; position = at; taken = 0 }

-- a find, behind so many octets that were taken before it
abbrev pub further : ℕ → Found → Found
further size found = record found { taken = size + found.taken }

-- the find at a block without a fault: the block's frame, or the find behind the block
abbrev pub behind_block : Option Frame → Position → ℕ → Found → Found
behind_block None next size found = further size found
behind_block (Some f) next size found =
    record { answer = Ok (Some f); position = next; taken = size }

-- the find at a block: its fault, or else its frame or the find behind it
abbrev pub at_block : Option NgFault → Option Frame → Position → Position → ℕ → Found → Found
at_block None frame at next size found = behind_block frame next size found
at_block (Some fault) frame at next size found = stopped (Some fault) at

-- the find from a position on, in at most n blocks
unfoldable pub found_within : ℕ → Bool → Position → List ℕ → Found
found_within zero vlans at left = stopped (end_fault at) at
found_within (suc n) vlans at [] = stopped (end_fault at) at
found_within (suc n) vlans at (x ∷ left) =
    at_block (block_fault at (x ∷ left)) (block_frame vlans at (x ∷ left)) at
    (advanced at (x ∷ left)) (head_of at (x ∷ left)).length
    (found_within n vlans (advanced at (x ∷ left)) (rest at (x ∷ left)))

-- the find from a position on: there are no more blocks than octets
unfoldable pub found : Bool → Position → List ℕ → Found
found vlans at left = found_within (length left) vlans at left
