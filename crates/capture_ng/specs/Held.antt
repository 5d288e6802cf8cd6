-- Blocks that were read to their ends, and their octets in memory.
use Rattle.std.specs.Prelude.{◌≡◌, ◌≤◌, ◌<◌, ℕ, IsTrue, List, [], ◌∷◌, length, take, Option, Some, None}
use Rattle.octets.specs.Rules.{first_failing}
use Rattle.capture_io.specs.Limits.{most_records}
use Rattle.capture_ng.specs.Blocks.{head_of, is_packet, is_read, least_length}
use Rattle.capture_ng.specs.Faults.{block_fault, body_rules, end_fault}
use Rattle.capture_ng.specs.Limits.{most_blocks}
use Rattle.capture_ng.specs.Position.{Position}
use Rattle.capture_ng.specs.declared.head.Head.{Head}
use Rattle.capture_ng.specs.declared.fault.NgFault.{NgFault}

-- a block in memory: the limits allow it, its total length isn't below the least of its kind, and all of its octets are
-- there where its body is read
pub record IsHeld (at : Position) (head : Head) (octets : List ℕ) : Type 0 where
  pub room : at.blocks < most_blocks
  pub frames : IsTrue (is_packet head.kind) → at.count < most_records
  pub least : least_length head.kind ≤ head.length
  pub whole : IsTrue (is_read head.kind) → length octets ≡ head.length

-- the next block, of which only the body may break a rule: its head, and its octets where its body is read
pub record IsFront (at : Position) (left : List ℕ) (head : Head) (octets : List ℕ) : Type 0 where
  pub some : 0 < length left
  pub is : head ≡ head_of at left
  pub fault : block_fault at left ≡ first_failing (body_rules head.kind at head left)
  pub held : IsTrue (is_read head.kind) → octets ≡ take head.length left

-- the fault at the end of the octets where none are left, else the fault of the next block
abbrev pub next_fault : Position → List ℕ → Option NgFault
next_fault at [] = end_fault at
next_fault at (x ∷ left) = block_fault at (x ∷ left)

-- how many octets a block took, 0 where there is none
abbrev pub block_size : {T : Type 0} → Option (Head × T) → ℕ
block_size None = 0
block_size (Some block) = block.0.length
