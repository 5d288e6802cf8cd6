-- A frame of a capture, as contracts see it.
use Rattle.std.specs.Prelude.{ℕ, List}
use Rattle.capture_io.specs.declared.link.Link.{Link}

-- a frame: its number from 1 on, its moment in nanoseconds, its link type and its octets
pub record Frame : Type 0 where
  pub number : ℕ
  pub moment : ℕ
  pub link : Link
  pub octets : List ℕ
