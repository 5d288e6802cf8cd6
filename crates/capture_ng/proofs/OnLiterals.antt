-- One name for all that a computation on a capture's octets opens.
use Rattle.std.specs.Prelude.{⊤}
use Rattle.capture_io.specs.Frames.{capture}
use Rattle.capture_ng.specs.Frames.{blocks_within, read_on}
use Rattle.capture_ng.specs.Interfaces.{fit_within, options_within}

-- what an answer unfolds to compute frames and faults on literals
unfoldable pub captures_on_literals : ⊤
unfolding capture blocks_within read_on fit_within options_within
captures_on_literals = tt
