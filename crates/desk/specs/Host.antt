-- The ids that a desk over the host's files gave.
use Rattle.std.specs.Prelude.{ℕ, suc, List, [], ◌∷◌}
use Rattle.desk.specs.declared.host.HostFile.{HostFile}
use Rattle.desk.specs.declared.host.HostFile.TheVariants.{Input, Output}
use Rattle.desk.specs.World.{Direction, to_read, to_write}

-- whether a file of the host was opened to read or to write
abbrev pub host_direction : {I O : Type 0} → HostFile I O → Direction
host_direction (Input file) = to_read
host_direction (Output file) = to_write

-- the ids of the host's files, numbered from k, each with its direction
abbrev pub given_by_host : {I O : Type 0} → ℕ → List (HostFile I O) → List (ℕ × Direction)
given_by_host k [] = []
given_by_host k (file ∷ files) = (k, host_direction file) ∷ given_by_host (suc k) files
