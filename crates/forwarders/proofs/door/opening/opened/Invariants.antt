use Rattle.std.proofs.Common.{[]}
use Rattle.forwarders.specs.Batches.{batches_from}
use Rattle.forwarders.specs.Views.{beginning}
use Rattle.forwarders.proofs.door.opening.opened.Given as goal

-- the static mappings are all that is published
abbrev pub ghosts-opened_as : goal.ghosts-opened_as
ghosts-opened_as g a = record { known = beginning a.settings.now (batches_from a.settings.now []) }
