use Rattle.std.proofs.Common.{drop}
use Rattle.forwarders.specs.Views.{entries_of}
use Rattle.forwarders.proofs.door.publishing.published.Given as goal

-- the batch is what is pending
abbrev pub ghosts-published_as : goal.ghosts-published_as
ghosts-published_as g a = record { entries = entries_of (drop a.writer.behind a.writer.log.items) }
