use Rattle.forwarders.proofs.door.publishing.planned.Given as goal

-- the batches are those that were handed over
abbrev pub ghosts-planned_as : goal.ghosts-planned_as
ghosts-planned_as a = record { batches = a.batches.now }
