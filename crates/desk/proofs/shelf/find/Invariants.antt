use Rattle.std.proofs.Common.{◌≡◌, drop}
use Rattle.desk.specs.World.{there}
use Rattle.desk.proofs.shelf.find.Given as goal

abbrev pub invariant-loop-file : goal.invariant-loop-file
invariant-loop-file l = there l.name l.files ≡ there l.name (drop l.file-index l.files)
