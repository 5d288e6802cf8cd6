use Rattle.std.proofs.Common.{◌≡◌, drop}
use Rattle.router_model.specs.Emits.{database_address}
use Rattle.router_core.proofs.own_requests.database_address.Given as goal

abbrev pub invariant-loop-database : goal.invariant-loop-database
invariant-loop-database l =
    database_address l.databases l.eid ≡ database_address (drop l.database-index l.databases) l.eid
