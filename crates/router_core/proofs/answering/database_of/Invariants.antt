use Rattle.std.proofs.Common.{◌≡◌, drop, fold, option_map}
use Rattle.std.specs.List.{filter}
use Rattle.mapping_records.specs.Eids.{covers_prefix, longer}
use Rattle.lisp_settings.specs.declared.settings.Database.{Database}
use Rattle.router_model.specs.Site.{database_of}
use Rattle.router_core.proofs.answering.database_of.Given as goal

abbrev pub invariant-loop-database : goal.invariant-loop-database
invariant-loop-database l =
    database_of l.databases l.eid ≡ fold (longer (λ (database : Database). database.eid)) (option_map (λ database. database.now) l.best) (filter (λ (database : Database). covers_prefix database.eid l.eid.iid l.eid.prefix.addr l.eid.prefix.len) (drop l.database-index l.databases))
