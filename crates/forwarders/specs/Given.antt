-- The facts that hold of each decision of a table.
use Rattle.router_log.specs.declared.decision.Decision.{Decision}
use Rattle.router_model.specs.Lifting.{AreSound}
use Rattle.router_model.specs.Plain.{FitsRecord}

-- a decision as a table gives it: its packet fits a record, and its notices can be noted
pub record IsGiven (decision : Decision) : Type 0 where
  pub size : FitsRecord decision.verdict
  pub notices : AreSound decision.notices
