-- What contracts see of a published table and of its forwarders.
use Rattle.std.specs.Prelude.{Bool, List}
use Rattle.lisp_settings.specs.declared.settings.Settings.{Settings}
use Rattle.router_log.specs.declared.entry.Entry.{Entry}
use Rattle.router_model.specs.Parts.{Parts}

-- one of the two copies of the table: its parts, and whether its publication has begun
pub record Side : Type 0 where
  pub parts : Parts
  pub is_open : Bool

-- a published table: the settings, the published batches, the plan that they follow, and the pending entries, which no
-- reader sees yet
pub record Publication : Type 0 where
  pub settings : Settings
  pub batches : List (List Entry)
  pub plan : List (List Entry)
  pub pending : List Entry

-- a forwarder: the settings, the batches that it has seen, and the plan that it has learned
pub record Forwarding : Type 0 where
  pub settings : Settings
  pub seen : List (List Entry)
  pub plan : List (List Entry)
