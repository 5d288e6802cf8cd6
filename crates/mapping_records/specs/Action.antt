-- Actions of mappings without locators, RFC 9301 section 5.4.
use Rattle.std.specs.Prelude.{ℕ, ◌==◌, if◌then◌else◌}
use Rattle.mapping_records.specs.declared.action.Action.{Action}
use Rattle.mapping_records.specs.declared.action.Action.TheVariants.{NoAction, NativelyForward, SendMapRequest, DropNoReason, DropPolicy, DropAuth}

-- the action of a code of 3 bits; 6 and 7 count as 3 (this router's choice)
abbrev pub action_of : ℕ → Action
action_of code =
    if code == 0 then NoAction
    else if code == 1 then NativelyForward
    else if code == 2 then SendMapRequest
    else if code == 4 then DropPolicy
    else if code == 5 then DropAuth
    else DropNoReason
