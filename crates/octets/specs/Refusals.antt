-- Faults in results, and refusals of malformed octets.
use Rattle.std.specs.Prelude.{Option, Some, None, Result, Ok, Err}
use Rattle.octets.specs.declared.refused.Refused.{Refused}

-- the fault in a result
abbrev pub fault_of : {T E : Type 0} → Result T E → Option E
fault_of (Ok value) = None
fault_of (Err fault) = Some fault

-- the refusal in a result
abbrev pub refusal_of : {T : Type 0} → Result T Refused → Option Refused
refusal_of result = fault_of result
