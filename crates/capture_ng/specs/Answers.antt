-- Answers of a reader, and which of them the file alone determines.
use Rattle.std.specs.Prelude.{◌≡◌, Bool, true, false, Option, Some, None, Result, Ok, Err}
use Rattle.desk.specs.declared.fault.DeskFault.{DeskFault}
use Rattle.desk.specs.declared.fault.DeskFault.TheVariants as desk
use Rattle.capture_ng.specs.declared.fault.NgFault.{NgFault}
use Rattle.capture_ng.specs.declared.fault.NgFault.TheVariants.{Host, Memory}

-- the reader's fault for a fault of the desk
abbrev pub fault_of : DeskFault → NgFault
fault_of desk.Failed = Host
fault_of desk.Memory = Memory

-- whether a fault is of the desk or of memory, and not of the file
abbrev pub is_outside_fault : NgFault → Bool
is_outside_fault Host = true
is_outside_fault Memory = true
is_outside_fault _ = false

-- whether an answer is a fault of the desk or of memory
abbrev pub is_outside : {T : Type 0} → Result T NgFault → Bool
is_outside (Ok value) = false
is_outside (Err fault) = is_outside_fault fault

-- the answer is the expected one, unless it is a fault of the desk or of memory
abbrev pub IsAnswer : {T : Type 0} → Result T NgFault → Result T NgFault → Type 0
IsAnswer result expected = is_outside result ≡ false → result ≡ expected

-- the value, or the fault where there is one
abbrev pub unless : {T : Type 0} → Option NgFault → T → Result T NgFault
unless None value = Ok value
unless (Some fault) value = Err fault
