-- The causes of faults: a desk's count of faults, and steady desks, whose calls don't fail.
use Rattle.std.specs.Prelude.{◌≡◌, ℕ, ◌≤◌, Bool, IsTrue, Result, IsErrOf, OnOk}
use Rattle.octets.specs.Causes.{Rose}
use Rattle.desk.specs.declared.fault.DeskFault.{DeskFault}
use Rattle.desk.specs.declared.fault.DeskFault.TheVariants.{Failed, Memory}

-- the count of faults rises with a call that is `Failed`, and stays with any other, also with one that is refused
-- memory
pub record HasCause {T : Type 0} (before now : ℕ) (result : Result T DeskFault) : Type 0 where
  pub later : before ≤ now
  pub failed : IsErrOf result Failed → Rose before now
  pub ok : OnOk result (now ≡ before)
  pub memory : IsErrOf result Memory → now ≡ before

-- a steady desk stays steady, and a call on it whose condition `owed` holds doesn't fail
pub record StaysSteady (was is : Bool) (owed failed : Type 0) : Type 0 where
  pub stays : IsTrue was → IsTrue is
  pub done : IsTrue was → owed → failed → ⊥
