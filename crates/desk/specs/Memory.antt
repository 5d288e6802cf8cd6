-- A desk in memory of whose calls some fail, as contracts see it: the outcome of each call, and the desk after it.
use Rattle.std.specs.Prelude.{◌≡◌, ℕ, ◌+◌, ◌-◌, ◌/◌, ◌^◌, ◌==◌, nat_le, nat_lt, List, [], length, take, Bool, true, false, ◌&&◌, ◌||◌, not, Option, is_some, Result, Ok, Err, if◌then◌else◌}
use Rattle.std.specs.List.{list_all, list_any}
use Rattle.desk.specs.declared.fault.DeskFault.{DeskFault}
use Rattle.desk.specs.declared.fault.DeskFault.TheVariants as fault
use Rattle.desk.specs.declared.file.NamedFile.{NamedFile}
use Rattle.desk.specs.Shelf.{Shelf, untouched, moved}

-- a desk in memory as contracts see it: its shelf, the numbers of the calls that fail, and the counts of calls and
-- faults
pub record Memory : Type 0 where
  pub shelf : Shelf
  pub fails : List ℕ
  pub calls : ℕ
  pub faults : ℕ

-- a desk of these files before its first call
abbrev pub unused : List NamedFile → List ℕ → Memory
unused files fails = record { shelf = untouched files; fails = fails; calls = 0; faults = 0 }

-- a count of 64 bits, one higher; at 2^64 - 1 it stays
abbrev pub counted : ℕ → ℕ
counted n = if nat_lt n (2 ^ 64 - 1) then n + 1 else n

-- whether the next call's number is one of those that fail; past the end of the count no call is to fail
abbrev pub is_to_fail : Memory → Bool
is_to_fail d = nat_lt d.calls (2 ^ 64 - 1) && list_any (λ call. call == d.calls + 1) d.fails

-- whether all numbers of calls that fail have passed
abbrev pub is_steady : Memory → Bool
is_steady d = list_all (λ call. nat_le call d.calls) d.fails

-- whether the next call fails, by its number, or because the file or id it names isn't there
abbrev pub fails_at : {X : Type 0} → Option X → Memory → Bool
fails_at named d = is_to_fail d || not (is_some named)

-- the result of a call: one that fails is never Ok, another one never `Failed`; either may be `Memory`
abbrev pub Answers : {T : Type 0} → Bool → Result T DeskFault → Type 0
Answers fails (Ok value) = fails ≡ false
Answers fails (Err fault.Failed) = fails ≡ true
Answers fails (Err fault.Memory) = Unit

-- a desk after a call that leaves a shelf: one call more, and one fault more where the call was `Failed`
abbrev pub called : {T : Type 0} → Result T DeskFault → Shelf → Memory → Memory
called (Err fault.Failed) shelf d =
    record d { shelf = shelf; calls = counted d.calls; faults = counted d.faults }
called _ shelf d = record d { shelf = shelf; calls = counted d.calls }

-- a shelf with as many octets less to read of an id as the call read, if it succeeded
abbrev pub moved_by : ℕ → Result ℕ DeskFault → Shelf → Shelf
moved_by id (Ok n) s = moved id n s
moved_by id (Err _) s = s

-- the part of a piece that a call with that result appends: all; the first half; or no octet, where memory is refused
abbrev pub appended : {T : Type 0} → Result T DeskFault → List ℕ → List ℕ
appended (Ok value) piece = piece
appended (Err fault.Failed) piece = take (length piece / 2) piece
appended (Err fault.Memory) piece = []
