-- Copies of values.
use Rattle.std.specs.Prelude.{◌≡◌, Result, IfOk}

-- a function makes copies: a value that it returns with Ok equals the given one
abbrev pub MakesCopies : {T E : Type 0} → (T → Result T E → Type 0) → Type 0
MakesCopies {T} {E} answers = (value : T) (told : Result T E) → answers value told → IfOk told (λ copy. copy ≡ value)
