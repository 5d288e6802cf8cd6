-- Octets that are read of a file piece by piece, from a world of a desk on.
use Rattle.std.specs.Prelude.{◌≡◌, ◌≤◌, ℕ, length, min, Option, option_map, IfSome}
use Rattle.desk.specs.World.{World, after_read, left_of}

-- n octets of the file `id` were read between two worlds of a desk (`start` and `now`): `most`, or all that were left
-- where these are fewer
pub record HasCome (id most n : ℕ) (start now : Option World) : Type 0 where
  pub told : now ≡ option_map (after_read id n) start
  pub count : IfSome start (λ w. n ≡ min most (length (left_of id w)))

-- n octets of the file `id` were read between two worlds of a desk (`start` and `now`), and at least so many were left
pub record IsComing (id n : ℕ) (start now : Option World) : Type 0 where
  pub told : now ≡ option_map (after_read id n) start
  pub within : IfSome start (λ w. n ≤ length (left_of id w))
