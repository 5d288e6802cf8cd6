-- Blocks that a reader passes on its way to the next frame.
use Rattle.std.specs.Prelude.{◌≡◌, ℕ, Bool, drop, Option, option_map, IfSome}
use Rattle.desk.specs.World.{World, after_read, left_of}
use Rattle.capture_ng.specs.Found.{found, further}
use Rattle.capture_ng.specs.Position.{Position}

-- from the position `old` to the position `at` a reader passed blocks without a frame, of `taken` octets, and counted
-- no frame
pub record IsPast (id : ℕ) (vlans : Bool) (start now : Option World) (old at : Position) : Type 0 where
  pub taken : ℕ
  pub told : now ≡ option_map (after_read id taken) start
  pub found : IfSome start (λ w.
      found vlans old (left_of id w) ≡ further taken (found vlans at (drop taken (left_of id w))))
  pub count : at.count ≡ old.count
  pub greatest : at.greatest ≡ old.greatest
