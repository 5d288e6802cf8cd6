-- Where a reader stands in a pcapng file.
use Rattle.std.specs.Prelude.{ℕ, List, [], Option, None}
use Rattle.capture_io.specs.declared.order.Order.{Order}
use Rattle.capture_ng.specs.declared.interface.Interface.{Interface}

-- where a reader stands: the offset in the file, and how many blocks were read; the byte order and the interfaces of
-- the section, no order before the first section; how many frames were read, and their greatest moment
pub record Position : Type 0 where
  pub place : ℕ
  pub blocks : ℕ
  pub order : Option Order
  pub interfaces : List Interface
  pub count : ℕ
  pub greatest : Option ℕ

-- the position at the start of a file
abbrev pub begin : Position
begin = record { place = 0; blocks = 0; order = None; interfaces = []; count = 0; greatest = None }
