use Rattle.std.proofs.Common.{◌≡◌, ◌∙◌, ◌++◌, ℕ, List, Option, length, take, ap, arith}
use Rattle.std.specs.Option.{IfSome}
use Rattle.std.proofs.lemmas.List.{take_at}
use Rattle.std.proofs.lemmas.Option.{IfSome_then}
use Rattle.desk.specs.World.{World, Fills, left_of}
use Rattle.capture_io.proofs.Fronts.{filled_front}
use Rattle.capture_io.proofs.record.read_body.Goals as goal

-- octets that were lent whole came back
lent : (n size : ℕ) (part rest : List ℕ) → length part ≡ size → take n (take size (part ++ rest)) ≡ take n part
lent n size part rest all = ap (λ (l : List ℕ). take n l) (take_at part rest size all)

-- the front of a buffer that was filled
came : (id n size : ℕ) (told : Option World) (buf items : List ℕ) → length buf ≡ size → items ≡ take n buf
    → IfSome told (λ w. Fills (left_of id w) n buf) → IfSome told (λ w. items ≡ take size (left_of id w))
came id n size told buf items len cut fills =
    IfSome_then told fills (λ w one. cut ∙ filled_front size n (left_of id w) buf len one)

pub returns-clause-octets : goal.returns-clause-octets
returns-clause-octets g c =
    came c.args.id.number c.in_ok-n.n c.args.size (g.D.Desk.told c.args.desk.now) c.read_full.new.buf c.from_vec.result
    (omega (arith, c.deref_mut.ensures.len, c.in_ok-resize.ensures.len))
    (c.from_vec.ensures ∙ c.truncate.ensures.items ∙ lent c.in_ok-n.n c.resize.new.self.len c.read_full.new.buf _ (omega (arith, c.deref_mut.ensures.len, c.resize.ensures.len)))
    c.in_ok-n.ensures.octets
