use Rattle.std.proofs.Common.{◌<◌, ℕ, List, All, Fits, w8, slice_index, arith}
use Rattle.std.proofs.lemmas.List.Elements.{All-from_get_or}
use Rattle.capture_io.proofs.record.octet_count.Goals as goal

-- octets by their type
below : (octets : List ℕ) → ((k : ℕ) → Fits w8 (slice_index octets k)) → All (λ octet. octet < 256) octets
below octets fits = All-from_get_or (λ octet. octet < 256) octets 0 (λ k within. let here = fits k in omega arith)

pub returns-clause-octets : goal.returns-clause-octets
returns-clause-octets c = below c.args.octets.now c.type_inv.octets
