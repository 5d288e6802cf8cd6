use Rattle.replay.specs.Trial.{hash_text}
use Rattle.replay.proofs.trying.push_hash.Goals as goal

pub returns : goal.returns
unfolding hash_text
returns c = rw (c.to_be_bytes-hash.ensures, c.octets_hash.ensures) at c.push_octets.ensures
