use Rattle.std.proofs.Common.{refl}
use Rattle.ip_headers.proofs.writing.canonical_v4.Goals as goal

pub returns : goal.returns
returns c =
    rw (c.copy_from_slice.ensures.after, c.to_be_bytes.ensures, c.checksum-sum.ensures, c.unsummed_v4-octets.ensures) refl
