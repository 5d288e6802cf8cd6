use Rattle.std.proofs.Common.{refl}
use Rattle.ip_headers.proofs.writing.unsummed_v4.Goals as goal

pub returns : goal.returns
returns c =
    rw (c.copy_from_slice-5.ensures.after, c.copy_from_slice-4.ensures.after, c.copy_from_slice-3.ensures.after, c.copy_from_slice-2.ensures.after, c.copy_from_slice.ensures.after, c.to_be_bytes.ensures, c.to_be_bytes-2.ensures, c.to_be_bytes-3.ensures, c.v4_flags.ensures, c.to_be_bytes-4.ensures, c.to_be_bytes-5.ensures) refl
