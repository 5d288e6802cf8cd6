use Rattle.lisp_header.proofs.ReadAgain.{header_at-canonical}
use Rattle.lisp_header.proofs.laws.canonical_is_read_again.Goals as goal

pub returns-clause-read : goal.returns-clause-read
returns-clause-read c header rest range = header_at-canonical header rest range
