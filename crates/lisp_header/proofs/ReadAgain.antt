-- A header that was written is read again.
use Rattle.std.proofs.Common.{◌≡◌, ℕ, List, ◌++◌, rules}
use Rattle.lisp_header.specs.Header.{canonical, header_at, InRange}
use Rattle.lisp_header.specs.declared.header.LispHeader.{LispHeader}

pub header_at-canonical : (header : LispHeader) (rest : List ℕ) → InRange header → header_at (canonical header ++ rest) ≡ header
header_at-canonical header rest range = search rules
