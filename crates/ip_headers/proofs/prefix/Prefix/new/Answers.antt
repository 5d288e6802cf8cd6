use Rattle.std.proofs.Common.{◌≤◌, arith}
use Rattle.ip_headers.specs.Addr.{width}
use Rattle.ip_headers.proofs.Cleared.{is_prefix-cleared}
use Rattle.ip_headers.proofs.prefix.Prefix.new.Goals as goal

pub invariant_of-result : goal.invariant_of-result
invariant_of-result c =
    let short : c.args.len ≤ width c.args.addr = omega (arith, c.width.ensures) in
    record { lawful = rw c.cleared.ensures (is_prefix-cleared c.args.addr c.args.len short) }
