use Rattle.std.proofs.Common.{◌∙◌, ◌++◌, ℕ, List, ap, drop}
use Rattle.ip_headers.specs.Canonical.{canonical_v4, canonical_v6}
use Rattle.encap.specs.Wrapped.{outer_header}
use Rattle.encap.proofs.outer.write_outer.Goals as goal

pub returns-in-V4-V4-clause-written : goal.returns-in-V4-V4-clause-written
unfolding outer_header
returns-in-V4-V4-clause-written c =
    rw (c.in-V4-V4.is-0, c.in-V4-V4.is-1)
    (c.write_octets.ensures.written ∙ ap (λ (header : List ℕ). header ++ drop c.args.end c.args.front.now) (c.canonical_v4.ensures ∙ ap canonical_v4 c.outer_v4.ensures))

pub returns-in-V6-V6-clause-written : goal.returns-in-V6-V6-clause-written
unfolding outer_header
returns-in-V6-V6-clause-written c =
    rw (c.in-V6-V6.is-0, c.in-V6-V6.is-1)
    (c.write_octets-in-V6-V6.ensures.written ∙ ap (λ (header : List ℕ). header ++ drop c.args.end c.args.front.now) (c.canonical_v6.ensures ∙ ap canonical_v6 c.outer_v6.ensures))
