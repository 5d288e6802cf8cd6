use Rattle.std.proofs.Common.{◌≡◌, ◌+◌, ◌-◌, ◌++◌, drop, ap, ◌∙◌, arith}
use Rattle.router_log.specs.Numbers.{octet_entry}
use Rattle.router_log.proofs.OctetLemmas.{behind_filling}
use Rattle.router_log.proofs.digits.write_octet_digits.Goals as goal

pub returns-clause-written : goal.returns-clause-written
returns-clause-written c =
    let stop : c.args.end - 4 + 4 ≡ c.args.end = omega arith in
    behind_filling c.args.octet c.args.end c.digit_count.result c.write_entry.new.text (drop c.args.end c.args.text.now) (omega arith) c.digit_count.ensures.count c.digit_count.ensures.short
    (c.write_entry.ensures ∙ ap (λ i. octet_entry c.args.octet ++ drop i c.args.text.now) stop)
