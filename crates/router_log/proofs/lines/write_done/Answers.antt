use Rattle.std.proofs.Common.{ℕ, ◌++◌, drop, codes, sym, ap, ◌∙◌, append_assoc}
use Rattle.router_log.specs.Numbers.{named}
use Rattle.router_log.specs.Lines.{done_text}
use Rattle.router_log.specs.declared.verdict.Done.{Done}
use Rattle.router_log.proofs.lines.write_done.Goals as goal

pub returns-in-Solicited-clause-written : goal.returns-in-Solicited-clause-written
returns-in-Solicited-clause-written c =
    let rest = drop c.args.end c.args.text.now in
    c.write_named-in-Solicited.ensures.written
    ∙ ap (λ (n : ℕ). named (codes "solicit asked=") n ++ rest) c.from-in-Solicited.ensures
    ∙ ap (λ (done : Done). done_text done ++ rest) (sym c.in-Solicited.is)

pub returns-in-Learned-clause-written : goal.returns-in-Learned-clause-written
returns-in-Learned-clause-written c =
    let rest = drop c.args.end c.args.text.now in
    let learned = named (codes "reply learned=") in
    let passed = named (codes " passed=") in
    c.write_named-in-Learned.ensures.written
    ∙ ap (λ l. learned c.from-in-Learned-2.result ++ l) c.write_named-end.ensures.written
    ∙ ap (λ (n : ℕ). learned n ++ (passed c.from-in-Learned.result ++ rest)) c.from-in-Learned-2.ensures
    ∙ ap (λ (n : ℕ). learned c.in-Learned.taken ++ (passed n ++ rest)) c.from-in-Learned.ensures
    ∙ sym (append_assoc (learned c.in-Learned.taken) (passed c.in-Learned.passed) rest)
    ∙ ap (λ (done : Done). done_text done ++ rest) (sym c.in-Learned.is)
