use Rattle.std.proofs.Common.{rules, ◌≡◌, ◌≢◌, Err}
use Rattle.toml.specs.View.{table_view}
use Rattle.lisp_settings.specs.Settings.{settings_in}
use Rattle.lisp_settings.specs.declared.fault.SettingsFault.TheVariants.{Memory}
use Rattle.lisp_settings.proofs.ReadingFaults.{choices_fail, lists_fail}
use Rattle.lisp_settings.proofs.reading.read_top.Goals as goal

pub returns-in_err-resolver-clause-err : goal.returns-in_err-resolver-clause-err
returns-in_err-resolver-clause-err c =
    let e = c.in_err-resolver.field-0.0 in
    let fails : e ≢ Memory → settings_in (table_view c.args.top.now) ≡ Err e =
    λ other. choices_fail (table_view c.args.top.now) _ _ _ e c.in_ok-only_keys.ensures.ok c.in_ok-seed.ensures.ok c.in_ok-nonces.ensures.ok (c.in_err-resolver.ensures.err other) in
    search (rules, fails)

pub returns-in_err-locators-clause-err : goal.returns-in_err-locators-clause-err
returns-in_err-locators-clause-err c =
    let e = c.in_err-locators.field-0.0 in
    let read = c.in_ok-resolver.ensures in
    let fails : e ≢ Memory → settings_in (table_view c.args.top.now) ≡ Err e =
    λ other. lists_fail (table_view c.args.top.now) _ _ _ _ _ _ _ e c.in_ok-only_keys.ensures.ok c.in_ok-seed.ensures.ok c.in_ok-nonces.ensures.ok read.resolver read.ttl read.probe read.echo (c.in_err-locators.ensures.err other) in
    search (rules, fails)
