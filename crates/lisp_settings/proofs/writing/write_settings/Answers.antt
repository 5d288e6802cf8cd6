use Rattle.std.proofs.Common.{◌≡◌, ◌∙◌, ap, arith, string_bytes}
use Rattle.std.proofs.lemmas.Str.{IsUtf8-had}
use Rattle.toml.specs.View.{table_view}
use Rattle.lisp_settings.specs.Settings.{settings_in_text}
use Rattle.lisp_settings.proofs.ReadingLemmas.{settings_in_text-document}
use Rattle.lisp_settings.proofs.writing.write_settings.Goals as goal

pub returns-in-Ok-clause-ok : goal.returns-in-Ok-clause-ok
returns-in-Ok-clause-ok c few =
    let written : c.from_vec.result ≡ string_bytes c.in-Ok.text = c.from_vec.ensures ∙ ap (λ v. v.items) c.into_bytes-octets.ensures.value in
    let document = c.in-Ok.ensures.reads_back (omega (arith, c.in_ok-top.ensures.plain.depth)) in
    ap settings_in_text written
    ∙ settings_in_text-document (string_bytes c.in-Ok.text) (table_view c.in_ok-top.top) (IsUtf8-had (string_bytes c.in-Ok.text) c.in-Ok.text.ok) document
    ∙ c.in_ok-top.ensures.reads few
