use Rattle.std.proofs.Common.{rules, ◌∙◌, sym, map, not, bytes_eq, string_bytes, String, Global, option_map, ap}
use Rattle.std.specs.List.{list_any}
use Rattle.std.proofs.lemmas.Iterator.Search.{find_from_yields_List}
use Rattle.std.proofs.lemmas.Iterator.Consumers.{YieldsList-from_rest}
use Rattle.std.specs.BTreeMap.{keys}
use Rattle.lisp_settings.proofs.FieldLemmas.{option_map-both, unknown_key-members}
use Rattle.lisp_settings.proofs.fields.first_unknown.Goals as goal

pub returns : goal.returns
returns c =
    let known = map (λ key. key.now) c.args.known.now in
    let found = find_from_yields_List (λ (key : String Global). not (list_any (λ k. bytes_eq k (string_bytes key)) known)) _ _ c.find.result c.find.ensures.ran (YieldsList-from_rest (keys c.args.table.now) cc) (λ x b q k. search rules) in
    option_map-both string_bytes (λ key. key.now) c.find.result ∙ ap (option_map string_bytes) found ∙ sym (unknown_key-members known c.args.table.now.entries c.keys.ensures.ordered)
