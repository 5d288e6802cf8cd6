use Rattle.std.proofs.Common.{◌∙◌, ◌&&◌, Bool, ap, sym, arith, length, drop, take, ◌-◌, map}
use Rattle.std.specs.Prelude.{string_bytes}
use Rattle.command_words.specs.Words.{are_options}
use Rattle.command_words.proofs.WordLemmas.{are_options-short, are_options-more}
use Rattle.command_words.proofs.options.+are_options.Goals as goal

pub returns-in_default : goal.returns-in_default
returns-in_default n c = sym (are_options-short _ c.args.words.now (omega (arith, c.in_default.len_below)))

pub returns-then-is_option : goal.returns-then-is_option
returns-then-is_option n c =
    let names = map (λ name. name.now) c.args.names.now in
    let words = c.args.words.now in
    let more = are_options names (map string_bytes (take (length words - 2) (drop 2 words))) in
    let all = are_options-more names words c.name-item.result c.value-item.result c.as_str.result.now c.as_str-2.result.now (omega (arith, c.in-len2-up.len_at_least)) c.name-item.is c.value-item.is c.as_str.ensures.value c.as_str-2.ensures.value in
    c.are_options.ensures ∙ sym (all ∙ ap (λ (b : Bool). b && more) (sym c.is_option.ensures ∙ c.if-is_option.true))

pub returns-else-is_option : goal.returns-else-is_option
returns-else-is_option n c =
    let names = map (λ name. name.now) c.args.names.now in
    let words = c.args.words.now in
    let more = are_options names (map string_bytes (take (length words - 2) (drop 2 words))) in
    let all = are_options-more names words c.name-item.result c.value-item.result c.as_str.result.now c.as_str-2.result.now (omega (arith, c.in-len2-up.len_at_least)) c.name-item.is c.value-item.is c.as_str.ensures.value c.as_str-2.ensures.value in
    c.if-is_option.false ∙ sym (all ∙ ap (λ (b : Bool). b && more) (sym c.is_option.ensures ∙ c.if-is_option.false))
