-- The journal of the static mappings.
use Rattle.std.proofs.Common.{◌≡◌, ℕ, suc, ◌+◌, true, List, [], ◌∷◌, length, map, refl, ap, ◌∙◌, arith}
use Rattle.mapping_records.specs.declared.record.Record.{Record}
use Rattle.lisp_settings.specs.declared.settings.Settings.{Settings}
use Rattle.router_log.specs.declared.entry.Entry.{Entry}
use Rattle.router_log.specs.declared.entry.Entry.TheVariants.{Learned}
use Rattle.router_model.specs.Journal.{Journal, extended, statics}

-- the entry of a static mapping
abbrev static : Record → Entry
static mapping = Learned 0 mapping true

-- further entries are counted with those before
pub length-extended : (journal : Journal) (entries : List Entry) → length (extended journal entries) ≡ length entries + length journal
length-extended journal [] = omega arith
length-extended journal (entry ∷ entries) = length-extended (entry ∷ journal) entries ∙ omega arith

length-static : (mappings : List Record) → length (map static mappings) ≡ length mappings
length-static [] = refl
length-static (mapping ∷ mappings) = ap suc (length-static mappings)

-- the journal has no other entries
pub length-statics : (settings : Settings) → length (statics settings) ≡ length settings.mappings
length-statics settings = length-extended [] (map static settings.mappings) ∙ ap (λ (n : ℕ). n + 0) (length-static settings.mappings) ∙ omega arith
