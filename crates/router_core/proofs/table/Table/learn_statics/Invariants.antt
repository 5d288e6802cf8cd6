use Rattle.std.proofs.Common.{◌≡◌, ◌≤◌, ◌+◌, [], length, take}
use Rattle.lisp_settings.specs.Instances.{all_mappings}
use Rattle.lisp_settings.specs.declared.settings.Settings.{Settings}
use Rattle.router_model.specs.Parts.{parts_in}
use Rattle.router_core.proofs.StaticLemmas.{journal_of}
use Rattle.router_core.proofs.table.Table.learn_statics.Given as goal

abbrev pub invariant-loop-mapping : goal.invariant-loop-mapping
invariant-loop-mapping l =
    ((settings : Settings) → l.initial.self.parts ≡ parts_in settings [] → l.self.parts ≡ parts_in settings (journal_of (take l.mapping-index l.mappings)))
    × ((l.self.parts.now ≤ 0) × ((l.self.parts.count ≤ l.mapping-index)
    × ((length l.self.parts.mappings ≤ l.mapping-index) × ((length l.mappings ≤ l.self.mapping_room + l.mapping-index) × (length l.mappings + all_mappings l.self.parts.limits ≤ 65536)))))
