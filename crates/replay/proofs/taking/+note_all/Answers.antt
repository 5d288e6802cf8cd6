use Rattle.std.proofs.Common.{◌≡◌, ◌∙◌, ◌-◌, ◌≤◌, ℕ, List, drop, length, take, ap, arith, rules, sym, subst, true, ◌∷◌}
use Rattle.std.proofs.lemmas.List.{length-append, length-map}
use Rattle.std.proofs.lemmas.Result.{on_ok_weaker}
use Rattle.std.specs.List.{list_all}
use Rattle.lisp_settings.specs.declared.settings.Settings.{Settings}
use Rattle.router_log.specs.declared.notice.Notice.{Notice}
use Rattle.router_model.specs.Changes.{Change, each, unchanged}
use Rattle.router_model.specs.Lifting.{is_sound}
use Rattle.router_model.specs.Note.{noted}
use Rattle.router_model.specs.Parts.{Parts, standing_in, table}
use Rattle.router_model.specs.Plain.{emit_packets}
use Rattle.router_model.specs.Standing.{standing_by}
use Rattle.router_model.specs.declared.own.Own.{Own}
use Rattle.router_core.proofs.ChangeLemmas.{both}
use Rattle.replay.specs.Taking.{all_noted, Sends}
use Rattle.router_core.proofs.NotingLemmas.{all-from, behind}
use Rattle.replay.proofs.ReplayLemmas.{emits-more, first-left, on_ok_two, stands-kept}
use Rattle.replay.proofs.taking.+note_all.Goals as goal

-- the settings that stand stay behind the first of them
stays : (t : ℕ) (c : goal.After-drop-changed-2 t) → standing_in c.args.settings.now c.note_found.new.self.parts ≡ standing_in c.args.settings.now c.args.memory.now.parts
stays t c =
    let first = c.in_ok-changed.ensures.step.entered in
    stands-kept c.args.settings.now c.args.memory.now.parts c.note_found.new.self.parts first.own first.steps

-- all notices by the first of them, and those left
noted-first : (t : ℕ) (c : goal.After-drop-changed-2 t) → all_noted c.args.settings.now c.args.memory.now.parts c.args.moment c.args.notices.now
    ≡ behind c.in_ok-changed.changed.entries c.in_ok-changed.changed.emits (all_noted c.args.settings.now c.note_found.new.self.parts c.args.moment (take (length c.args.notices.now - 1) (drop 1 c.args.notices.now)))
noted-first t c =
    let old = c.args.memory.now.parts in
    let mid = c.note_found.new.self.parts in
    let stands = standing_in c.args.settings.now old in
    let moment = c.args.moment in
    let notices = c.args.notices.now in
    let notice = c.notice-item.result in
    let changed = c.in_ok-changed.changed in
    let left : List Notice = take (length notices - 1) (drop 1 notices) in
    ap (λ (l : List Notice). each (noted table stands moment) l (unchanged old)) (first-left notices notice c.in-len1-up.len_at_least c.notice-item.is)
    ∙ all-from stands moment notice left old mid changed.entries changed.emits c.in_ok-changed.ensures.parts
    ∙ ap (λ (stand : Settings). behind changed.entries changed.emits (each (noted table stand moment) left (unchanged mid))) (sym (stays t c))

pub note_found-requires-clause-may : goal.note_found-requires-clause-may
note_found-requires-clause-may t c = record { later = c.requires.later; count = omega (arith, c.requires.count, c.in-len1-up.len_at_least) }

pub note_all-requires : goal.note_all-requires
note_all-requires t c =
    let stands = standing_by c.args.settings.now c.own-own.result in
    let moment = c.args.moment in
    let notices = c.args.notices.now in
    let notice = c.notice-item.result in
    let emits = c.in_ok-changed.changed.emits in
    let some = c.in-len1-up.len_at_least in
    let left : List Notice = take (length notices - 1) (drop 1 notices) in
    let whole : notices ≡ notice ∷ left = first-left notices notice some c.notice-item.is in
    let split = ap (λ (l : List Notice). length l) whole in
    let first = c.in_ok-changed.ensures.step.entered in
    let one = c.in_ok-changed.ensures.sent.few in
    let sends : Sends (emit_packets stands moment emits) c.args.output.now c.push_emits.new.output = c.in_ok-push_emits.ensures in
    let packets : length (emit_packets stands moment emits) ≡ length emits = length-map emits _ in (
      search rules,
      (
        c.requires.lawful,
        (
          (both (is_sound notice) (list_all is_sound left) (subst (λ (l : List Notice). list_all is_sound l ≡ true) whole c.requires.sound)).1,
          (
            first.now,
            (
              omega (arith, c.requires.count, first.count, split),
              (c.requires.moment, omega (arith, c.requires.room, sends.written, packets, one, split)),
            ),
          ),
        ),
      ),
    )

pub returns-clause-entered : goal.returns-clause-entered
returns-clause-entered t c =
    let some = c.in-len1-up.len_at_least in
    let split = ap (λ (l : List Notice). length l) (first-left c.args.notices.now c.notice-item.result some c.notice-item.is) in
    let first = c.in_ok-changed.ensures.step.entered in
    on_ok_weaker c.note_all.result (λ others.
    record {
      now = others.now;
      count = omega (arith, others.count, first.count, split);
      own = others.own ∙ first.own;
      steps = others.steps ∙ first.steps;
    }) c.note_all.ensures.entered

pub returns-clause-sends : goal.returns-clause-sends
returns-clause-sends t c =
    let settings = c.args.settings.now in
    let moment = c.args.moment in
    let notices = c.args.notices.now in
    let old = c.args.output.now in
    let mid = c.push_emits.new.output in
    let new = c.note_all.new.output in
    let before = c.note_found.new.self.parts in
    let after = c.note_all.new.memory.parts in
    let emits = c.in_ok-changed.changed.emits in
    let left : Change Parts = all_noted settings before moment (take (length notices - 1) (drop 1 notices)) in
    let first : Sends (emit_packets (standing_in settings before) moment emits) old mid =
    subst (λ (own : Own). Sends (emit_packets (standing_by settings own) moment emits) old mid) c.own-own.ensures c.in_ok-push_emits.ensures in
    on_ok_two c.note_all.result c.note_all.ensures.sends c.note_all.ensures.entered (λ others entered.
    subst (λ (change : Change Parts). Sends (emit_packets (standing_in settings after) moment change.emits) old new) (sym (noted-first t c))
    (emits-more (standing_in settings after) moment emits left.emits old mid new
    (subst (λ (stand : Settings). Sends (emit_packets stand moment emits) old mid) (sym (stands-kept settings before after entered.own entered.steps)) first) others))

pub returns-clause-state : goal.returns-clause-state
returns-clause-state t c =
    on_ok_weaker c.note_all.result (λ is. is ∙ ap (λ (change : Change Parts). change.after) (sym (noted-first t c))) c.note_all.ensures.state

pub returns-clause-few : goal.returns-clause-few
returns-clause-few t c =
    let notices = c.args.notices.now in
    let emits = c.in_ok-changed.changed.emits in
    let left : Change Parts = all_noted c.args.settings.now c.note_found.new.self.parts c.args.moment (take (length notices - 1) (drop 1 notices)) in
    let one = c.in_ok-changed.ensures.sent.few in
    let some = c.in-len1-up.len_at_least in
    let split = ap (λ (l : List Notice). length l) (first-left notices c.notice-item.result some c.notice-item.is) in
    let both = length-append emits left.emits in
    on_ok_weaker c.note_all.result (λ few.
    subst (λ (change : Change Parts). length change.emits ≤ length notices) (sym (noted-first t c)) (omega (arith, few, one, split, both))) c.note_all.ensures.few
