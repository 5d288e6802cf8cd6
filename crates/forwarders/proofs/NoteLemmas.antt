-- Notices, noted one after another, with what is gathered of them.
use Rattle.std.proofs.Common.{◌≡◌, ◌∙◌, ℕ, suc, ◌+◌, ◌*◌, ◌≤◌, List, [], ◌∷◌, ◌++◌, length, map, take, get_or, All, Result, Ok, Err, ◌<◌, append_assoc, refl, sym, ap, subst, arith}
use Rattle.std.specs.Result.{OnOk}
use Rattle.std.proofs.lemmas.List.{append-nil, length-append, length-map, length-take, map-append, take_more}
use Rattle.std.proofs.lemmas.List.Concat.{flat_map-append}
use Rattle.std.proofs.lemmas.List.Elements.{All-take, All-weaker}
use Rattle.lisp_settings.specs.declared.settings.Settings.{Settings}
use Rattle.capture_events.specs.Events.{Packet}
use Rattle.router_log.specs.declared.emit.Emit.{Emit}
use Rattle.router_log.specs.declared.entry.Entry.{Entry}
use Rattle.router_log.specs.declared.notice.Notice.{Notice}
use Rattle.router_model.specs.Changes.{Change, each, unchanged}
use Rattle.router_model.specs.Emits.{emit_packet}
use Rattle.router_model.specs.Limits.{most_notices}
use Rattle.router_model.specs.Note.{noted}
use Rattle.router_model.specs.Parts.{Parts, own_of, standing_in, table}
use Rattle.router_model.specs.Plain.{emit_packets}
use Rattle.router_model.specs.Sides.{Ruling, notices_of}
use Rattle.router_model.specs.Standing.{own_in, standing_by}
use Rattle.router_model.specs.declared.own.Own.{Own}
use Rattle.router_core.specs.Steps.{HasEntered}
use Rattle.router_core.proofs.NotingLemmas.{all-behind, behind}
use Rattle.forwarders.specs.declared.gathering.Gathered.{Gathered}
use Rattle.forwarders.specs.declared.ruling.Ruled.{Ruled}
use Rattle.forwarders.specs.Gathering.{IsFit, Notes, packet_gathered}
use Rattle.forwarders.specs.Given.{IsGiven}
use Rattle.forwarders.specs.Ruling.{ruling_of}

emits-append : (settings : Settings) (moment : ℕ) (one next : List Emit) → map packet_gathered (emit_packets settings moment (one ++ next)) ≡ map packet_gathered (emit_packets settings moment one) ++ map packet_gathered (emit_packets settings moment next)
emits-append settings moment one next =
    ap (λ (l : List Packet). map packet_gathered l) (map-append (λ (emit : Emit). record { moment = moment; octets = emit_packet settings emit }) one next)
    ∙ map-append packet_gathered (emit_packets settings moment one) (emit_packets settings moment next)

module _ (settings : Settings) (moment : ℕ) where
  abbrev made : List Notice → Parts → Change Parts
  made notices before = each (noted table settings moment) notices (unchanged before)

  -- a step for the items of two lists
  each-append : (one next : List Notice) (change : Change Parts) → each (noted table settings moment) (one ++ next) change ≡ each (noted table settings moment) next (each (noted table settings moment) one change)
  each-append [] next change = refl
  each-append (n ∷ one) next change = each-append one next (noted table settings moment n change)

  made-append : (one next : List Notice) (before middle : Parts) → middle ≡ (made one before).after → made (one ++ next) before ≡ behind (made one before).entries (made one before).emits (made next middle)
  made-append one next before middle is =
      each-append one next (unchanged before)
      ∙ (all-behind settings moment next (made one before).after (made one before).entries (made one before).emits
      ∙ ap (λ (p : Parts). behind (made one before).entries (made one before).emits (made next p)) (sym is))

  pub notes-both : (one next : List Notice) (before middle after : Parts) (entries more all : List Entry) (items mid last : List Gathered) → Notes settings moment one before entries items middle more mid → Notes settings moment next middle more mid after all last → Notes settings moment (one ++ next) before entries items after all last
  notes-both one next before middle after entries more all items mid last first others =
      let whole = made-append one next before middle first.parts in
      let c : Change Parts = made one before in
      let d : Change Parts = made next middle in
      let a = first.few in
      let b = others.few in
      let x = first.entered in
      let y = others.entered in
      let xc = x.count in
      let yc = y.count in
      let long = length-append one next in
      record {
        parts = others.parts ∙ sym (ap (λ (t : Change Parts). t.after) whole);
        entries = others.entries ∙ (ap (λ (l : List Entry). l ++ d.entries) first.entries
            ∙ (append_assoc entries c.entries d.entries ∙ sym (ap (λ (t : Change Parts). entries ++ t.entries) whole)));
        items = others.items ∙ (ap (λ (l : List Gathered). l ++ map packet_gathered (emit_packets settings moment d.emits)) first.items
            ∙ (append_assoc items (map packet_gathered (emit_packets settings moment c.emits)) (map packet_gathered (emit_packets settings moment d.emits))
            ∙ (ap (λ (l : List Gathered). items ++ l) (sym (emits-append settings moment c.emits d.emits))
            ∙ sym (ap (λ (t : Change Parts). items ++ map packet_gathered (emit_packets settings moment t.emits)) whole))));
        fits = λ fit. others.fits (first.fits fit);
        few = omega (arith, a, b, long);
        entered = record { now = y.now; count = omega (arith, xc, yc, long); own = y.own ∙ x.own; steps = y.steps ∙ x.steps };
      }

-- settings stand as long as neither own locators nor their changes come
pub stands-still : (settings : Settings) (before after : Parts) → after.own ≡ before.own → after.steps ≡ before.steps → standing_in settings after ≡ standing_in settings before
stands-still settings before after own steps = λ i. standing_by settings (own_in (own i) (steps i))

-- so notices are noted over those that stood before the first of them
pub notes-stand : {n : ℕ} (settings : Settings) (moment : ℕ) (next : List Notice) (start before after : Parts) (entries all : List Entry) (items last : List Gathered) → HasEntered n moment start before → Notes (standing_in settings before) moment next before entries items after all last → Notes (standing_in settings start) moment next before entries items after all last
notes-stand settings moment next start before after entries all items last entered notes =
    subst (λ (s : Settings). Notes s moment next before entries items after all last) (stands-still settings start before entered.own entered.steps) notes

-- what one notice made, whose packets are those of the settings that stand behind it
pub notes-one : (settings : Settings) (moment : ℕ) (notice : Notice) (before after : Parts) (own : Own) (change : Change Parts) (sliced : List Emit) (added older newer : List Entry) (old new : List Gathered)
    → change ≡ noted table (standing_in settings before) moment notice (unchanged before) → change.after ≡ after → own ≡ own_of after → added ≡ change.entries → sliced ≡ change.emits
    → newer ≡ older ++ added → new ≡ old ++ map packet_gathered (emit_packets (standing_by settings own) moment sliced) → (All IsFit old → All IsFit new)
    → length change.emits ≤ 1 → HasEntered 1 moment before after
    → Notes (standing_in settings before) moment (notice ∷ []) before older old after newer new
notes-one settings moment notice before after own change sliced added older newer old new is moved owns copied cut told sent fits few entered =
    let stands : standing_by settings own ≡ standing_in settings before =
    ap (λ (o : Own). standing_by settings o) owns ∙ stands-still settings before after entered.own entered.steps in
    let packets : List Packet = emit_packets (standing_in settings before) moment change.emits in
    let items : new ≡ old ++ map packet_gathered packets =
    sent ∙ (λ i. old ++ map packet_gathered (emit_packets (stands i) moment (cut i))) in
    let long = ap (λ (l : List Gathered). length l) items ∙ length-append old (map packet_gathered packets) in
    let same = length-map packets packet_gathered in
    let number : length packets ≡ length change.emits = length-map change.emits _ in
    record {
      parts = sym moved ∙ ap (λ (c : Change Parts). c.after) is;
      entries = told ∙ (ap (λ (l : List Entry). older ++ l) copied ∙ ap (λ (c : Change Parts). older ++ c.entries) is);
      items = items ∙ ap (λ (c : Change Parts). old ++ map packet_gathered (emit_packets (standing_in settings before) moment c.emits)) is;
      fits = fits;
      few = omega (arith, long, same, number, few);
      entered = entered;
    }

-- the same from what the calls say
pub notes-sent : {T E : Type 0} (r : Result T E) (settings : Settings) (moment : ℕ) (notice : Notice) (before after : Parts) (own : Own) (change : Change Parts) (sliced : List Emit) (added older newer : List Entry) (old new : List Gathered)
    → change ≡ noted table (standing_in settings before) moment notice (unchanged before) → change.after ≡ after → own ≡ own_of after → added ≡ change.entries → sliced ≡ change.emits
    → newer ≡ older ++ added → OnOk r (new ≡ old ++ map packet_gathered (emit_packets (standing_by settings own) moment sliced)) → OnOk r (All IsFit old → All IsFit new)
    → length change.emits ≤ 1 → HasEntered 1 moment before after
    → OnOk r (Notes (standing_in settings before) moment (notice ∷ []) before older old after newer new)
notes-sent (Ok x) settings moment notice before after own change sliced added older newer old new is moved owns copied cut told sent fits few entered =
    notes-one settings moment notice before after own change sliced added older newer old new is moved owns copied cut told sent fits few entered
notes-sent (Err e) settings moment notice before after own change sliced added older newer old new is moved owns copied cut told sent fits few entered = tt

-- the notices of rulings, and of those of more
pub notices-append : (one next : List Ruling) → notices_of (one ++ next) ≡ notices_of one ++ notices_of next
notices-append one next = flat_map-append (λ (r : Ruling). r.decision.notices) one next

-- of one ruling more
pub notices-more : (ruled : List Ruled) (i : ℕ) (one : Ruled) → i < length ruled → one ≡ get_or ruled i one → notices_of (map ruling_of (take (i + 1) ruled)) ≡ notices_of (map ruling_of (take i ruled)) ++ one.decision.notices
notices-more ruled i one within is =
    ap (λ (l : List Ruled). notices_of (map ruling_of l)) (take_more ruled i one within)
    ∙ (ap (λ (x : Ruled). notices_of (map ruling_of (take i ruled ++ x ∷ []))) (sym is)
    ∙ (ap notices_of (map-append ruling_of (take i ruled) (one ∷ []))
    ∙ (notices-append (map ruling_of (take i ruled)) (map ruling_of (one ∷ []))
    ∙ ap (λ (l : List Notice). notices_of (map ruling_of (take i ruled)) ++ l) (append-nil one.decision.notices))))

pub notices-few : (ruled : List Ruled) → All (λ (one : Ruled). length one.decision.notices ≤ most_notices) ruled → length (notices_of (map ruling_of ruled)) ≤ most_notices * length ruled
notices-few [] few = omega arith
notices-few (one ∷ ruled) few =
    let here : length one.decision.notices ≤ most_notices = few 0 one (omega arith) in
    let rest = notices-few ruled (λ k d below. few (suc k) d (omega (arith, below))) in
    let both = length-append one.decision.notices (notices_of (map ruling_of ruled)) in
    omega (arith, here, rest, both)

-- of the first so many
pub given-few : (ruled : List Ruled) (i : ℕ) → All (λ (one : Ruled). IsGiven one.decision) ruled → i < length ruled → length (notices_of (map ruling_of (take i ruled))) ≤ most_notices * i
given-few ruled i given below =
    let few = notices-few (take i ruled) (All-weaker (λ (one : Ruled). IsGiven one.decision) (λ (one : Ruled). length one.decision.notices ≤ most_notices) (λ one g. g.notices.1) (take i ruled) (All-take (λ (one : Ruled). IsGiven one.decision) i ruled given)) in
    let long = length-take i ruled in
    omega (arith, few, long, below)
