-- What stands for a journal is seen as the journal, and goes on to do so.
use Rattle.std.proofs.Common.{◌≡◌, ◌≤◌, ◌&&◌, true, List, [], ◌∷◌, ◌++◌, length, map, refl, sym, ap, subst, ◌∙◌, arith}
use Rattle.mapping_records.specs.declared.record.Record.{Record}
use Rattle.lisp_settings.specs.Instances.{limits_in}
use Rattle.lisp_settings.specs.declared.settings.Settings.{Settings}
use Rattle.router_log.specs.declared.entry.Entry.{Entry}
use Rattle.router_log.specs.declared.entry.Entry.TheVariants.{Learned}
use Rattle.router_model.specs.Journal.{Journal, IsRising, changed, extended, last_moment, moment_of, statics}
use Rattle.router_model.specs.Lifting.{AllAbsorbed, EntryAbsorbed, PartsAnswer, ProperRises, StandingAbsorbs, StandingAdmits, StandingSees, StaticsStand}
use Rattle.router_model.specs.Parts.{Stands, absorbed, admits, view_in}
use Rattle.router_model.specs.Proper.{EachFits, IsProper, MayChange, fits, is_admitted}
use Rattle.router_model.specs.Standing.{may_change, own_after}
use Rattle.router_model.proofs.PartsLemmas.{answers, is-absorbed, is-admitted, not-before}

pub parts-answer : PartsAnswer
parts-answer = answers

pub entry-absorbed : EntryAbsorbed
entry-absorbed settings journal entry may rising fit = (is-admitted settings journal entry fit may rising, is-absorbed settings journal entry fit may rising)

-- static mappings are all of moment 0
extended-rises : (journal : Journal) (mappings : List Record) → IsRising journal → last_moment journal ≤ 0 → IsRising (extended journal (map (λ mapping. Learned 0 mapping true) mappings))
extended-rises journal [] rising first = rising
extended-rises journal (mapping ∷ mappings) rising first = extended-rises (Learned 0 mapping true ∷ journal) mappings (first, rising) (omega arith)

pub statics-rise : (settings : Settings) → IsRising (statics settings)
statics-rise settings = extended-rises [] settings.mappings tt (omega arith)

pub fitting-rises : (settings : Settings) (before : Journal) (entries : List Entry) → IsRising before → EachFits settings before entries → IsRising (entries ++ before)
fitting-rises settings before [] rising fit = rising
fitting-rises settings before (entry ∷ entries) rising fit =
    (not-before settings (entries ++ before) entry fit.0, fitting-rises settings before entries rising fit.1)

pub proper-rises : ProperRises
proper-rises settings journal proper = subst IsRising (sym proper.whole) (fitting-rises settings (statics settings) proper.entries (statics-rise settings) proper.fit)

pub all-absorbed : AllAbsorbed
all-absorbed settings [] may fit = refl
all-absorbed settings (entry ∷ entries) may fit =
    ap (λ p. absorbed p entry) (all-absorbed settings entries may fit.1)
    ∙ is-absorbed settings (entries ++ statics settings) entry fit.0 may (fitting-rises settings (statics settings) entries (statics-rise settings) fit.1)

pub statics-proper : (settings : Settings) → MayChange settings → IsProper settings (statics settings)
statics-proper settings may = record { may = may; entries = []; whole = refl; fit = tt }

-- a journal with an entry that fits
pub proper-with : (settings : Settings) (journal : Journal) (entry : Entry) → IsProper settings journal → fits settings journal entry ≡ true → IsProper settings (entry ∷ journal)
proper-with settings journal entry proper fit = record {
  may = proper.may;
  entries = entry ∷ proper.entries;
  whole = ap (λ l. entry ∷ l) proper.whole;
  fit = (subst (λ l. fits settings l entry ≡ true) proper.whole fit, proper.fit);
}

pub standing-sees : StandingSees
standing-sees settings parts journal m stands =
    ap (λ p. view_in p m) stands.whole ∙ answers settings journal m (proper-rises settings journal stands.proper)

pub standing-admits : StandingAdmits
unfolding admits
standing-admits settings parts journal entry stands =
    ap (λ p. is_admitted p.limits p.count p.now (view_in p (moment_of entry)) entry && may_change p.own p.steps entry) stands.whole
    ∙ ap (λ v. is_admitted (limits_in settings) (length journal) (last_moment journal) v entry && may_change (own_after settings journal) (changed journal) entry) (answers settings journal (moment_of entry) (proper-rises settings journal stands.proper))

pub standing-absorbs : StandingAbsorbs
standing-absorbs settings parts journal entry stands fit =
    let rising = proper-rises settings journal stands.proper in
    let whole = ap (λ p. absorbed p entry) stands.whole ∙ is-absorbed settings journal entry fit stands.proper.may rising in (
      ap (λ p. admits p entry) stands.whole ∙ is-admitted settings journal entry fit stands.proper.may rising,
      subst (λ p. Stands settings p (entry ∷ journal)) (sym whole) (record { proper = proper-with settings journal entry stands.proper fit; whole = refl }),
    )

pub statics-stand : StaticsStand
statics-stand settings may = record { proper = statics-proper settings may; whole = refl }
