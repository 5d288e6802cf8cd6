-- The changes in a journal are the settings' first ones, each once.
use Rattle.std.proofs.Common.{◌≡◌, ◌≤◌, ℕ, ◌+◌, Bool, true, false, List, [], ◌∷◌, ◌++◌, length, map, slice_get, take, Option, Some, None, refl, sym, ap, ap₂, subst, ◌∙◌, arith}
use Rattle.std.proofs.lemmas.List.{map-append, take_more}
use Rattle.std.proofs.lemmas.Option.{get_or_from_slice_get, slice_get_within}
use Rattle.ip_headers.specs.declared.addr.Addr.{Addr}
use Rattle.map_cache.proofs.ExactLemmas.{equal-address}
use Rattle.mapping_records.specs.Eids.{same_address}
use Rattle.mapping_records.specs.declared.record.Record.{Record}
use Rattle.lisp_settings.specs.declared.settings.Change.{Change}
use Rattle.lisp_settings.specs.declared.settings.Settings.{Settings}
use Rattle.router_log.specs.declared.entry.Entry.{Entry}
use Rattle.router_log.specs.declared.entry.Entry.TheVariants.{Changed, Learned}
use Rattle.router_model.specs.Journal.{Journal, changed, extended, is_changed, statics}
use Rattle.router_model.specs.Lifting.{ChangesComeOnce, changes_in, told_change}
use Rattle.router_model.specs.Proper.{EachFits}
use Rattle.router_model.specs.Standing.{has_change, is_change, same_up}
use Rattle.router_model.proofs.PartsLemmas.{count-more, fits-change}
use Rattle.router_model.proofs.StandingLemmas.{and-parts}

-- the first ones, each once
abbrev ComeOnce : Settings → Journal → Type 0
ComeOnce settings journal = (changed journal ≤ length settings.changes) × (changes_in journal ≡ map told_change (take (changed journal) settings.changes))

module _ (settings : Settings) where
  statics-none : (journal : Journal) (mappings : List Record) → let all = extended journal (map (λ mapping. Learned 0 mapping true) mappings) in (changed all ≡ changed journal) × (changes_in all ≡ changes_in journal)
  statics-none journal [] = (refl, refl)
  statics-none journal (mapping ∷ mappings) = statics-none (Learned 0 mapping true ∷ journal) mappings

  same-up : (a b : Bool) → same_up a b ≡ true → a ≡ b
  same-up true true is = refl
  same-up true false is = cc
  same-up false true is = cc
  same-up false false is = refl

  one-more : (older : Journal) (moment : ℕ) (address : Addr) (up : Bool) → has_change (slice_get settings.changes (changed older)) (Changed moment address up) ≡ true → ComeOnce settings older → ComeOnce settings (Changed moment address up ∷ older)
  one-more older moment address up has before = by (slice_get settings.changes n) refl has
    where
      n : ℕ
      n = changed older

      count : changed (Changed moment address up ∷ older) ≡ n + 1
      count = sym (count-more is_changed (Changed moment address up) older) ∙ omega arith

      by : (o : Option Change) → slice_get settings.changes n ≡ o → is_change address up o ≡ true → ComeOnce settings (Changed moment address up ∷ older)
      by None is tells = cc
      by (Some change) is tells =
          let within = slice_get_within settings.changes n change is in
          let parts = and-parts (same_address change.address address) (same_up change.up up) tells in
          let told : told_change change ≡ (address, up) = ap₂ (λ (a : Addr) (b : Bool). (a, b)) (equal-address change.address address parts.0) (same-up change.up up parts.1) in (
            omega (arith, count, within),
            ap (λ l. l ++ (address, up) ∷ []) before.1
                ∙ (ap (λ t. map told_change (take n settings.changes) ++ t ∷ []) (sym told)
                ∙ (sym (map-append told_change (take n settings.changes) (change ∷ []))
                ∙ (ap (λ c. map told_change (take n settings.changes ++ c ∷ [])) (sym (get_or_from_slice_get settings.changes n change change is))
                ∙ (ap (map told_change) (sym (take_more settings.changes n change within))
                ∙ ap (λ k. map told_change (take k settings.changes)) (sym count))))),
          )

  each-once : (entries : List Entry) → EachFits settings (statics settings) entries → ComeOnce settings (entries ++ statics settings)
  each-once [] fit =
      let none = statics-none [] settings.mappings in
      (omega (arith, none.0), none.1 ∙ ap (λ n. map told_change (take n settings.changes)) (sym none.0))
  each-once (entry ∷ entries) fit = by entry (fits-change settings (entries ++ statics settings) entry fit.0) (each-once entries fit.1)
    where
      by : (e : Entry) → has_change (slice_get settings.changes (changed (entries ++ statics settings))) e ≡ true → ComeOnce settings (entries ++ statics settings) → ComeOnce settings (e ∷ entries ++ statics settings)
      by (Changed moment address up) has before = one-more (entries ++ statics settings) moment address up has before
      by _ has before = before

pub changes-come-once : ChangesComeOnce
changes-come-once settings journal proper = subst (ComeOnce settings) (sym proper.whole) (each-once settings proper.entries proper.fit)
