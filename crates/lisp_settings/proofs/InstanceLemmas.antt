-- The limits of instances: where they stand, and which of them a router has.
use Rattle.std.proofs.Common.{◌≡◌, ◌≢◌, ℕ, suc, zero, ◌+◌, ◌-◌, ◌/◌, ◌<◌, ◌≤◌, ◌||◌, Bool, true, false, List, [], ◌∷◌, length, map, fold, Some, None, slice_get, HoldsAt, Err, Ordering, Less, Equal, Greater, cond, refl, sym, ap, subst, ◌∙◌, arith, inl, inr, eq-eqb, eqb-true, ne_eqb, leb-true, nat_cmp, nat_le, unwrap_or, min}
use Rattle.std.proofs.lemmas.Bool.{and_parts, cases_Bool, cases_lt}
use Rattle.std.proofs.lemmas.Bool.Decides.{nat_tests}
use Rattle.std.proofs.lemmas.Cmp.{nat_cmp_total, ranked}
use Rattle.std.proofs.lemmas.List.{length-map}
use Rattle.std.proofs.lemmas.List.Sorted.{IsNonDecreasingBy-from_default}
use Rattle.std.specs.BTreeMap.{insert_entry}
use Rattle.std.specs.Bool.{◌==◌}
use Rattle.std.specs.List.{AllByRecursion, list_any}
use Rattle.std.specs.List.Sorted.{IsBinarySearchResult, IsNonDecreasingBy, IsStrictlySortedBy}
use Rattle.std.specs.Map.{values_of}
use Rattle.std.specs.Option.{option_map_or}
use Rattle.std.specs.Ordering.{match_ordering, ordering_index}
use Rattle.std.specs.Prelude.{slice_index_or}
use Rattle.lisp_settings.specs.Instances.{AreLimits, all_mappings, all_requests, instances, is_attached, limit, limit_of, limits_in, mappings_in, requests_in, share, stated, unstated}
use Rattle.lisp_settings.specs.Lawful.{IsLawful}
use Rattle.lisp_settings.specs.Limits.{most_mappings, most_open, most_requests}
use Rattle.lisp_settings.specs.Lists.{ascending}
use Rattle.lisp_settings.specs.declared.settings.Attachment.{Attachment}
use Rattle.lisp_settings.specs.declared.settings.LimitItem.{LimitItem}
use Rattle.lisp_settings.specs.declared.settings.Settings.{Settings}
use Rattle.lisp_settings.proofs.AscendingLemmas.{AreTied, ascending-few, ascending-sorted, entered, entered-tied}
use Rattle.lisp_settings.proofs.SumLemmas.{given_within}

-- ### where a limit stands

abbrev nothing : LimitItem
nothing = record { iid = 0; mappings = 0; requests = 0 }

abbrev iid_at : List LimitItem → ℕ → ℕ
iid_at limits i = let limit = slice_index_or limits i nothing in limit.iid

-- each instance is below those after it
abbrev Ascends : List LimitItem → Type 0
Ascends limits = IsStrictlySortedBy nat_cmp (map (λ limit. limit.iid) limits)

iid_at-above : (iid : ℕ) (limits : List LimitItem) (i : ℕ) → AllByRecursion (λ other. nat_cmp iid other ≡ Less) (map (λ limit. limit.iid) limits) → i < length limits → iid < iid_at limits i
iid_at-above iid [] i above within = absurd (omega (arith, within))
iid_at-above iid (limit ∷ others) zero above within = ranked iid limit.iid _ (sym above.0)
iid_at-above iid (limit ∷ others) (suc i) above within = iid_at-above iid others i above.1 (omega (arith, within))

iid_at-rises : (limits : List LimitItem) (i j : ℕ) → Ascends limits → i < j → j < length limits → iid_at limits i < iid_at limits j
unfolding IsStrictlySortedBy
iid_at-rises [] i j ascends before within = absurd (omega (arith, within))
iid_at-rises (limit ∷ others) i zero ascends before within = absurd (omega (arith, before))
iid_at-rises (limit ∷ others) zero (suc j) ascends before within = iid_at-above limit.iid others j ascends.0 (omega (arith, within))
iid_at-rises (limit ∷ others) (suc i) (suc j) ascends before within = iid_at-rises others i j ascends.1 (omega (arith, before)) (omega (arith, within))

-- the limit of the instance is the first one, since no two have it
stated-at : (limits : List LimitItem) (i iid : ℕ) → Ascends limits → i < length limits → iid_at limits i ≡ iid → slice_get limits i ≡ stated limits iid
unfolding IsStrictlySortedBy
stated-at [] i iid ascends within is = absurd (omega (arith, within))
stated-at (limit ∷ others) zero iid ascends within is = rw (eq-eqb limit.iid iid is) refl
stated-at (limit ∷ others) (suc i) iid ascends within is =
    let above : limit.iid < iid_at others i = iid_at-above limit.iid others i ascends.0 (omega (arith, within)) in
    rw (ne_eqb limit.iid iid (λ same. omega (arith, above, is, same))) (stated-at others i iid ascends.1 (omega (arith, within)) is)

-- no limit is the instance's
stated-none : (limits : List LimitItem) (iid : ℕ) → ((i : ℕ) → i < length limits → iid_at limits i ≢ iid) → None ≡ stated limits iid
stated-none [] iid others = refl
stated-none (limit ∷ others) iid none =
    rw (ne_eqb limit.iid iid (none 0 (omega arith))) (stated-none others iid (λ i within. none (suc i) (omega (arith, within))))

module _ (limits : List LimitItem) (ascends : Ascends limits) (iid : ℕ) where
  abbrev comparison : LimitItem → Ordering
  comparison limit = nat_cmp limit.iid iid

  comparisons_rise : IsNonDecreasingBy (λ limit. ordering_index (comparison limit)) limits
  comparisons_rise = IsNonDecreasingBy-from_default (λ limit. ordering_index (comparison limit)) limits nothing (λ i j le within.
      let rises : iid_at limits i ≤ iid_at limits j = grind (arith, λ (before : i < j). iid_at-rises limits i j ascends before within, λ (same : i ≡ j). ap (iid_at limits) same) in
      grind (arith, nat_tests))

  -- what a search by instance finds
  pub stated-found : (i : ℕ) → i < length limits → HoldsAt (λ limit. comparison limit ≡ Equal) limits i → slice_get limits i ≡ stated limits iid
  stated-found i within equal = stated-at limits i iid ascends within (ranked _ iid _ (sym (equal nothing)))

  -- where it finds a gap
  pub stated-absent : (gap : ℕ) → IsBinarySearchResult comparison limits (Err gap) → None ≡ stated limits iid
  stated-absent gap parted = stated-none limits iid (λ i within same.
      let parts = parted comparisons_rise in
      elim (cases_lt i gap) [
        | inl before ↦ omega (arith, same, ranked _ iid _ (sym (parts.0 i nothing (omega arith) before)))
        | inr after ↦ omega (arith, same, ranked _ iid _ (sym (parts.1 i nothing after within)))
      ])

-- ### the attached instances

abbrev pub iid_of : Attachment → ℕ
iid_of attachment = attachment.iid

-- entries with the instance in place of the attachment
abbrev pub named : List (ℕ × Attachment) → List (ℕ × ℕ)
named entries = map (λ e. (e.0, e.1.iid)) entries

values-named : (entries : List (ℕ × Attachment)) → values_of (named entries) ≡ map iid_of (values_of entries)
values-named [] = refl
values-named (e ∷ es) = ap (λ iids. e.1.iid ∷ iids) (values-named es)

pub named-entered : (entries : List (ℕ × Attachment)) (next : Attachment) → insert_entry nat_cmp (named entries) next.iid next.iid ≡ named (entered iid_of nat_cmp entries next)
named-entered [] next = refl
named-entered (e ∷ es) next = by (nat_cmp next.iid e.0) (named-entered es next)
  where
    by : (r : Ordering) → insert_entry nat_cmp (named es) next.iid next.iid ≡ named (entered iid_of nat_cmp es next) → match_ordering r ((next.iid, next.iid) ∷ named (e ∷ es)) ((e.0, next.iid) ∷ named es) ((e.0, e.1.iid) ∷ insert_entry nat_cmp (named es) next.iid next.iid) ≡ named (match_ordering r ((next.iid, next) ∷ e ∷ es) ((e.0, next) ∷ es) (e ∷ entered iid_of nat_cmp es next))
    by Less rest = refl
    by Equal rest = refl
    by Greater rest = ap (λ entries. (e.0, e.1.iid) ∷ entries) rest

pub values-entered : (attachments : List Attachment) (entries : List (ℕ × ℕ)) → entries ≡ named (fold (entered iid_of nat_cmp) [] attachments) → values_of entries ≡ instances attachments
values-entered attachments entries are = ap values_of are ∙ values-named (fold (entered iid_of nat_cmp) [] attachments)

or_again : (a b : Bool) → (a || b) ≡ (a || (a || b))
or_again true b = refl
or_again false b = refl

or_swapped : (a b c : Bool) → (a || (b || c)) ≡ (b || (a || c))
or_swapped true true c = refl
or_swapped true false c = refl
or_swapped false b c = refl

-- an attachment more attaches one instance more
attached-entered : (iid : ℕ) (entries : List (ℕ × Attachment)) (next : Attachment) → AreTied iid_of nat_cmp nat_cmp_total entries → is_attached (values_of (entered iid_of nat_cmp entries next)) iid ≡ ((next.iid == iid) || is_attached (values_of entries) iid)
attached-entered iid [] next tied = refl
attached-entered iid (e ∷ es) next tied = by (nat_cmp next.iid e.0) refl (attached-entered iid es next tied.1)
  where
    by : (r : Ordering) → nat_cmp next.iid e.0 ≡ r → is_attached (values_of (entered iid_of nat_cmp es next)) iid ≡ ((next.iid == iid) || is_attached (values_of es) iid) → is_attached (values_of (match_ordering r ((next.iid, next) ∷ e ∷ es) ((e.0, next) ∷ es) (e ∷ entered iid_of nat_cmp es next))) iid ≡ ((next.iid == iid) || ((e.1.iid == iid) || is_attached (values_of es) iid))
    by Less less rest = refl
    by Equal same rest =
        let key : next.iid ≡ e.0 = ranked next.iid e.0 _ (sym same) in
        let kept : e.0 ≡ e.1.iid = ranked e.0 e.1.iid _ (sym tied.0) in
        subst (λ n. ((next.iid == iid) || is_attached (values_of es) iid) ≡ ((next.iid == iid) || ((n == iid) || is_attached (values_of es) iid))) (key ∙ kept) (or_again (next.iid == iid) (is_attached (values_of es) iid))
    by Greater greater rest = ap (λ (b : Bool). (e.1.iid == iid) || b) rest ∙ or_swapped (e.1.iid == iid) (next.iid == iid) (is_attached (values_of es) iid)

attached-all : (iid : ℕ) (entries : List (ℕ × Attachment)) (attachments : List Attachment) → AreTied iid_of nat_cmp nat_cmp_total entries → is_attached (values_of (fold (entered iid_of nat_cmp) entries attachments)) iid ≡ (is_attached (values_of entries) iid || is_attached attachments iid)
attached-all iid entries [] tied = or_none (is_attached (values_of entries) iid)
  where
    or_none : (b : Bool) → b ≡ (b || false)
    or_none true = refl
    or_none false = refl
attached-all iid entries (next ∷ more) tied =
    attached-all iid (entered iid_of nat_cmp entries next) more (entered-tied iid_of nat_cmp nat_cmp_total entries next tied)
    ∙ ap (λ (b : Bool). b || is_attached more iid) (attached-entered iid entries next tied)
    ∙ or_moved (next.iid == iid) (is_attached (values_of entries) iid) (is_attached more iid)
  where
    or_moved : (a b c : Bool) → ((a || b) || c) ≡ (b || (a || c))
    or_moved true true c = refl
    or_moved true false c = refl
    or_moved false b c = refl

any-named : (iid : ℕ) (attachments : List Attachment) → list_any (λ n. n == iid) (map iid_of attachments) ≡ is_attached attachments iid
any-named iid [] = refl
any-named iid (attachment ∷ others) = ap (λ (b : Bool). (attachment.iid == iid) || b) (any-named iid others)

-- these are the attached ones
instances-attached : (attachments : List Attachment) (iid : ℕ) → list_any (λ n. n == iid) (instances attachments) ≡ is_attached attachments iid
instances-attached attachments iid = any-named iid (ascending iid_of nat_cmp attachments) ∙ attached-all iid [] attachments tt

instances-sorted : (attachments : List Attachment) → IsStrictlySortedBy nat_cmp (instances attachments)
instances-sorted attachments = ascending-sorted iid_of nat_cmp nat_cmp_total attachments

-- there are no more than attachments
pub instances-few : (attachments : List Attachment) → length (instances attachments) ≤ length attachments
instances-few attachments = omega (arith, length-map (ascending iid_of nat_cmp attachments) iid_of, ascending-few iid_of nat_cmp attachments)

-- ### the limits of a router

stated-iid : (limits : List LimitItem) (iid : ℕ) (given : LimitItem) → given.iid ≡ iid → (unwrap_or (stated limits iid) given).iid ≡ iid
stated-iid [] iid given is = is
stated-iid (limit ∷ others) iid given is =
    elim (cases_Bool (limit.iid == iid)) [
      | inl this ↦ rw this (eqb-true limit.iid iid this)
      | inr another ↦ rw another (stated-iid others iid given is)
    ]

limit_of-iid : (settings : Settings) (iid : ℕ) → (limit_of settings iid).iid ≡ iid
limit_of-iid settings iid = stated-iid settings.limits iid (share settings (unstated settings) iid) refl

module _ (given : ℕ → LimitItem) (of : (iid : ℕ) → (given iid).iid ≡ iid) where
  iids-given : (iids : List ℕ) → map (λ limit. limit.iid) (map given iids) ≡ iids
  iids-given [] = refl
  iids-given (iid ∷ more) = λ i. of iid i ∷ iids-given more i

  stated-given : (iids : List ℕ) (iid : ℕ) → stated (map given iids) iid ≡ cond (list_any (λ n. n == iid) iids) (Some (given iid)) None
  stated-given [] iid = refl
  stated-given (n ∷ more) iid =
      elim (cases_Bool (n == iid)) [
        | inl this ↦
            let first : ((given n).iid == iid) ≡ true = ap (λ m. m == iid) (of n) ∙ this in
            rw (first, this) (ap (λ m. Some (given m)) (eqb-true n iid this))
        | inr another ↦
            let first : ((given n).iid == iid) ≡ false = ap (λ m. m == iid) (of n) ∙ another in
            rw (first, another) (stated-given more iid)
      ]

chosen_part : (part : LimitItem → ℕ) (attached : Bool) (some none : LimitItem) → part none ≡ 0 → option_map_or part (cond attached (Some some) None) 0 ≡ part (cond attached some none)
chosen_part part true some none nil = refl
chosen_part part false some none nil = sym nil

part-limit : (part : LimitItem → ℕ) (settings : Settings) (iid : ℕ) → part (record { iid = iid; mappings = 0; requests = 0 }) ≡ 0 → option_map_or part (stated (limits_in settings) iid) 0 ≡ part (limit settings iid)
part-limit part settings iid none =
    ap (λ found. option_map_or part found 0) (stated-given (limit_of settings) (limit_of-iid settings) (instances settings.attachments) iid ∙ ap (λ (b : Bool). cond b (Some (limit_of settings iid)) None) (instances-attached settings.attachments iid))
    ∙ chosen_part part (is_attached settings.attachments iid) (limit_of settings iid) (record { iid = iid; mappings = 0; requests = 0 }) none

-- what an instance may learn and ask, of the list and of the settings
pub mappings_in-limits : (settings : Settings) (iid : ℕ) → mappings_in (limits_in settings) iid ≡ (limit settings iid).mappings
mappings_in-limits settings iid = part-limit (λ limit. limit.mappings) settings iid refl

pub requests_in-limits : (settings : Settings) (iid : ℕ) → requests_in (limits_in settings) iid ≡ (limit settings iid).requests
requests_in-limits settings iid = part-limit (λ limit. limit.requests) settings iid refl

-- limits by what is stated and what is left are the settings' own
pub given_limits : (settings : Settings) (limits : List LimitItem) (mappings requests count : ℕ) (iids : List ℕ) → limits ≡ settings.limits → mappings ≡ most_mappings - (length settings.mappings + all_mappings settings.limits) → requests ≡ most_open - all_requests settings.limits → count ≡ unstated settings → iids ≡ instances settings.attachments → map (λ iid. unwrap_or (stated limits iid) (record { iid = iid; mappings = mappings / count; requests = min most_requests (requests / count) })) iids ≡ limits_in settings
given_limits settings limits mappings requests count iids are m r u attached = λ i.
    map (λ iid. unwrap_or (stated (are i) iid) (record { iid = iid; mappings = m i / u i; requests = min most_requests (r i / u i) })) (attached i)

module _ (settings : Settings) (lawful : IsLawful settings) where
  -- the stated limits fit beside the static mappings
  stated_fit : (length settings.mappings + all_mappings settings.limits ≤ most_mappings) × (all_requests settings.limits ≤ most_open)
  stated_fit =
      let (mappings, requests) = and_parts (nat_le (length settings.mappings + all_mappings settings.limits) most_mappings) (nat_le (all_requests settings.limits) most_open) lawful.within in
      (leb-true (length settings.mappings + all_mappings settings.limits) most_mappings mappings, leb-true (all_requests settings.limits) most_open requests)

  -- and so do all
  pub limits_in-room : length settings.mappings + all_mappings (limits_in settings) ≤ most_mappings
  limits_in-room =
      let left = most_mappings - (length settings.mappings + all_mappings settings.limits) in
      omega (arith, stated_fit.0, given_within (λ limit. limit.mappings) settings.limits (share settings (unstated settings)) (left / unstated settings) left (λ iid. refl) (instances settings.attachments) (instances-sorted settings.attachments) (omega arith))

  limits_in-open : all_requests (limits_in settings) ≤ most_open
  limits_in-open =
      let left = most_open - all_requests settings.limits in
      omega (arith, stated_fit.1, given_within (λ limit. limit.requests) settings.limits (share settings (unstated settings)) (min most_requests (left / unstated settings)) left (λ iid. refl) (instances settings.attachments) (instances-sorted settings.attachments) (omega arith))

  -- a router can have them
  pub limits_in-limits : AreLimits (limits_in settings)
  limits_in-limits = record {
    few = omega (arith, length-map (instances settings.attachments) (limit_of settings), instances-few settings.attachments, lawful.few_attachments);
    instances = subst (IsStrictlySortedBy nat_cmp) (sym (iids-given (limit_of settings) (limit_of-iid settings) (instances settings.attachments))) (instances-sorted settings.attachments);
    mappings = omega (arith, limits_in-room);
    requests = limits_in-open;
  }
