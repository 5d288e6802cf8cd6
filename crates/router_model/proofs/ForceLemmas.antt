-- The live mappings of a view: that of an EID, and the longest that covers.
use Rattle.std.proofs.Common.{◌≡◌, ◌||◌, not, Bool, true, false, cond, List, [], ◌∷◌, Option, Some, None, option_map, filter_map, find, is_lt, refl, sym, ap, ◌∙◌}
use Rattle.std.specs.List.{cons_option, list_any}
use Rattle.std.proofs.lemmas.Option.{same_Some}
use Rattle.mapping_records.specs.declared.eid.Eid.{Eid}
use Rattle.mapping_records.specs.Orders.{eid_order, put_in_order}
use Rattle.router_log.specs.declared.entry.Entry.{Entry}
use Rattle.router_log.specs.declared.entry.Entry.TheVariants.{Learned}
use Rattle.mapping_records.specs.Eids.{same_eid}
use Rattle.router_model.specs.Journal.{Journal}
use Rattle.locator_state.specs.Lists.{only_if}
use Rattle.router_model.specs.Lifting.{LiveIsExact}
use Rattle.router_model.specs.Mappings.{Held, Learning, eids, held, is_live, last_learned, live}
use Rattle.router_model.proofs.EidLemmas.{same_eid-is}
use Rattle.router_model.proofs.KeyLemmas.{others}
use Rattle.router_model.proofs.MappingLemmas.{live-has, map-filter_map}

-- ### that of an EID

module _ (f : Eid → Option Held) (has : (k : Eid) (x : Held) → f k ≡ Some x → x.eid ≡ k) (n : Eid) where
  find-under : (ks : List Eid) → find (λ (x : Held). same_eid x.eid n) (filter_map f ks) ≡ cond (list_any (λ k. same_eid k n) ks) (f n) None
  find-under [] = refl
  find-under (k ∷ ks) = by (f k) refl (same_eid k n) refl (find-under ks)
    where
      none : (b : Bool) (o : Option Held) → o ≡ None → cond b o None ≡ None
      none true o is = is
      none false o is = refl

      by : (o : Option Held) → f k ≡ o → (b : Bool) → same_eid k n ≡ b → find (λ (x : Held). same_eid x.eid n) (filter_map f ks) ≡ cond (list_any (λ k. same_eid k n) ks) (f n) None → find (λ (x : Held). same_eid x.eid n) (cons_option o (filter_map f ks)) ≡ cond (b || list_any (λ k. same_eid k n) ks) (f n) None
      by None is true same h = let here : f n ≡ None = ap f (sym (same_eid-is k n same)) ∙ is in h ∙ none (list_any (λ k. same_eid k n) ks) (f n) here ∙ sym here
      by None is false same h = h
      by (Some x) is true same h = ap (λ b. cond b (Some x) (find (λ (x : Held). same_eid x.eid n) (filter_map f ks))) (ap (λ e. same_eid e n) (has k x is) ∙ same) ∙ sym is ∙ ap f (same_eid-is k n same)
      by (Some x) is false same h = ap (λ b. cond b (Some x) (find (λ (x : Held). same_eid x.eid n) (filter_map f ks))) (ap (λ e. same_eid e n) (has k x is) ∙ same) ∙ h

any-put : (p : Eid → Bool) (k : Eid) (ks : List Eid) → list_any p (put_in_order (λ n. n) eid_order k ks) ≡ (p k || list_any p ks)
any-put p k [] = refl
any-put p k (n ∷ ks) = by (is_lt (eid_order k n)) (any-put p k ks)
  where
    swap : (a b c : Bool) → (a || (b || c)) ≡ (b || (a || c))
    swap true true c = refl
    swap true false c = refl
    swap false b c = refl

    by : (b : Bool) → list_any p (put_in_order (λ n. n) eid_order k ks) ≡ (p k || list_any p ks) → list_any p (cond b (k ∷ n ∷ ks) (n ∷ put_in_order (λ n. n) eid_order k ks)) ≡ (p k || (p n || list_any p ks))
    by true h = refl
    by false h = ap (λ b. p n || b) h ∙ swap (p n) (p k) (list_any p ks)

any-others : (n k : Eid) (ks : List Eid) → same_eid k n ≡ false → list_any (λ e. same_eid e n) (others same_eid k ks) ≡ list_any (λ e. same_eid e n) ks
any-others n k [] apart = refl
any-others n k (e ∷ ks) apart = by (same_eid e k) refl (any-others n k ks apart)
  where
    by : (b : Bool) → same_eid e k ≡ b → list_any (λ e. same_eid e n) (others same_eid k ks) ≡ list_any (λ e. same_eid e n) ks → list_any (λ e. same_eid e n) (cond (not b) (e ∷ others same_eid k ks) (others same_eid k ks)) ≡ (same_eid e n || list_any (λ e. same_eid e n) ks)
    by true is h = rw (same_eid-is e k is, apart) h
    by false is h = ap (λ b. same_eid e n || b) h

-- an EID for which something was learned is among them
learned-listed : (n : Eid) (journal : Journal) (l : Learning) → last_learned n journal ≡ Some l → list_any (λ k. same_eid k n) (eids journal) ≡ true
learned-listed n [] l is = cc
learned-listed n (entry ∷ older) l is = by entry is (learned-listed n older l)
  where
    by : (entry : Entry) → last_learned n (entry ∷ older) ≡ Some l → (last_learned n older ≡ Some l → list_any (λ k. same_eid k n) (eids older) ≡ true) → list_any (λ k. same_eid k n) (eids (entry ∷ older)) ≡ true
    by (Learned moment mapping fixed) is h = any-put (λ k. same_eid k n) mapping.eid (others same_eid mapping.eid (eids older)) ∙ one (same_eid mapping.eid n) refl is
      where
        one : (b : Bool) → same_eid mapping.eid n ≡ b → cond b (Some (record { moment = moment; mapping = mapping; fixed = fixed })) (last_learned n older) ≡ Some l → (b || list_any (λ k. same_eid k n) (others same_eid mapping.eid (eids older))) ≡ true
        one true same is = refl
        one false apart is = any-others n mapping.eid (eids older) apart ∙ h is
    by _ is h = h is

pub live-exact : LiveIsExact
live-exact t journal n =
    ap (find (λ (x : Held). same_eid x.eid n)) (sym (map-filter_map t (held journal) (λ k. live t k journal) (eids journal)))
    ∙ find-under (λ k. option_map (held journal) (live t k journal)) has n (eids journal)
    ∙ listed (last_learned n journal) refl (list_any (λ k. same_eid k n) (eids journal)) refl
  where
    has : (k : Eid) (x : Held) → option_map (held journal) (live t k journal) ≡ Some x → x.eid ≡ k
    has k x is = by (live t k journal) refl is
      where
        by : (o : Option Learning) → live t k journal ≡ o → option_map (held journal) o ≡ Some x → x.eid ≡ k
        by None found is = cc
        by (Some l) found is = sym (ap (λ (y : Held). y.eid) (same_Some _ x is)) ∙ live-has t k journal l found

    listed : (o : Option Learning) → last_learned n journal ≡ o → (b : Bool) → list_any (λ k. same_eid k n) (eids journal) ≡ b → cond b (option_map (held journal) (only_if (is_live t) o)) None ≡ option_map (held journal) (only_if (is_live t) o)
    listed o found true any = refl
    listed None found false any = refl
    listed (Some l) found false any = cc (learned-listed n journal l found)
