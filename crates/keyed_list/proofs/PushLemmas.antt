-- One more item at the end: keys find it, and lead from it to those before, and from these to it.
use Rattle.std.proofs.Common.{◌≡◌, ℕ, ◌<◌, ◌&&◌, Bool, true, false, cond, List, [], ◌∷◌, ◌++◌, map, All, Option, None, Some, IfSome, inl, inr, refl, sym, ap, subst, ◌∙◌, arith}
use Rattle.std.specs.Option.{option_map}
use Rattle.std.proofs.lemmas.Bool.{and_from, and_parts, and_right, both_ways, cases_Bool, le-ltb}
use Rattle.std.proofs.lemmas.Option.{same_Some}
use Rattle.keyed_list.specs.Keyed.{Ascends, is_below, is_key, is_number, is_under, last_of, link_of, number_of, with_behind, Holds, IsFollowed, IsFound, IsLink, IsLinked}
use Rattle.keyed_list.specs.Lists.{last_where}
use Rattle.keyed_list.specs.declared.key.Key.{Key}
use Rattle.keyed_list.specs.declared.key.Mark.{Mark}
use Rattle.keyed_list.specs.declared.keyed.Link.{Link}
use Rattle.keyed_list.specs.declared.keyed.Marks.{Marks}
use Rattle.keyed_list.specs.declared.keyed.Numbered.{Numbered}
use Rattle.keyed_list.proofs.AmongLemmas.{among-all, among-first_last, among-more, Among}
use Rattle.keyed_list.proofs.FitsLemmas.{last-below}
use Rattle.keyed_list.proofs.LastLemmas.{last-among, last-more}
use Rattle.keyed_list.proofs.LinkLemmas.{holder, holds, is-number, none-behind, number-is}
use Rattle.keyed_list.proofs.MapLemmas.{linked-at, linked-mapped}
use Rattle.keyed_list.proofs.NumberLemmas.{same-number}
use Rattle.keyed_list.proofs.RelinkLemmas.{bare-item, bare-number}

module _ {T : Type 0} (marks_of : T → Marks) (key : Key) (items : List (Numbered T)) (x : Numbered T) where
  abbrev more : List (Numbered T)
  more = items ++ x ∷ []

  pub found-push : (index now_index : List Mark) → IsFound marks_of key items index
      → number_of key now_index ≡ cond (is_key marks_of key x.item) (Some x.number) (number_of key index) → IsFound marks_of key more now_index
  found-push index now_index found is =
      is
      ∙ by (is_key marks_of key x.item)
      ∙ sym (ap (option_map (λ y. y.number)) (last-more (λ y. is_key marks_of key y.item) items x))
    where
      by : (b : Bool) → cond b (Some x.number) (number_of key index) ≡ option_map (λ y. y.number) (cond b (Some x) (last_of marks_of key items))
      by true = refl
      by false = found

  module _ (all : All (λ y. y.number < x.number) items) where
    lower : (y : Numbered T) → Among y items → y.number < x.number
    lower y among = among-all (λ z. z.number < x.number) items y all among

    -- the item isn't below one that came before, nor below itself
    below-more : (bound : ℕ) → (x.number < bound → ⊥) → last_where (is_below marks_of key bound) more ≡ last_where (is_below marks_of key bound) items
    below-more bound past =
        last-more (is_below marks_of key bound) items x
        ∙ ap (λ b. cond b (Some x) (last_where (is_below marks_of key bound) items)) (and_right (is_key marks_of key x.item) _ (le-ltb x.number bound (omega (arith, past))))

    below-last : last_where (is_below marks_of key x.number) more ≡ last_of marks_of key items
    below-last =
        below-more x.number (λ above. omega (arith, above)) ∙ sym (last-below marks_of key x.number items all)

    -- an item before keeps its link, where it isn't the last one that has a key of the new item
    module _ (y : Numbered T) (among : Among y items) (has : is_key marks_of key y.item ≡ true) (link : Link) (is : IsLink marks_of key items y link) where
      before-more : link.before ≡ option_map (λ z. z.number) (last_where (is_below marks_of key y.number) more)
      before-more =
          is.before
          ∙ sym (ap (option_map (λ z. z.number)) (below-more y.number (λ above. omega (arith, above, lower y among))))

      link-stays : (is_key marks_of key x.item && is_number (option_map (λ z. z.number) (last_of marks_of key items)) y.number) ≡ false → IsLink marks_of key more y link
      link-stays apart = record { before = before-more; behind = behind link.behind refl; next = next link.behind is.next }
        where
          next : (o : Option ℕ) → IfSome o (Holds marks_of key items) → IfSome o (Holds marks_of key more)
          next None held = tt
          next (Some m) held =
              let one = holder marks_of key items m held in
              holds marks_of key more one.item m (among-more items x one.item one.among) one.has one.same

          behind : (o : Option ℕ) → link.behind ≡ o → last_where (λ z. is_key marks_of key z.item && is_under o z.number) more ≡ Some y
          behind None none =
              let last = none-behind marks_of key items y link is none in
              let lacks : is_key marks_of key x.item ≡ false = elim (cases_Bool (is_key marks_of key x.item)) [
                | inl has ↦ absurd (both_ways _ apart (and_from _ _ has (is-number _ y.number (ap (option_map (λ z. z.number)) last))))
                | inr lacks ↦ lacks
              ] in
              last-more (λ z. is_key marks_of key z.item && true) items x
              ∙ ap (λ b. cond (b && true) (Some x) (last_where (λ z. is_key marks_of key z.item && true) items)) lacks
              ∙ subst (λ (o : Option ℕ). last_where (λ z. is_key marks_of key z.item && is_under o z.number) items ≡ Some y) none is.behind
          behind (Some m) some =
              let one = holder marks_of key items m (subst (λ (o : Option ℕ). IfSome o (Holds marks_of key items)) some is.next) in
              below-more m (λ above. omega (arith, above, one.same, lower one.item one.among))
              ∙ subst (λ (o : Option ℕ). last_where (λ z. is_key marks_of key z.item && is_under o z.number) items ≡ Some y) some is.behind

      -- the last one is linked to the new item
      link-last : (is_key marks_of key x.item && is_number (option_map (λ z. z.number) (last_of marks_of key items)) y.number) ≡ true → Ascends items → IsLink marks_of key more y (with_behind (Some x.number) link)
      link-last both ascends =
          let parts = and_parts (is_key marks_of key x.item) _ both in
          record {
            before = before-more;
            behind = below-last ∙ by (last_of marks_of key items) refl (number-is _ y.number parts.1);
            next = holds marks_of key more x x.number (among-end items) parts.0 refl;
          }
        where
          among-end : (some : List (Numbered T)) → Among x (some ++ x ∷ [])
          among-end [] = inl refl
          among-end (z ∷ some) = inr (among-end some)

          by : (o : Option (Numbered T)) → last_of marks_of key items ≡ o → option_map (λ z. z.number) o ≡ Some y.number → o ≡ Some y
          by None none same = absurd (cc same)
          by (Some z) some same =
              ap (λ (w : Numbered T). Some w) (same-number items z y ascends (last-among (λ z. is_key marks_of key z.item) items z some) among (same_Some z.number y.number same))

    -- the new item is linked to the last one
    link-end : is_key marks_of key x.item ≡ true → (link : Link) → link ≡ record { before = option_map (λ y. y.number) (last_of marks_of key items); behind = None } → IsLink marks_of key more x link
    link-end has link is = subst (λ (l : Link). IsLink marks_of key more x l) (sym is) (record {
      before = ap (option_map (λ y. y.number)) (sym below-last);
      behind =
          last-more (λ z. is_key marks_of key z.item && true) items x
          ∙ ap (λ b. cond (b && true) (Some x) (last_where (λ z. is_key marks_of key z.item && true) items)) has;
      next = tt;
    })

    module _ (ascends : Ascends items) (linked : IsLinked marks_of key items) (new : List (Numbered T)) (followed : IsFollowed marks_of (marks_of x.item) x.number items new) where
      abbrev change : Numbered T → Numbered T
      change = followed.change

      pub linked-push : (is_key marks_of key x.item ≡ true → link_of marks_of key x ≡ record { before = option_map (λ y. y.number) (last_of marks_of key items); behind = None }) → IsLinked marks_of key (map change more)
      linked-push link =
          linked-mapped marks_of change more (λ y among. bare-number change followed.same y) (λ y among. ap marks_of (bare-item change followed.same y)) key (λ y among has.
          elim (among-first_last items x y among) [
            | inl first ↦
                let is = linked-at marks_of key items linked y first has in
                subst (λ (l : Link). IsLink marks_of key more y l) (sym (followed.links key y has)) (by y first has (link_of marks_of key y) is (is_key marks_of key x.item && is_number (option_map (λ z. z.number) (last_of marks_of key items)) y.number) refl)
            | inr last ↦
                subst (λ (z : Numbered T). IsLink marks_of key more z (link_of marks_of key (change z))) last
                (subst (λ (z : Numbered T). IsLink marks_of key more x (link_of marks_of key z)) (sym (followed.stays x all))
                (let held = ap (λ (z : Numbered T). is_key marks_of key z.item) last ∙ has in link-end held (link_of marks_of key x) (link held)))
          ])
        where
          by : (y : Numbered T) → Among y items → is_key marks_of key y.item ≡ true → (l : Link) → IsLink marks_of key items y l → (b : Bool)
              → (is_key marks_of key x.item && is_number (option_map (λ z. z.number) (last_of marks_of key items)) y.number) ≡ b
              → IsLink marks_of key more y (cond b (with_behind (Some x.number) l) l)
          by y among has l is true both = link-last y among has l is both ascends
          by y among has l is false apart = link-stays y among has l is apart
