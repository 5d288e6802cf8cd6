-- Items that are linked, and items made of others that keep numbers and marks: found and linked as those are.
use Rattle.std.proofs.Common.{◌≡◌, ℕ, ◌==◌, ◌&&◌, nat_lt, Bool, true, List, map, Option, None, Some, IfSome, refl, sym, ap, ap₂, subst, ◌∙◌}
use Rattle.std.specs.Option.{option_map}
use Rattle.keyed_list.specs.Keyed.{has_key, is_below, is_key, is_under, link_of, Holds, IsFound, IsLink, IsLinked}
use Rattle.keyed_list.specs.Lists.{last_where}
use Rattle.keyed_list.specs.declared.key.Key.{Key}
use Rattle.keyed_list.specs.declared.key.Mark.{Mark}
use Rattle.keyed_list.specs.declared.keyed.Link.{Link}
use Rattle.keyed_list.specs.declared.keyed.Marks.{Marks}
use Rattle.keyed_list.specs.declared.keyed.Numbered.{Numbered}
use Rattle.keyed_list.proofs.AmongLemmas.{all-among, among-all, among-any, among-map, among-mapped, any-among, Among}
use Rattle.keyed_list.proofs.LastLemmas.{last-among, last-map, last-same}

-- ### items that are linked

module _ {T : Type 0} (marks_of : T → Marks) (key : Key) (items : List (Numbered T)) where
  pub linked-at : IsLinked marks_of key items → (z : Numbered T) → Among z items → is_key marks_of key z.item ≡ true → IsLink marks_of key items z (link_of marks_of key z)
  linked-at linked z among =
      among-all (λ y. is_key marks_of key y.item ≡ true → IsLink marks_of key items y (link_of marks_of key y)) items z linked among

  pub linked-each : ((z : Numbered T) → Among z items → is_key marks_of key z.item ≡ true → IsLink marks_of key items z (link_of marks_of key z)) → IsLinked marks_of key items
  linked-each each =
      all-among (λ y. is_key marks_of key y.item ≡ true → IsLink marks_of key items y (link_of marks_of key y)) items each

-- ### items that are made of others

module _ {T : Type 0} (marks_of : T → Marks) (f : Numbered T → Numbered T) (items : List (Numbered T)) (same_number : (y : Numbered T) → Among y items → (f y).number ≡ y.number) (same_marks : (y : Numbered T) → Among y items → marks_of (f y).item ≡ marks_of y.item) where
  last-mapped : (test : Numbered T → Bool) → ((y : Numbered T) → Among y items → test (f y) ≡ test y) → last_where test (map f items) ≡ option_map f (last_where test items)
  last-mapped test each =
      last-map f test None items ∙ ap (option_map f) (last-same (λ y. test (f y)) test None items each)

  number-mapped : (test : Numbered T → Bool) → option_map (λ y. y.number) (option_map f (last_where test items)) ≡ option_map (λ y. y.number) (last_where test items)
  number-mapped test = by (last_where test items) refl
    where
      by : (o : Option (Numbered T)) → last_where test items ≡ o → option_map (λ y. y.number) (option_map f o) ≡ option_map (λ y. y.number) o
      by None is = refl
      by (Some y) is = ap (λ (n : ℕ). Some n) (same_number y (last-among test items y is))

  module _ (key : Key) where
    has-same : (y : Numbered T) → Among y items → is_key marks_of key (f y).item ≡ is_key marks_of key y.item
    has-same y among = ap (λ (marks : Marks). has_key marks key) (same_marks y among)

    below-same : (bound : ℕ) (y : Numbered T) → Among y items → is_below marks_of key bound (f y) ≡ is_below marks_of key bound y
    below-same bound y among = ap₂ (λ b n. b && nat_lt n bound) (has-same y among) (same_number y among)

    pub found-mapped : (index : List Mark) → IsFound marks_of key items index → IsFound marks_of key (map f items) index
    found-mapped index is =
        is
        ∙ sym (number-mapped (λ y. is_key marks_of key y.item))
        ∙ sym (ap (option_map (λ y. y.number)) (last-mapped (λ y. is_key marks_of key y.item) has-same))

    holds-mapped : (number : ℕ) → Holds marks_of key items number → Holds marks_of key (map f items) number
    holds-mapped number held =
        let one = among-any (λ y. is_key marks_of key y.item && (y.number == number)) items held in
        any-among (λ y. is_key marks_of key y.item && (y.number == number)) (map f items) (f one.item)
        (ap₂ (λ b n. b && (n == number)) (has-same one.item one.among) (same_number one.item one.among) ∙ one.passes) (among-map f items one.item one.among)

    pub next-mapped : (o : Option ℕ) → IfSome o (Holds marks_of key items) → IfSome o (Holds marks_of key (map f items))
    next-mapped None next = tt
    next-mapped (Some number) next = holds-mapped number next

    link-mapped : (z : Numbered T) (link : Link) → Among z items → IsLink marks_of key items z link → IsLink marks_of key (map f items) (f z) link
    link-mapped z link among is = record {
      before =
          is.before
          ∙ sym (number-mapped (is_below marks_of key z.number))
          ∙ sym (ap (option_map (λ y. y.number)) (last-mapped (is_below marks_of key z.number) (below-same z.number)))
          ∙ ap (λ n. option_map (λ y. y.number) (last_where (is_below marks_of key n) (map f items))) (sym (same_number z among));
      behind =
          last-mapped (λ y. is_key marks_of key y.item && is_under link.behind y.number) (λ y among. ap₂ (λ b n. b && is_under link.behind n) (has-same y among) (same_number y among))
          ∙ ap (option_map f) is.behind;
      next = next-mapped link.behind is.next;
    }

    -- links to what was before
    pub linked-mapped : ((z : Numbered T) → Among z items → is_key marks_of key z.item ≡ true → IsLink marks_of key items z (link_of marks_of key (f z))) → IsLinked marks_of key (map f items)
    linked-mapped each =
        linked-each marks_of key (map f items) (λ y among.
        let made = among-mapped f items y among in
        subst (λ (w : Numbered T). is_key marks_of key w.item ≡ true → IsLink marks_of key (map f items) w (link_of marks_of key w)) made.2 (λ has. link-mapped made.0 _ made.1 (each made.0 made.1 (sym (has-same made.0 made.1) ∙ has))))
