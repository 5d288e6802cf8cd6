-- The next item that has a key, found by a link.
use Rattle.std.proofs.Common.{◌≡◌, ℕ, ◌<◌, true, List, length, slice_get, Some, IfSome, inl, inr, ap, ◌∙◌, sym, arith}
use Rattle.std.proofs.lemmas.Bool.{cases_order}
use Rattle.std.proofs.lemmas.Option.{same_Some, slice_get_within}
use Rattle.keyed_list.specs.Keyed.{Ascends, is_below, is_key, is_under, IsLink, IsPlace}
use Rattle.keyed_list.specs.declared.key.Key.{Key}
use Rattle.keyed_list.specs.declared.keyed.Link.{Link}
use Rattle.keyed_list.specs.declared.keyed.Marks.{Marks}
use Rattle.keyed_list.specs.declared.keyed.Numbered.{Numbered}
use Rattle.keyed_list.proofs.FitsLemmas.{below-number}
use Rattle.keyed_list.proofs.LastLemmas.{last-passes}
use Rattle.keyed_list.proofs.LinkLemmas.{held, IsHolder}
use Rattle.keyed_list.proofs.PlaceLemmas.{at-place}
use Rattle.keyed_list.proofs.SetLemmas.{ascend-at}
use Rattle.keyed_list.proofs.WalkLemmas.{holds-of}
use Rattle.std.proofs.Common.{◌&&◌, Option, subst}
use Rattle.keyed_list.specs.Lists.{last_where}

module _ {T : Type 0} (marks_of : T → Marks) (key : Key) (items : List (Numbered T)) (ascends : Ascends items) (place : ℕ) (x : Numbered T) (at : slice_get items place ≡ Some x) (link : Link) (is : IsLink marks_of key items x link) (number : ℕ) (some : link.behind ≡ Some number) (next : ℕ) (to : IsPlace number items next) where
  one : IsHolder marks_of key items number
  one = held marks_of key items link.behind is.next number some

  there : slice_get items next ≡ Some one.item
  there = at-place number items next one.item ascends to one.among one.same

  less : x.number < number
  less =
      below-number marks_of key number x (last-passes (is_below marks_of key number) items x (subst (λ (o : Option ℕ). last_where (λ y. is_key marks_of key y.item && is_under o y.number) items ≡ Some x) some is.behind))

  pub next-further : place < next
  next-further = elim (cases_order place next) [
    | inl same ↦
        let one_x : x ≡ one.item = same_Some x one.item (sym at ∙ ap (slice_get items) same ∙ there) in
        absurd (omega (arith, less, one.same, ap (λ (y : Numbered T). y.number) one_x))
    | inr apart ↦ elim apart [
      | inl further ↦ further
      | inr back ↦ absurd (omega (arith, less, one.same, ascend-at items next place one.item x ascends back there at))
    ]
  ]

  pub next-within : next < length items
  next-within = slice_get_within items next one.item there

  pub next-has : IfSome (slice_get items next) (λ y. is_key marks_of key y.item ≡ true)
  next-has = holds-of marks_of key items (λ y. is_key marks_of key y.item ≡ true) next one.item there one.has
