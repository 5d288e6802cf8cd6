-- Items in ascending order of their keys.
use Rattle.std.proofs.Common.{◌≡◌, Bool, true, false, cond, List, [], ◌∷◌, Option, Some, None, filter, filter_map, Ordering, Less, Equal, Greater, is_lt, is_eq, refl, sym, ap, ap₂, subst, ◌∙◌}
use Rattle.std.specs.List.{cons_option}
use Rattle.std.specs.Cmp.{IsTotalOrder}
use Rattle.std.specs.Ordering.{ordering_reverse, eq_by_cmp}
use Rattle.std.proofs.lemmas.Cmp.{tied_back}
use Rattle.router_model.proofs.KeyLemmas.{dropped-apart, dropped-is, drop_key}
use Rattle.router_model.specs.Kept.{Kind, placed, counting}
use Rattle.mapping_records.specs.Orders.{put_in_order}

module _ {I K : Type 0} (key : I → K) (order : K → K → Ordering) (total : IsTotalOrder order) where
  -- the key is below those of all items
  abbrev pub Above : K → List I → Type 0
  Above k [] = Unit {0}
  Above k (i ∷ items) = (order k (key i) ≡ Less) × Above k items

  abbrev pub IsAscending : List I → Type 0
  IsAscending [] = Unit {0}
  IsAscending (i ∷ items) = Above (key i) items × IsAscending items

  -- no item has that key
  abbrev pub Absent : K → List I → Type 0
  Absent k [] = Unit {0}
  Absent k (i ∷ items) = (eq_by_cmp order (key i) k ≡ false) × Absent k items

  pub Above-lower : (j k : K) (items : List I) → order j k ≡ Less → Above k items → Above j items
  Above-lower j k [] less above = tt
  Above-lower j k (i ∷ items) less above = (total.trans j k (key i) less above.0, Above-lower j k items less above.1)

  pub Above-filter : (test : I → Bool) (k : K) (items : List I) → Above k items → Above k (filter test items)
  Above-filter test k [] above = tt
  Above-filter test k (i ∷ items) above = by (test i) (Above-filter test k items above.1)
    where
      by : (b : Bool) → Above k (filter test items) → Above k (cond b (i ∷ filter test items) (filter test items))
      by true h = (above.0, h)
      by false h = h

  pub put-front : (x : I) (items : List I) → Above (key x) items → put_in_order key order x items ≡ x ∷ items
  put-front x [] above = refl
  put-front x (i ∷ items) above = rw above.0 refl

  -- an item is put at its place whether or not others are gone
  filter-put_in_order : (test : I → Bool) (x : I) (items : List I) → IsAscending items → filter test (put_in_order key order x items) ≡ cond (test x) (put_in_order key order x (filter test items)) (filter test items)
  filter-put_in_order test x [] ascending = refl
  filter-put_in_order test x (i ∷ items) ascending = by (order (key x) (key i)) refl (filter-put_in_order test x items ascending.1)
    where
      behind : (b c : Bool) → test i ≡ b → test x ≡ c → is_lt (order (key x) (key i)) ≡ false → filter test (put_in_order key order x items) ≡ cond c (put_in_order key order x (filter test items)) (filter test items) → cond b (i ∷ filter test (put_in_order key order x items)) (filter test (put_in_order key order x items)) ≡ cond c (put_in_order key order x (cond b (i ∷ filter test items) (filter test items))) (cond b (i ∷ filter test items) (filter test items))
      behind true true b c past h = rw (h, past) refl
      behind true false b c past h = rw h refl
      behind false true b c past h = h
      behind false false b c past h = h

      by : (r : Ordering) → order (key x) (key i) ≡ r → filter test (put_in_order key order x items) ≡ cond (test x) (put_in_order key order x (filter test items)) (filter test items) → filter test (cond (is_lt r) (x ∷ i ∷ items) (i ∷ put_in_order key order x items)) ≡ cond (test x) (put_in_order key order x (filter test (i ∷ items))) (filter test (i ∷ items))
      by Less is h = ap (λ l. cond (test x) l (filter test (i ∷ items))) (sym (put-front x (filter test (i ∷ items)) (Above-filter test (key x) (i ∷ items) (is, Above-lower (key x) (key i) items is ascending.0))))
      by Equal is h = behind (test i) (test x) refl refl (ap is_lt is) h
      by Greater is h = behind (test i) (test x) refl refl (ap is_lt is) h

  Above-put : (k : K) (x : I) (items : List I) → order k (key x) ≡ Less → Above k items → Above k (put_in_order key order x items)
  Above-put k x [] less above = (less, tt)
  Above-put k x (i ∷ items) less above = by (is_lt (order (key x) (key i))) (Above-put k x items less above.1)
    where
      by : (b : Bool) → Above k (put_in_order key order x items) → Above k (cond b (x ∷ i ∷ items) (i ∷ put_in_order key order x items))
      by true h = (less, above)
      by false h = (above.0, h)

  pub IsAscending-put : (x : I) (items : List I) → Absent (key x) items → IsAscending items → IsAscending (put_in_order key order x items)
  IsAscending-put x [] absent ascending = (tt, tt)
  IsAscending-put x (i ∷ items) absent ascending = by (order (key x) (key i)) refl (IsAscending-put x items absent.1 ascending.1)
    where
      by : (r : Ordering) → order (key x) (key i) ≡ r → IsAscending (put_in_order key order x items) → IsAscending (cond (is_lt r) (x ∷ i ∷ items) (i ∷ put_in_order key order x items))
      by Less is h = ((is, Above-lower (key x) (key i) items is ascending.0), ascending)
      by Equal is h = cc (absent.0, ap is_eq (tied_back total (key x) (key i) is))
      by Greater is h = (Above-put (key i) x items (total.antisymm (key i) (key x) ∙ ap ordering_reverse is) ascending.0, h)

  module _ (step : I → Option I) where
    Above-step : ((i j : I) → step i ≡ Some j → key j ≡ key i) → (k : K) (items : List I) → Above k items → Above k (filter_map step items)
    Above-step keeps k [] above = tt
    Above-step keeps k (i ∷ items) above = by (step i) refl (Above-step keeps k items above.1)
      where
        by : (o : Option I) → step i ≡ o → Above k (filter_map step items) → Above k (cons_option o (filter_map step items))
        by None is h = h
        by (Some j) is h = (ap (order k) (keeps i j is) ∙ above.0, h)

    pub IsAscending-step : ((i j : I) → step i ≡ Some j → key j ≡ key i) → (items : List I) → IsAscending items → IsAscending (filter_map step items)
    IsAscending-step keeps [] ascending = tt
    IsAscending-step keeps (i ∷ items) ascending = by (step i) refl (IsAscending-step keeps items ascending.1)
      where
        by : (o : Option I) → step i ≡ o → IsAscending (filter_map step items) → IsAscending (cons_option o (filter_map step items))
        by None is h = h
        by (Some j) is h = (subst (λ k. Above k (filter_map step items)) (sym (keeps i j is)) (Above-step keeps (key i) items ascending.0), h)

    pub Absent-step : (k : K) → ((i j : I) → step i ≡ Some j → eq_by_cmp order (key j) k ≡ false) → (items : List I) → Absent k (filter_map step items)
    Absent-step k drops [] = tt
    Absent-step k drops (i ∷ items) = by (step i) refl (Absent-step k drops items)
      where
        by : (o : Option I) → step i ≡ o → Absent k (filter_map step items) → Absent k (cons_option o (filter_map step items))
        by None is h = h
        by (Some j) is h = (drops i j is, h)

  -- a kind of item whose steps leave keys alone, and of which an entry that begins one leaves none with its key
  module _ {E : Type 0} (begins : E → Option I) (step : E → I → Option I) (keeps : (e : E) (i j : I) → step e i ≡ Some j → key j ≡ key i) (drops : (e : E) (x i j : I) → begins e ≡ Some x → step e i ≡ Some j → eq_by_cmp order (key j) (key x) ≡ false) where
    abbrev by_key : Kind E I
    by_key = record { begins = begins; step = step; put = put_in_order key order }

    pub IsAscending-counting : (test : I → Bool) (journal : List E) → IsAscending (counting by_key test journal)
    IsAscending-counting test [] = tt
    IsAscending-counting test (e ∷ older) = by (begins e) refl (IsAscending-step (step e) (keeps e) (counting by_key test older) (IsAscending-counting test older))
      where
        begun : (x : I) (b : Bool) → begins e ≡ Some x → IsAscending (filter_map (step e) (counting by_key test older)) → IsAscending (cond b (put_in_order key order x (filter_map (step e) (counting by_key test older))) (filter_map (step e) (counting by_key test older)))
        begun x true is h = IsAscending-put x (filter_map (step e) (counting by_key test older)) (Absent-step (step e) (key x) (λ i j. drops e x i j is) (counting by_key test older)) h
        begun x false is h = h

        by : (o : Option I) → begins e ≡ o → IsAscending (filter_map (step e) (counting by_key test older)) → IsAscending (placed test (put_in_order key order) o (filter_map (step e) (counting by_key test older)))
        by None is h = h
        by (Some x) is h = begun x (test x) is h

    pub puts_in_order : (early late : I → Bool) (i : I) (e : E) (older : List E) → let items = filter_map (step e) (counting by_key early older) in filter late (put_in_order key order i items) ≡ cond (late i) (put_in_order key order i (filter late items)) (filter late items)
    puts_in_order early late i e older = filter-put_in_order late i (filter_map (step e) (counting by_key early older)) (IsAscending-step (step e) (keeps e) (counting by_key early older) (IsAscending-counting early older))

-- what is found under keys in ascending order, where one key is put among them under which x is found, if it counts
module _ {I K : Type 0} (key : I → K) (order : K → K → Ordering) (total : IsTotalOrder order) where
  abbrev itself : K → K
  itself n = n

  Above-found : (f : K → Option I) → ((n : K) (i : I) → f n ≡ Some i → key i ≡ n) → (k : K) (keys : List K) → Above itself order total k keys → Above key order total k (filter_map f keys)
  Above-found f has k [] above = tt
  Above-found f has k (n ∷ keys) above = by (f n) refl (Above-found f has k keys above.1)
    where
      by : (o : Option I) → f n ≡ o → Above key order total k (filter_map f keys) → Above key order total k (cons_option o (filter_map f keys))
      by None is h = h
      by (Some i) is h = (ap (order k) (has n i is) ∙ above.0, h)

  -- the keys without one, and it put at its place, are in order
  pub IsAscending-with : (k : K) (keys : List K) → IsAscending itself order total keys → IsAscending itself order total (put_in_order itself order k (filter_map (drop_key itself (eq_by_cmp order) k) keys))
  IsAscending-with k keys ascending =
      IsAscending-put itself order total k (filter_map (drop_key itself (eq_by_cmp order) k) keys)
      (Absent-step itself order total (drop_key itself (eq_by_cmp order) k) k (λ i j. dropped-apart itself (eq_by_cmp order) k i j) keys)
      (IsAscending-step itself order total (drop_key itself (eq_by_cmp order) k) (λ i j. dropped-is itself (eq_by_cmp order) k i j) keys ascending)

  module _ (f g : K → Option I) (has : (n : K) (i : I) → f n ≡ Some i → key i ≡ n) (x : I) (b : Bool) (here : g (key x) ≡ cond b (Some x) None) (elsewhere : (n : K) → eq_by_cmp order n (key x) ≡ false → g n ≡ f n) where
    abbrev FoundWith : List K → Type 0
    FoundWith keys = filter_map g (put_in_order itself order (key x) keys) ≡ cond b (put_in_order key order x (filter_map f keys)) (filter_map f keys)

    same-others : (keys : List K) → Absent itself order total (key x) keys → filter_map g keys ≡ filter_map f keys
    same-others [] absent = refl
    same-others (n ∷ keys) absent = ap₂ cons_option (elsewhere n absent.0) (same-others keys absent.1)

    first-put : (c : Bool) (items : List I) → Above key order total (key x) items → cons_option (cond c (Some x) None) items ≡ cond c (put_in_order key order x items) items
    first-put true items above = sym (put-front key order total x items above)
    first-put false items above = refl

    found-put : (keys : List K) → IsAscending itself order total keys → Absent itself order total (key x) keys → FoundWith keys
    found-put [] ascending absent = ap (λ o. cons_option o []) here ∙ first-put b [] tt
    found-put (n ∷ keys) ascending absent = by (order (key x) n) refl (found-put keys ascending.1 absent.1)
      where
        behind : (o : Option I) (c : Bool) → f n ≡ o → is_lt (order (key x) n) ≡ false → cons_option o (cond c (put_in_order key order x (filter_map f keys)) (filter_map f keys)) ≡ cond c (put_in_order key order x (cons_option o (filter_map f keys))) (cons_option o (filter_map f keys))
        behind None c is past = refl
        behind (Some i) false is past = refl
        behind (Some i) true is past = rw (has n i is, past) refl

        by : (r : Ordering) → order (key x) n ≡ r → FoundWith keys → filter_map g (cond (is_lt r) (key x ∷ n ∷ keys) (n ∷ put_in_order itself order (key x) keys)) ≡ cond b (put_in_order key order x (filter_map f (n ∷ keys))) (filter_map f (n ∷ keys))
        by Less is h =
            ap₂ cons_option here (same-others (n ∷ keys) absent)
            ∙ first-put b (filter_map f (n ∷ keys)) (Above-found f has (key x) (n ∷ keys) (is, Above-lower itself order total (key x) n keys is ascending.0))
        by Equal is h = cc (absent.0, ap is_eq (tied_back total (key x) n is))
        by Greater is h = ap₂ cons_option (elsewhere n absent.0) h ∙ behind (f n) b refl (ap is_lt is)

    -- among keys without its own
    pub found-with : (keys : List K) → IsAscending itself order total keys → let left = filter_map (drop_key itself (eq_by_cmp order) (key x)) keys in FoundWith left
    found-with keys ascending =
        found-put (filter_map (drop_key itself (eq_by_cmp order) (key x)) keys)
        (IsAscending-step itself order total (drop_key itself (eq_by_cmp order) (key x)) (λ i j. dropped-is itself (eq_by_cmp order) (key x) i j) keys ascending)
        (Absent-step itself order total (drop_key itself (eq_by_cmp order) (key x)) (key x) (λ i j. dropped-apart itself (eq_by_cmp order) (key x) i j) keys)
