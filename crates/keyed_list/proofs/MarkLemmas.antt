-- The number of each key's mark, once a mark comes, changes or goes.
use Rattle.std.proofs.Common.{◌≡◌, ℕ, suc, ◌||◌, Bool, true, false, cond, List, drop, insert, remove, slice_get, slice_set, Option, None, Some, IfSome, is_some, Less, Equal, inl, inr, refl, sym, ap, ◌∙◌}
use Rattle.std.specs.List.{list_any}
use Rattle.std.specs.Option.{option_map}
use Rattle.std.proofs.Math.Bool.{or-false}
use Rattle.std.proofs.lemmas.Bool.{both_ways, cases_Bool}
use Rattle.ordered_set.specs.Keys.{ties, Ascends, IsPlace}
use Rattle.ordered_set.proofs.KeysLemmas.{has-at}
use Rattle.keyed_list.specs.Keyed.{has_key, is_other, number_at, number_of}
use Rattle.keyed_list.specs.Keys.{key_order, mark_order, mark_order-total, same_key}
use Rattle.keyed_list.specs.declared.key.Key.{Key}
use Rattle.keyed_list.specs.declared.key.Mark.{Mark}
use Rattle.keyed_list.specs.declared.keyed.Marks.{Marks}
use Rattle.keyed_list.proofs.AmongLemmas.{any-among, pairs-behind, pairs-removed, Among}
use Rattle.keyed_list.proofs.EditLemmas.{insert-at, insert-behind, set-at, set-behind}
use Rattle.keyed_list.proofs.LastLemmas.{last-at, last-insert, last-none, last-same, last-set, last-without}
use Rattle.keyed_list.proofs.OrderLemmas.{same-apart, same-left, same-right, ties as keys-tie}

none-any : {A : Type 0} (test : A → Bool) (items : List A) (y : A) → list_any test items ≡ false → Among y items → test y ≡ false
none-any test items y none among = elim (cases_Bool (test y)) [
  | inl passes ↦ absurd (both_ways _ none (any-among test items y passes among))
  | inr fails ↦ fails
]

-- ### numbers

pub some-number : (o : Option ℕ) → is_some o ≡ true → (n : ℕ) × (o ≡ Some n)
some-number None some = absurd (cc some)
some-number (Some n) some = (n, refl)

-- keys that tie have one number
pub number-alike : (a b : Key) (index : List Mark) → key_order a b ≡ Equal → number_of a index ≡ number_of b index
number-alike a b index tied =
    ap (option_map (λ mark. mark.number)) (last-same (λ mark. same_key mark.key a) (λ mark. same_key mark.key b) None index (λ mark among. same-right a b mark.key tied))

number-none : (key : Key) (index : List Mark) → ((mark : Mark) → Among mark index → same_key mark.key key ≡ false) → number_of key index ≡ None
number-none key index fails =
    ap (option_map (λ mark. mark.number)) (last-none (λ mark. same_key mark.key key) index fails)

number-there : (key : Key) (index : List Mark) (place : ℕ) (mark : Mark) → slice_get index place ≡ Some mark → same_key mark.key key ≡ true
    → ((other : Mark) → Among other (drop (suc place) index) → same_key other.key key ≡ false) → number_of key index ≡ Some mark.number
number-there key index place mark at same fails =
    ap (option_map (λ mark. mark.number)) (last-at (λ mark. same_key mark.key key) index place mark at same fails)

module _ (key : Key) (number : ℕ) where
  abbrev own : Mark
  own = record { key = key; number = number }

  pub untied : (o : Option Mark) → number_at key o ≡ None → ties mark_order own o ≡ false
  untied None none = refl
  untied (Some mark) none = by (same_key mark.key key) none
    where
      by : (b : Bool) → cond b (Some mark.number) None ≡ None → b ≡ false
      by true none = absurd (cc none)
      by false none = refl

  -- the mark of a key that has a number
  pub record IsThere (o : Option Mark) (n : ℕ) : Type 0 where
    pub mark : Mark
    pub at : o ≡ Some mark
    pub same : same_key mark.key key ≡ true

  pub there : (o : Option Mark) (n : ℕ) → number_at key o ≡ Some n → IsThere o n
  there None n is = absurd (cc is)
  there (Some mark) n is = record { mark = mark; at = refl; same = by (same_key mark.key key) is }
    where
      by : (b : Bool) → cond b (Some mark.number) None ≡ Some n → b ≡ true
      by true is = refl
      by false is = absurd (cc is)

  pub tied : (o : Option Mark) (n : ℕ) → number_at key o ≡ Some n → ties mark_order own o ≡ true
  tied o n is = let mark = there o n is in ap (ties mark_order own) mark.at ∙ mark.same

  module _ (index : List Mark) (place : ℕ) where
    module _ (here : IsPlace mark_order own index place) where
      none-there : ties mark_order own (slice_get index place) ≡ false → (mark : Mark) → Among mark index → same_key mark.key key ≡ false
      none-there apart mark among =
          none-any (λ (mark : Mark). same_key mark.key key) index mark (has-at mark_order mark_order-total own index place here ∙ apart) among

      -- the number of a key is that of the mark at its place
      pub number-at : number_at key (slice_get index place) ≡ number_of key index
      number-at = by (number_at key (slice_get index place)) refl
        where
          by : (o : Option ℕ) → number_at key (slice_get index place) ≡ o → number_at key (slice_get index place) ≡ number_of key index
          by None is = is ∙ sym (number-none key index (none-there (untied (slice_get index place) is)))
          by (Some n) is =
              let mark = there (slice_get index place) n is in
              ap (number_at key) mark.at
              ∙ ap (λ b. cond b (Some (mark.mark).number) None) mark.same
              ∙ sym (number-there key index place mark.mark mark.at mark.same (λ other among. same-apart (mark.mark).key other.key key (pairs-behind (λ a b. mark_order a b ≡ Less) index place mark.mark other here.ascends mark.at among) mark.same))

      -- a key that has a number has a mark at its place
      pub there-of : is_some (number_of key index) ≡ true → IsThere (slice_get index place) 0
      there-of some =
          let number = some-number (number_of key index) some in
          let mark = there (slice_get index place) number.0 (number-at ∙ number.1) in
          record { mark = mark.mark; at = mark.at; same = mark.same }

      -- a mark comes
      pub number-insert : number_at key (slice_get index place) ≡ None → (other : Key) → number_of other (insert index place own) ≡ cond (same_key key other) (Some number) (number_of other index)
      number-insert new other = by (same_key key other) refl
        where
          by : (b : Bool) → same_key key other ≡ b → number_of other (insert index place own) ≡ cond b (Some number) (number_of other index)
          by true same = number-there other (insert index place own) place own (insert-at index place own here.within) same (λ mark among.
              sym (same-right key other mark.key (keys-tie key other same)) ∙ none-there (untied (slice_get index place) new) mark (insert-behind index place own mark among))
          by false apart =
              ap (option_map (λ mark. mark.number)) (last-insert (λ mark. same_key mark.key other) index place own apart)

    module _ (ascends : Ascends mark_order index) (old : Mark) (at : slice_get index place ≡ Some old) (same : same_key old.key key ≡ true) where
      old-too : (other : Key) → same_key old.key other ≡ same_key key other
      old-too other = same-left old.key key other (keys-tie old.key key same)

      -- a mark of the key changes
      pub number-set : (other : Key) → number_of other (slice_set index place own) ≡ cond (same_key key other) (Some number) (number_of other index)
      number-set other = by (same_key key other) refl
        where
          by : (b : Bool) → same_key key other ≡ b → number_of other (slice_set index place own) ≡ cond b (Some number) (number_of other index)
          by true also = number-there other (slice_set index place own) place own (set-at index place old own at) also (λ mark among.
              same-apart old.key mark.key other (pairs-behind (λ a b. mark_order a b ≡ Less) index place old mark ascends at (set-behind index place own mark among)) (old-too other ∙ also))
          by false apart =
              ap (option_map (λ mark. mark.number)) (last-set (λ mark. same_key mark.key other) index place old own at (old-too other ∙ apart) apart)

      -- or goes
      pub number-remove : (other : Key) → number_of other (remove index place) ≡ cond (same_key key other) None (number_of other index)
      number-remove other = by (same_key key other) refl
        where
          by : (b : Bool) → same_key key other ≡ b → number_of other (remove index place) ≡ cond b None (number_of other index)
          by true also = number-none other (remove index place) (λ mark among. elim (pairs-removed (λ a b. mark_order a b ≡ Less) index place old mark ascends at among) [
            | inl less ↦ same-apart old.key mark.key other less (old-too other ∙ also)
            | inr more ↦ elim (cases_Bool (same_key mark.key other)) [
              | inl tie ↦ absurd (both_ways _ (same-apart mark.key old.key other more tie) (old-too other ∙ also))
              | inr apart ↦ apart
            ]
          ])
          by false apart =
              ap (option_map (λ mark. mark.number)) (last-without (λ mark. same_key mark.key other) index place old at (old-too other ∙ apart))

-- ### the keys of an item

second-true : (a b : Bool) → a ≡ false → (a || b) ≡ true → b ≡ true
second-true true b apart either = absurd (cc apart)
second-true false b apart either = either

module _ (marks : Marks) where
  module _ (is : marks.other ≡ None) where
    pub only-key : (key : Key) → same_key marks.key key ≡ has_key marks key
    only-key key =
        sym (or-false (same_key marks.key key)) ∙ ap (λ (o : Option Key). same_key marks.key key || is_other o key) (sym is)

    pub numbers-one : (key : Key) (number old : Option ℕ) → cond (same_key marks.key key) number old ≡ cond (has_key marks key) number old
    numbers-one key number old = ap (λ b. cond b number old) (only-key key)

  module _ (other : Key) (is : marks.other ≡ Some other) (number : ℕ) (index mid : List Mark) (between : (key : Key) → number_of key mid ≡ cond (same_key marks.key key) (Some number) (number_of key index)) where
    pub numbers-two : (new : List Mark) (key : Key) → number_of key new ≡ cond (same_key other key) (Some number) (number_of key mid) → number_of key new ≡ cond (has_key marks key) (Some number) (number_of key index)
    numbers-two new key last =
        last
        ∙ ap (cond (same_key other key) (Some number)) (between key)
        ∙ both (same_key marks.key key) (same_key other key)
        ∙ ap (λ (o : Option Key). cond (same_key marks.key key || is_other o key) (Some number) (number_of key index)) (sym is)
      where
        both : (a b : Bool) → cond b (Some number) (cond a (Some number) (number_of key index)) ≡ cond (a || b) (Some number) (number_of key index)
        both true true = refl
        both true false = refl
        both false true = refl
        both false false = refl

    -- the second key is the first one
    pub numbers-same : same_key marks.key other ≡ true → (key : Key) → number_of key mid ≡ cond (has_key marks key) (Some number) (number_of key index)
    numbers-same same key =
        between key
        ∙ ap (λ b. cond b (Some number) (number_of key index)) (both (same_key marks.key key) (same_key other key) (same-left marks.key other key (keys-tie marks.key other same)))
        ∙ ap (λ (o : Option Key). cond (same_key marks.key key || is_other o key) (Some number) (number_of key index)) (sym is)
      where
        both : (a b : Bool) → a ≡ b → a ≡ (a || b)
        both true b same = refl
        both false b same = same

    -- it is another one: its mark had the number that it had before
    pub before-other : same_key marks.key other ≡ false → number_of other mid ≡ number_of other index
    before-other apart = between other ∙ ap (λ b. cond b (Some number) (number_of other index)) apart

  -- the number that the mark of a key had
  pub links-of : (index : List Mark) (before other_before : Option ℕ) → before ≡ number_of marks.key index → IfSome marks.other (λ other. other_before ≡ number_of other index) → (key : Key) → has_key marks key ≡ true → cond (same_key marks.key key) before other_before ≡ number_of key index
  links-of index before other_before first second key held =
      by (same_key marks.key key) refl marks.other held second
    where
      by : (b : Bool) → same_key marks.key key ≡ b → (o : Option Key) → (same_key marks.key key || is_other o key) ≡ true → IfSome o (λ other. other_before ≡ number_of other index) → cond b before other_before ≡ number_of key index
      by true same o held also = first ∙ number-alike marks.key key index (keys-tie marks.key key same)
      by false apart None held also =
          absurd (both_ways false refl (second-true (same_key marks.key key) false apart held))
      by false apart (Some other) held also =
          also ∙ number-alike other key index (keys-tie other key (second-true (same_key marks.key key) (same_key other key) apart held))
