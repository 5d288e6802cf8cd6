-- Slots and their free names.
use Rattle.std.proofs.Common.{◌≡◌, ◌≢◌, ℕ, zero, suc, ◌+◌, ◌<◌, ◌==◌, Bool, true, false, cond, List, [], ◌∷◌, ◌++◌, length, map, replicate, get_or, set, Option, Some, None, is_some, is_none, inl, inr, refl, sym, ap, subst, ◌∙◌, arith}
use Rattle.std.proofs.lemmas.Bool.{cases_Bool, cases_eq, eq-eqb, ne_eqb}
use Rattle.std.proofs.lemmas.List.{get_or_default, get_or-set_same, get_or-set_other, length-append, length-map, length-set, map-append, map-set, set-append_left}
use Rattle.std.proofs.lemmas.List.Sums.{sum_by-set, sum_by_push}
use Rattle.node_store.specs.Sound.{is_vacant, times, IsSound}
use Rattle.node_store.specs.Store.{Store, with_node, Changes}

abbrev one_if : Bool → ℕ
one_if b = cond b 1 0

-- what lies behind a list reads as the default, also where that is spelled out
pub get_or-padded : {X : Type 0} (xs : List X) (n i : ℕ) (d : X) → get_or (xs ++ replicate n d) i d ≡ get_or xs i d
get_or-padded [] zero i d = refl
get_or-padded [] (suc n) zero d = refl
get_or-padded [] (suc n) (suc i) d = get_or-padded [] n i d
get_or-padded (x ∷ xs) n zero d = refl
get_or-padded (x ∷ xs) n (suc i) d = get_or-padded xs n i d

module _ {T : Type 0} where
  -- a store, as a contract sees it
  abbrev seen_of : List (Option T) → ℕ → Store T
  seen_of slots rooms = record { slots = slots; rooms = rooms }

  -- the same, of the slots and of how many names are fresh
  abbrev seen : List (Option T) → ℕ → ℕ → Store T
  seen slots fresh rooms = seen_of (slots ++ replicate fresh None) rooms

  -- a slot with a node is there
  pub live_within : (slots : List (Option T)) (i : ℕ) → is_some (get_or slots i None) ≡ true → i < length slots
  live_within [] i is = absurd (cc (is))
  live_within (x ∷ slots) zero is = omega arith
  live_within (x ∷ slots) (suc i) is = omega (arith, live_within slots i is)

  -- a name with a node was used
  pub live_used : (slots : List (Option T)) (n i : ℕ) → is_some (get_or (slots ++ replicate n None) i None) ≡ true → is_some (get_or slots i None) ≡ true
  live_used slots n i is = ap (λ o. is_some o) (sym (get_or-padded slots n i None)) ∙ is

  -- a name whose slot was read has that node
  pub node_read : (slots : List (Option T)) (fresh i : ℕ) (read : Option T) (node : T) → read ≡ get_or slots i read → read ≡ Some node → i < length slots → get_or (slots ++ replicate fresh None) i None ≡ Some node
  node_read slots fresh i read node at is within = get_or-padded slots fresh i None ∙ get_or_default slots i None read within ∙ sym at ∙ is

  -- a vacant slot is there, and has no node
  pub vacant_within : (slots : List (Option T)) (i : ℕ) → is_vacant slots i ≡ true → (i < length slots) × (get_or slots i None ≡ None)
  vacant_within [] i is = absurd (cc (is))
  vacant_within (None ∷ slots) zero is = (omega arith, refl)
  vacant_within (Some node ∷ slots) zero is = absurd (cc (is))
  vacant_within (x ∷ slots) (suc i) is = let rest = vacant_within slots i is in (omega (arith, rest.0), rest.1)

  pub is_vacant-set_same : (slots : List (Option T)) (i : ℕ) (slot : Option T) → i < length slots → is_vacant (set slots i slot) i ≡ is_none slot
  is_vacant-set_same slots i slot within = ap (λ marks. get_or marks i false) (map-set is_none slots i slot) ∙ get_or-set_same (map is_none slots) i (is_none slot) false (omega (arith, within, length-map slots is_none))

  pub is_vacant-set_other : (slots : List (Option T)) (i j : ℕ) (slot : Option T) → i ≢ j → is_vacant (set slots i slot) j ≡ is_vacant slots j
  is_vacant-set_other slots i j slot differ = ap (λ marks. get_or marks j false) (map-set is_none slots i slot) ∙ get_or-set_other (map is_none slots) i j (is_none slot) false (λ same. differ (sym same))

  pub is_vacant-pushed : (slots : List (Option T)) (node : T) (i : ℕ) → is_vacant (slots ++ Some node ∷ []) i ≡ is_vacant slots i
  is_vacant-pushed slots node i = ap (λ marks. get_or marks i false) (map-append is_none slots (Some node ∷ [])) ∙ get_or-padded (map is_none slots) 1 i false

  -- a slot with a node isn't vacant
  pub live_taken : (slots : List (Option T)) (i : ℕ) → is_some (get_or slots i None) ≡ true → is_vacant slots i ≡ false
  live_taken [] i is = refl
  live_taken (None ∷ slots) zero is = absurd (cc (is))
  live_taken (Some node ∷ slots) zero is = refl
  live_taken (x ∷ slots) (suc i) is = live_taken slots i is

pub times-last : (names : List ℕ) (last : ℕ) → times (names ++ last ∷ []) last ≡ times names last + 1
times-last names last = omega (arith, sum_by_push (λ n. one_if (n == last)) names last, ap one_if (eq-eqb last last refl))

pub times-other : (names : List ℕ) (last name : ℕ) → last ≢ name → times (names ++ last ∷ []) name ≡ times names name
times-other names last name differ = omega (arith, sum_by_push (λ n. one_if (n == name)) names last, ap one_if (ne_eqb last name differ))

module _ {T : Type 0} where
  -- a slot is written over, and its name alone comes or goes
  sound_set : (slots : List (Option T)) (free names : List ℕ) (fresh slots_capacity free_capacity name : ℕ) (slot : Option T) → IsSound slots free fresh slots_capacity free_capacity → name < length slots → ((n : ℕ) → name ≢ n → times names n ≡ times free n) → times names name ≡ one_if (is_none slot) → length names + one_if (is_some slot) ≡ length free + one_if (is_some (get_or slots name None)) → IsSound (set slots name slot) names fresh slots_capacity free_capacity
  sound_set slots free names fresh slots_capacity free_capacity name slot s within others one total =
      let len = length-set slots name slot in
      record {
        once = λ n.
            elim (cases_eq name n) [
              | inl same ↦ subst (λ n. times names n ≡ one_if (is_vacant (set slots name slot) n)) same (one ∙ ap one_if (sym (is_vacant-set_same slots name slot within)))
              | inr differ ↦ others n differ ∙ s.once n ∙ ap one_if (sym (is_vacant-set_other slots name n slot differ))
            ];
        total = omega (arith, s.total, total, len, sum_by-set (λ o. one_if (is_some o)) slots name slot None within);
        slots_room = omega (arith, s.slots_room, len);
        names_room = omega (arith, s.names_room, len);
        small = omega (arith, s.small, len);
      }

  -- the last free name is that of a vacant slot
  pub last_vacant : (slots : List (Option T)) (free names : List ℕ) (fresh slots_capacity free_capacity name : ℕ) → IsSound slots free fresh slots_capacity free_capacity → free ≡ names ++ name ∷ [] → is_vacant slots name ≡ true
  last_vacant slots free names fresh slots_capacity free_capacity name s is =
      elim (cases_Bool (is_vacant slots name)) [
        | inl vacant ↦ vacant
        | inr taken ↦ absurd (omega (arith, s.once name, ap one_if taken, ap (λ l. times l name) is, times-last names name))
      ]

  -- a node is put into the slot of the last free name
  pub sound_put : (slots : List (Option T)) (free names : List ℕ) (fresh slots_capacity free_capacity name : ℕ) (node : T) → IsSound slots free fresh slots_capacity free_capacity → free ≡ names ++ name ∷ [] → IsSound (set slots name (Some node)) names fresh slots_capacity free_capacity
  sound_put slots free names fresh slots_capacity free_capacity name node s is =
      let vacant = last_vacant slots free names fresh slots_capacity free_capacity name s is in
      let at = vacant_within slots name vacant in
      sound_set slots free names fresh slots_capacity free_capacity name (Some node) s at.0
      (λ n differ. sym (ap (λ l. times l n) is ∙ times-other names name n differ))
      (omega (arith, s.once name, ap one_if vacant, ap (λ l. times l name) is, times-last names name))
      (omega (arith, ap length is, length-append names (name ∷ []), ap (λ o. one_if (is_some o)) at.1))

  -- a node goes, and its name is free
  pub sound_drop : (slots : List (Option T)) (free : List ℕ) (fresh slots_capacity free_capacity name : ℕ) → IsSound slots free fresh slots_capacity free_capacity → is_some (get_or slots name None) ≡ true → IsSound (set slots name None) (free ++ name ∷ []) fresh slots_capacity free_capacity
  sound_drop slots free fresh slots_capacity free_capacity name s found =
      sound_set slots free (free ++ name ∷ []) fresh slots_capacity free_capacity name None s (live_within slots name found)
      (λ n differ. times-other free name n differ)
      (omega (arith, s.once name, ap one_if (live_taken slots name found), times-last free name))
      (omega (arith, length-append free (name ∷ []), ap one_if found))

  -- a node is written over another
  pub sound_edit : (slots : List (Option T)) (free : List ℕ) (fresh slots_capacity free_capacity name : ℕ) (node : T) → IsSound slots free fresh slots_capacity free_capacity → is_some (get_or slots name None) ≡ true → IsSound (set slots name (Some node)) free fresh slots_capacity free_capacity
  sound_edit slots free fresh slots_capacity free_capacity name node s found =
      sound_set slots free free fresh slots_capacity free_capacity name (Some node) s (live_within slots name found) (λ n differ. refl) (s.once name ∙ ap one_if (live_taken slots name found)) (omega (arith, ap one_if found))

  -- a node is pushed under a fresh name
  pub sound_push : (slots : List (Option T)) (free : List ℕ) (fresh left slots_capacity free_capacity : ℕ) (node : T) → IsSound slots free fresh slots_capacity free_capacity → left + 1 ≡ fresh → IsSound (slots ++ Some node ∷ []) free left slots_capacity free_capacity
  sound_push slots free fresh left slots_capacity free_capacity node s less =
      let len = length-append slots (Some node ∷ []) in
      record {
        once = λ n. s.once n ∙ ap one_if (sym (is_vacant-pushed slots node n));
        total = omega (arith, s.total, len, sum_by_push (λ o. one_if (is_some o)) slots (Some node));
        slots_room = omega (arith, s.slots_room, len, less);
        names_room = omega (arith, s.names_room, len, less);
        small = omega (arith, s.small, len, less);
      }

  -- a node is written, as a contract sees it
  pub with_node-padded : (slots : List (Option T)) (fresh rooms name : ℕ) (node : T) → is_some (get_or slots name None) ≡ true → seen (set slots name (Some node)) fresh rooms ≡ with_node (seen slots fresh rooms) name node
  with_node-padded slots fresh rooms name node live = ap (λ s. seen_of s rooms) (sym (set-append_left slots (replicate fresh None) name (Some node) (live_within slots name live)))

  -- what becomes of one slot becomes of that name, as a contract sees it
  pub changes-padded : (old new : List (Option T)) (before after rooms rest name : ℕ) (slot : Option T) → get_or new name None ≡ slot → ((other : ℕ) → other ≢ name → get_or new other None ≡ get_or old other None) → Changes (seen old before rooms) (seen new after rest) name slot
  changes-padded old new before after rooms rest name slot changed others = record {
    changed = get_or-padded new after name None ∙ changed;
    others = λ other differs. get_or-padded new after other None ∙ others other differs ∙ sym (get_or-padded old before other None);
  }
