-- The limits of instances among the mappings of a table.
use Rattle.std.proofs.Common.{◌≡◌, ℕ, suc, max, ◌+◌, ◌≤◌, ◌==◌, ◌||◌, ◌&&◌, not, nat_lt, Bool, true, false, cond, IsTrue, List, [], ◌∷◌, Option, Some, None, count_by, filter, find, length, map, is_lt, is_some, option_map, refl, sym, ap, ap₂, subst, ◌∙◌, arith}
use Rattle.std.proofs.lemmas.Bool.{eqb-true}
use Rattle.std.proofs.lemmas.Bool.Decides.{nat_tests}
use Rattle.std.proofs.lemmas.List.Sums.{count_by-le-length}
use Rattle.std.proofs.lemmas.Option.{same_Some}
use Rattle.mapping_records.specs.Eids.{same_eid}
use Rattle.mapping_records.specs.Orders.{eid_order, put_in_order}
use Rattle.mapping_records.specs.declared.eid.Eid.{Eid}
use Rattle.mapping_records.specs.declared.record.Record.{Record}
use Rattle.lisp_settings.specs.Instances.{all_mappings, mappings_in}
use Rattle.lisp_settings.specs.declared.settings.LimitItem.{LimitItem}
use Rattle.lisp_settings.proofs.WithinLemmas.{count-cons, within-all}
use Rattle.map_cache.specs.Cache as cache
use Rattle.map_cache.specs.Cache.{bits_told, fresh, lasting, lasts, learned, learned_in, told_mapping, with_bits, without_eid}
use Rattle.map_cache.specs.declared.mapping.Mapping.{Mapping}
use Rattle.router_model.specs.Cache.{held_of}
use Rattle.router_model.specs.Changes as model
use Rattle.router_model.specs.Changes.{has_room, may_replace}
use Rattle.router_model.specs.Mappings.{Held}
use Rattle.router_model.specs.Parts.{Parts, view_in}
use Rattle.router_model.proofs.FewLemmas.{left-few}
use Rattle.router_core.specs.Bounded.{KeepLimits}
use Rattle.router_core.proofs.HeldLemmas.{exact-seen}

abbrev key : Mapping → Eid
key mapping = mapping.eid

-- it was learned, in that instance
abbrev is_learned : ℕ → Mapping → Bool
is_learned iid mapping = (mapping.eid.iid == iid) && not mapping.fixed

abbrev is_fixed : Mapping → Bool
is_fixed mapping = mapping.fixed

both-hold : (a b : Bool) → (a && b) ≡ true → (a ≡ true) × (b ≡ true)
both-hold true b is = (refl, is)
both-hold false b is = (cc, cc)

-- ### counts

-- of what is put in order, one more
put-count : (test : Mapping → Bool) (item : Mapping) (ms : List Mapping) → count_by test (put_in_order key eid_order item ms) ≡ cond (test item) 1 0 + count_by test ms
put-count test item [] = count-cons test item []
put-count test item (next ∷ ms) = by (is_lt (eid_order item.eid next.eid)) (put-count test item ms)
  where
    by : (b : Bool) → count_by test (put_in_order key eid_order item ms) ≡ cond (test item) 1 0 + count_by test ms → count_by test (cond b (item ∷ next ∷ ms) (next ∷ put_in_order key eid_order item ms)) ≡ cond (test item) 1 0 + count_by test (next ∷ ms)
    by true rest = count-cons test item (next ∷ ms)
    by false rest = let a = count-cons test next (put_in_order key eid_order item ms) in let b = count-cons test next ms in omega (arith, a, b, rest)

-- of what is changed, where the test stays
map-count : {A B : Type 0} (test : B → Bool) (other : A → Bool) (f : A → B) → ((a : A) → test (f a) ≡ other a) → (items : List A) → count_by test (map f items) ≡ count_by other items
map-count test other f same [] = refl
map-count test other f same (a ∷ items) =
    count-cons test (f a) (map f items)
    ∙ ap₂ (λ b (n : ℕ). cond b 1 0 + n) (same a) (map-count test other f same items)
    ∙ sym (count-cons other a items)

-- of some of them
filter-count : {A : Type 0} (test passes : A → Bool) (items : List A) → count_by test (filter passes items) ≡ count_by (λ a. test a && passes a) items
filter-count test passes [] = refl
filter-count test passes (a ∷ items) = by (passes a) refl (filter-count test passes items)
  where
    all : count_by (λ a. test a && passes a) (a ∷ items) ≡ cond (test a && passes a) 1 0 + count_by (λ a. test a && passes a) items
    all = count-cons (λ a. test a && passes a) a items

    zero : (b : Bool) → ◌≡◌ {A = ℕ} (cond (b && false) 1 0) 0
    zero true = refl
    zero false = refl

    one : (b : Bool) → ◌≡◌ {A = ℕ} (cond (b && true) 1 0) (cond b 1 0)
    one true = refl
    one false = refl

    by : (b : Bool) → passes a ≡ b → count_by test (filter passes items) ≡ count_by (λ a. test a && passes a) items → count_by test (cond b (a ∷ filter passes items) (filter passes items)) ≡ count_by (λ a. test a && passes a) (a ∷ items)
    by true is rest =
        let kept = count-cons test a (filter passes items) in
        let alike : ◌≡◌ {A = ℕ} (cond (test a && passes a) 1 0) (cond (test a) 1 0) = ap (λ p. cond (test a && p) 1 0) is ∙ one (test a) in
        omega (arith, all, kept, alike, rest)
    by false is rest =
        let none : ◌≡◌ {A = ℕ} (cond (test a && passes a) 1 0) 0 = ap (λ p. cond (test a && p) 1 0) is ∙ zero (test a) in
        omega (arith, all, none, rest)

-- the one that goes counts no more
replaced-count : (test : Mapping → Bool) (eid : Eid) (ms : List Mapping) (old : Mapping) → find (λ (mapping : Mapping). same_eid mapping.eid eid) ms ≡ Some old → cond (test old) 1 0 + count_by test (without_eid eid ms) ≤ count_by test ms
replaced-count test eid [] old is = cc
replaced-count test eid (next ∷ ms) old is = by (same_eid next.eid eid) is (replaced-count test eid ms old) (count-cons test next ms)
  where
    left : List Mapping
    left = without_eid eid ms

    by : (b : Bool) → cond b (Some next) (find (λ (mapping : Mapping). same_eid mapping.eid eid) ms) ≡ Some old → (find (λ (mapping : Mapping). same_eid mapping.eid eid) ms ≡ Some old → cond (test old) 1 0 + count_by test left ≤ count_by test ms) → count_by test (next ∷ ms) ≡ cond (test next) 1 0 + count_by test ms → cond (test old) 1 0 + count_by test (cond (not b) (next ∷ left) left) ≤ count_by test (next ∷ ms)
    by true is rest all =
        let same : ◌≡◌ {A = ℕ} (cond (test next) 1 0) (cond (test old) 1 0) = ap (λ m. cond (test m) 1 0) (same_Some next old is) in
        let few = left-few test (λ (mapping : Mapping). not (same_eid mapping.eid eid)) ms in
        omega (arith, all, same, few)
    by false is rest all =
        let few = rest is in
        let kept = count-cons test next left in
        omega (arith, all, few, kept)

-- ### what keeps to limits

pub none-keep : (limits : List LimitItem) → all_mappings limits ≤ 65536 → KeepLimits limits []
none-keep limits few = record {
  each = λ iid. let none : 0 ≤ mappings_in limits iid = omega arith in none;
  all = omega (arith, few);
}

pub lasting-keeps : (m : ℕ) (limits : List LimitItem) (ms : List Mapping) → KeepLimits limits ms → KeepLimits limits (lasting m ms)
lasting-keeps m limits ms keeps = record {
  each = λ iid. let few = left-few (is_learned iid) (lasts m) ms in let most = keeps.each iid in omega (arith, few, most);
  all = (let few = left-few is_fixed (lasts m) ms in let most = keeps.all in omega (arith, few, most));
}

pub told-keeps : (limits : List LimitItem) (eid : Eid) (bits width : ℕ) (ms : List Mapping) → KeepLimits limits ms → KeepLimits limits (bits_told eid bits width ms)
told-keeps limits eid bits width ms keeps = record {
  each = λ iid. let same = map-count (is_learned iid) (is_learned iid) (told_mapping eid bits width) (stays (is_learned iid) (λ mapping. refl)) ms in let most = keeps.each iid in omega (arith, same, most);
  all = (let same = map-count is_fixed is_fixed (told_mapping eid bits width) (stays is_fixed (λ mapping. refl)) ms in let most = keeps.all in omega (arith, same, most));
}
  where
    stays : (test : Mapping → Bool) → ((mapping : Mapping) → test (with_bits bits width mapping) ≡ test mapping) → (mapping : Mapping) → test (told_mapping eid bits width mapping) ≡ test mapping
    stays test same mapping = by (same_eid mapping.eid eid)
      where
        by : (b : Bool) → test (cond b (with_bits bits width mapping) mapping) ≡ test mapping
        by true = same mapping
        by false = refl

module _ (limits : List LimitItem) (m : ℕ) (mapping : Record) (ms : List Mapping) (keeps : KeepLimits limits ms) where
  abbrev live : List Mapping
  live = lasting m ms

  abbrev left : List Mapping
  left = without_eid mapping.eid live

  few-live : (iid : ℕ) → learned_in iid live ≤ mappings_in limits iid
  few-live iid = (lasting-keeps m limits ms keeps).each iid

  few-left : (test : Mapping → Bool) → count_by test left ≤ count_by test live
  few-left test = left-few test (λ (item : Mapping). not (same_eid item.eid mapping.eid)) live

  -- those that are left keep to them
  left-keeps : KeepLimits limits left
  left-keeps = record {
    each = λ iid. let few = few-left (is_learned iid) in let most = few-live iid in omega (arith, few, most);
    all = (let few = few-left is_fixed in let most = (lasting-keeps m limits ms keeps).all in omega (arith, few, most));
  }

  -- ### a mapping that isn't fixed

  -- it may be learned in place of one, or where there is none
  abbrev May : Option Mapping → Type 0
  May None = ((mapping.ttl == 0) || nat_lt (learned_in mapping.eid.iid live) (mappings_in limits mapping.eid.iid)) ≡ true
  May (Some old) = not old.fixed ≡ true

  abbrev found : Option Mapping
  found = find (λ (item : Mapping). same_eid item.eid mapping.eid) live

  below : (n k : ℕ) → nat_lt n k ≡ true → suc n ≤ k
  below n k is = grind (arith, nat_tests)

  found-eid : (items : List Mapping) (old : Mapping) → find (λ (item : Mapping). same_eid item.eid mapping.eid) items ≡ Some old → same_eid old.eid mapping.eid ≡ true
  found-eid [] old is = cc
  found-eid (next ∷ items) old is = by (same_eid next.eid mapping.eid) refl is (found-eid items old)
    where
      by : (b : Bool) → same_eid next.eid mapping.eid ≡ b → cond b (Some next) (find (λ (item : Mapping). same_eid item.eid mapping.eid) items) ≡ Some old → (find (λ (item : Mapping). same_eid item.eid mapping.eid) items ≡ Some old → same_eid old.eid mapping.eid ≡ true) → same_eid old.eid mapping.eid ≡ true
      by true here is rest = subst (λ (o : Mapping). same_eid o.eid mapping.eid ≡ true) (same_Some next old is) here
      by false here is rest = rest is

  -- then one more of its instance is within the limit
  one-more : (o : Option Mapping) → found ≡ o → May o → (mapping.ttl == 0) ≡ false → suc (learned_in mapping.eid.iid left) ≤ mappings_in limits mapping.eid.iid
  one-more None is may some =
      let room = below _ _ (subst (λ b. (b || nat_lt (learned_in mapping.eid.iid live) (mappings_in limits mapping.eid.iid)) ≡ true) some may) in
      let few = few-left (is_learned mapping.eid.iid) in
      omega (arith, room, few)
  one-more (Some old) is may some =
      let alike = (both-hold (old.eid.iid == mapping.eid.iid) _ (found-eid live old is)).0 in
      let counts : ◌≡◌ {A = ℕ} (cond (is_learned mapping.eid.iid old) 1 0) 1 = ap₂ (λ a b. cond (a && b) 1 0) alike may in
      let gone = replaced-count (is_learned mapping.eid.iid) mapping.eid live old is in
      let most = few-live mapping.eid.iid in
      omega (arith, counts, gone, most)

  pub learned-keeps : May found → KeepLimits limits (learned m mapping false ms)
  learned-keeps may = by (mapping.ttl == 0) refl
    where
      put : List Mapping
      put = put_in_order key eid_order (fresh m mapping false) left

      each : (mapping.ttl == 0) ≡ false → (iid : ℕ) → learned_in iid put ≤ mappings_in limits iid
      each some iid = count (mapping.eid.iid == iid) refl
        where
          whole : learned_in iid put ≡ cond ((mapping.eid.iid == iid) && true) 1 0 + learned_in iid left
          whole = put-count (is_learned iid) (fresh m mapping false) left

          count : (b : Bool) → (mapping.eid.iid == iid) ≡ b → learned_in iid put ≤ mappings_in limits iid
          count true is =
              let one : ◌≡◌ {A = ℕ} (cond ((mapping.eid.iid == iid) && true) 1 0) 1 = ap (λ c. cond (c && true) 1 0) is in
              let more : suc (learned_in iid left) ≤ mappings_in limits iid = subst (λ n. suc (learned_in n left) ≤ mappings_in limits n) (eqb-true mapping.eid.iid iid is) (one-more found refl may some) in
              omega (arith, whole, one, more)
          count false is =
              let none : ◌≡◌ {A = ℕ} (cond ((mapping.eid.iid == iid) && true) 1 0) 0 = ap (λ c. cond (c && true) 1 0) is in
              let most = left-keeps.each iid in
              omega (arith, whole, none, most)

      by : (b : Bool) → (mapping.ttl == 0) ≡ b → KeepLimits limits (cond (not b) put left)
      by true none = left-keeps
      by false some = record {
        each = each some;
        all = (let whole = put-count is_fixed (fresh m mapping false) left in let most = left-keeps.all in omega (arith, whole, most));
      }

  -- there is place for it among all
  all-live : suc (learned_in mapping.eid.iid live) ≤ mappings_in limits mapping.eid.iid → suc (length live) ≤ 65536
  all-live room =
      let within = within-all (λ (item : Mapping). item.eid.iid) (λ (limit : LimitItem). limit.mappings) limits others each in
      let fixed = (lasting-keeps m limits ms keeps).all in
      let parts = parted live in
      let first = first-of in
      omega (arith, within, fixed, parts, first)
    where
      item : Mapping
      item = fresh m mapping false

      moves : Mapping → Bool
      moves old = not old.fixed

      others : List Mapping
      others = filter moves (item ∷ live)

      first-of : length others ≡ suc (length (filter moves live))
      first-of = refl

      each : (iid : ℕ) → count_by (λ (old : Mapping). old.eid.iid == iid) others ≤ mappings_in limits iid
      each iid = by (mapping.eid.iid == iid) refl
        where
          counted : count_by (λ (old : Mapping). old.eid.iid == iid) others ≡ cond ((mapping.eid.iid == iid) && true) 1 0 + learned_in iid live
          counted = filter-count (λ (old : Mapping). old.eid.iid == iid) moves (item ∷ live) ∙ count-cons (is_learned iid) item live

          by : (b : Bool) → (mapping.eid.iid == iid) ≡ b → count_by (λ (old : Mapping). old.eid.iid == iid) others ≤ mappings_in limits iid
          by true is =
              let one : ◌≡◌ {A = ℕ} (cond ((mapping.eid.iid == iid) && true) 1 0) 1 = ap (λ c. cond (c && true) 1 0) is in
              let more : suc (learned_in iid live) ≤ mappings_in limits iid = subst (λ n. suc (learned_in n live) ≤ mappings_in limits n) (eqb-true mapping.eid.iid iid is) room in
              omega (arith, counted, one, more)
          by false is =
              let none : ◌≡◌ {A = ℕ} (cond ((mapping.eid.iid == iid) && true) 1 0) 0 = ap (λ c. cond (c && true) 1 0) is in
              let most = few-live iid in
              omega (arith, counted, none, most)

      parted : (items : List Mapping) → length items ≡ count_by is_fixed items + length (filter moves items)
      parted [] = refl
      parted (old ∷ items) = by (is_fixed old) (count-cons is_fixed old items) (parted items)
        where
          by : (b : Bool) → count_by is_fixed (old ∷ items) ≡ cond b 1 0 + count_by is_fixed items → length items ≡ count_by is_fixed items + length (filter moves items) → length (old ∷ items) ≡ count_by is_fixed (old ∷ items) + length (cond (not b) (old ∷ filter moves items) (filter moves items))
          by true first rest = omega (arith, first, rest)
          by false first rest = omega (arith, first, rest)

  pub learned-room : May found → IsTrue (cache.has_room limits mapping false live)
  learned-room may = by found refl may
    where
      by : (o : Option Mapping) → found ≡ o → May o → ((mapping.ttl == 0) || (is_some o || (nat_lt (length live) 65536 && (false || nat_lt (learned_in mapping.eid.iid live) (mappings_in limits mapping.eid.iid))))) ≡ true
      by (Some old) is may = some (mapping.ttl == 0)
        where
          some : (b : Bool) → (b || true) ≡ true
          some true = refl
          some false = refl
      by None is may = none (mapping.ttl == 0) (nat_lt (learned_in mapping.eid.iid live) (mappings_in limits mapping.eid.iid)) refl may
        where
          less : (n : ℕ) → suc n ≤ 65536 → nat_lt n 65536 ≡ true
          less n few = grind (arith, nat_tests)

          none : (b c : Bool) → nat_lt (learned_in mapping.eid.iid live) (mappings_in limits mapping.eid.iid) ≡ c → (b || c) ≡ true → (b || (nat_lt (length live) 65536 && c)) ≡ true
          none true c is may = refl
          none false true is may = rw (less (length live) (all-live (below _ _ is))) refl
          none false false is may = cc

  -- ### a mapping that is fixed

  pub fixed-keeps : suc (length ms) + all_mappings limits ≤ 65536 → KeepLimits limits (put_in_order key eid_order (fresh m mapping true) left)
  fixed-keeps room = record {
    each = λ iid.
        let whole = put-count (is_learned iid) (fresh m mapping true) left in
        let none : ◌≡◌ {A = ℕ} (cond ((mapping.eid.iid == iid) && false) 1 0) 0 = zero (mapping.eid.iid == iid) in
        let most = left-keeps.each iid in
        omega (arith, whole, none, most);
    all = (let whole = put-count is_fixed (fresh m mapping true) left in let few = fixed-few in omega (arith, whole, few, room));
  }
    where
      zero : (b : Bool) → ◌≡◌ {A = ℕ} (cond (b && false) 1 0) 0
      zero true = refl
      zero false = refl

      fixed-few : count_by is_fixed left ≤ length ms
      fixed-few = let a = few-left is_fixed in let b = left-few is_fixed (lasts m) ms in let c = count_by-le-length is_fixed ms in omega (arith, a, b, c)

-- ### by what is seen

-- the mappings that are seen are as many
learned-seen : (iid : ℕ) (ms : List Mapping) → model.learned_in iid (map held_of ms) ≡ learned_in iid ms
learned-seen iid ms = map-count (λ (held : Held). (held.eid.iid == iid) && not held.fixed) (is_learned iid) held_of (λ mapping. refl) ms

pub learned-view : (p : Parts) (m iid : ℕ) → model.learned_in iid (view_in p m).mappings ≡ learned_in iid (lasting (max m p.now) p.mappings)
unfolding view_in
learned-view p m iid = learned-seen iid (lasting (max m p.now) p.mappings)

module _ (p : Parts) (m : ℕ) (mapping : Record) (after : p.now ≤ m) (keeps : KeepLimits p.limits p.mappings) (room : has_room p.limits (view_in p m) mapping ≡ true) where
  may-found : May p.limits m mapping p.mappings keeps (found p.limits m mapping p.mappings keeps)
  unfolding view_in
  may-found = by (found p.limits m mapping p.mappings keeps) seen
    where
      now : max m p.now ≡ m
      now = omega (arith, after)

      live : List Mapping
      live = lasting m p.mappings

      seen : may_replace p.limits (view_in p m) mapping (option_map held_of (found p.limits m mapping p.mappings keeps)) ≡ true
      seen =
          subst (λ (t : ℕ). may_replace p.limits (view_in p m) mapping (option_map held_of (cache.exact (lasting t p.mappings) mapping.eid)) ≡ true) now
          (ap (may_replace p.limits (view_in p m) mapping) (exact-seen p m mapping.eid) ∙ room)

      by : (o : Option Mapping) → may_replace p.limits (view_in p m) mapping (option_map held_of o) ≡ true → May p.limits m mapping p.mappings keeps o
      by (Some old) may = may
      by None may =
          ap (λ (n : ℕ). (mapping.ttl == 0) || nat_lt n (mappings_in p.limits mapping.eid.iid))
          (sym (learned-seen mapping.eid.iid live) ∙ ap (λ (t : ℕ). model.learned_in mapping.eid.iid (map held_of (lasting t p.mappings))) (sym now))
          ∙ may

  -- a mapping that may be learned has its place in the cache
  pub learned-place : IsTrue (cache.has_room p.limits mapping false (lasting m p.mappings))
  learned-place = learned-room p.limits m mapping p.mappings keeps may-found

  -- and what is left keeps to the limits
  pub learned-limits : KeepLimits p.limits (learned m mapping false p.mappings)
  learned-limits = learned-keeps p.limits m mapping p.mappings keeps may-found
