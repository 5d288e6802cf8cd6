-- What is kept of mappings is what the journal says of them.
use Rattle.std.proofs.Common.{◌≡◌, ℕ, ◌+◌, ◌-◌, ◌*◌, ◌^◌, ◌<◌, ◌≤◌, ◌==◌, ◌||◌, ◌&&◌, not, nat_lt, Bool, true, false, cond, List, [], ◌∷◌, Option, Some, None, option_map, filter_map, map, refl, sym, ap, subst, ◌∙◌, arith}
use Rattle.std.specs.List.{cons_option}
use Rattle.std.specs.Ordering.{eq_by_cmp}
use Rattle.std.proofs.Math.Path.{fun_ext}
use Rattle.std.proofs.lemmas.Bool.Decides.{nat_tests}
use Rattle.std.proofs.lemmas.Option.{same_Some}
use Rattle.mapping_records.specs.declared.eid.Eid.{Eid}
use Rattle.mapping_records.specs.Orders.{eid_order, put_in_order}
use Rattle.router_log.specs.declared.entry.Entry.{Entry}
use Rattle.router_log.specs.declared.entry.Entry.TheVariants.{Learned, Bits}
use Rattle.map_cache.specs.declared.mapping.Mapping.{Mapping}
use Rattle.router_model.specs.Cache.{begun_mapping, held_of, kept, kept_mappings, known_since, made_of, mapping_kind, mapping_step, told_since}
use Rattle.map_cache.specs.Cache.{fresh, lasts, lowest_from, with_bits, lifetime}
use Rattle.mapping_records.specs.Eids.{same_eid}
use Rattle.router_model.specs.Journal.{Journal}
use Rattle.router_log.specs.Moments.{seconds}
use Rattle.router_model.specs.Kept.{placed, counting}
use Rattle.router_model.specs.Mappings.{Learning, eids, held, is_live, last_learned, live, live_learnings, live_mappings, status_of}
use Rattle.router_model.proofs.BitLemmas.{status-found}
use Rattle.mapping_records.proofs.OrderLemmas.{eid_order-total}
use Rattle.router_model.proofs.EidLemmas.{same_eid-is, same_eid-itself, same_eid-symm, same_eid-tied}
use Rattle.router_model.proofs.KeptLemmas.{Keeps, filter_map-Some}
use Rattle.router_model.proofs.KeyLemmas.{all-changed, all-dropped, changed-keeps, drop_key, dropped-apart, dropped-is, filter_map-alike, filter_map-others, only_if-is, others, others-dropped}
use Rattle.router_model.proofs.SortedLemmas.{IsAscending, IsAscending-with, found-with, puts_in_order}

abbrev pub eid_of : Mapping → Eid
eid_of mapping = mapping.eid

pub step-keeps : {A : Type 0} (f : Mapping → A) → ((bits width : ℕ) (x : Mapping) → f (with_bits bits width x) ≡ f x) → (entry : Entry) (i j : Mapping) → mapping_step entry i ≡ Some j → f j ≡ f i
step-keeps f stays (Learned moment mapping fixed) i j is = ap f (dropped-is eid_of same_eid mapping.eid i j is)
step-keeps f stays (Bits moment eid bits width) i j is = changed-keeps eid_of same_eid f eid (with_bits bits width) (stays bits width) i j is
step-keeps f stays _ i j is = sym (ap f (same_Some i j is))

-- what a mapping takes the place of is gone
pub step-drops : (entry : Entry) (x i j : Mapping) → begun_mapping entry ≡ Some x → mapping_step entry i ≡ Some j → same_eid j.eid x.eid ≡ false
step-drops (Learned moment mapping fixed) x i j made is = by (fixed || not (mapping.ttl == 0)) made
  where
    by : (b : Bool) → cond b (Some (fresh moment mapping fixed)) None ≡ Some x → same_eid j.eid x.eid ≡ false
    by true made = ap (λ (y : Mapping). same_eid j.eid y.eid) (sym (same_Some _ x made)) ∙ dropped-apart eid_of same_eid mapping.eid i j is
    by false made = cc
step-drops _ x i j made is = cc

lasts-before : (s t : ℕ) → s ≤ t → (x : Mapping) → lasts t x ≡ true → lasts s x ≡ true
lasts-before s t later x is = by x.fixed is
  where
    by : (b : Bool) → (b || nat_lt t x.end) ≡ true → (b || nat_lt s x.end) ≡ true
    by true is = refl
    by false is = grind (arith, nat_tests)

pub mappings-keep : Keeps mapping_kind lasts
mappings-keep = record {
  ages = lasts-before;
  stays = λ t entry i j is. step-keeps (lasts t) (λ bits width x. refl) entry i j is;
  puts = λ s t i entry older is.
      puts_in_order eid_of eid_order eid_order-total begun_mapping mapping_step (step-keeps eid_of (λ bits width x. refl))
      (λ entry x i j made is. ap (λ same. same j.eid x.eid) same_eid-tied ∙ step-drops entry x i j made is) (lasts s) (lasts t) i entry older;
}

-- to be younger than a lifetime is to be before the end
before_end : (t m d : ℕ) → 0 < d → nat_lt t (m + d) ≡ nat_lt (t - m) d
before_end t m d some = grind (arith, nat_tests)

lifetime-some : (ttl : ℕ) → (ttl == 0) ≡ false → 0 < lifetime ttl
lifetime-some ttl some = by (ttl == 0xffffffff)
  where
    by : (b : Bool) → 0 < seconds (60 * (cond b 1440 ttl))
    by true = omega arith
    by false = grind (arith, nat_tests)

live-lasts : (t : ℕ) (l : Learning) → ((l.fixed || not (l.mapping.ttl == 0)) && lasts t (made_of 0 0 l)) ≡ is_live t l
live-lasts t l = by l.fixed (l.mapping.ttl == 0) refl
  where
    by : (b c : Bool) → (l.mapping.ttl == 0) ≡ c → ((b || not c) && (b || nat_lt t (cond b 0 (l.moment + lifetime l.mapping.ttl)))) ≡ (b || (not c && nat_lt (t - l.moment) (lifetime l.mapping.ttl)))
    by true c e = refl
    by false true e = refl
    by false false e = before_end t l.moment (lifetime l.mapping.ttl) (lifetime-some l.mapping.ttl e)

-- what was learned for an EID has it
last_learned-has : (n : Eid) (journal : Journal) (l : Learning) → last_learned n journal ≡ Some l → l.mapping.eid ≡ n
last_learned-has n [] l is = cc
last_learned-has n (entry ∷ older) l is = by entry is (last_learned-has n older l)
  where
    by : (entry : Entry) → last_learned n (entry ∷ older) ≡ Some l → (last_learned n older ≡ Some l → l.mapping.eid ≡ n) → l.mapping.eid ≡ n
    by (Learned moment mapping fixed) is h = learned (same_eid mapping.eid n) refl is
      where
        learned : (b : Bool) → same_eid mapping.eid n ≡ b → cond b (Some (record { moment = moment; mapping = mapping; fixed = fixed })) (last_learned n older) ≡ Some l → l.mapping.eid ≡ n
        learned true same is = sym (ap (λ (k : Learning). k.mapping.eid) (same_Some _ l is)) ∙ same_eid-is mapping.eid n same
        learned false same is = h is
    by _ is h = h is

-- the EIDs are in ascending order
pub eids-ascending : (journal : Journal) → IsAscending (λ n. n) eid_order eid_order-total (eids journal)
eids-ascending [] = tt
eids-ascending (entry ∷ older) = by entry (eids-ascending older)
  where
    by : (entry : Entry) → IsAscending (λ n. n) eid_order eid_order-total (eids older) → IsAscending (λ n. n) eid_order eid_order-total (eids (entry ∷ older))
    by (Learned moment mapping fixed) h =
        subst (λ l. IsAscending (λ n. n) eid_order eid_order-total (put_in_order (λ n. n) eid_order mapping.eid l))
        (ap (λ same. filter_map (drop_key (λ n. n) same mapping.eid) (eids older)) same_eid-tied ∙ sym (others-dropped same_eid mapping.eid (eids older)))
        (IsAscending-with (λ (n : Eid). n) eid_order eid_order-total mapping.eid (eids older) h)
    by _ h = h

module _ (t : ℕ) where
  -- the live mapping of an EID as it is kept
  abbrev described : Journal → Eid → Option Mapping
  described journal n = option_map (made_of (known_since n journal) (told_since n journal)) (live t n journal)

  pub live-has : (n : Eid) (journal : Journal) (l : Learning) → live t n journal ≡ Some l → l.mapping.eid ≡ n
  live-has n journal l is = last_learned-has n journal l (only_if-is (is_live t) (last_learned n journal) l is)

  described-has : (journal : Journal) (n : Eid) (i : Mapping) → described journal n ≡ Some i → i.eid ≡ n
  described-has journal n i is = by (live t n journal) refl is
    where
      by : (o : Option Learning) → live t n journal ≡ o → option_map (made_of (known_since n journal) (told_since n journal)) o ≡ Some i → i.eid ≡ n
      by None found is = cc
      by (Some l) found is = sym (ap eid_of (same_Some _ i is)) ∙ live-has n journal l found

  all-described : (journal : Journal) → counting mapping_kind (lasts t) journal ≡ filter_map (described journal) (eids journal)
  all-described [] = refl
  all-described (entry ∷ older) = by entry (all-described older)
    where
      by : (entry : Entry) → counting mapping_kind (lasts t) older ≡ filter_map (described older) (eids older) → counting mapping_kind (lasts t) (entry ∷ older) ≡ filter_map (described (entry ∷ older)) (eids (entry ∷ older))
      by (Learned moment mapping fixed) h =
          begun (fixed || not (mapping.ttl == 0))
          ∙ ap (λ b. cond b (put_in_order eid_of eid_order x items) items) (live-lasts t l)
          ∙ ap (λ k. cond (is_live t l) (put_in_order eid_of eid_order x k) k) left
          ∙ sym (found-with eid_of eid_order eid_order-total (described older) (described e∷older) (described-has older) x (is_live t l) now (λ n apart. elsewhere n (ap (λ same. same n mapping.eid) (sym same_eid-tied) ∙ apart)) (eids older) (eids-ascending older))
          ∙ ap (λ k. filter_map (described e∷older) (put_in_order (λ n. n) eid_order mapping.eid k)) tied
        where
          e∷older : Journal
          e∷older = Learned moment mapping fixed ∷ older

          l : Learning
          l = record { moment = moment; mapping = mapping; fixed = fixed }

          x : Mapping
          x = fresh moment mapping fixed

          items : List Mapping
          items = filter_map (mapping_step (Learned moment mapping fixed)) (counting mapping_kind (lasts t) older)

          begun : (b : Bool) → placed (lasts t) (put_in_order eid_of eid_order) (cond b (Some x) None) items ≡ cond (b && lasts t x) (put_in_order eid_of eid_order x items) items
          begun true = refl
          begun false = refl

          tied : filter_map (drop_key (λ n. n) (eq_by_cmp eid_order) mapping.eid) (eids older) ≡ others same_eid mapping.eid (eids older)
          tied = ap (λ same. filter_map (drop_key (λ n. n) same mapping.eid) (eids older)) same_eid-tied ∙ sym (others-dropped same_eid mapping.eid (eids older))

          left : items ≡ filter_map (described older) (filter_map (drop_key (λ n. n) (eq_by_cmp eid_order) mapping.eid) (eids older))
          left =
              ap (filter_map (mapping_step (Learned moment mapping fixed))) h
              ∙ all-dropped eid_of same_eid (described older) (described-has older) mapping.eid (eids older)
              ∙ sym (filter_map-others same_eid (described older) mapping.eid (eids older))
              ∙ ap (filter_map (described older)) (sym tied)

          now : described e∷older mapping.eid ≡ cond (is_live t l) (Some x) None
          now = rw (same_eid-itself mapping.eid) (lives (is_live t l))
            where
              lives : (b : Bool) → option_map (made_of 0 0) (cond b (Some l) None) ≡ cond b (Some x) None
              lives true = refl
              lives false = refl

          elsewhere : (n : Eid) → same_eid n mapping.eid ≡ false → described e∷older n ≡ described older n
          elsewhere n apart = rw (same_eid-symm mapping.eid n, apart) refl
      by (Bits moment k bits width) h =
          ap (filter_map (mapping_step (Bits moment k bits width))) h
          ∙ all-changed eid_of same_eid (described older) (described-has older) k (with_bits bits width) (eids older)
          ∙ filter_map-alike _ _ told (eids older)
        where
          told : (n : Eid) → cond (same_eid n k) (option_map (with_bits bits width) (described older n)) (described older n) ≡ described (Bits moment k bits width ∷ older) n
          told n = ap (λ b. cond b (option_map (with_bits bits width) (described older n)) (described older n)) (same_eid-symm n k) ∙ one (same_eid k n) (live t n older)
            where
              one : (b : Bool) (o : Option Learning) → cond b (option_map (with_bits bits width) (option_map (made_of (known_since n older) (told_since n older)) o)) (option_map (made_of (known_since n older) (told_since n older)) o) ≡ option_map (made_of (cond b (lowest_from width (known_since n older) (2 ^ width - 1)) (known_since n older)) (cond b (lowest_from width (told_since n older) bits) (told_since n older))) o
              one true None = refl
              one true (Some l) = refl
              one false o = refl
      by _ h = filter_map-Some (counting mapping_kind (lasts t) older) ∙ h

  pub map-filter_map : {A B C : Type 0} (g : B → C) (f : A → Option B) (items : List A) → filter_map (λ a. option_map g (f a)) items ≡ map g (filter_map f items)
  map-filter_map g f [] = refl
  map-filter_map {A} {B} {C} g f (a ∷ items) = by (f a) (map-filter_map g f items)
    where
      by : (o : Option B) → filter_map (λ a. option_map g (f a)) items ≡ map g (filter_map f items) → cons_option (option_map g o) (filter_map (λ a. option_map g (f a)) items) ≡ map g (cons_option o (filter_map f items))
      by None h = h
      by (Some b) h = ap (λ l. g b ∷ l) h

  -- the mappings that are kept are the live ones
  pub mappings-live : (journal : Journal) → counting mapping_kind (lasts t) journal ≡ kept_mappings t journal
  mappings-live journal =
      all-described journal
      ∙ filter_map-alike _ _ (λ n. same n (live t n journal) refl) (eids journal)
      ∙ map-filter_map (kept journal) (λ n. live t n journal) (eids journal)
    where
      same : (n : Eid) (o : Option Learning) → live t n journal ≡ o → option_map (made_of (known_since n journal) (told_since n journal)) o ≡ option_map (kept journal) o
      same n None found = refl
      same n (Some l) found = ap (λ k. Some (made_of (known_since k journal) (told_since k journal) l)) (sym (live-has n journal l found))

-- what is kept of a mapping says what decisions see of it
kept-held : (journal : Journal) (l : Learning) → held_of (kept journal l) ≡ held journal l
kept-held journal l = ap (λ up. record { eid = l.mapping.eid; mapping = l.mapping; fixed = l.fixed; up = status_of up 0 l.mapping.locators }) (fun_ext (λ i. fun_ext (λ locator. status-found journal l i locator)))

pub mappings-held : (t : ℕ) (journal : Journal) → map held_of (kept_mappings t journal) ≡ live_mappings t journal
mappings-held t journal = all (live_learnings t journal)
  where
    all : (ls : List Learning) → map held_of (map (kept journal) ls) ≡ map (held journal) ls
    all [] = refl
    all (l ∷ ls) = λ i. kept-held journal l i ∷ all ls i
