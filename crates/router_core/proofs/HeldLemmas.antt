-- What is found among mappings is found among them as decisions see them.
use Rattle.std.proofs.Common.{◌≡◌, ℕ, max, nat_le, Bool, true, false, cond, List, [], ◌∷◌, map, filter, find, fold, Option, Some, None, option_map, refl, sym, ap, ◌∙◌}
use Rattle.mapping_records.specs.Eids.{covers_prefix, longer, same_eid}
use Rattle.mapping_records.specs.declared.eid.Eid.{Eid}
use Rattle.map_cache.specs.Cache as cache
use Rattle.map_cache.specs.Cache.{lasting}
use Rattle.request_queue.specs.Queue.{waiting}
use Rattle.router_model.specs.Cache.{held_of}
use Rattle.router_model.specs.Mappings.{Held, exact, force}
use Rattle.router_model.specs.Parts.{Parts, view_in}

module _ {A B : Type 0} (f : A → B) (key : B → Eid) where
  longer-map : (best : Option A) (next : A) → longer key (option_map f best) (f next) ≡ option_map f (longer (λ a. key (f a)) best next)
  longer-map None next = refl
  longer-map (Some best) next = by (nat_le (key (f next)).prefix.len (key (f best)).prefix.len)
    where
      by : (b : Bool) → cond b (Some (f best)) (Some (f next)) ≡ option_map f (cond b (Some best) (Some next))
      by true = refl
      by false = refl

  fold-map : (test : Eid → Bool) (best : Option A) (items : List A) → fold (longer key) (option_map f best) (filter (λ b. test (key b)) (map f items)) ≡ option_map f (fold (longer (λ a. key (f a))) best (filter (λ a. test (key (f a))) items))
  fold-map test best [] = refl
  fold-map test best (a ∷ items) = by (test (key (f a))) (fold-map test best items) (fold-map test (longer (λ a. key (f a)) best a) items)
    where
      rest : List B
      rest = filter (λ b. test (key b)) (map f items)

      others : List A
      others = filter (λ a. test (key (f a))) items

      by : (b : Bool) → fold (longer key) (option_map f best) rest ≡ option_map f (fold (longer (λ a. key (f a))) best others) → fold (longer key) (option_map f (longer (λ a. key (f a)) best a)) rest ≡ option_map f (fold (longer (λ a. key (f a))) (longer (λ a. key (f a)) best a) others) → fold (longer key) (option_map f best) (cond b (f a ∷ rest) rest) ≡ option_map f (fold (longer (λ a. key (f a))) best (cond b (a ∷ others) others))
      by true h g = ap (λ o. fold (longer key) o rest) (longer-map best a) ∙ g
      by false h g = h

  find-map : (test : Eid → Bool) (items : List A) → find (λ b. test (key b)) (map f items) ≡ option_map f (find (λ a. test (key (f a))) items)
  find-map test [] = refl
  find-map test (a ∷ items) = by (test (key (f a))) (find-map test items)
    where
      by : (b : Bool) → find (λ b. test (key b)) (map f items) ≡ option_map f (find (λ a. test (key (f a))) items) → cond b (Some (f a)) (find (λ b. test (key b)) (map f items)) ≡ option_map f (cond b (Some a) (find (λ a. test (key (f a))) items))
      by true h = refl
      by false h = h

-- the mapping in force
pub force-seen : (p : Parts) (m : ℕ) (eid : Eid) → option_map held_of (cache.in_force (lasting (max m p.now) p.mappings) eid) ≡ force (view_in p m).mappings eid.iid eid.prefix.addr eid.prefix.len
unfolding view_in
force-seen p m eid = sym (fold-map held_of (λ (held : Held). held.eid) (λ key. covers_prefix key eid.iid eid.prefix.addr eid.prefix.len) None (lasting (max m p.now) p.mappings))

-- that of an EID
pub exact-seen : (p : Parts) (m : ℕ) (eid : Eid) → option_map held_of (cache.exact (lasting (max m p.now) p.mappings) eid) ≡ exact (view_in p m).mappings eid
unfolding view_in
exact-seen p m eid = sym (find-map held_of (λ (held : Held). held.eid) (λ key. same_eid key eid) (lasting (max m p.now) p.mappings))

-- the requests and nonces of a view
pub requests-seen : (p : Parts) (m : ℕ) → (view_in p m).requests ≡ waiting (max m p.now) p.requests
unfolding view_in
requests-seen p m = refl

pub drawn-seen : (p : Parts) (m : ℕ) → (view_in p m).drawn ≡ p.drawn
unfolding view_in
drawn-seen p m = refl
