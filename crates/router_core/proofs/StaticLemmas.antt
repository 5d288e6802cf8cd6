-- The table of the static mappings, one mapping after another.
use Rattle.std.proofs.Common.{◌≡◌, ℕ, suc, ◌<◌, ◌≤◌, ◌==◌, ◌||◌, ◌&&◌, not, nat_lt, Bool, true, false, cond, IsTrue, List, [], ◌∷◌, ◌++◌, length, map, filter, is_some, is_lt, refl, sym, ap, subst, ◌∙◌, arith}
use Rattle.std.proofs.lemmas.Bool.Decides.{nat_tests}
use Rattle.std.proofs.lemmas.List.{map-append}
use Rattle.std.proofs.lemmas.List.Sums.{count_by-le-length, length-filter}
use Rattle.lisp_settings.specs.declared.settings.LimitItem.{LimitItem}
use Rattle.lisp_settings.specs.declared.settings.Settings.{Settings}
use Rattle.mapping_records.specs.Eids.{same_eid}
use Rattle.mapping_records.specs.Orders.{eid_order, put_in_order}
use Rattle.mapping_records.specs.declared.record.Record.{Record}
use Rattle.map_cache.specs.Cache.{exact, fresh, has_room, lasting, lasts, without_eid}
use Rattle.map_cache.specs.declared.mapping.Mapping.{Mapping}
use Rattle.router_log.specs.declared.entry.Entry.{Entry}
use Rattle.router_log.specs.declared.entry.Entry.TheVariants.{Learned}
use Rattle.router_model.specs.Journal.{Journal, extended, last_moment}
use Rattle.router_model.specs.Parts.{Parts, parts_in, with_entry}
use Rattle.router_model.proofs.PartsLemmas.{with-entry}
use Rattle.router_core.proofs.EntryLemmas.{absorb-learned}

-- the entry of a static mapping
abbrev static : Record → Entry
static mapping = Learned 0 mapping true

-- the journal of these
abbrev pub journal_of : List Record → Journal
journal_of mappings = extended [] (map (λ mapping. Learned 0 mapping true) mappings)

extended-more : (journal : Journal) (entries : List Entry) (entry : Entry) → extended journal (entries ++ entry ∷ []) ≡ entry ∷ extended journal entries
extended-more journal [] entry = refl
extended-more journal (first ∷ entries) entry = extended-more (first ∷ journal) entries entry

journal-more : (mappings : List Record) (mapping : Record) → journal_of (mappings ++ mapping ∷ []) ≡ static mapping ∷ journal_of mappings
journal-more mappings mapping = ap (extended []) (map-append static mappings (mapping ∷ [])) ∙ extended-more [] (map static mappings) (static mapping)

first-moment : (journal : Journal) (mappings : List Record) → last_moment journal ≤ 0 → last_moment (extended journal (map static mappings)) ≤ 0
first-moment journal [] first = first
first-moment journal (mapping ∷ mappings) first = first-moment (static mapping ∷ journal) mappings (omega arith)

-- one more
pub static-parts : (settings : Settings) (mappings : List Record) (mapping : Record) (p : Parts) → p ≡ parts_in settings (journal_of mappings) → with_entry (Learned 0 mapping true) p ≡ parts_in settings (journal_of (mappings ++ mapping ∷ []))
static-parts settings mappings mapping p is =
    ap (with_entry (static mapping)) is
    ∙ with-entry settings (journal_of mappings) (static mapping) (first-moment [] mappings (omega arith))
    ∙ ap (parts_in settings) (sym (journal-more mappings mapping))

put-length : (mapping : Mapping) (ms : List Mapping) → length (put_in_order (λ (item : Mapping). item.eid) eid_order mapping ms) ≤ suc (length ms)
put-length mapping [] = omega arith
put-length mapping (next ∷ ms) = by (is_lt (eid_order mapping.eid next.eid)) (put-length mapping ms)
  where
    by : (b : Bool) → length (put_in_order (λ (item : Mapping). item.eid) eid_order mapping ms) ≤ suc (length ms) → length (cond b (mapping ∷ next ∷ ms) (next ∷ put_in_order (λ (item : Mapping). item.eid) eid_order mapping ms)) ≤ suc (suc (length ms))
    by true h = omega (arith, h)
    by false h = omega (arith, h)

left-few : (test : Mapping → Bool) (ms : List Mapping) → length (filter test ms) ≤ length ms
left-few test ms = omega (arith, length-filter test ms, count_by-le-length test ms)

-- a mapping that is learned is at most one more
pub static-few : (mapping : Record) (p : Parts) → length (with_entry (Learned 0 mapping true) p).mappings ≤ suc (length p.mappings)
static-few mapping p =
    subst (λ (l : List Mapping). length l ≤ suc (length p.mappings)) (sym (absorb-learned 0 mapping true p.mappings))
    (let a = put-length (fresh 0 mapping true) (without_eid mapping.eid (lasting 0 p.mappings)) in
    let b = left-few (λ (m : Mapping). not (same m)) (lasting 0 p.mappings) in
    let c = left-few (lasts 0) p.mappings in
    omega (arith, a, b, c))
  where
    same : Mapping → Bool
    same m = same_eid m.eid mapping.eid

-- below the limit there is place
pub static-place : (limits : List LimitItem) (mapping : Record) (ms : List Mapping) → length ms < 65536 → IsTrue (has_room limits mapping true (lasting 0 ms))
static-place limits mapping ms few = by (mapping.ttl == 0) (is_some (exact (lasting 0 ms) mapping.eid)) (nat_lt (length (lasting 0 ms)) 65536) (below (length (lasting 0 ms)) (let less = left-few (lasts 0) ms in omega (arith, less, few)))
  where
    below : (n : ℕ) → n < 65536 → nat_lt n 65536 ≡ true
    below n less = grind (arith, nat_tests)

    by : (a b c : Bool) → c ≡ true → IsTrue (a || (b || (c && true)))
    by true b c is = refl
    by false true c is = refl
    by false false c is = rw is refl
