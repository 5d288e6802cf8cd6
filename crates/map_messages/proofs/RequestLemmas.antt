-- Map-Requests: their parts one after another.
use Rattle.std.proofs.Common.{◌≡◌, ℕ, ◌+◌, Bool, List, ◌++◌, drop, Some, None, refl, sym, ap, subst, ◌∙◌}
use Rattle.std.specs.Prelude.{Err}
use Rattle.octets.specs.Rules.{first_failing}
use Rattle.octets.specs.declared.refused.Refused.{Refused}
use Rattle.octets.proofs.RuleLemmas.{first_failing-append, first_failing-append_refused}
use Rattle.mapping_records.specs.Eid.{eid_size}
use Rattle.mapping_records.specs.Record.{record_size, RefusesBy}
use Rattle.mapping_records.specs.declared.fault.RecordFault.{RecordFault}
use Rattle.mapping_records.specs.declared.fault.RecordFault.TheVariants as fault
use Rattle.map_messages.specs.Items.{items_rules, items_size, AreItems}
use Rattle.map_messages.specs.Request.{addr_count, addrs_place, addrs_rules, asked_eid_size, eid_count, eids_place, eids_rules, piggyback_rules, record_count, record_place, reply_addr_size, request_rules, request_size, source_rules}
use Rattle.map_messages.proofs.ItemsLemmas.{Rules, Size}

-- a table that refuses refuses with what follows, at any type of value
refuses-append : (T U : Type 0) (front back : List (Bool × Refused)) (f : RecordFault) → RefusesBy {T = T} (first_failing front) (Err f) → RefusesBy {T = U} (first_failing (front ++ back)) (Err f)
refuses-append T U front back (fault.Refused r) some = first_failing-append_refused front back r some
refuses-append T U front back fault.Memory some = tt

-- the refusal of one table is that of another
pub refuses_as : (T U : Type 0) (a b : List (Bool × Refused)) (f : RecordFault) → first_failing a ≡ first_failing b → RefusesBy {T = T} (first_failing b) (Err f) → RefusesBy {T = U} (first_failing a) (Err f)
refuses_as T U a b (fault.Refused r) same some = same ∙ some
refuses_as T U a b fault.Memory same some = tt

-- the Source EID is refused
pub source_fault : (U : Type 0) (base : ℕ) (octets : List ℕ) (r : Refused) → first_failing (source_rules base octets) ≡ Some r
    → RefusesBy {T = U} (first_failing (request_rules base octets)) (Err (fault.Refused r))
unfolding request_rules
source_fault U base octets r some =
    first_failing-append_refused (source_rules base octets) (addrs_rules base octets ++ (eids_rules base octets ++ piggyback_rules base octets)) r some

-- behind the Source EID the rest counts
behind_source : (base : ℕ) (octets : List ℕ) → first_failing (source_rules base octets) ≡ None
    → first_failing (request_rules base octets) ≡ first_failing (addrs_rules base octets ++ (eids_rules base octets ++ piggyback_rules base octets))
unfolding request_rules
behind_source base octets source =
    first_failing-append (source_rules base octets) (addrs_rules base octets ++ (eids_rules base octets ++ piggyback_rules base octets)) source

-- the ITR-RLOCs are refused
pub addrs_fault : (T U : Type 0) (base : ℕ) (octets : List ℕ) (f : RecordFault) → first_failing (source_rules base octets) ≡ None
    → RefusesBy {T = T} (first_failing (addrs_rules base octets)) (Err f) → RefusesBy {T = U} (first_failing (request_rules base octets)) (Err f)
addrs_fault T U base octets f source some =
    refuses_as T U (request_rules base octets) (addrs_rules base octets ++ (eids_rules base octets ++ piggyback_rules base octets)) f (behind_source base octets source)
    (refuses-append T T (addrs_rules base octets) (eids_rules base octets ++ piggyback_rules base octets) f some)

-- behind the ITR-RLOCs the rest counts
behind_addrs : (base : ℕ) (octets : List ℕ) → first_failing (source_rules base octets) ≡ None → first_failing (addrs_rules base octets) ≡ None
    → first_failing (request_rules base octets) ≡ first_failing (eids_rules base octets ++ piggyback_rules base octets)
behind_addrs base octets source addrs =
    behind_source base octets source ∙ first_failing-append (addrs_rules base octets) (eids_rules base octets ++ piggyback_rules base octets) addrs

-- the EID records are refused
pub eids_fault : (T U : Type 0) (base : ℕ) (octets : List ℕ) (f : RecordFault) → first_failing (source_rules base octets) ≡ None → first_failing (addrs_rules base octets) ≡ None
    → RefusesBy {T = T} (first_failing (eids_rules base octets)) (Err f) → RefusesBy {T = U} (first_failing (request_rules base octets)) (Err f)
eids_fault T U base octets f source addrs some =
    refuses_as T U (request_rules base octets) (eids_rules base octets ++ piggyback_rules base octets) f (behind_addrs base octets source addrs)
    (refuses-append T T (eids_rules base octets) (piggyback_rules base octets) f some)

-- behind the EID records the Map-Reply record counts
pub behind_eids : (base : ℕ) (octets : List ℕ) → first_failing (source_rules base octets) ≡ None → first_failing (addrs_rules base octets) ≡ None
    → first_failing (eids_rules base octets) ≡ None → first_failing (request_rules base octets) ≡ first_failing (piggyback_rules base octets)
behind_eids base octets source addrs eids =
    behind_addrs base octets source addrs ∙ first_failing-append (eids_rules base octets) (piggyback_rules base octets) eids

-- the ITR-RLOCs begin behind the Source EID
pub behind_source_place : (octets rest : List ℕ) (size : ℕ) → rest ≡ drop 12 octets → size ≡ eid_size rest → 12 + size ≡ addrs_place octets
unfolding addrs_place
behind_source_place octets rest size back is = ap (λ (n : ℕ). 12 + n) (is ∙ ap (λ (d : List ℕ). eid_size d) back)

-- the EID records begin behind the ITR-RLOCs
pub eids_place_is : (octets : List ℕ) → eids_place octets ≡ addrs_place octets + items_size reply_addr_size (addr_count octets) (drop (addrs_place octets) octets)
unfolding eids_place
eids_place_is octets = refl

-- the Map-Reply record begins behind the EID records
pub record_place_is : (octets : List ℕ) → record_place octets ≡ eids_place octets + items_size asked_eid_size (eid_count octets) (drop (eids_place octets) octets)
unfolding record_place
record_place_is octets = refl

-- the Map-Request ends behind its record
pub request_size_is : (octets : List ℕ) → request_size octets ≡ record_place octets + items_size record_size (record_count octets) (drop (record_place octets) octets)
unfolding request_size
request_size_is octets = refl

-- items at a place that was counted
pub record PartRead {T : Type 0} (Is : List ℕ → T → Type 0) (rules : Rules) (size : Size) (count base place : ℕ) (octets : List ℕ) (items : List T) (end : ℕ) : Type 0 where
  pub pass : first_failing (items_rules rules size count (base + place) (drop place octets)) ≡ None
  pub are : AreItems Is size count (drop place octets) items
  pub next : end ≡ place + items_size size count (drop place octets)

-- the rules at a place that was counted
same_rules : (rules : Rules) (size : Size) (count base at place : ℕ) (octets rest : List ℕ) → at ≡ place → rest ≡ drop at octets
    → first_failing (items_rules rules size count (base + place) (drop place octets)) ≡ first_failing (items_rules rules size count (base + at) rest)
same_rules rules size count base at place octets rest at_is back =
    sym (
    ap (λ (d : List ℕ). first_failing (items_rules rules size count (base + at) d)) back
    ∙ ap (λ (p : ℕ). first_failing (items_rules rules size count (base + p) (drop p octets))) at_is
    )

-- items that were read at a place that was counted
pub part_read : {T : Type 0} (Is : List ℕ → T → Type 0) (rules : Rules) (size : Size) (count base at place n : ℕ) (octets rest : List ℕ) (items : List T)
    → at ≡ place → rest ≡ drop at octets → first_failing (items_rules rules size count (base + at) rest) ≡ None
    → AreItems Is size count rest items → n ≡ items_size size count rest → PartRead Is rules size count base place octets items (at + n)
part_read Is rules size count base at place n octets rest items at_is back none are size_is =
    let rest_is : rest ≡ drop place octets = back ∙ ap (λ (p : ℕ). drop p octets) at_is in
    record {
      pass = same_rules rules size count base at place octets rest at_is back ∙ none;
      are = subst (λ (d : List ℕ). AreItems Is size count d items) rest_is are;
      next = ap (λ (p : ℕ). p + n) at_is ∙ ap (λ (k : ℕ). place + k) (size_is ∙ ap (λ (d : List ℕ). items_size size count d) rest_is);
    }
