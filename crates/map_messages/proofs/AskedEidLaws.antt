-- EID records: what is spelled is read, what is read is spelled, and what is written is spelled.
use Rattle.std.proofs.Common.{◌≡◌, ℕ, ◌+◌, Bool, List, [], ◌∷◌, ◌++◌, length, drop, slice_index, leb, None, Some, refl, sym, ap, ◌∙◌, arith}
use Rattle.std.proofs.lemmas.Bool.{le-leb, leb-true}
use Rattle.octets.specs.Rules.{first_failing}
use Rattle.octets.specs.declared.refused.Refused.{Refused}
use Rattle.octets.specs.declared.refused.Why.TheVariants.{Short}
use Rattle.octets.proofs.RuleLemmas.{all_hold}
use Rattle.ip_headers.specs.Addr.{IsAddr}
use Rattle.mapping_records.specs.Address.{refused}
use Rattle.mapping_records.specs.Eid.{canonical_eid, eid_size}
use Rattle.mapping_records.specs.Record.{eid_prefix_rules}
use Rattle.mapping_records.specs.declared.eid.Eid.{Eid}
use Rattle.mapping_records.proofs.EidPrefixLemmas.{prefix_is_spelled, prefix_spells, same_eid_at, some_prefix, spelled_prefix}
use Rattle.mapping_records.proofs.SpelledRecord.{back_passes, front_passes}
use Rattle.map_messages.specs.Request.{asked_eid_rules, asked_eid_size, canonical_asked_eid, IsAskedEid, SpellsAskedEid}
use Rattle.map_messages.proofs.ItemLaws.{ItemRead}

-- what is spelled is read
pub spelled_asked : (octets : List ℕ) (eid : Eid) (n : ℕ) → SpellsAskedEid octets eid n → ItemRead IsAskedEid asked_eid_rules asked_eid_size octets eid n
spelled_asked octets eid n s =
    let read = spelled_prefix (drop 2 octets) (slice_index octets 1) eid s.eid_octets s.prefix in
    record {
      pass = λ base. rw (le-leb 2 (length octets) s.head) (read.rules (base + 2) (base + 1));
      value = read.value;
      end = ap (λ (k : ℕ). 2 + k) (sym read.end) ∙ sym s.end;
    }

-- the rules of the EID behind the first two octets
prefix_passes : (base : ℕ) (octets : List ℕ) → first_failing (asked_eid_rules base octets) ≡ None
    → first_failing (eid_prefix_rules (base + 2) (drop 2 octets) (slice_index octets 1) (base + 1)) ≡ None
prefix_passes base octets none =
    back_passes ((leb 2 (length octets), refused base Short) ∷ []) (eid_prefix_rules (base + 2) (drop 2 octets) (slice_index octets 1) (base + 1)) none

-- what is read is spelled
pub asked_is_spelled : (base : ℕ) (octets : List ℕ) (eid : Eid) → first_failing (asked_eid_rules base octets) ≡ None → IsAskedEid octets eid
    → SpellsAskedEid octets eid (asked_eid_size octets)
asked_is_spelled base octets eid none at =
    let head : List (Bool × Refused) = (leb 2 (length octets), refused base Short) ∷ [] in
    let prefix : List (Bool × Refused) = eid_prefix_rules (base + 2) (drop 2 octets) (slice_index octets 1) (base + 1) in
    record {
      head = leb-true _ _ (all_hold head (front_passes head prefix none)).0;
      eid_octets = eid_size (drop 2 octets);
      prefix = prefix_is_spelled (base + 2) (drop 2 octets) (slice_index octets 1) (base + 1) eid (prefix_passes base octets none) at;
      end = refl;
    }

-- an EID record is there
pub some_asked : (base : ℕ) (octets : List ℕ) → first_failing (asked_eid_rules base octets) ≡ None → (eid : Eid) × IsAskedEid octets eid
some_asked base octets none = some_prefix (base + 2) (drop 2 octets) (slice_index octets 1) (base + 1) (prefix_passes base octets none)

-- the EID at the front is one
pub same_asked : (octets : List ℕ) (a b : Eid) → IsAskedEid octets a → IsAskedEid octets b → a ≡ b
same_asked octets a b s t = same_eid_at (drop 2 octets) (slice_index octets 1) a b s t

-- what is written is spelled
pub asked_spells : (eid : Eid) (rest : List ℕ) → IsAddr eid.prefix.addr → SpellsAskedEid (canonical_asked_eid eid ++ rest) eid (length (canonical_asked_eid eid))
asked_spells eid rest lawful = record {
  head = omega arith;
  eid_octets = length (canonical_eid eid.iid (Some eid.prefix.addr));
  prefix = prefix_spells eid rest lawful;
  end = omega arith;
}
