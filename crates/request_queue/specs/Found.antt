-- How requests are found: by nonce and by EID. No public clause cites this file.
use Rattle.std.specs.Prelude.{◌≡◌, ◌+◌, ℕ, Bool, List, fold, length, max, min, Option, None, Some, if◌then◌else◌}
use Rattle.std.specs.List.{list_any}
use Rattle.keyed_list.specs.Keyed.{greater}
use Rattle.keyed_list.specs.Keys.{eid_key, nonce_key}
use Rattle.keyed_list.specs.declared.keyed.Marks.{Marks}
use Rattle.mapping_records.specs.Eids.{same_eid}
use Rattle.mapping_records.specs.declared.eid.Eid.{Eid}
use Rattle.prefix_table.specs.Pairs.{Ascends, value_in, with_pair, without_pair}
use Rattle.request_queue.specs.Terms.{AreTerms}
use Rattle.request_queue.specs.declared.index.Index.{Index}
use Rattle.request_queue.specs.declared.request.Request.{Request}

abbrev pub request_marks : Request → Marks
request_marks request = record { moment = request.start; key = nonce_key request.nonce; other = Some (eid_key request.eid) }

-- whether one of the requests is for that EID
abbrev pub asks_for : Eid → List Request → Bool
asks_for eid requests = list_any (λ request. same_eid request.eid eid) requests

-- the latest start so far, or that of a request where it is for that EID and later
abbrev pub later_start : Eid → Option ℕ → Request → Option ℕ
later_start eid best request = if same_eid request.eid eid then Some (greater best request.start) else best

-- the latest start of the requests for an EID
abbrev pub latest_start : Eid → List Request → Option ℕ
latest_start eid requests = fold (later_start eid) None requests

-- pairs in which an EID has that latest start, or is absent
abbrev pub with_latest : Eid → Option ℕ → List (Eid × ℕ) → List (Eid × ℕ)
with_latest eid None pairs = without_pair eid pairs
with_latest eid (Some start) pairs = with_pair eid start pairs

-- the trie has each EID of a request, with the latest start of its requests
pub record AreEids (pairs : List (Eid × ℕ)) (requests : List Request) : Type 0 where
  pub ascends : Ascends pairs
  pub each : (eid : Eid) → value_in eid pairs ≡ latest_start eid requests

-- ### both, and room in them

-- the index is that of these requests
pub record AreFound (index : Index) (requests : List Request) : Type 0 where
  pub eids : AreEids index.eids.pairs requests
  pub terms : AreTerms index.terms.keys requests

-- for how many requests each part of the index has place
abbrev pub least_of : Index → ℕ
least_of index = min (length index.eids.pairs + index.eids.spare) (length index.terms.keys + index.terms.spare)

-- for how many requests the part with the most place has place
abbrev pub places_of : Index → ℕ
places_of index = max (length index.eids.pairs + index.eids.spare) (length index.terms.keys + index.terms.spare)

-- how many items the index has in all
abbrev pub kept_of : Index → ℕ
kept_of index = index.eids.kept + index.terms.kept
