-- The map of a table as members in order, and members that can be printed.
use Rattle.std.proofs.Common.{◌≡◌, ◌≤◌, ℕ, true, nat_cmp, arith, List, [], ◌∷◌, String, Global, Ordering, Less, Equal, Greater, string_bytes, refl, ◌∙◌}
use Rattle.std.proofs.lemmas.Bool.{and_from, and_parts}
use Rattle.std.specs.BTreeMap.{insert_entry}
use Rattle.std.specs.Cmp.Lexicographic.{slice_cmp}
use Rattle.std.specs.Ordering.{match_ordering}
use Rattle.std.specs.String.{string_cmp}
use Rattle.toml.proofs.Views.{Entry}
use Rattle.toml.specs.Data.{Data, Members, no_members, member, depth, has_valid_dates, members_have_valid_dates}
use Rattle.toml.specs.View.{view, members_view}
use Rattle.toml.specs.declared.value.Value.{Value}
use Rattle.lisp_settings.specs.Writing.{with_member, IsPlain}

-- members by cases
match_members : (o : Ordering) (below same above : List Entry) → members_view (match_ordering o below same above) ≡ match_ordering o (members_view below) (members_view same) (members_view above)
match_members Less below same above = refl
match_members Equal below same above = refl
match_members Greater below same above = refl

-- an entry more is a member more
pub members_view-insert_entry : (entries : List Entry) (key : String Global) (value : Value) → members_view (insert_entry string_cmp entries key value) ≡ with_member (string_bytes key) (view value) (members_view entries)
members_view-insert_entry [] key value = refl
members_view-insert_entry (entry ∷ entries) key value = match_members (string_cmp key entry.0) _ _ _ ∙ rw (members_view-insert_entry entries key value) refl

-- no members are printed
pub no_members-plain : (most : ℕ) → IsPlain most no_members
no_members-plain most = record { depth = omega arith; dates = refl }

module _ (most : ℕ) where
  -- a member in front that can be printed
  plain_member : (key : List ℕ) (value : Data) (more : Members) → depth value ≤ most → has_valid_dates value ≡ true → IsPlain most more → IsPlain most (member key value more)
  plain_member key value more deep dates rest = record { depth = omega (arith, rest.depth); dates = and_from _ _ dates rest.dates }

  -- what is behind the first member
  plain_rest : (key : List ℕ) (value : Data) (more : Members) → IsPlain most (member key value more) → IsPlain most more
  plain_rest key value more is = record { depth = omega (arith, is.depth); dates = (and_parts (has_valid_dates value) (members_have_valid_dates more) is.dates).1 }

  -- a member more that can be printed
  pub with_member-plain : (key : List ℕ) (value : Data) (members : Members) → depth value ≤ most → has_valid_dates value ≡ true → IsPlain most members → IsPlain most (with_member key value members)
  with_member-plain key value no_members deep dates is = plain_member key value no_members deep dates is
  with_member-plain key value (member other old more) deep dates is =
      let rest = plain_rest other old more is in
      let first : depth old ≤ most = omega (arith, is.depth) in
      let valid = (and_parts (has_valid_dates old) (members_have_valid_dates more) is.dates).0 in
      by (slice_cmp nat_cmp key other) (plain_member key value (member other old more) deep dates is) (plain_member other value more deep dates rest) (plain_member other old (with_member key value more) first valid (with_member-plain key value more deep dates rest))
    where
      by : (o : Ordering) → {below same above : Members} → IsPlain most below → IsPlain most same → IsPlain most above → IsPlain most (match_ordering o below same above)
      by Less b s a = b
      by Equal b s a = s
      by Greater b s a = a
