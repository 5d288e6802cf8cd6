-- Tables of settings as they are written: members in ascending order of keys, and arrays of tables.
use Rattle.std.specs.Prelude.{◌≡◌, ◌≤◌, ℕ, pos, true, codes, List, [], length, Option, Some, None, Result, Ok}
use Rattle.std.specs.Cmp.Lexicographic.{slice_cmp}
use Rattle.std.specs.Ordering.{match_ordering, nat_cmp}
use Rattle.std.specs.declared.cmp.Ordering.{Ordering}
use Rattle.toml.specs.Data.{Data, array, boolean, integer, string, Items, Members, no_members, member, items_depth, items_have_valid_dates, members_depth, members_have_valid_dates}
use Rattle.ip_headers.specs.declared.addr.Addr.{Addr}
use Rattle.mapping_records.specs.declared.eid.Eid.{Eid}
use Rattle.lisp_settings.specs.AddressText.{address_of, prefix_of}
use Rattle.lisp_settings.specs.Hex.{hex_octets}
use Rattle.lisp_settings.specs.Lists.{count, each, each_nonce}
use Rattle.lisp_settings.specs.Values.{are_tables}
use Rattle.lisp_settings.specs.declared.fault.SettingsFault.{SettingsFault}
use Rattle.lisp_settings.specs.declared.settings.Settings.{Settings}

-- the members of a table with a value put at a key, in ascending order of keys
abbrev pub with_member : List ℕ → Data → Members → Members
with_member key value no_members = member key value no_members
with_member key value (member other old more) =
    match_ordering (slice_cmp nat_cmp key other) (member key value (member other old more))
    (member other value more) (member other old (with_member key value more))

-- members that can be printed: at most `most` levels of arrays and tables inside, and only valid dates
pub record IsPlain (most : ℕ) (members : Members) : Type 0 where
  pub depth : members_depth members ≤ most
  pub dates : members_have_valid_dates members ≡ true

-- an array of tables that reads as these items, and that can be printed
pub record IsArrayOf {A K : Type 0} (read : Members → Result A SettingsFault) (key : A → K)
    (order : K → K → Ordering) (most : ℕ) (items : List A) (array : Items) : Type 0 where
  pub tables : are_tables array ≡ true
  pub number : count array ≡ length items
  pub reads : (list : List ℕ) → each list read key order [] array ≡ Ok items
  pub depth : items_depth array ≤ most
  pub dates : items_have_valid_dates array ≡ true

-- a table with an EID alone, its prefix as a text
pub record IsEidTable (eid : Eid) (table : Members) : Type 0 where
  pub text : List ℕ
  pub prefix : prefix_of text ≡ Some eid.prefix
  pub members : table ≡ with_member (codes "prefix") (string text)
      (with_member (codes "iid") (integer (pos eid.iid)) no_members)

-- an array of texts that reads as these nonces, and that can be printed
pub record IsNonceArray (nonces : List ℕ) (array : Items) : Type 0 where
  pub number : count array ≡ length nonces
  pub reads : (list : List ℕ) → each_nonce list [] array ≡ Ok nonces
  pub depth : items_depth array ≤ 0
  pub dates : items_have_valid_dates array ≡ true

-- a table with the resolver alone; an empty table without one
abbrev pub IsResolverTable : Option Addr → Members → Type 0
IsResolverTable None table = table ≡ no_members
IsResolverTable (Some addr) table =
    (text : List ℕ) × (address_of text ≡ Some addr)
    × (table ≡ with_member (codes "resolver") (string text) no_members)

-- a table with the settings that are no lists of tables
pub record IsFrontTable (settings : Settings) (table : Members) : Type 0 where
  pub seed : List ℕ
  pub seed_reads : hex_octets 32 seed ≡ Some settings.seed
  pub nonces : Items
  pub nonces_read : IsNonceArray settings.nonces nonces
  pub resolver : Members
  pub resolver_reads : IsResolverTable settings.resolver resolver
  pub members : table ≡ with_member (codes "echo") (boolean settings.echo)
      (with_member (codes "probe") (boolean settings.probe)
      (with_member (codes "ttl") (integer (pos settings.ttl))
      (with_member (codes "nonces") (array nonces)
      (with_member (codes "seed") (string seed) resolver))))
