-- EIDs: which are the same, which cover which, and the longest that covers a prefix (RFC 9301, section 5).
use Rattle.std.specs.Prelude.{ℕ, ◌≤◌, ◌==◌, ◌&&◌, nat_le, Bool, IsTrue, List, All, Contains, filter, find, fold, Option, Some, None, if◌then◌else◌}
use Rattle.ip_headers.specs.Addr.{covers}
pub use Rattle.ip_headers.specs.Addr.{same_address}
use Rattle.ip_headers.specs.declared.addr.Addr.{Addr}
use Rattle.mapping_records.specs.declared.eid.Eid.{Eid}

-- whether two EIDs are the same prefix of one instance
abbrev pub same_eid : Eid → Eid → Bool
same_eid a b =
    (a.iid == b.iid) && (same_address a.prefix.addr b.prefix.addr && (a.prefix.len == b.prefix.len))

-- whether an EID covers the prefix of that length of an instance
abbrev pub covers_prefix : Eid → ℕ → Addr → ℕ → Bool
covers_prefix eid iid addr len = (eid.iid == iid) && covers eid.prefix.addr eid.prefix.len addr len

-- whether an EID covers another, which lies within it; each covers itself
abbrev pub covers_eid : Eid → Eid → Bool
covers_eid a b = covers_prefix a b.iid b.prefix.addr b.prefix.len

module _ {A : Type 0} (key : A → Eid) where
  -- the item with exactly that EID
  abbrev pub exactly : List A → Eid → Option A
  exactly items eid = find (λ item. same_eid (key item) eid) items

  -- the item with the longer prefix of two, of equals the first, or the second where there is no first
  abbrev pub longer : Option A → A → Option A
  longer None next = Some next
  longer (Some best) next =
      if nat_le (key next).prefix.len (key best).prefix.len then Some best else Some next

  -- the item with the longest prefix that covers a prefix of an instance
  abbrev pub longest : List A → ℕ → Addr → ℕ → Option A
  longest items iid addr len =
      fold longer None (filter (λ item. covers_prefix (key item) iid addr len) items)

  -- an item doesn't cover the prefix, or is no longer than the best
  abbrev pub IsNoLonger : ℕ → Addr → ℕ → A → A → Type 0
  IsNoLonger iid addr len best item =
      IsTrue (covers_prefix (key item) iid addr len) → (key item).prefix.len ≤ (key best).prefix.len

  -- an item of the list that covers the prefix, where no item that covers it is longer
  pub record IsLongest (items : List A) (iid : ℕ) (addr : Addr) (len : ℕ) (best : A) : Type 0 where
    pub one : Contains items best
    pub covering : IsTrue (covers_prefix (key best) iid addr len)
    pub none_longer : All (IsNoLonger iid addr len best) items
