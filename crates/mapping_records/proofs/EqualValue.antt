-- Prefixes, EIDs and records with equal fields are equal.
use Rattle.std.proofs.Common.{◌≡◌, ◌<◌, ◌^◌, ℕ, true, IsTrue, refl, ap, subst, ◌∙◌}
use Rattle.std.proofs.Math.Bool.{Bool-set}
use Rattle.std.proofs.Math.Bridge.{le_prop}
use Rattle.ip_headers.specs.Addr.{is_prefix}
use Rattle.ip_headers.specs.declared.addr.Addr.{Addr}
use Rattle.ip_headers.specs.declared.prefix.Prefix.{Prefix}
use Rattle.mapping_records.specs.declared.eid.Eid.{Eid}
use Rattle.mapping_records.specs.declared.record.Record.{Record}

abbrev made_prefix : (addr : Addr) (len : ℕ) → IsTrue (is_prefix addr len) → Prefix
made_prefix addr len lawful = record { addr = addr; len = len; lawful = lawful }

same_parts : (addr a : Addr) (len n : ℕ) (p : IsTrue (is_prefix addr len)) → addr ≡ a → len ≡ n → (q : IsTrue (is_prefix a n)) → made_prefix addr len p ≡ made_prefix a n q
same_parts addr a len n p addr_is len_is =
    let first : (q : IsTrue (is_prefix addr n)) → made_prefix addr len p ≡ made_prefix addr n q =
    subst (λ (m : ℕ). (q : IsTrue (is_prefix addr m)) → made_prefix addr len p ≡ made_prefix addr m q) len_is (λ q. ap (made_prefix addr len) (Bool-set _ true p q)) in
    subst (λ (x : Addr). (q : IsTrue (is_prefix x n)) → made_prefix addr len p ≡ made_prefix x n q) addr_is first

pub equal_prefix : (a b : Prefix) → a.addr ≡ b.addr → a.len ≡ b.len → a ≡ b
equal_prefix a b addr len = same_parts a.addr b.addr a.len b.len a.lawful addr len b.lawful

abbrev made_eid : (iid : ℕ) (prefix : Prefix) → iid < 2 ^ 24 → Eid
made_eid iid prefix in_range = record { iid = iid; prefix = prefix; in_range = in_range }

same_fields : (iid i : ℕ) (prefix : Prefix) (p : iid < 2 ^ 24) → iid ≡ i → (q : i < 2 ^ 24) → made_eid iid prefix p ≡ made_eid i prefix q
same_fields iid i prefix p is =
    subst (λ (x : ℕ). (q : x < 2 ^ 24) → made_eid iid prefix p ≡ made_eid x prefix q) is (λ q. ap (made_eid iid prefix) (le_prop p q))

pub equal_eid : (a b : Eid) → a.iid ≡ b.iid → a.prefix ≡ b.prefix → a ≡ b
equal_eid a b iid prefix =
    same_fields a.iid b.iid a.prefix a.in_range iid b.in_range ∙ ap (λ (p : Prefix). made_eid b.iid p b.in_range) prefix

pub equal_record : (a b : Record) → a.ttl ≡ b.ttl → a.action ≡ b.action → a.authoritative ≡ b.authoritative → a.version ≡ b.version → a.eid ≡ b.eid → a.locators ≡ b.locators → a ≡ b
equal_record a b ttl action authoritative version eid locators =
    rw (ttl, action, authoritative, version, eid, locators) refl
