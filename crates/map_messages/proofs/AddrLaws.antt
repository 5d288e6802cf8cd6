-- ITR-RLOCs: what is spelled is read, what is read is spelled, and what is written is spelled.
use Rattle.std.proofs.Common.{◌≡◌, ℕ, ◌+◌, true, List, ◌++◌, length, leb, None, refl, sym, ap, subst, ◌∙◌, arith}
use Rattle.std.proofs.lemmas.Bool.{le-leb, leb-true}
use Rattle.octets.specs.Numbers.{big}
use Rattle.octets.specs.Rules.{first_failing}
use Rattle.octets.proofs.RuleLemmas.{all_hold}
use Rattle.ip_headers.specs.declared.addr.Addr.{Addr}
use Rattle.ip_headers.specs.declared.addr.Addr.TheVariants.{V4, V6}
use Rattle.ip_headers.specs.Addr.{IsAddr}
use Rattle.mapping_records.specs.Address.{addr_at, canonical_addr}
use Rattle.mapping_records.proofs.EidLemmas.{back, spells_addr}
use Rattle.map_messages.specs.Request.{reply_addr_rules, reply_addr_size, IsReplyAddr, SpellsReplyAddr}
use Rattle.map_messages.proofs.ItemLaws.{ItemRead}

-- what is spelled is read
pub spelled_addr : (octets : List ℕ) (addr : Addr) (n : ℕ) → SpellsReplyAddr octets addr n → ItemRead IsReplyAddr reply_addr_rules reply_addr_size octets addr n
spelled_addr octets (V4 x) n s =
    let some : leb 2 (length octets) ≡ true = le-leb 2 (length octets) (omega (arith, s.whole, s.end)) in
    let long : leb 6 (length octets) ≡ true = le-leb 6 (length octets) (omega (arith, s.whole, s.end)) in
    record {
      pass = λ base. rw (some, s.address.0, long) refl;
      value = rw (s.address.0, s.address.1) refl;
      end = rw (s.address.0, s.end) refl;
    }
spelled_addr octets (V6 x) n s =
    let some : leb 2 (length octets) ≡ true = le-leb 2 (length octets) (omega (arith, s.whole, s.end)) in
    let long : leb 18 (length octets) ≡ true = le-leb 18 (length octets) (omega (arith, s.whole, s.end)) in
    record {
      pass = λ base. rw (some, s.address.0, long) refl;
      value = rw (s.address.0, s.address.1) refl;
      end = rw (s.address.0, s.end) refl;
    }

-- what is read is spelled
pub addr_is_spelled : (base : ℕ) (octets : List ℕ) (addr : Addr) → first_failing (reply_addr_rules base octets) ≡ None → IsReplyAddr octets addr
    → SpellsReplyAddr octets addr (reply_addr_size octets)
addr_is_spelled base octets addr none is =
    let hold = all_hold (reply_addr_rules base octets) none in
    let address = spells_addr octets 0 hold.1.0 in
    subst (λ (a : Addr). SpellsReplyAddr octets a (reply_addr_size octets)) (sym is)
    (record { whole = leb-true _ _ hold.1.1.0; address = address.0; end = ap (λ (n : ℕ). 2 + n) (sym address.1) })

-- what is written is spelled
pub addr_spells : (addr : Addr) (rest : List ℕ) → IsAddr addr → SpellsReplyAddr (canonical_addr addr ++ rest) addr (length (canonical_addr addr))
addr_spells (V4 n) rest fits = record { whole = omega arith; address = (refl, back 4 n rest fits); end = refl }
addr_spells (V6 n) rest fits = record { whole = omega arith; address = (refl, back 16 n rest fits); end = refl }

-- an ITR-RLOC is there, and it is one
pub some_addr : (base : ℕ) (octets : List ℕ) → first_failing (reply_addr_rules base octets) ≡ None → (addr : Addr) × IsReplyAddr octets addr
some_addr base octets none = (addr_at (big 2 octets 0) octets 2, refl)

-- the ITR-RLOC at the front is one
pub same_addr : (octets : List ℕ) (a b : Addr) → IsReplyAddr octets a → IsReplyAddr octets b → a ≡ b
same_addr octets a b s t = s ∙ sym t
