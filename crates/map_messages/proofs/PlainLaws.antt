-- Map-Requests and Map-Replies: what is spelled is read, and what is read is spelled.
use Rattle.std.proofs.Common.{◌≡◌, inl, inr, ◌≤◌, ℕ, Bool, true, false, List, length, slice_index, None, if◌then◌else◌, refl, ap, arith}
use Rattle.std.specs.Prelude.{◌||◌, not}
use Rattle.std.proofs.lemmas.Bool.{cases_Bool, eqb-true, le-leb, leb-true}
use Rattle.octets.specs.Rules.{first_failing}
use Rattle.octets.specs.declared.refused.Refused.{Refused}
use Rattle.octets.proofs.RuleLemmas.{all_hold}
use Rattle.mapping_records.proofs.SpelledRecord.{back_passes, front_passes}
use Rattle.map_messages.specs.Plain.{front_rules, plain_rules, plain_size, IsPlainAt, SpellsPlain}
use Rattle.map_messages.specs.Reply.{reply_rules}
use Rattle.map_messages.specs.Request.{request_rules}
use Rattle.map_messages.specs.Words.{bit, is_reply, is_request, kind}
use Rattle.map_messages.specs.declared.plain.Plain.{Plain}
use Rattle.map_messages.specs.declared.plain.Plain.TheVariants.{Request, Reply}
use Rattle.map_messages.proofs.InsideLaws.{reply_inside, request_inside}
use Rattle.map_messages.proofs.ReplyLaws.{reply_is_spelled, same_reply, some_reply, spelled_reply}
use Rattle.map_messages.proofs.RequestLaws.{request_is_spelled, same_request, some_request, spelled_request}

-- a message that obeys the rules, with its value and its octets
pub record ReadPlain (octets : List ℕ) (plain : Plain) (size : ℕ) : Type 0 where
  pub pass : (base : ℕ) → first_failing (plain_rules base octets) ≡ None
  pub value : IsPlainAt octets plain
  pub end : plain_size octets ≡ size

-- what is spelled is read
pub spelled_plain : (octets : List ℕ) (plain : Plain) (size : ℕ) → SpellsPlain octets plain size → ReadPlain octets plain size
spelled_plain octets (Request request) size s =
    let r = spelled_request octets request size s in
    record {
      pass = λ base. rw (le-leb 4 (length octets) (omega (arith, s.head)), s.message_type, le-leb 12 (length octets) s.head) (r.pass base);
      value = r.value;
      end = rw s.message_type r.end;
    }
spelled_plain octets (Reply reply) size s =
    let r = spelled_reply octets reply size s in
    record {
      pass = λ base. rw (le-leb 4 (length octets) (omega (arith, s.head)), s.message_type, s.plain, le-leb 12 (length octets) s.head) (r.pass base);
      value = r.value;
      end = rw s.message_type r.end;
    }

-- what the rules say of a message
record Parts (base : ℕ) (octets : List ℕ) : Type 0 where
  head : 12 ≤ length octets
  message_type : (is_request octets || is_reply octets) ≡ true
  plain : (is_request octets || bit 2 (slice_index octets 0)) ≡ is_request octets
  rest : first_failing (if is_request octets then request_rules base octets else reply_rules base octets) ≡ None

-- S is clear in what is no Map-Request
plain_of : (request set : Bool) → (request || not set) ≡ true → (request || set) ≡ request
plain_of true set is = is
plain_of false true is = cc
plain_of false false is = refl

-- the rules of a message, as facts
parts : (base : ℕ) (octets : List ℕ) → first_failing (plain_rules base octets) ≡ None → Parts base octets
parts base octets none =
    let rest : List (Bool × Refused) = if is_request octets then request_rules base octets else reply_rules base octets in
    let hold = all_hold (front_rules base octets) (front_passes (front_rules base octets) rest none) in
    record {
      head = leb-true _ _ hold.1.1.1.0;
      message_type = hold.1.0;
      plain = plain_of (is_request octets) (bit 2 (slice_index octets 0)) hold.1.1.0;
      rest = back_passes (front_rules base octets) rest none;
    }

-- what is read is spelled
pub plain_is_spelled : (base : ℕ) (octets : List ℕ) (plain : Plain) → first_failing (plain_rules base octets) ≡ None → IsPlainAt octets plain → SpellsPlain octets plain (plain_size octets)
plain_is_spelled base octets (Request request) none at =
    let p = parts base octets none in
    rw at.message_type (request_is_spelled base octets request p.head (rw at.message_type at p.rest) at)
plain_is_spelled base octets (Reply reply) none at =
    let p = parts base octets none in
    rw at.message_type (reply_is_spelled base octets reply p.head (rw at.message_type at p.plain) (rw at.message_type at p.rest) at)

-- a message ends in its octets
pub plain_inside : (octets : List ℕ) (plain : Plain) (size : ℕ) → SpellsPlain octets plain size → size ≤ length octets
plain_inside octets (Request request) size s = request_inside octets request size s
plain_inside octets (Reply reply) size s = reply_inside octets reply size s

-- a message is there
pub some_plain : (base : ℕ) (octets : List ℕ) → first_failing (plain_rules base octets) ≡ None → (plain : Plain) × IsPlainAt octets plain
some_plain base octets none =
    let p = parts base octets none in
    elim (cases_Bool (is_request octets)) [
      | inl one ↦
          let r = some_request base octets (eqb-true (kind octets) 1 one) (rw one at p.rest) in
          (Request r.0, r.1)
      | inr other ↦
          let two : is_reply octets ≡ true = rw other at p.message_type in
          let r = some_reply base octets (eqb-true (kind octets) 2 two) (rw other at p.rest) in
          (Reply r.0, r.1)
    ]

-- the message at the front is one
pub same_plain : (octets : List ℕ) (a b : Plain) → IsPlainAt octets a → IsPlainAt octets b → a ≡ b
same_plain octets (Request a) (Request b) s t = ap Request (same_request octets a b s t)
same_plain octets (Reply a) (Reply b) s t = ap Reply (same_reply octets a b s t)
same_plain octets (Request a) (Reply b) s t = absurd (omega (arith, s.message_type, t.message_type))
same_plain octets (Reply a) (Request b) s t = absurd (omega (arith, s.message_type, t.message_type))
