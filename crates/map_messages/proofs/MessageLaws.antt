-- Whole messages: what is spelled is read, what is read is spelled, and octets spell one message.
use Rattle.std.proofs.Common.{◌≡◌, inl, inr, ◌≤◌, ℕ, ◌+◌, ◌-◌, true, false, List, ◌++◌, length, eqb, None, refl, sym, ap, subst, ◌∙◌, arith, length-append}
use Rattle.std.proofs.lemmas.Bool.{cases_Bool, eqb-true}
use Rattle.octets.specs.Rules.{first_failing}
use Rattle.map_messages.specs.Message.{canonical_message, left_over, message_rules, message_size, IsMessageAt, SpellsMessage}
use Rattle.map_messages.specs.Plain.{plain_rules, plain_size, IsPlainAt, SpellsPlain}
use Rattle.map_messages.specs.Range.{IsLawful}
use Rattle.map_messages.specs.Reply.{canonical_reply, SpellsReply}
use Rattle.map_messages.specs.Request.{canonical_request, SpellsRequest}
use Rattle.map_messages.specs.Words.{is_ecm, kind}
use Rattle.map_messages.specs.declared.message.Message.{Message}
use Rattle.map_messages.specs.declared.message.Message.TheVariants.{Request, Reply, Control}
use Rattle.map_messages.specs.declared.plain.Plain.{Plain}
use Rattle.map_messages.specs.declared.plain.Plain.TheVariants as plain
use Rattle.map_messages.proofs.EcmLaws.{spelled_ecm}
use Rattle.map_messages.proofs.PlainLaws.{plain_inside, plain_is_spelled, some_plain, spelled_plain}
use Rattle.map_messages.proofs.ReplyLaws.{reply_spells, same_reply}
use Rattle.map_messages.proofs.RequestLaws.{same_request}
use Rattle.map_messages.proofs.SpelledEcm.{ecm_is_spelled, same_ecm, some_ecm}
use Rattle.map_messages.proofs.WrittenEcm.{ecm_spells}
use Rattle.map_messages.proofs.WrittenRequest.{request_spells}

-- a message that obeys the rules, with its value and what is left over
pub record ReadMessage (octets : List ℕ) (message : Message) (left : ℕ) : Type 0 where
  pub pass : (base : ℕ) → first_failing (message_rules base octets) ≡ None
  pub value : IsMessageAt octets message
  pub end : message_size octets + left ≡ length octets

-- what is spelled is read
pub spelled_message : (octets : List ℕ) (message : Message) (left : ℕ) → SpellsMessage octets message left → ReadMessage octets message left
spelled_message octets (Request request) left s =
    let r = spelled_plain octets (plain.Request request) (length octets - left) s.1 in
    let end : plain_size octets + left ≡ length octets = omega (arith, r.end, s.0) in
    record { pass = λ base. rw s.1.message_type (rw s.1.message_type at (r.pass base)); value = r.value; end = rw s.1.message_type (rw s.1.message_type at end) }
spelled_message octets (Reply reply) left s =
    let r = spelled_plain octets (plain.Reply reply) (length octets - left) s.1 in
    let end : plain_size octets + left ≡ length octets = omega (arith, r.end, s.0) in
    record { pass = λ base. rw s.1.message_type (rw s.1.message_type at (r.pass base)); value = r.value; end = rw s.1.message_type (rw s.1.message_type at end) }
spelled_message octets (Control ecm) left s =
    let r = spelled_ecm octets ecm left s in
    record { pass = λ base. rw s.message_type (r.pass base); value = r.value; end = rw s.message_type r.end }

-- what is read of a message that isn't encapsulated is spelled, with the rest left over
left_plain : (base : ℕ) (octets : List ℕ) (held : Plain) (left : ℕ) → SpellsPlain octets held (plain_size octets) → left ≡ length octets - plain_size octets
    → (left ≤ length octets) × SpellsPlain octets held (length octets - left)
left_plain base octets held left s is =
    let inside = plain_inside octets held (plain_size octets) s in
    let size : plain_size octets ≡ length octets - left = omega (arith, is, inside) in
    (omega (arith, is), subst (λ (n : ℕ). SpellsPlain octets held n) size s)

-- what is read is spelled
pub message_is_spelled : (base : ℕ) (octets : List ℕ) (message : Message) → first_failing (message_rules base octets) ≡ None → IsMessageAt octets message
    → SpellsMessage octets message (left_over octets)
message_is_spelled base octets (Request request) none at =
    let other : is_ecm octets ≡ false = ap (λ (k : ℕ). eqb k 8) at.message_type in
    let pass : first_failing (plain_rules base octets) ≡ None = rw other at none in
    let left : left_over octets ≡ length octets - plain_size octets = rw other refl in
    left_plain base octets (plain.Request request) (left_over octets) (plain_is_spelled base octets (plain.Request request) pass at) left
message_is_spelled base octets (Reply reply) none at =
    let other : is_ecm octets ≡ false = ap (λ (k : ℕ). eqb k 8) at.message_type in
    let pass : first_failing (plain_rules base octets) ≡ None = rw other at none in
    let left : left_over octets ≡ length octets - plain_size octets = rw other refl in
    left_plain base octets (plain.Reply reply) (left_over octets) (plain_is_spelled base octets (plain.Reply reply) pass at) left
message_is_spelled base octets (Control ecm) none at =
    let is : is_ecm octets ≡ true = ap (λ (k : ℕ). eqb k 8) at.message_type in
    rw is (ecm_is_spelled base octets ecm (rw is at none) at)

-- a message that may be carried, as a message
as_message : (octets : List ℕ) (held : (plain : Plain) × IsPlainAt octets plain) → (message : Message) × IsMessageAt octets message
as_message octets (plain.Request request, is) = (Request request, is)
as_message octets (plain.Reply reply, is) = (Reply reply, is)

-- a message is there
pub some_message : (base : ℕ) (octets : List ℕ) → first_failing (message_rules base octets) ≡ None → (message : Message) × IsMessageAt octets message
some_message base octets none =
    elim (cases_Bool (is_ecm octets)) [
      | inl is ↦
          let ecm = some_ecm base octets (eqb-true (kind octets) 8 is) (rw is at none) in
          (Control ecm.0, ecm.1)
      | inr other ↦ as_message octets (some_plain base octets (rw other at none))
    ]

-- the message at the front is one
pub same_message : (octets : List ℕ) (a b : Message) → IsMessageAt octets a → IsMessageAt octets b → a ≡ b
same_message octets (Request a) (Request b) s t = ap Request (same_request octets a b s t)
same_message octets (Reply a) (Reply b) s t = ap Reply (same_reply octets a b s t)
same_message octets (Control a) (Control b) s t = ap Control (same_ecm octets a b s t)
same_message octets (Request a) (Reply b) s t = absurd (omega (arith, s.message_type, t.message_type))
same_message octets (Request a) (Control b) s t = absurd (omega (arith, s.message_type, t.message_type))
same_message octets (Reply a) (Request b) s t = absurd (omega (arith, s.message_type, t.message_type))
same_message octets (Reply a) (Control b) s t = absurd (omega (arith, s.message_type, t.message_type))
same_message octets (Control a) (Request b) s t = absurd (omega (arith, s.message_type, t.message_type))
same_message octets (Control a) (Reply b) s t = absurd (omega (arith, s.message_type, t.message_type))

-- octets spell one message, with one number of octets left over
pub one_message : (octets : List ℕ) (a b : Message) (m n : ℕ) → SpellsMessage octets a m → SpellsMessage octets b n → (a ≡ b) × (m ≡ n)
one_message octets a b m n s t =
    let x = spelled_message octets a m s in
    let y = spelled_message octets b n t in
    (same_message octets a b x.value y.value, omega (arith, x.end, y.end))

-- what is written is spelled
with_rest : (canonical rest : List ℕ) → length (canonical ++ rest) - length rest ≡ length canonical
with_rest canonical rest = omega (arith, length-append canonical rest)

-- what is written is spelled
pub message_spells : (message : Message) (rest : List ℕ) → IsLawful message → SpellsMessage (canonical_message message ++ rest) message (length rest)
message_spells (Request request) rest lawful =
    let canonical : List ℕ = canonical_request request in (
      omega (arith, length-append canonical rest),
      subst (λ (n : ℕ). SpellsRequest (canonical ++ rest) request n) (sym (with_rest canonical rest)) (request_spells request rest lawful.parts),
    )
message_spells (Reply reply) rest lawful =
    let canonical : List ℕ = canonical_reply reply in (
      omega (arith, length-append canonical rest),
      subst (λ (n : ℕ). SpellsReply (canonical ++ rest) reply n) (sym (with_rest canonical rest)) (reply_spells reply rest lawful.parts),
    )
message_spells (Control ecm) rest lawful = ecm_spells ecm rest lawful.parts lawful.short

-- what was written is read again
pub written_message : (message : Message) (rest : List ℕ) → IsLawful message → ReadMessage (canonical_message message ++ rest) message (length rest)
written_message message rest lawful = spelled_message (canonical_message message ++ rest) message (length rest) (message_spells message rest lawful)

-- what was written is the message at the front
pub written_value : (message read : Message) (rest : List ℕ) → IsLawful message → IsMessageAt (canonical_message message ++ rest) read → read ≡ message
written_value message read rest lawful at = same_message (canonical_message message ++ rest) read message at (written_message message rest lawful).value

-- just what follows is left over
pub written_left : (message : Message) (rest : List ℕ) → IsLawful message → left_over (canonical_message message ++ rest) ≡ length rest
written_left message rest lawful =
    let end = (written_message message rest lawful).end in
    ap (λ (n : ℕ). n - message_size (canonical_message message ++ rest)) (sym end) ∙ omega arith
