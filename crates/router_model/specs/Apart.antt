-- Journals that differ in nonces alone: each request has its number in place of its nonce. Two journals are equal for
-- an instance if their parts of that instance are so equal, whatever entries of other instances they have.
use Rattle.std.specs.Prelude.{◌≡◌, ℕ, suc, ◌==◌, Bool, true, false, [], ◌∷◌, count_by, map, if◌then◌else◌}
use Rattle.request_queue.specs.declared.request.Request.{Request}
use Rattle.router_log.specs.declared.emit.Emit.{Emit}
use Rattle.router_log.specs.declared.emit.Emit.TheVariants as emit
use Rattle.router_log.specs.declared.entry.Entry.{Entry}
use Rattle.router_log.specs.declared.entry.Entry.TheVariants.{Asked, Retried, Answered, Solicited}
use Rattle.router_model.specs.Changes.{Change}
use Rattle.router_model.specs.Hear.{Heard}
use Rattle.router_model.specs.Isolation.{of_instance}
use Rattle.router_model.specs.Journal.{Journal, extended}

-- ### requests by their numbers

-- whether an entry is a request (Asked)
abbrev pub is_asked : Entry → Bool
is_asked (Asked moment eid source invoked nonce) = true
is_asked _ = false

-- the number of requests in a journal
abbrev pub asked_count : Journal → ℕ
asked_count journal = count_by is_asked journal

-- the number of the last request with a nonce, counted from 1; 0 where no request has it
abbrev pub number_of : ℕ → Journal → ℕ
number_of nonce [] = 0
number_of nonce (Asked moment eid source invoked asked ∷ before) =
    if asked == nonce then suc (asked_count before) else number_of nonce before
number_of nonce (_ ∷ before) = number_of nonce before

-- an entry with numbers in place of nonces, by the entries before it: a request has its own number, an entry that sends
-- a request again or answers it has the number of that request; nonces of probes and echoes stay
abbrev pub numbered_entry : Entry → Journal → Entry
numbered_entry (Asked moment eid source invoked nonce) before = Asked moment eid source invoked (suc (asked_count before))
numbered_entry (Retried moment nonce) before = Retried moment (number_of nonce before)
numbered_entry (Answered moment nonce) before = Answered moment (number_of nonce before)
numbered_entry entry before = entry

-- a journal with numbers in place of nonces, without the SMRs that were sent: these are of no instance, and no
-- decision, request or mapping depends on them
abbrev pub numbered : Journal → Journal
numbered [] = []
numbered (Solicited moment rloc eid nonce ∷ before) = numbered before
numbered (entry ∷ before) = numbered_entry entry before ∷ numbered before

-- a request with its number in place of its nonce
abbrev pub by_number : Journal → Request → Request
by_number journal request = record request { nonce = number_of request.nonce journal }

-- two journals are equal for an instance, but for nonces: by request numbers their parts of that instance are the same
abbrev pub AreOneIn : ℕ → Journal → Journal → Type 0
AreOneIn i mine theirs = numbered (of_instance mine i) ≡ numbered (of_instance theirs i)

-- ### steps that differ in nonces alone

-- an entry with 0 in place of the nonce of a request or of an SMR
abbrev pub entry_apart : Entry → Entry
entry_apart (Asked moment eid source invoked nonce) = Asked moment eid source invoked 0
entry_apart (Retried moment nonce) = Retried moment 0
entry_apart (Answered moment nonce) = Answered moment 0
entry_apart (Solicited moment rloc eid nonce) = Solicited moment rloc eid 0
entry_apart entry = entry

-- an emit with 0 in place of the nonce of a request or of an SMR
abbrev pub emit_apart : Emit → Emit
emit_apart (emit.Request eid source invoked nonce) = emit.Request eid source invoked 0
emit_apart (emit.Solicit to eid nonce) = emit.Solicit to eid 0
emit_apart emit = emit

-- two changes, `one` and `other`, made the same entries and the same packets, but for nonces of requests and SMRs
pub record AreApart {S T : Type 0} (one : Change S) (other : Change T) : Type 0 where
  pub entries : map entry_apart one.entries ≡ map entry_apart other.entries
  pub emits : map emit_apart one.emits ≡ map emit_apart other.emits

-- two changes differ in nonces alone, and the journals with their entries are equal for instance i
pub record StayOne {S T : Type 0} (i : ℕ) (mine theirs : Journal) (one : Change S) (other : Change T) : Type 0 where
  pub apart : AreApart one other
  pub same : AreOneIn i (extended mine one.entries) (extended theirs other.entries)

-- two messages were heard as one: equal verdicts, changes that differ in nonces alone, and journals equal for instance
-- i
pub record HeardAsOne {S T : Type 0} (i : ℕ) (mine theirs : Journal) (one : Heard S) (other : Heard T) : Type 0 where
  pub verdict : one.verdict ≡ other.verdict
  pub change : StayOne i mine theirs one.change other.change
