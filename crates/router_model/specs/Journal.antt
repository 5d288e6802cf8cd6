-- The journal: all that the router learned, sent and saw, each at its moment. Its newest entry stands first.
use Rattle.std.specs.Prelude.{ℕ, ◌-◌, ◌≤◌, max, Bool, true, false, List, [], ◌∷◌, count_by, drop, length, map}
use Rattle.lisp_settings.specs.declared.settings.Settings.{Settings}
use Rattle.router_log.specs.declared.entry.Entry.{Entry}
use Rattle.router_log.specs.declared.entry.Entry.TheVariants.{Learned, Asked, Retried, Answered, Probed, ProbeAnswered, Bits, EchoStarted, EchoHeard, DataFrom, EchoWanted, Solicited, Changed}

-- a journal: its entries, the newest first
abbrev pub Journal : Type 0
Journal = List Entry

-- the moment of an entry, in nanoseconds
abbrev pub moment_of : Entry → ℕ
moment_of (Learned moment mapping fixed) = moment
moment_of (Asked moment eid source invoked nonce) = moment
moment_of (Retried moment nonce) = moment
moment_of (Answered moment nonce) = moment
moment_of (Probed moment rloc nonce) = moment
moment_of (ProbeAnswered moment nonce) = moment
moment_of (Bits moment eid bits width) = moment
moment_of (EchoStarted moment rloc nonce) = moment
moment_of (EchoHeard moment rloc) = moment
moment_of (DataFrom moment rloc) = moment
moment_of (EchoWanted moment rloc nonce) = moment
moment_of (Solicited moment rloc eid nonce) = moment
moment_of (Changed moment address up) = moment

-- the moment of a journal's last entry, 0 before the first
abbrev pub last_moment : Journal → ℕ
last_moment [] = 0
last_moment (entry ∷ before) = moment_of entry

-- the moments of a journal don't fall
abbrev pub IsRising : Journal → Type 0
IsRising [] = Unit {0}
IsRising (entry ∷ before) = (last_moment before ≤ moment_of entry) × IsRising before

-- the moment as of which a question at m is answered: m, or that of the last entry, if it is later
abbrev pub at : Journal → ℕ → ℕ
at journal m = max m (last_moment journal)

-- whether an entry used a nonce
abbrev pub uses_nonce : Entry → Bool
uses_nonce (Asked moment eid source invoked nonce) = true
uses_nonce (Probed moment rloc nonce) = true
uses_nonce (EchoStarted moment rloc nonce) = true
uses_nonce (Solicited moment rloc eid nonce) = true
uses_nonce _ = false

-- the number of nonces that were used in a journal
abbrev pub drawn : Journal → ℕ
drawn journal = count_by uses_nonce journal

-- whether an entry is a change of an own locator
abbrev pub is_changed : Entry → Bool
is_changed (Changed moment address up) = true
is_changed _ = false

-- the number of changes of own locators in a journal
abbrev pub changed : Journal → ℕ
changed journal = count_by is_changed journal

-- the first n entries of a journal
abbrev pub first : ℕ → Journal → Journal
first n journal = drop (length journal - n) journal

-- a journal with further entries, the oldest of them at the head of the list
abbrev pub extended : Journal → List Entry → Journal
extended journal [] = journal
extended journal (entry ∷ entries) = extended (entry ∷ journal) entries

-- the journal that begins: the static mappings, in order of EID, at moment 0
abbrev pub statics : Settings → Journal
statics settings = extended [] (map (λ mapping. Learned 0 mapping true) settings.mappings)
