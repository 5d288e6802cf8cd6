-- What a table's steps are in terms of the model's.
use Rattle.std.proofs.Common.{◌≡◌, ℕ, ◌+◌, ◌-◌, ◌^◌, ◌<◌, ◌≤◌, ◌&&◌, max, not, nat_le, nat_lt, Bool, true, false, cond, List, [], ◌∷◌, ◌++◌, length, Option, Some, None, is_some, refl, sym, ap, subst, ◌∙◌, arith}
use Rattle.std.proofs.lemmas.Bool.Decides.{nat_tests}
use Rattle.ip_headers.specs.declared.addr.Addr.{Addr}
use Rattle.mapping_records.specs.declared.eid.Eid.{Eid}
use Rattle.mapping_records.specs.declared.record.Record.{Record}
use Rattle.request_queue.specs.Queue.{open_in, waiting, with_nonce}
use Rattle.lisp_settings.specs.Instances.{requests_in}
use Rattle.lisp_settings.specs.Nonces.{nonce_of}
use Rattle.lisp_settings.specs.declared.settings.Settings.{Settings}
use Rattle.router_log.specs.declared.emit.Emit.{Emit}
use Rattle.router_log.specs.declared.emit.Emit.TheVariants.{Request as AskFor}
use Rattle.router_log.specs.declared.entry.Entry.{Entry}
use Rattle.router_log.specs.declared.entry.Entry.TheVariants.{Answered, Asked, Learned}
use Rattle.router_model.specs.Changes.{asked, each, entered, has_room, may_open, unchanged}
use Rattle.octets.specs.Rules.{first_failing}
use Rattle.map_messages.specs.Message.{message_rules}
use Rattle.map_messages.specs.declared.message.MapReply.{MapReply}
use Rattle.map_messages.specs.declared.message.Message.{Message}
use Rattle.request_queue.specs.declared.request.Request.{Request}
use Rattle.router_log.specs.declared.verdict.Reason.TheVariants.{Unfit}
use Rattle.router_log.specs.declared.verdict.Done.TheVariants.{Learned as Taught}
use Rattle.router_model.specs.Hear.{Route, drops, is_asked_for, is_fit, is_static, message_heard, payload_heard, probe_replied, read_heard, replied_to, reply_heard, shortened, takes, tallied, taught, unless_refused}
use Rattle.router_model.specs.Received.{message_in}
use Rattle.router_model.specs.Journal.{moment_of}
use Rattle.router_model.specs.Parts.{Parts, absorbed, admits, table, view_in, with_entry}
use Rattle.router_model.specs.Proper.{suits}
use Rattle.router_core.specs.Table.{change_of}
use Rattle.router_core.proofs.HeldLemmas.{drawn-seen, requests-seen}
use Rattle.router_model.specs.Standing.{may_change}
use Rattle.lisp_settings.specs.declared.settings.OwnLocator.{OwnLocator}

pub both : (a b : Bool) → (a && b) ≡ true → (a ≡ true) × (b ≡ true)
both true b is = (refl, is)
both false b is = (cc, cc)

pub later : (m now : ℕ) → now ≤ m → max m now ≡ m
later m now less = omega (arith, less)

two-hold : (a b : Bool) → a ≡ true → b ≡ true → (a && b) ≡ true
two-hold a b p q = rw (p, q) refl

all-three : (a b c : Bool) → a ≡ true → b ≡ true → c ≡ true → ((a && b) && c) ≡ true
all-three a b c p q r = rw (p, q, r) refl

-- an entry of that moment, which is none of a change of own locators
abbrev pub IsOther : ℕ → Entry → Type 0
IsOther m e = (moment_of e ≡ m) × ((own : List OwnLocator) (steps : ℕ) → may_change own steps e ≡ true)

-- one that suits is taken
pub taken : (p : Parts) (m : ℕ) (e : Entry) → IsOther m e → p.now ≤ m → p.count < 2 ^ 62 → suits p.limits (view_in p m) e ≡ true → absorbed p e ≡ with_entry e p
unfolding admits absorbed
taken p m e other after few suit =
    ap (λ b. cond b (with_entry e p) p)
    (two-hold _ _
    (all-three _ _ _ (below p.count few) (upto p.now (moment_of e) (subst (λ (t : ℕ). p.now ≤ t) (sym other.0) after)) (subst (λ (t : ℕ). suits p.limits (view_in p t) e ≡ true) (sym other.0) suit))
    (other.1 p.own p.steps))
  where
    below : (n : ℕ) → n < 2 ^ 62 → nat_lt n (2 ^ 62) ≡ true
    below n less = grind (arith, nat_tests)

    upto : (a b : ℕ) → a ≤ b → nat_le a b ≡ true
    upto a b less = grind (arith, nat_tests)

small : (n k : ℕ) → n ≤ k → nat_le n k ≡ true
small n k less = grind (arith, nat_tests)

pub requests-now : (p : Parts) (m : ℕ) → p.now ≤ m → (view_in p m).requests ≡ waiting m p.requests
requests-now p m after = requests-seen p m ∙ ap (λ (t : ℕ). waiting t p.requests) (later m p.now after)

-- ### a record

-- one that is
pub taught-so : (settings : Settings) (m : ℕ) (asked : Eid) (mappings : List Record) (mapping : Record) (p : Parts) (entries : List Entry) → p.now ≤ m → p.count < 2 ^ 62 → mapping.action ≤ 7 → mapping.version ≤ 4095 → length (shortened mapping).locators ≤ 32 → (is_asked_for asked mappings mapping && (not (is_static settings mapping) && has_room p.limits (view_in p m) mapping)) ≡ true → change_of (with_entry (Learned m (shortened mapping) false) p) (entries ++ Learned m (shortened mapping) false ∷ []) [] ≡ taught table settings m asked mappings mapping (change_of p entries [])
taught-so settings m asked mappings mapping p entries after few action version locators is =
    ap (λ (q : Parts). change_of q (entries ++ entry ∷ []) []) (sym (taken p m entry (refl, λ own steps. refl) after few suit))
    ∙ sym (ap (λ b. cond b (entered table settings m entry (change_of p entries [])) (change_of p entries [])) is)
  where
    entry : Entry
    entry = Learned m (shortened mapping) false

    ranges : (a b c : Bool) → a ≡ true → b ≡ true → c ≡ true → (a && (b && c)) ≡ true
    ranges a b c p q r = rw (p, q, r) refl

    suit : suits p.limits (view_in p m) entry ≡ true
    suit = rw (ranges _ _ _ (small mapping.action 7 action) (small mapping.version 4095 version) (small (length (shortened mapping).locators) 32 locators)) (both _ _ (both (is_asked_for asked mappings mapping) _ is).1).1

-- ### requests

pub asked-change : (settings : Settings) (m : ℕ) (eid : Eid) (source : Option Addr) (invoked : Bool) (p : Parts) (entries : List Entry) (emits : List Emit) → p.now ≤ m → p.count < 2 ^ 62 → open_in eid.iid (waiting m p.requests) < requests_in p.limits eid.iid → let nonce = nonce_of settings.seed settings.nonces p.drawn in change_of (with_entry (Asked m eid source invoked nonce) p) (entries ++ Asked m eid source invoked nonce ∷ []) (emits ++ AskFor eid source invoked nonce ∷ []) ≡ asked table settings m eid source invoked (change_of p entries emits)
asked-change settings m eid source invoked p entries emits after few place =
    ap (λ (q : Parts). change_of q (entries ++ entry ∷ []) (emits ++ AskFor eid source invoked nonce ∷ [])) (sym (taken p m entry (refl, λ own steps. refl) after few suit))
    ∙ ap (λ (n : ℕ). change_of (absorbed p (Asked m eid source invoked n)) (entries ++ Asked m eid source invoked n ∷ []) (emits ++ AskFor eid source invoked n ∷ [])) (ap (nonce_of settings.seed settings.nonces) (sym (drawn-seen p m)))
  where
    nonce : ℕ
    nonce = nonce_of settings.seed settings.nonces p.drawn

    entry : Entry
    entry = Asked m eid source invoked nonce

    below : (n most : ℕ) → n < most → nat_lt n most ≡ true
    below n most less = grind (arith, nat_tests)

    suit : suits p.limits (view_in p m) entry ≡ true
    suit = ap (λ l. nat_lt (open_in eid.iid l) (requests_in p.limits eid.iid)) (requests-now p m after) ∙ below _ _ place

pub answered-change : (settings : Settings) (m nonce : ℕ) (p : Parts) → p.now ≤ m → p.count < 2 ^ 62 → is_some (with_nonce (waiting m p.requests) nonce) ≡ true → change_of (with_entry (Answered m nonce) p) (Answered m nonce ∷ []) [] ≡ entered table settings m (Answered m nonce) (unchanged p)
answered-change settings m nonce p after few open_now =
    ap (λ (q : Parts). change_of q (Answered m nonce ∷ []) []) (sym (taken p m (Answered m nonce) (refl, λ own steps. refl) after few (ap (λ l. is_some (with_nonce l nonce)) (requests-now p m after) ∙ open_now)))

-- that may be made
pub may_ask-place : (p : Parts) (m iid : ℕ) → p.now ≤ m → may_open p.limits (view_in p m) iid ≡ true → open_in iid (waiting m p.requests) < requests_in p.limits iid
may_ask-place p m iid after is = less _ _ (ap (λ l. nat_lt (open_in iid l) (requests_in p.limits iid)) (sym (requests-now p m after)) ∙ is)
  where
    less : (n most : ℕ) → nat_lt n most ≡ true → n < most
    less n most is = grind (arith, nat_tests)

-- a reply's request is found
pub found-now : (p : Parts) (m nonce : ℕ) → p.now ≤ m → with_nonce (waiting m p.requests) nonce ≡ with_nonce (view_in p m).requests nonce
found-now p m nonce after = ap (λ l. with_nonce l nonce) (sym (requests-now p m after))

-- a Map-Reply by its request
pub reply-by : (settings : Settings) (m : ℕ) (from : Addr) (reply : MapReply) (p : Parts) (o : Option Request) → reply.probe ≡ false → with_nonce (view_in p m).requests reply.nonce ≡ o → replied_to table settings m reply o (unchanged p) ≡ reply_heard table settings m from reply (unchanged p)
unfolding reply_heard
reply-by settings m from reply p o plain found =
    sym (
    ap (λ b. cond b (probe_replied table settings m from reply ((view_in p m).probe_open reply.nonce) (unchanged p)) (replied_to table settings m reply (with_nonce (view_in p m).requests reply.nonce) (unchanged p))) plain
    ∙ ap (λ o. replied_to table settings m reply o (unchanged p)) found
    )

-- an answer to a probe by the probe that is open
pub probe-by : (settings : Settings) (m : ℕ) (from : Addr) (reply : MapReply) (p : Parts) → reply.probe ≡ true → probe_replied table settings m from reply ((view_in p m).probe_open reply.nonce) (unchanged p) ≡ reply_heard table settings m from reply (unchanged p)
unfolding reply_heard
probe-by settings m from reply p probe =
    sym (ap (λ b. cond b (probe_replied table settings m from reply ((view_in p m).probe_open reply.nonce) (unchanged p)) (replied_to table settings m reply (with_nonce (view_in p m).requests reply.nonce) (unchanged p))) probe)

-- octets that keep the rules of messages, by their message
pub payload-read : (settings : Settings) (m : ℕ) (route : Route) (base : ℕ) (payload : List ℕ) (read : Message) (p : Parts) → first_failing (message_rules base payload) ≡ None → message_in payload ≡ Some read → message_heard table settings m route read (unchanged p) ≡ payload_heard table settings m route base payload (unchanged p)
unfolding payload_heard
payload-read settings m route base payload read p rules is =
    sym (
    ap (λ o. unless_refused table settings m o (unchanged p) (read_heard table settings m route (message_in payload) (unchanged p))) rules
    ∙ ap (λ o. read_heard table settings m route o (unchanged p)) is
    )

-- a reply that taught, by what stands after it
pub replied-so : (settings : Settings) (m : ℕ) (reply : MapReply) (request : Request) (p after : Parts) (entries : List Entry) → is_fit request.eid reply.mappings ≡ true → change_of after entries [] ≡ each (taught table settings m request.eid reply.mappings) reply.mappings (entered table settings m (Answered m reply.nonce) (unchanged p)) → 1 ≤ length entries → takes (Taught (length entries - 1) (length reply.mappings - (length entries - 1))) (change_of after entries []) ≡ replied_to table settings m reply (Some request) (unchanged p)
replied-so settings m reply request p after entries fit is some =
    ap (λ (n : ℕ). takes (Taught (length entries - 1) n) (change_of after entries [])) (left (length reply.mappings) (length entries) some)
    ∙ ap (tallied table settings m reply) is
    ∙ sym (ap (λ b. cond b (tallied table settings m reply (each (taught table settings m request.eid reply.mappings) reply.mappings (entered table settings m (Answered m reply.nonce) (unchanged p)))) (drops Unfit (unchanged p))) fit)
  where
    left : (k n : ℕ) → 1 ≤ n → k - (n - 1) ≡ k + 1 - n
    left k n some = omega (arith, some)
