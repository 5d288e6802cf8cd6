-- What holds of a change: its packets can be made, and their nonces are those that were drawn, each in its turn, or once more.
use Rattle.std.proofs.Common.{◌≡◌, ℕ, ◌^◌, ◌<◌, Bool, true, false, cond, IfSome, IsTrue, List, [], ◌∷◌, ◌++◌, filter_map, Option, Some, None, refl, sym, ap, subst, ◌∙◌, append-nil, append_assoc}
use Rattle.std.specs.List.{All, cons_option}
use Rattle.std.proofs.lemmas.Bool.{and_parts, true≢false}
use Rattle.std.proofs.lemmas.List.Elements.{All-push, filter_map-append}
use Rattle.ip_headers.specs.declared.addr.Addr.{Addr}
use Rattle.mapping_records.specs.declared.eid.Eid.{Eid}
use Rattle.lisp_settings.specs.Instances.{limits_in}
use Rattle.lisp_settings.specs.declared.settings.Settings.{Settings}
use Rattle.router_log.specs.declared.emit.Emit.{Emit}
use Rattle.router_log.specs.declared.emit.Emit.TheVariants as emit
use Rattle.router_log.specs.declared.entry.Entry.{Entry}
use Rattle.router_log.specs.declared.entry.Entry.TheVariants as entry
use Rattle.router_model.specs.Changes.{Change, asked, each, emitted, entered, journal as of_journal, may_ask, next_nonce}
use Rattle.router_model.specs.Journal.{Journal, drawn, uses_nonce}
use Rattle.router_model.specs.Site.{reaches_resolver}
use Rattle.router_model.specs.View.{View}
use Rattle.router_model.proofs.LiftLemmas.{nonce-next}
use Rattle.audit.specs.Lifted.{each_once}
use Rattle.audit_laws.specs.Drawn.{first_nonces, nonce_at, IsInRange}
use Rattle.audit_laws.specs.Sent.{CanBeMade}
use Rattle.audit_laws.proofs.DrawnLemmas.{drawn-one, drawn-same, once-alike, AreNext, AreShort, Each, IsNext}
use Rattle.audit_laws.proofs.EmitLemmas.{emit_nonce}
use Rattle.audit_laws.proofs.EmitOctetLemmas.{IsMade}

-- ### what holds of a change

-- the nonce of an emit, if it has one, is a number of 64 bits
abbrev pub IsShort : Emit → Type 0
IsShort packet = IfSome (emit_nonce packet) (λ nonce. nonce < 2 ^ 64)

-- these nonces, each at its first place, are those that were drawn
abbrev pub AreDrawn : Settings → List ℕ → Journal → Type 0
AreDrawn settings nonces journal = each_once nonces ≡ each_once (first_nonces settings (drawn journal))

-- behind packets with these nonces: the packet of each emit can be made, without echoes the nonces of all are those that
-- were drawn, and it goes on so
pub record IsSound (settings : Settings) (before : List ℕ) (change : Change Journal) : Type 0 where
  pub made : All (CanBeMade settings) change.emits
  pub next : AreNext settings change.after
  pub short : AreShort settings → All IsShort change.emits
  pub octets : All IsInRange settings.locators → All IsMade change.emits
  pub nonces : settings.echo ≡ false → AreDrawn settings (before ++ filter_map emit_nonce change.emits) change.after

pub each-any : {A : Type 0} (items : List A) → Each (λ (a : A). Unit {0}) items
each-any [] = tt
each-any (item ∷ items) = (tt, each-any items)

-- one packet more, whose nonce is among those that are there once
pub more-nonces : (before : List ℕ) (emits : List Emit) (packet : Emit) (nonce : ℕ) → emit_nonce packet ≡ Some nonce → before ++ filter_map emit_nonce (emits ++ packet ∷ []) ≡ (before ++ filter_map emit_nonce emits) ++ nonce ∷ []
more-nonces before emits packet nonce is =
    ap (λ (l : List ℕ). before ++ l) (filter_map-append emit_nonce emits (packet ∷ []) ∙ ap (λ (o : Option ℕ). filter_map emit_nonce emits ++ cons_option o []) is)
    ∙ sym (append_assoc before (filter_map emit_nonce emits) (nonce ∷ []))

same-nonces : (before : List ℕ) (emits : List Emit) (packet : Emit) → emit_nonce packet ≡ None → before ++ filter_map emit_nonce (emits ++ packet ∷ []) ≡ before ++ filter_map emit_nonce emits
same-nonces before emits packet is =
    ap (λ (l : List ℕ). before ++ l)
    (filter_map-append emit_nonce emits (packet ∷ []) ∙ ap (λ (o : Option ℕ). filter_map emit_nonce emits ++ cons_option o []) is ∙ append-nil (filter_map emit_nonce emits))

module _ (settings : Settings) (before : List ℕ) (m : ℕ) where
  -- an entry that draws no nonce
  pub sound-entered : (e : Entry) (change : Change Journal) → uses_nonce e ≡ false → IsNext settings change.after e → IsSound settings before change → IsSound settings before (entered of_journal settings m e change)
  sound-entered e change none next sound = record {
    made = sound.made;
    next = (next, sound.next);
    short = sound.short;
    octets = sound.octets;
    nonces = λ off. sound.nonces off ∙ ap (λ (k : ℕ). each_once (first_nonces settings k)) (sym (drawn-same e change.after none));
  }

  -- an echo that begins draws one, and sends no packet
  pub sound-echo : (rloc : Addr) (nonce : ℕ) (change : Change Journal) → settings.echo ≡ true → IsSound settings before change → IsSound settings before (entered of_journal settings m (entry.EchoStarted m rloc nonce) change)
  sound-echo rloc nonce change on sound = record {
    made = sound.made;
    next = (tt, sound.next);
    short = sound.short;
    octets = sound.octets;
    nonces = λ off. absurd (true≢false (sym on ∙ off));
  }

  -- a packet with the nonce that is next
  pub sound-drawn : (e : Entry) (packet : Emit) (change : Change Journal) → uses_nonce e ≡ true → IsNext settings change.after e → CanBeMade settings packet → IsMade packet
      → emit_nonce packet ≡ Some (next_nonce of_journal settings m change) → IsSound settings before change → IsSound settings before (emitted packet (entered of_journal settings m e change))
  sound-drawn e packet change uses next can made is sound =
      let nonce = next_nonce of_journal settings m change in
      let same : nonce ≡ nonce_at settings (drawn change.after) = nonce-next settings m change in
      let one : emit_nonce packet ≡ Some (nonce_at settings (drawn change.after)) = is ∙ ap Some same in
      let nonces : List ℕ = before ++ filter_map emit_nonce change.emits in
      record {
        made = All-push (CanBeMade settings) change.emits packet sound.made can;
        next = (next, sound.next);
        short = λ short. All-push IsShort change.emits packet (sound.short short) (subst (λ (o : Option ℕ). IfSome o (λ nonce. nonce < 2 ^ 64)) (sym one) (short (drawn change.after)));
        octets = λ range. All-push IsMade change.emits packet (sound.octets range) made;
        nonces = λ off.
            ap each_once (more-nonces before change.emits packet (nonce_at settings (drawn change.after)) one)
            ∙ once-alike nonces (first_nonces settings (drawn change.after)) (nonce_at settings (drawn change.after)) (sound.nonces off)
            ∙ ap (λ (k : ℕ). each_once (first_nonces settings k)) (sym (drawn-one e change.after uses));
      }

  pub sound-asked : (eid : Eid) (source : Option Addr) (invoked : Bool) (change : Change Journal) → IsTrue (reaches_resolver settings) → IsSound settings before change → IsSound settings before (asked of_journal settings m eid source invoked change)
  sound-asked eid source invoked change reaches sound =
      let nonce = next_nonce of_journal settings m change in
      let e : Entry = entry.Asked m eid source invoked nonce in
      sound-drawn e (emit.Request eid source invoked nonce) change refl (nonce-next settings m change) reaches tt refl sound

  -- a packet without a nonce
  pub sound-reply_sent : (packet : Emit) (change : Change Journal) → CanBeMade settings packet → emit_nonce packet ≡ None → (All IsInRange settings.locators → IsMade packet) → IsSound settings before change → IsSound settings before (emitted packet change)
  sound-reply_sent packet change can none made sound = record {
    made = All-push (CanBeMade settings) change.emits packet sound.made can;
    next = sound.next;
    short = λ short. All-push IsShort change.emits packet (sound.short short) (subst (λ (o : Option ℕ). IfSome o (λ nonce. nonce < 2 ^ 64)) (sym none) tt);
    octets = λ range. All-push IsMade change.emits packet (sound.octets range) (made range);
    nonces = λ off. ap each_once (same-nonces before change.emits packet none) ∙ sound.nonces off;
  }

  pub sound-if : (b : Bool) (then change : Change Journal) → (b ≡ true → IsSound settings before then) → IsSound settings before change → IsSound settings before (cond b then change)
  sound-if true then change a sound = a refl
  sound-if false then change a sound = sound

  pub sound-each : {A : Type 0} (step : A → Change Journal → Change Journal) (P : A → Type 0) → ((a : A) (change : Change Journal) → P a → IsSound settings before change → IsSound settings before (step a change)) → (items : List A) (change : Change Journal) → Each P items → IsSound settings before change → IsSound settings before (each step items change)
  sound-each step P one [] change all sound = sound
  sound-each step P one (a ∷ items) change all sound = sound-each step P one items (step a change) all.1 (one a change all.0 sound)

  pub sound-all : {A : Type 0} (step : A → Change Journal → Change Journal) → ((a : A) (change : Change Journal) → IsSound settings before change → IsSound settings before (step a change)) → (items : List A) (change : Change Journal) → IsSound settings before change → IsSound settings before (each step items change)
  sound-all {A} step one items change sound = sound-each step (λ (a : A). Unit {0}) (λ a change any. one a change) items change (each-any items) sound

  -- where an EID may be asked for, the resolver is reached
  pub may-resolver : (v : View) (eid : Eid) → may_ask settings (limits_in settings) v eid ≡ true → IsTrue (reaches_resolver settings)
  may-resolver v eid may = (and_parts (reaches_resolver settings) _ may).0
