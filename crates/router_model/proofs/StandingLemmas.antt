-- Own locators that go up and down: what stays, and when a change may come.
use Rattle.std.proofs.Common.{◌≡◌, ◌≢◌, ℕ, zero, suc, ◌+◌, ◌-◌, ◌%◌, ◌<◌, ◌≤◌, ◌==◌, ◌||◌, ◌&&◌, nat_le, nat_lt, Less, Greater, ne_eqb, Bool, true, false, List, [], ◌∷◌, map, slice_get, Option, Some, None, refl, sym, ap, subst, ◌∙◌, arith}
use Rattle.std.proofs.lemmas.Bool.{eq-eqb}
use Rattle.std.proofs.lemmas.Bool.Decides.{nat_tests}
use Rattle.std.specs.Cmp.{nat_cmp_is}
use Rattle.std.specs.List.{AllByRecursion}
use Rattle.std.specs.List.Sorted.{IsStrictlySortedBy}
use Rattle.std.proofs.lemmas.Option.{get_or_from_slice_get, slice_get_within}
use Rattle.ip_headers.specs.Addr.{number, width}
use Rattle.ip_headers.specs.Ip.{dest_of, source_of}
use Rattle.ip_headers.specs.declared.addr.Addr.{Addr}
use Rattle.capture_io.specs.Frame.{Frame}
use Rattle.capture_io.specs.Link.{link_vlan}
use Rattle.mapping_records.specs.Eids.{same_address}
use Rattle.map_cache.proofs.ExactLemmas.{equal-address}
use Rattle.lisp_header.specs.Versions.{successor}
use Rattle.lisp_settings.proofs.InstanceLemmas.{limits_in-limits, limits_in-room}
use Rattle.lisp_settings.specs.Changes.{change_key, change_order}
use Rattle.lisp_settings.specs.declared.settings.Change.{Change}
use Rattle.lisp_settings.specs.declared.settings.OwnLocator.{OwnLocator}
use Rattle.lisp_settings.specs.declared.settings.Settings.{Settings}
use Rattle.router_log.specs.declared.entry.Entry.{Entry}
use Rattle.router_log.specs.declared.entry.Entry.TheVariants.{Changed}
use Rattle.router_model.specs.Course.{FramePacket, course_of, frame_packet, frame_refusal, packet_course, unless_refused}
use Rattle.router_model.specs.Isolation.{frame_instance}
use Rattle.router_model.specs.Journal.{Journal, changed}
use Rattle.router_model.specs.Lifting.{LawfulMayChange, VersionsStep}
use Rattle.router_model.specs.Proper.{AreInTurn, MayChange}
use Rattle.router_model.specs.Site.{is_own}
use Rattle.router_model.specs.Standing.{changed_by, changing, has_change, is_change, may_change, own_after, same_up, standing, standing_with, stepped}

-- ### which addresses are own ones stays

is_own-changing : (address : Addr) (up : Bool) (locators : List OwnLocator) (x : Addr) → is_own (changing address up locators) x ≡ is_own locators x
is_own-changing address up [] x = refl
is_own-changing address up (own ∷ others) x = ap (λ b. same_address own.addr x || b) (is_own-changing address up others x)

pub is_own-by : (entry : Entry) (locators : List OwnLocator) (x : Addr) → is_own (changed_by entry locators) x ≡ is_own locators x
is_own-by (Changed moment address up) locators x = is_own-changing address up locators x
is_own-by _ locators x = refl

pub is_own-after : (settings : Settings) (journal : Journal) (x : Addr) → is_own (own_after settings journal) x ≡ is_own settings.locators x
is_own-after settings [] x = refl
is_own-after settings (entry ∷ before) x = is_own-by entry (own_after settings before) x ∙ is_own-after settings before x

-- so what a frame is doesn't depend on which are up
module _ (settings : Settings) (locators : List OwnLocator) (steps : ℕ) (same : (x : Addr) → is_own locators x ≡ is_own settings.locators x) where
  packet-with : (vlan : ℕ) (packet : FramePacket) → packet_course (standing_with settings locators steps) vlan packet ≡ packet_course settings vlan packet
  unfolding packet_course
  packet-with vlan packet = rw (same (source_of packet.header), same (dest_of packet.header)) refl

  pub course-with : (frame : Frame) → course_of (standing_with settings locators steps) frame ≡ course_of settings frame
  course-with frame = ap (unless_refused (frame_refusal frame)) (packet-with (link_vlan frame) (frame_packet frame))

  pub instance-with : (frame : Frame) → frame_instance (standing_with settings locators steps) frame ≡ frame_instance settings frame
  instance-with frame = rw (same (dest_of (frame_packet frame).header)) refl

pub course-stands : (settings : Settings) (journal : Journal) (frame : Frame) → course_of (standing settings journal) frame ≡ course_of settings frame
course-stands settings journal frame = course-with settings (own_after settings journal) (changed journal) (is_own-after settings journal) frame

pub instance-stands : (settings : Settings) (journal : Journal) (frame : Frame) → frame_instance (standing settings journal) frame ≡ frame_instance settings frame
instance-stands settings journal frame = instance-with settings (own_after settings journal) (changed journal) (is_own-after settings journal) frame

-- ### a change that comes next

pub and-parts : (a b : Bool) → (a && b) ≡ true → (a ≡ true) × (b ≡ true)
and-parts true b is = (refl, is)
and-parts false b is = (cc, cc)

both : (a b : Bool) → a ≡ true → b ≡ true → (a && b) ≡ true
both a b p q = rw (p, q) refl

few : (n most : ℕ) → n < most → nat_lt n most ≡ true
few n most less = grind (arith, nat_tests)

-- one that has the settings' next change may come
pub next-may : (settings : Settings) (journal : Journal) (entry : Entry) → MayChange settings → has_change (slice_get settings.changes (changed journal)) entry ≡ true → may_change (own_after settings journal) (changed journal) entry ≡ true
next-may settings journal (Changed moment address up) may has = by (slice_get settings.changes (changed journal)) refl has
  where
    by : (o : Option Change) → slice_get settings.changes (changed journal) ≡ o → is_change address up o ≡ true → may_change (own_after settings journal) (changed journal) (Changed moment address up) ≡ true
    by None is tells = cc
    by (Some change) is tells =
        let within = slice_get_within settings.changes (changed journal) change is in
        let most = may.few_changes in
        let there : is_own settings.locators change.address ≡ true = subst (λ (c : Change). is_own settings.locators c.address ≡ true) (get_or_from_slice_get settings.changes (changed journal) change change is) (may.own (changed journal) change within) in
        let same = equal-address change.address address (and-parts (same_address change.address address) _ tells).0 in
        both (is_own (own_after settings journal) address) (nat_lt (changed journal) 256)
        (is_own-after settings journal address ∙ subst (λ a. is_own settings.locators a ≡ true) same there)
        (few (changed journal) 256 (omega (arith, within, most)))
next-may settings journal _ may has = refl

-- ### a change is itself

pub same_up-refl : (up : Bool) → same_up up up ≡ true
same_up-refl true = refl
same_up-refl false = refl

pub same-address : (a : Addr) → same_address a a ≡ true
same-address a = rw (eq-eqb (width a) (width a) refl, eq-eqb (number a) (number a) refl) refl

-- ### lawful settings

module _ (a b : ℕ × Addr) where
  not-later : change_order a b ≡ Less → a.0 ≤ b.0
  not-later less = by (nat_le a.0 b.0) refl
    where
      past : b.0 < a.0 → change_order a b ≡ Greater
      past more = rw (sym (nat_cmp_is a.0 b.0 Greater more)) refl

      by : (t : Bool) → nat_le a.0 b.0 ≡ t → a.0 ≤ b.0
      by true is = grind (arith, nat_tests)
      by false is = absurd (let more : b.0 < a.0 = grind (arith, nat_tests) in let bad : Greater ≡ Less = sym (past more) ∙ less in cc)

later-all : (change : Change) (changes : List Change) → AllByRecursion (λ key. change_order (change_key change) key ≡ Less) (map change_key changes) → AllByRecursion (λ (next : Change). change.at ≤ next.at) changes
later-all change [] less = tt
later-all change (next ∷ changes) less = (not-later (change_key change) (change_key next) less.0, later-all change changes less.1)

in-turn : (changes : List Change) → IsStrictlySortedBy change_order (map change_key changes) → AreInTurn changes
unfolding IsStrictlySortedBy
in-turn [] sorted = tt
in-turn (change ∷ changes) sorted = (later-all change changes sorted.0, in-turn changes sorted.1)

pub lawful-may : LawfulMayChange
lawful-may settings lawful = record {
  few_changes = lawful.few_changes;
  turns = in-turn settings.changes lawful.moments;
  own = lawful.changes;
  few_databases = lawful.few_databases;
  limits = limits_in-limits settings lawful;
  room = limits_in-room settings lawful;
}

-- ### versions

step-on : (x r : ℕ) → r ≡ x % 4095 → successor (suc r) ≡ suc ((x + 1) % 4095)
step-on x r is = by (r == 4094) refl
  where
    by : (t : Bool) → (r == 4094) ≡ t → successor (suc r) ≡ suc ((x + 1) % 4095)
    by true last = let same : r ≡ 4094 = grind (arith, nat_tests) in rw (eq-eqb (suc r) 4095 (omega (arith, same))) (omega (arith, same, is))
    by false other = let differs : r ≢ 4094 = (λ same. let there : (r == 4094) ≡ true = eq-eqb r 4094 same in let bad : true ≡ false = sym there ∙ other in cc) in rw (ne_eqb (suc r) 4095 (λ same. differs (omega (arith, same)))) (omega (arith, is, differs))

steps-round : (steps version : ℕ) → 1 ≤ version → version ≤ 4095 → stepped steps version ≡ suc ((version - 1 + steps) % 4095)
steps-round zero version some most = omega (arith, some, most)
steps-round (suc steps) version some most =
    ap successor (steps-round steps version some most)
    ∙ step-on (version - 1 + steps) ((version - 1 + steps) % 4095) refl
    ∙ ap (λ n. suc (n % 4095)) (let one : version - 1 + steps + 1 ≡ version - 1 + suc steps = omega (arith, some) in one)

pub versions-step : VersionsStep
versions-step steps = (refl, λ version some most. rw (ne_eqb version 0 (omega (arith, some))) (steps-round steps version some most))
