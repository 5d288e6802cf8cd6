-- What a steady desk owes, from one call to the next.
use Rattle.std.proofs.Common.{◌≡◌, ℕ, List, [], ◌∷◌, ◌++◌, eqb, Option, Some, None, is_some, Result, Ok, IsTrue, subst, sym, inl, inr}
use Rattle.std.specs.Option.{IfSome}
use Rattle.std.specs.Result.{IfOk}
use Rattle.std.proofs.lemmas.Bool.{cases_Bool}
use Rattle.capture_io.specs.Reading.{Reading}
use Rattle.command_words.specs.declared.intake.InputFormat.TheVariants.{Classic}
use Rattle.desk.specs.World.{World, Direction, Shown, content, found_at, there, shown, shown_of, IsGiven, IsThere}
use Rattle.desk.proofs.Entries.{found_at-more}
use Rattle.lisp_settings.specs.Settings.{settings_of}
use Rattle.lisp_settings.specs.declared.fault.SettingsFault.{SettingsFault}
use Rattle.lisp_settings.specs.declared.settings.Settings.{Settings}
use Rattle.replay.specs.Opening.{Opened, OpensClassic, opened}
use Rattle.replay.specs.Owed.{AreCompared, IfLawful}

-- an id stays given
pub given-kept : (id : ℕ) (direction : Direction) (given more : List (ℕ × Direction)) → IsGiven id direction given → IsGiven id direction (given ++ more)
given-kept id direction [] more is = cc
given-kept id direction (entry ∷ given) more is =
    elim (cases_Bool (eqb entry.0 id))
    [ inl e ↦ rw e (rw e at is) | inr e ↦ rw e (given-kept id direction given more (rw e at is)) ]

-- an id that was just given
pub given-new : (id : ℕ) (direction : Direction) (given new : List (ℕ × Direction)) → found_at id given ≡ None → new ≡ given ++ (id, direction) ∷ [] → IsGiven id direction new
given-new id direction given new fresh is = rw is (found_at-more id direction given fresh)

-- a file stays there, as long as what is shown stays
pub there-kept : (name : List ℕ) (old new : Option World) → shown new ≡ shown old → IsThere name old → IsThere name new
there-kept name None new same is = absurd is
there-kept name (Some w) None same is = cc
there-kept name (Some w) (Some v) same is =
    let e : shown_of w ≡ shown_of v = cc in
    subst (λ (x : Shown). IsTrue (is_some (there name x.files))) e is

-- and so do two captures of which the second is owed behind the header of the first
pub compared-kept : (input sent : List ℕ) (old new : Option World) → shown new ≡ shown old → AreCompared input sent old → AreCompared input sent new
compared-kept input sent None new same are = absurd are.0
compared-kept input sent (Some w) None same are = cc
compared-kept input sent (Some w) (Some v) same are =
    let e : shown_of w ≡ shown_of v = cc in
    (there-kept input (Some w) (Some v) same are.0, subst (λ (x : Shown). IfOk (opened Classic (content input x.files)) (λ _. IsTrue (is_some (there sent x.files)))) e are.1)

-- what is owed where settings are lawful is so of lawful ones that were read
pub owed-lawful : (So : Settings → Type 0) (name : List ℕ) (settings : Settings) (told : Option World) → IsThere name told
    → IfSome told (λ w. Ok settings ≡ settings_of (content name w.files)) → IfLawful name told So → So settings
owed-lawful So name settings None is reads owed = absurd is
owed-lawful So name settings (Some w) is reads owed = subst (λ (r : Result Settings SettingsFault). IfOk r So) (sym reads) owed

-- where the first capture was opened, both are there
pub both-there : (input sent : List ℕ) (reader : Reading) (old new : Option World) → shown new ≡ shown old
    → IfSome old (λ w. OpensClassic (opened Classic (content input w.files)) (Ok reader) new) → AreCompared input sent old
    → IsThere input new × IsThere sent new
both-there input sent reader None new same opens are = absurd are.0
both-there input sent reader (Some w) None same opens are = absurd opens
both-there input sent reader (Some w) (Some v) same opens are =
    let is : IsThere sent (Some w) = subst (λ (r : Opened). IfOk r (λ _. IsThere sent (Some w))) opens are.1 in
    (there-kept input (Some w) (Some v) same are.0, there-kept sent (Some w) (Some v) same is)
