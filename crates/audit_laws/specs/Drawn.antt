-- The nonces that a router draws, and when they are lifted out of what it sent.
use Rattle.std.specs.Prelude.{◌≡◌, ℕ, zero, suc, ◌<◌, ◌≤◌, ◌^◌, nat_eq, false, List, [], ◌∷◌, ◌++◌, All, length}
use Rattle.std.specs.List.{IsDistinct}
use Rattle.ip_headers.specs.Addr.{IsAddr}
use Rattle.capture_io.specs.Frame.{Frame}
use Rattle.capture_io.specs.Run.{AreLater}
use Rattle.lisp_settings.specs.Lawful.{IsLawful}
use Rattle.lisp_settings.specs.Nonces.{nonce_of}
use Rattle.lisp_settings.specs.declared.settings.OwnLocator.{OwnLocator}
use Rattle.lisp_settings.specs.declared.settings.Settings.{Settings}
use Rattle.capture_events.specs.Came.{IsRead}
use Rattle.capture_events.specs.Events.{events, played}
use Rattle.router_model.specs.Journal.{Journal, drawn}
use Rattle.router_model.specs.Plain.{plain, started}
use Rattle.audit.specs.Limits.{most_lifted}
use Rattle.audit_laws.specs.Delivers.{DeliverOthers}

-- the nonce with number i of settings, from 0 on
abbrev pub nonce_at : Settings → ℕ → ℕ
nonce_at settings i = nonce_of settings.seed settings.nonces i

-- the first n nonces of settings, in the order in which they are drawn
abbrev pub first_nonces : Settings → ℕ → List ℕ
first_nonces settings zero = []
first_nonces settings (suc n) = first_nonces settings n ++ nonce_at settings n ∷ []

-- the settings with another seed and other nonces
abbrev pub with_nonces : Settings → List ℕ → List ℕ → Settings
with_nonces settings seed nonces = record settings { seed = seed; nonces = nonces }

-- the journal of the plain router after all frames
abbrev pub journal_after : Settings → List Frame → Journal
journal_after settings frames = (played plain (started settings) (events frames)).after.memory

-- the nonces that the plain router draws for frames
abbrev pub drawn_nonces : Settings → List Frame → List ℕ
drawn_nonces settings frames = first_nonces settings (drawn (journal_after settings frames))

-- the numbers of an own locator fit their types
pub record IsInRange (own : OwnLocator) : Type 0 where
  pub addr : IsAddr own.addr
  pub priority : own.priority < 256
  pub weight : own.weight < 256

-- the numbers of settings fit their types: those of the own locators, and the listed nonces
pub record AreInRange (settings : Settings) : Type 0 where
  pub locators : All IsInRange settings.locators
  pub nonces : All (λ nonce. nonce < 2 ^ 64) settings.nonces

-- the conditions under which the nonces that a router drew are lifted: lawful settings without echoes (an echo draws a
-- nonce and sends no Map-Request), frames that were read and whose moments don't fall, no delivered packet that looks
-- like one of the router's own, and drawn nonces that differ and are no more than may be lifted
pub record MayLift (settings : Settings) (frames : List Frame) : Type 0 where
  pub lawful : IsLawful settings
  pub range : AreInRange settings
  pub no_echo : settings.echo ≡ false
  pub read : All IsRead frames
  pub later : AreLater 0 frames
  pub others : DeliverOthers (started settings) (events frames)
  pub apart : IsDistinct nat_eq (drawn_nonces settings frames)
  pub few : length (drawn_nonces settings frames) ≤ most_lifted
