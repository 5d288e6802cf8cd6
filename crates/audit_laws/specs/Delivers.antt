-- Packets that are delivered, by the source of the packet inside.
use Rattle.std.specs.Prelude.{◌≡◌, false, List, [], ◌∷◌}
use Rattle.ip_headers.specs.Ip.{header_at, source_of}
use Rattle.lisp_settings.specs.declared.settings.Settings.{Settings}
use Rattle.capture_events.specs.Events.{Event, Tick, Arrival}
use Rattle.router_log.specs.declared.verdict.Verdict.{Verdict}
use Rattle.router_log.specs.declared.verdict.Verdict.TheVariants.{Delivered}
use Rattle.router_model.specs.Decide.{decide}
use Rattle.router_model.specs.Journal.{Journal}
use Rattle.router_model.specs.Plain.{Router, plain}
use Rattle.router_model.specs.Site.{is_own}

-- a packet that is delivered has no own locator as its source; other verdicts are free
abbrev pub ComesFromOther : Settings → Verdict → Type 0
ComesFromOther settings (Delivered iid packet) = is_own settings.locators (source_of (header_at packet)) ≡ false
ComesFromOther settings _ = Unit {0}

-- a packet that the plain router delivers at an event has no own locator as its source
abbrev pub DeliversOther : Router Journal → Event → Type 0
DeliversOther router (Tick second) = Unit {0}
DeliversOther router (Arrival frame) = ComesFromOther router.settings (decide router.settings router.memory frame.moment frame).verdict

-- a packet that the plain router delivers at any of the events that it plays has no own locator as its source
abbrev pub DeliverOthers : Router Journal → List Event → Type 0
DeliverOthers router [] = Unit {0}
DeliverOthers router (event ∷ events) = DeliversOther router event × DeliverOthers (plain router event).after events
