-- The views of seats at the published table: the writer's, a reader's, or that of a note from the writer to a reader.
use Rattle.std.specs.Prelude.{◌≡◌, true, false, None, List, [], ◌∷◌, ◌++◌}
use Rattle.lisp_settings.specs.declared.settings.Settings.{Settings}
use Rattle.router_log.specs.declared.entry.Entry.{Entry}
use Rattle.router_model.specs.Parts.{absorbed}
use Rattle.forwarders.specs.declared.door.change.Change.{Change}
use Rattle.forwarders.specs.declared.door.change.Change.TheVariants.{Adds, Opens}
use Rattle.forwarders.specs.declared.door.view.View.{View}
use Rattle.forwarders.specs.declared.door.view.View.TheVariants.{Newcomer, Reads, Writes, Tells}
use Rattle.forwarders.specs.Publication.{Forwarding, Publication, Side}

-- ### changes

-- a copy of the table after a change
abbrev pub changed : Side → Change → Side
changed side (Adds entry) = record { parts = absorbed side.parts entry; is_open = side.is_open }
changed side Opens = record { parts = side.parts; is_open = true }

-- the entries among changes
abbrev pub entries_of : List Change → List Entry
entries_of [] = []
entries_of (Adds entry ∷ changes) = entry ∷ entries_of changes
entries_of (Opens ∷ changes) = entries_of changes

-- ### what is in a view

-- settings in place of those of a newcomer, which has none
abbrev no_settings : Settings
no_settings = record {
  seed = [];
  nonces = [];
  resolver = None;
  ttl = 0;
  probe = false;
  echo = false;
  locators = [];
  attachments = [];
  databases = [];
  mappings = [];
  changes = [];
  limits = [];
}

abbrev pub settings_in : View → Settings
settings_in Newcomer = no_settings
settings_in (Reads settings seen plan) = settings
settings_in (Writes settings own plan) = settings
settings_in (Tells settings one plan) = settings

abbrev pub list_in : View → List (List Entry)
list_in Newcomer = []
list_in (Reads settings seen plan) = seen
list_in (Writes settings own plan) = own
list_in (Tells settings one plan) = one

abbrev pub plan_in : View → List (List Entry)
plan_in Newcomer = []
plan_in (Reads settings seen plan) = plan
plan_in (Writes settings own plan) = plan
plan_in (Tells settings one plan) = plan

-- a view is that of a reader which has seen a list
abbrev pub IsReading : View → Type 0
IsReading v = v ≡ Reads (settings_in v) (list_in v) (plan_in v)

-- a view is that of the writer, once the publication has begun
abbrev pub IsWriting : View → Type 0
IsWriting v = v ≡ Writes (settings_in v) (list_in v) (plan_in v)

abbrev pub forwarding_of : View → Forwarding
forwarding_of v = record { settings = settings_in v; seen = list_in v; plan = plan_in v }

abbrev pub publication_of : View → List Entry → Publication
publication_of v pending =
    record { settings = settings_in v; batches = list_in v; plan = plan_in v; pending = pending }

-- ### how views change

-- the note that the writer makes of its view for a reader; of any other view a newcomer's
abbrev pub told_of : View → View
told_of (Writes settings own plan) = Tells settings own plan
told_of v = Newcomer

-- the view of a newcomer that takes a note, as a reader of its list and plan; any other view stays
abbrev pub after_note : View → View → View
after_note Newcomer (Tells settings one plan) = Reads settings one plan
after_note v w = v

-- the writer's view with these batches behind its plan; any other view stays
abbrev pub planning : List (List Entry) → View → View
planning more (Writes settings own plan) = Writes settings own (plan ++ more)
planning more v = v

-- the view of the writer with its first list, which is its plan
abbrev pub beginning : Settings → List (List Entry) → View
beginning settings list = Writes settings list list
