-- What the plain router sends for the frames of a capture, and the capture that is written of it.
use Rattle.std.specs.Prelude.{◌≤◌, IsTrue, List, ◌++◌, is_some, length}
use Rattle.capture_io.specs.Frame.{Frame}
use Rattle.capture_io.specs.Frames.{capture}
use Rattle.capture_io.specs.Output.{out_header}
use Rattle.capture_io.specs.Run.{Run}
use Rattle.capture_io.specs.declared.fault.CaptureFault.{CaptureFault}
use Rattle.map_messages.specs.Limits.{most_message_octets}
use Rattle.map_messages.specs.Reply.{canonical_reply}
use Rattle.lisp_settings.specs.declared.settings.Settings.{Settings}
use Rattle.capture_events.specs.Events.{Packet, events, played, records_of}
use Rattle.router_log.specs.declared.emit.Emit.{Emit}
use Rattle.router_log.specs.declared.emit.Emit.TheVariants.{Request, Probe, Solicit, Reply}
use Rattle.router_model.specs.Plain.{plain, started}
use Rattle.router_model.specs.Site.{ours, reaches_resolver}

-- the packets that the plain router sends for frames
abbrev pub sent_packets : Settings → List Frame → List Packet
sent_packets settings frames = (played plain (started settings) (events frames)).packets

-- the capture that is written of packets, as it is read: its frames and its fault
abbrev pub written : List Packet → Run CaptureFault
written packets = capture (out_header ++ records_of packets)

-- an emit can be made: for a Map-Request an own locator reaches the resolver, for a probe or an SMR one of the
-- receiver's family is up, and a Map-Reply isn't too long
abbrev pub CanBeMade : Settings → Emit → Type 0
CanBeMade settings (Request eid source invoked nonce) = IsTrue (reaches_resolver settings)
CanBeMade settings (Probe to eid nonce) = IsTrue (is_some (ours settings.locators to))
CanBeMade settings (Solicit to eid nonce) = IsTrue (is_some (ours settings.locators to))
CanBeMade settings (Reply from to port reply) = length (canonical_reply reply) ≤ most_message_octets
