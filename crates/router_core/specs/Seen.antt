-- The code's values in terms of the router's definitions.
use Rattle.std.specs.Prelude.{ℕ}
use Rattle.ip_headers.specs.declared.packet.IpPacket.{IpPacket}
use Rattle.router_log.specs.declared.verdict.Verdict.{Verdict}
use Rattle.router_model.specs.Course as model
use Rattle.router_model.specs.Hear as hearing
use Rattle.router_core.specs.declared.answering.Asker.{Asker}
use Rattle.router_core.specs.declared.answering.Path.{Path}
use Rattle.router_log.specs.declared.verdict.Verdict.TheVariants as verdicts
use Rattle.router_core.specs.declared.courses.Course.{Course}
use Rattle.router_core.specs.declared.courses.Settled.{Settled as SettledValue}
use Rattle.router_core.specs.declared.courses.Settled.TheVariants.{Own, Drop}
use Rattle.router_core.specs.declared.courses.Course.TheVariants.{Settled, Data, Control, Leaving}
use Rattle.router_core.specs.declared.datagram.Datagram.{Datagram}
use Rattle.router_core.specs.declared.hearing.Route.{Route}

-- a packet and its place, as definitions have them
abbrev pub packet_seen : IpPacket → model.FramePacket
packet_seen packet =
    record { base = packet.base; header = packet.header; octets = packet.octets.now }

-- a datagram in its packet, as definitions have it
abbrev pub datagram_seen : Datagram → model.Datagram
datagram_seen datagram = record { packet = packet_seen datagram.packet; udp = datagram.udp }

-- the verdict on a frame that is settled
abbrev pub settled_seen : SettledValue → Verdict
settled_seen Own = verdicts.Own
settled_seen (Drop reason) = verdicts.Drop reason

-- the course of a frame, as definitions have it
abbrev pub course_seen : Course → model.Course
course_seen (Settled settled) = model.Settled (settled_seen settled)
course_seen (Data datagram) = model.Data (datagram_seen datagram)
course_seen (Control datagram) = model.Control (datagram_seen datagram)
course_seen (Leaving iid packet) = model.Leaving iid (packet_seen packet)

-- a fact about the instance of a packet that leaves the site; of each other course it holds
abbrev pub IfLeaving : Course → (ℕ → Type 0) → Type 0
IfLeaving (Leaving iid packet) P = P iid
IfLeaving _ P = Unit {0}

-- the route of a message, as definitions have it
abbrev pub route_seen : Route → hearing.Route
route_seen route = record { from = route.from; dest = route.dest; port = route.port }

-- the asker of a Map-Request, as definitions have it
abbrev pub asker_seen : Asker → hearing.Asker
asker_seen asker = record { dest = asker.dest; port = asker.port; probe = asker.probe }

-- the path of a Map-Reply, as definitions have it
abbrev pub path_seen : Path → hearing.Path
path_seen path = record { from = path.from; to = path.to }
