-- Emits whose packets can be made.
use Rattle.std.specs.Prelude.{◌≡◌, ◌≤◌, IsTrue, is_some, length}
use Rattle.ip_headers.specs.Addr.{width}
use Rattle.ip_headers.specs.declared.addr.Addr.{Addr}
use Rattle.map_messages.specs.Range.{InRangeReply}
use Rattle.map_messages.specs.Reply.{canonical_reply}
use Rattle.map_messages.specs.declared.message.MapReply.{MapReply}
use Rattle.map_messages.specs.Limits.{most_message_octets}
use Rattle.lisp_settings.specs.declared.settings.Settings.{Settings}
use Rattle.router_log.specs.declared.emit.Emit.{Emit}
use Rattle.router_log.specs.declared.emit.Emit.TheVariants.{Request, Probe, Solicit, Reply}
use Rattle.router_model.specs.Site.{ours}

-- a Map-Reply that can be written, between two addresses of one family
pub record IsSendableReply (from to : Addr) (reply : MapReply) : Type 0 where
  pub family : width from ≡ width to
  pub range : InRangeReply reply
  pub short : length (canonical_reply reply) ≤ most_message_octets

-- the packet of an emit can be made: for a probe and an SMR an own locator of the receiver's family is up; a Map-Reply
-- can be written
abbrev pub IsSendable : Settings → Emit → Type 0
IsSendable settings (Request eid source invoked nonce) = Unit {0}
IsSendable settings (Probe to eid nonce) = IsTrue (is_some (ours settings.locators to))
IsSendable settings (Solicit to eid nonce) = IsTrue (is_some (ours settings.locators to))
IsSendable settings (Reply from to port reply) = IsSendableReply from to reply
