-- The words of refusals in a report.
use Rattle.std.specs.Prelude.{ℕ, List, ◌∷◌, ◌++◌, codes}
use Rattle.std.specs.Fmt.{decimal}
use Rattle.octets.specs.declared.refused.Refused.{Refused}
use Rattle.octets.specs.declared.refused.Layer.{Layer}
use Rattle.octets.specs.declared.refused.Layer.TheVariants as layer
use Rattle.octets.specs.declared.refused.Why.{Why}
use Rattle.octets.specs.declared.refused.Why.TheVariants as why

-- the word of a layer
abbrev pub layer_word : Layer → List ℕ
layer_word layer.Link = codes "link"
layer_word layer.Ip = codes "ip"
layer_word layer.Udp = codes "udp"
layer_word layer.Lisp = codes "lisp"
layer_word layer.Message = codes "message"

-- the word of the reason why a rule fails
abbrev pub why_word : Why → List ℕ
why_word why.Short = codes "short"
why_word why.EtherType = codes "ethertype"
why_word why.Version = codes "version"
why_word why.HeaderLength = codes "header-length"
why_word why.TotalLength = codes "total-length"
why_word why.Checksum = codes "checksum"
why_word why.UdpLength = codes "udp-length"
why_word why.UdpChecksum = codes "udp-checksum"
why_word why.Afi = codes "afi"
why_word why.MaskLength = codes "mask-length"
why_word why.LcafType = codes "lcaf-type"
why_word why.LcafLength = codes "lcaf-length"
why_word why.InstanceTooLarge = codes "instance-too-large"
why_word why.MessageType = codes "message-type"
why_word why.Authenticated = codes "authenticated"
why_word why.InnerProtocol = codes "inner-protocol"
why_word why.InnerPort = codes "inner-port"

-- the text of a refusal: its layer, place and reason
abbrev pub refused_text : Refused → List ℕ
refused_text r = layer_word r.layer ++ (32 ∷ (decimal r.place ++ (32 ∷ why_word r.why)))
