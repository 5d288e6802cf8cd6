use Rattle.std.proofs.Common.{◌<◌, ◌∙◌, All}
use Rattle.std.proofs.lemmas.Grind.{get_or_default_zero}
use Rattle.encap.proofs.LoweredSum.{forwarded_v4-lowered}
use Rattle.encap.proofs.forwarding.front_v4.Goals as goal

pub returns : goal.returns
returns c base lawful =
    let octets = c.args.octets.now in
    let all : All (λ octet. octet < 256) octets = λ k d below. rw (get_or_default_zero octets k d below) (c.type_inv.octets k).fits in
    c.lowered_front.ensures ∙ forwarded_v4-lowered base octets lawful c.requires.version c.requires.ttl all
