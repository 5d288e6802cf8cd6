use Rattle.std.proofs.Common.{rules, ◌≡◌, true}
use Rattle.ip_headers.specs.Ip.{is_v4}
use Rattle.encap.proofs.forwarding.forwarded_front.Goals as goal

pub returns-in-V4 : goal.returns-in-V4
returns-in-V4 c =
    let inner = c.args.inner.now in
    let four : is_v4 inner.octets.now ≡ true = search rules in
    rw four (c.front_v4.ensures inner.base inner.lawful)
