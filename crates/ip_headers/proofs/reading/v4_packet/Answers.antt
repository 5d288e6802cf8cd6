use Rattle.std.proofs.Common.{◌≡◌, ◌∙◌, ℕ, ap, arith, eqb, true}
use Rattle.octets.specs.Numbers.{big}
use Rattle.ip_headers.specs.Ip.{is_v4}
use Rattle.ip_headers.specs.declared.header.V4Header.{V4Header}
use Rattle.ip_headers.specs.declared.header.IpHeader.TheVariants.{V4}
use Rattle.ip_headers.proofs.CutPacket.{v4_cut}
use Rattle.ip_headers.proofs.reading.v4_packet.Goals as goal

pub invariant_of-result : goal.invariant_of-result
invariant_of-result c =
    let four : is_v4 c.args.octets.now ≡ true = ap (λ (v : ℕ). eqb v 4) c.requires.version in
    let cut = v4_cut c.args.base c.args.octets.now c.requires.rules four in
    let total = ap (λ (h : V4Header). h.total) c.v4_at-header.ensures in
    let size : c.wide.result ≡ big 2 c.args.octets.now 2 = c.wide.ensures.value ∙ total in
    record {
      lawful = rw size cut.lawful;
      spells = rw size (ap V4 c.v4_at-header.ensures ∙ cut.spells);
      exact = rw size (rw total cut.exact);
      place = c.from.ensures;
      room = rw size (omega (arith, cut.exact, cut.within, c.requires.room));
      short = rw size (omega (arith, cut.exact, c.wide.ensures.short, size));
    }
