use Rattle.std.proofs.Common.{◌≡◌, ◌∙◌, ℕ, sym, ap, arith, eqb, true, ◌+◌, refl}
use Rattle.octets.specs.Numbers.{big}
use Rattle.ip_headers.specs.Ip.{is_v6}
use Rattle.ip_headers.specs.declared.header.V6Header.{V6Header}
use Rattle.ip_headers.specs.declared.header.IpHeader.TheVariants.{V6}
use Rattle.ip_headers.proofs.CutPacket.{v6_cut}
use Rattle.ip_headers.proofs.reading.v6_packet.Goals as goal

pub slice_bounds-result-end : goal.slice_bounds-result-end
slice_bounds-result-end c =
    let six : is_v6 c.args.octets.now ≡ true = ap (λ (v : ℕ). eqb v 6) c.requires.version in
    let cut = v6_cut c.args.base c.args.octets.now c.requires.rules six in
    let size : c.wide.result ≡ big 2 c.args.octets.now 4 = c.wide.ensures.value ∙ ap (λ (h : V6Header). h.payload) c.v6_at-header.ensures in
    rw size (sym cut.exact)

pub invariant_of-result : goal.invariant_of-result
invariant_of-result c =
    let six : is_v6 c.args.octets.now ≡ true = ap (λ (v : ℕ). eqb v 6) c.requires.version in
    let cut = v6_cut c.args.base c.args.octets.now c.requires.rules six in
    let payload = ap (λ (h : V6Header). h.payload) c.v6_at-header.ensures in
    let size : c.wide.result ≡ big 2 c.args.octets.now 4 = c.wide.ensures.value ∙ payload in
    record {
      lawful = rw size cut.lawful;
      spells = rw size (ap V6 c.v6_at-header.ensures ∙ cut.spells);
      exact = rw size (cut.exact ∙ ap (λ (n : ℕ). n + 40) (sym payload));
      place = refl;
      room = rw size (omega (arith, cut.exact, cut.within, c.requires.room));
      short = rw size (omega (arith, cut.exact, c.wide.ensures.short, size));
    }
