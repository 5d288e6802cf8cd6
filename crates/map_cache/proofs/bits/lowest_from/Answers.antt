use Rattle.std.proofs.Common.{ℕ, ◌+◌, ◌*◌, ◌/◌, ◌%◌, ◌^◌, subst, sym, ap, ◌∙◌, w32, Fits}
use Rattle.map_cache.proofs.BitLemmas.{lowest_from-fits, lowest_from-shifts}
use Rattle.map_cache.proofs.bits.lowest_from.Goals as goal

pub overflow_cast-result : goal.overflow_cast-result
overflow_cast-result c =
    subst (Fits w32)
    (sym (ap (λ (n : ℕ). n / 2 ^ c.args.width * 2 ^ c.args.width % 2 ^ 64 + c.args.new % (1 * 2 ^ c.args.width % 2 ^ 64)) c.from.ensures ∙ lowest_from-shifts c.args.width c.args.old c.args.new c.requires c.ranges.old.fits))
    (record { fits = lowest_from-fits c.args.width c.args.old c.args.new c.requires c.ranges.old.fits })
