use Rattle.router_core.proofs.site.Site.own_bits.Goals as goal

pub few_bits-requires : goal.few_bits-requires
few_bits-requires c = c.locators-ups.ensures.few c.requires
