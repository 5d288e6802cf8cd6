use Rattle.std.proofs.Common.{arith}
use Rattle.map_cache.specs.Cache.{lasting}
use Rattle.map_cache.proofs.CountLemmas.{learned_in-few}
use Rattle.map_cache.proofs.FullLemmas.{length-lasting}
use Rattle.map_cache.proofs.indexed.Indexed.counted_in.Goals as goal

pub overflow_add-count : goal.overflow_add-count
overflow_add-count c =
    let mappings = c.args.self.now.mappings in
    omega (arith, c.loop-mapping.invariant, learned_in-few c.args.iid (lasting c.args.m mappings), length-lasting c.args.m mappings, c.requires)
