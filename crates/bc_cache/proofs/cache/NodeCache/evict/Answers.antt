use Rattle.std.proofs.Common.{None, refl}
use Rattle.bc_cache.proofs.Changed.{emptied}
use Rattle.bc_cache.proofs.cache.NodeCache.evict.Goals as goal

pub invariant_of-self : goal.invariant_of-self
invariant_of-self c = emptied c.self.inside.slots.items c.self.inside.uses c.in_ok-slot.slot None refl c.self.invariant
