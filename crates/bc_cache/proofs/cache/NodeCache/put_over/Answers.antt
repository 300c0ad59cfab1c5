use Rattle.std.proofs.Common.{refl}
use Rattle.bc_cache.specs.Slots.{coming}
use Rattle.bc_cache.proofs.Changed.{put_in}
use Rattle.bc_cache.proofs.cache.NodeCache.put_over.Goals as goal

pub invariant_of-self : goal.invariant_of-self
invariant_of-self c =
    put_in c.self.inside.slots.items c.self.inside.uses c.next_use-uses.result c.args.slot (coming c.args.number c.args.leaf c.next_use-uses.result) c.next_use-uses.ensures refl
    (rw (← c.self.view_is) at c.requires.new) c.self.invariant
