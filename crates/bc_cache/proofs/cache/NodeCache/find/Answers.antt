use Rattle.std.proofs.Common.{List, Option, subst, ap, ◌∙◌}
use Rattle.bc_cache.specs.declared.slots.Cached.{Cached}
use Rattle.bc_cache.specs.Slots.{NodeCache, HasLeaf, IsSlotOf, Misses}
use Rattle.bc_cache.proofs.Changed.{only_slot}
use Rattle.bc_cache.proofs.cache.NodeCache.find.Goals as goal

pub returns-in-None : goal.returns-in-None
returns-in-None c = subst (λ (xs : List (Option Cached)). Misses xs c.args.number) (c.deref.ensures.value ∙ ap (λ (v : NodeCache). v.slots) c.self.view_is) c.in-None.ensures

pub returns-in-Some : goal.returns-in-Some
returns-in-Some c =
    subst (λ (xs : List (Option Cached)). IsSlotOf xs c.args.number c.in-Some.slot) (ap (λ (v : NodeCache). v.slots) c.self.view_is)
    (only_slot c.self.inside.slots.items c.self.inside.uses c.in-Some.slot c.args.number c.self.invariant
    (subst (λ (xs : List (Option Cached)). HasLeaf xs c.in-Some.slot c.args.number) c.deref.ensures.value c.in-Some.ensures))
