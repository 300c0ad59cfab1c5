use Rattle.std.proofs.Common.{Option, Some, true, ap, ◌∙◌}
use Rattle.bc_cache.specs.declared.slots.Cached.{Cached}
use Rattle.bc_cache.specs.contracts.cache.NodeCache.{the_view}
use Rattle.bc_cache.specs.Search.{with_hold}
use Rattle.bc_cache.proofs.Changed.{item_is, held, set_after}
use Rattle.bc_cache.proofs.cache.NodeCache.hold.Goals as goal

pub invariant_of-self : goal.invariant_of-self
invariant_of-self c =
    let taken = rw (← c.self.view_is) at c.requires in
    held c.self.inside.slots.items c.self.inside.uses c.args.slot true c.set_held.new.slot taken.0
    (c.set_held.ensures ∙ ap (λ (k : Option Cached). with_hold k true) (item_is c.self.inside.slots.items c.args.slot c.index_mut.result.now (Some taken.0) taken.1 c.index_mut.ensures.value))
    taken.1 c.self.invariant

pub returns : goal.returns
returns c =
    let taken = rw (← c.self.view_is) at c.requires in
    rw (← c.self.view_is) (record {
      cached = taken.0;
      there = taken.1;
      after = set_after (the_view c.self.inside) c.args.slot c.set_held.new.slot (Some (record taken.0 { held = true }))
          (c.set_held.ensures ∙ ap (λ (k : Option Cached). with_hold k true) (item_is c.self.inside.slots.items c.args.slot c.index_mut.result.now (Some taken.0) taken.1 c.index_mut.ensures.value));
    })
