use Rattle.std.proofs.Common.{Option, Some, ap, ◌∙◌}
use Rattle.bc_disk.specs.Device.{next_count}
use Rattle.bc_cache.specs.declared.slots.Cached.{Cached}
use Rattle.bc_cache.specs.contracts.cache.NodeCache.{the_view}
use Rattle.bc_cache.specs.Search.{with_use}
use Rattle.bc_cache.proofs.Changed.{item_is, touched, used_after}
use Rattle.bc_cache.proofs.cache.NodeCache.touch.Goals as goal

pub invariant_of-self : goal.invariant_of-self
invariant_of-self c =
    let taken = rw (← c.self.view_is) at c.requires in
    touched c.self.inside.slots.items c.self.inside.uses c.next_use-uses.result c.args.slot c.set_used.new.slot taken.0 c.next_use-uses.ensures
    (c.set_used.ensures ∙ ap (λ (k : Option Cached). with_use k c.next_use-uses.result) (item_is c.self.inside.slots.items c.args.slot c.index_mut.result.now (Some taken.0) taken.1 c.index_mut.ensures.value))
    taken.1 c.self.invariant

pub returns : goal.returns
returns c =
    let taken = rw (← c.self.view_is) at c.requires in
    rw (← c.self.view_is) (record {
      cached = taken.0;
      there = taken.1;
      after = used_after (the_view c.self.inside) c.args.slot c.next_use-uses.result c.set_used.new.slot (Some (record taken.0 { used = next_count c.self.inside.uses }))
          (c.set_used.ensures ∙ ap (λ (k : Option Cached). with_use k c.next_use-uses.result) (item_is c.self.inside.slots.items c.args.slot c.index_mut.result.now (Some taken.0) taken.1 c.index_mut.ensures.value)
          ∙ ap (λ n. Some (record taken.0 { used = n })) c.next_use-uses.ensures)
          c.next_use-uses.ensures;
    })
