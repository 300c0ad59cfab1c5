use Rattle.std.proofs.Common.{◌≡◌, Some, None, ap}
use Rattle.std.specs.Vec.{with_item}
use Rattle.bc_cache.specs.declared.slots.Cached.{Cached}
use Rattle.bc_cache.specs.contracts.cache.NodeCache.{the_view}
use Rattle.bc_cache.proofs.Changed.{emptied, empty_after, item_is, set_after}
use Rattle.bc_cache.proofs.cache.NodeCache.take.Goals as goal

pub invariant_of-self : goal.invariant_of-self
invariant_of-self c = emptied c.self.inside.slots.items c.self.inside.uses c.args.slot c.take.new.self c.take.ensures.after c.self.invariant

pub returns : goal.returns
returns c =
    let taken = rw (← c.self.view_is) at c.requires in
    let item = item_is c.self.inside.slots.items c.args.slot c.index_mut.result.now (Some taken.0) taken.1 c.index_mut.ensures.value in
    let same : taken.0 ≡ c.in-Some.field-0 = cc (item, c.take.ensures.value, c.in-Some.is) in
    rw (← c.self.view_is) (record {
      was = (taken.0, taken.1, ap (λ (x : Cached). x.leaf) same);
      after = set_after (the_view c.self.inside) c.args.slot c.take.new.self None c.take.ensures.after;
      empty = empty_after (the_view c.self.inside) (the_view (record c.self.inside { slots = with_item c.self.inside.slots c.args.slot c.take.new.self })) c.args.slot (Some taken.0) taken.1 (set_after (the_view c.self.inside) c.args.slot c.take.new.self None c.take.ensures.after);
    })
