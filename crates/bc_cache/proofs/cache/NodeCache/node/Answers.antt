use Rattle.std.proofs.Common.{◌≡◌, List, Option, Some, refl, ap, sym, subst}
use Rattle.std.specs.Prelude.{IfSome}
use Rattle.bc_cache.specs.declared.slots.Cached.{Cached}
use Rattle.bc_cache.proofs.Changed.{item_is, leaf_changed, lent}
use Rattle.bc_cache.proofs.cache.NodeCache.node.Goals as goal

pub invariant_of-self-lent : goal.invariant_of-self-lent
invariant_of-self-lent c w =
    let taken = rw (← c.self.view_is) at c.requires in
    lent c.self.inside.slots.items c.self.inside.uses c.args.slot c.index_mut.result.now taken.0 w
    (item_is c.self.inside.slots.items c.args.slot c.index_mut.result.now (Some taken.0) taken.1 c.index_mut.ensures.value) taken.1 c.self.invariant

pub returns : goal.returns
returns c =
    let taken = rw (← c.self.view_is) at c.requires in
    let item = item_is c.self.inside.slots.items c.args.slot c.index_mut.result.now (Some taken.0) taken.1 c.index_mut.ensures.value in
    let is = subst (λ (o : Option Cached). IfSome o (λ x. c.leaf_in.result.now ≡ x.leaf)) item c.leaf_in.ensures.leaf in
    rw (← c.self.view_is) (
      (refl, λ w. ap (λ (ks : List (Option Cached)). record { geometry = c.self.inside.g; slots = ks; uses = c.self.inside.uses }) (leaf_changed c.self.inside.slots.items c.args.slot c.index_mut.result.now w c.index_mut.ensures.value)),
      record {
        lends = tt;
        leaf = (taken.0, taken.1, sym is);
      },
    )
