use Rattle.std.proofs.Common.{◌≡◌, Option, Some, refl, sym, subst, ◌∙◌}
use Rattle.std.specs.Prelude.{IfSome}
use Rattle.bc_cache.specs.declared.slots.Cached.{Cached}
use Rattle.bc_cache.proofs.Changed.{item_is}
use Rattle.bc_cache.proofs.cache.NodeCache.leaf.Goals as goal

pub returns : goal.returns
returns c =
    let taken = rw (← c.self.view_is) at c.requires in
    let item = item_is c.self.inside.slots.items c.args.slot c.index.result.now (Some taken.0) taken.1
    c.index.ensures in
    rw (← c.self.view_is) (
      taken.0,
      taken.1,
      sym (subst (λ (o : Option Cached). IfSome o (λ x. c.in-Some.cached.leaf ≡ x.leaf))
          (sym c.in-Some.is ∙ item) refl),
    )
