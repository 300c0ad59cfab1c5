use Rattle.std.proofs.Common.{refl, sym, ap, ◌∙◌, subst}
use Rattle.std.specs.Prelude.{slice_get}
use Rattle.bc_cache.specs.Slots.{HasLeaf}
use Rattle.bc_cache.specs.declared.slots.Cached.{Cached}
use Rattle.bc_fetch.specs.bc_hand.declared.hand.LeafHand.{LeafHand}
use Rattle.bc_insert.proofs.Putting.{one_cached, one_some}
use Rattle.bc_room.proofs.leaf.reserve.Goals as goal

pub unreachable-requires-in_default-find : goal.unreachable-requires-in_default-find
unreachable-requires-in_default-find g c =
    let req = c.requires in
    c.in_default-find.ensures req.1
    (subst (λ (l : LeafHand). HasLeaf l.cache.slots req.1 c.args.leaf)
    (one_some c.args.hand.now.leaves req.0 c.in-Some.leaves req.2
    (sym c.take.ensures.value ∙ c.in-Some.is)) req.3)

pub returns : goal.returns
returns g c =
    let has = c.in-Some-find.ensures.has in
    let reserved = c.reserve_in-done.ensures in
    record {
      leaves = c.in-Some.leaves;
      was = sym c.take.ensures.value ∙ c.in-Some.is;
      slot = c.in-Some-find.slot;
      cache = c.reserve_in-done.new.cache;
      reserved = reserved;
      its = ap (λ (x : Cached). x.number)
          (one_cached (slice_get c.in-Some.leaves.cache.slots c.in-Some-find.slot) reserved.cached
          has.cached reserved.there has.there) ∙ has.number_is;
      is = refl;
    }
