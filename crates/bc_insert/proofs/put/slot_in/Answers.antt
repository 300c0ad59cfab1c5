use Rattle.std.proofs.Common.{subst}
use Rattle.bc_cache.specs.Slots.{HasLeaf}
use Rattle.bc_place.specs.bc_hand.declared.hand.LeafHand.{LeafHand}
use Rattle.bc_insert.proofs.Putting.{one_some}
use Rattle.bc_insert.proofs.put.slot_in.Goals as goal

pub unreachable-requires-in_default-find : goal.unreachable-requires-in_default-find
unreachable-requires-in_default-find g c =
    let req = c.requires in
    c.in_default-find.ensures req.1
    (subst (λ (l : LeafHand). HasLeaf l.cache.slots req.1 c.args.leaf)
    (one_some c.args.hand.now.leaves req.0 c.in-Some.leaves req.2 c.in-Some.is) req.3)
