use Rattle.std.proofs.Common.{subst}
use Rattle.bc_cache.specs.Slots.{HasLeaf}
use Rattle.bc_fetch.specs.bc_hand.declared.hand.LeafHand.{LeafHand}
use Rattle.bc_dirty.proofs.Walking.{one_hand, seen_at}
use Rattle.bc_dirty.proofs.leaf.seen_in.Goals as goal

pub unreachable-requires-in_default-find : goal.unreachable-requires-in_default-find
unreachable-requires-in_default-find g c = let there = c.requires.there in
    c.in_default-find.ensures there.2.0
    (subst (λ (l : LeafHand). HasLeaf l.cache.slots there.2.0 c.args.number)
    (one_hand c.in-Some.leaves there.0 c.args.hand.now.leaves c.in-Some.is there.1) there.2.1)

pub returns : goal.returns
returns g c = λ slot of. (
  c.in-Some.leaves,
  c.in-Some.is,
  seen_at c.in-Some.leaves.cache.slots c.in-Some-find.slot slot c.args.number
      c.leaf-leaf.result.now (record { dirty = c.has_dirty_key.result; end = c.end.result })
      c.in-Some-find.ensures
      (subst (λ (l : LeafHand). HasLeaf l.cache.slots slot c.args.number)
      (one_hand c.in-Some.leaves of.0 c.args.hand.now.leaves c.in-Some.is of.1) of.2)
      c.leaf-leaf.ensures c.end.ensures c.has_dirty_key.ensures,
)
