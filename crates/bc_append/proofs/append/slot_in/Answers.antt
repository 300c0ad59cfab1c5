use Rattle.std.proofs.Common.{sym, subst}
use Rattle.bc_append.proofs.Sending.{has_leaf, same_leaves}
use Rattle.bc_cache.specs.Slots.{IsSlotOf}
use Rattle.bc_place.specs.bc_hand.declared.hand.LeafHand.{LeafHand}
use Rattle.bc_append.proofs.append.slot_in.Goals as goal

pub unreachable-requires-in_default-find : goal.unreachable-requires-in_default-find
unreachable-requires-in_default-find g c = c.in_default-find.ensures c.requires.0
    (has_leaf c.args.hand.now c.requires.0 c.args.leaf c.requires.1 c.in-Some.leaves c.in-Some.is)

pub returns : goal.returns
returns g c slot at = (
  c.in-Some-find.ensures.only slot
      (has_leaf c.args.hand.now slot c.args.leaf at c.in-Some.leaves c.in-Some.is),
  subst (λ (y : LeafHand). IsSlotOf y.cache.slots c.args.leaf c.in-Some-find.slot)
      (sym (same_leaves c.args.hand.now slot c.args.leaf at c.in-Some.leaves c.in-Some.is))
      c.in-Some-find.ensures,
)
