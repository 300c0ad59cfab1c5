use Rattle.bc_leaf_plan.proofs.Handed.{at_slot}
use Rattle.bc_leaf_plan.proofs.plan.needs_in.Goals as goal

pub leaf-requires : goal.leaf-requires
leaf-requires g c = at_slot c.args.hand.now.leaves c.requires.leaves c.in-Some-leaves.leaves
    c.args.slot c.requires.cached c.requires.are_leaves c.in-Some-leaves.is c.requires.there
