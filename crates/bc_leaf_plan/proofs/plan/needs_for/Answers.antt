use Rattle.bc_leaf_plan.proofs.Handed.{split_none, split_some}
use Rattle.bc_leaf_plan.proofs.plan.needs_for.Goals as goal

pub returns-in-Split-clause-some : goal.returns-in-Split-clause-some
returns-in-Split-clause-some c = split_some c.args.way c.args.spine.now c.args.leaf.now
    c.split_needs.result c.in-Split.is c.split_needs.ensures

pub returns-in-Split-clause-none : goal.returns-in-Split-clause-none
returns-in-Split-clause-none c = split_none c.args.way c.args.spine.now c.args.leaf.now
    c.split_needs.result c.in-Split.is c.split_needs.ensures
