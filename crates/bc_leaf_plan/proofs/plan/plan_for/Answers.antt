use Rattle.std.proofs.Common.{Some, sym, ap, ◌∙◌}
use Rattle.bc_leaf_plan.proofs.Handed.{at_slot, has_no_plan, has_plan}
use Rattle.bc_leaf_plan.proofs.plan.plan_for.Goals as goal

pub leaf-leaf-requires : goal.leaf-leaf-requires
leaf-leaf-requires g c = at_slot c.args.hand.now.leaves c.requires.at.leaves
    c.in-Some-leaves.leaves c.args.slot c.requires.at.cached c.requires.at.are_leaves
    c.in-Some-leaves.is c.requires.at.there

pub returns-clause-ok : goal.returns-clause-ok
returns-clause-ok g c at = has_plan c.args.hand.now c.args.slot c.args.count c.args.sectors
    c.args.way c.args.buckets.now c.get_mut.result.now c.plan_in-plan.new.part
    c.in-Some-leaves.leaves c.leaf-leaf.result.now
    (sym c.take.ensures.value ∙ c.in-Some.is ∙ ap Some (sym c.get_mut.ensures.part))
    c.in-Some-leaves.is c.leaf-leaf.ensures c.plan_in-plan.ensures.part c.plan_in-plan.ensures.tree
    at c.plan_in-plan.result c.plan_in-plan.ensures.ok

pub returns-clause-err : goal.returns-clause-err
returns-clause-err g c at = has_no_plan c.args.hand.now c.args.slot c.args.count c.args.sectors
    c.args.way c.args.buckets.now c.get_mut.result.now c.plan_in-plan.new.part
    c.in-Some-leaves.leaves c.leaf-leaf.result.now
    (sym c.take.ensures.value ∙ c.in-Some.is ∙ ap Some (sym c.get_mut.ensures.part))
    c.in-Some-leaves.is c.leaf-leaf.ensures c.plan_in-plan.ensures.part c.plan_in-plan.ensures.tree
    at c.plan_in-plan.result c.plan_in-plan.ensures.err
