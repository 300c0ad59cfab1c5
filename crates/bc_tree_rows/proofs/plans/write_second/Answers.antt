use Rattle.std.proofs.Common.{◌≡◌, Some, sym, subst}
use Rattle.bc_node.specs.Leaf.{Leaf}
use Rattle.bc_plan.specs.Write.{IsUnwritten}
use Rattle.bc_tree_rows.proofs.plans.write_second.Goals as goal

pub write_node-requires-clause-fits : goal.write_node-requires-clause-fits
write_node-requires-clause-fits g c = (c.args.spine.now, sym c.geometry.ensures, c.requires)

pub write_node-requires-clause-node : goal.write_node-requires-clause-node
write_node-requires-clause-node g c = subst (λ n. (leaf : Leaf) × (c.args.plan.now.second ≡ Some leaf) × IsUnwritten c.geometry.result.now n leaf) c.sectors.ensures (c.is_unwritten-can.ensures c.if-can.true)

pub returns-then-can : goal.returns-then-can
returns-then-can g c = c.write_node.ensures.fits c.args.spine.now c.requires
