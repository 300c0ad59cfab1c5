use Rattle.std.proofs.Common.{sym}
use Rattle.bc_tree_rows.proofs.plans.write_leaf.Goals as goal

pub write_node-requires-clause-fits : goal.write_node-requires-clause-fits
write_node-requires-clause-fits g c = (c.args.spine.now, sym c.geometry.ensures, c.requires)

pub returns : goal.returns
returns g c = c.write_node.ensures.fits c.args.spine.now c.requires
