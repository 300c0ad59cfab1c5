use Rattle.std.proofs.Common.{◌≡◌, sym, subst}
use Rattle.bc_inner.specs.Inner.{Inner}
use Rattle.bc_plan.specs.Write.{IsUnwrittenInner}
use Rattle.bc_tree.specs.declared.change.NodeChange.TheVariants.{Move}
use Rattle.bc_tree_rows.proofs.plans.write_above.Goals as goal

pub write_node-requires-clause-fits : goal.write_node-requires-clause-fits
write_node-requires-clause-fits g c = (c.args.spine.now, sym c.geometry.ensures, c.requires)

pub write_node-requires-clause-node : goal.write_node-requires-clause-node
write_node-requires-clause-node g c = subst (λ n. (node : Inner) × (c.args.plan.now.bottom ≡ Move node) × IsUnwrittenInner c.geometry.result.now n node) c.sectors.ensures (c.moves-moves.ensures c.if-moves.true)

pub returns-then-moves : goal.returns-then-moves
returns-then-moves g c = c.write_node.ensures.fits c.args.spine.now c.requires
