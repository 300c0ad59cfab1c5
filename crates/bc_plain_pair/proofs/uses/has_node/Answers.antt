use Rattle.std.proofs.Common.{sym, subst}
use Rattle.bc_image.specs.Pointers.{PointsInto}
use Rattle.bc_image.specs.Tree.{Node}
use Rattle.bc_key.specs.declared.key.Key.{Key}
use Rattle.bc_plain_pair.proofs.Alls.{any_here, any_more, any_none}
use Rattle.bc_plain_pair.proofs.uses.has_node.Goals as goal

pub returns-then-points_into : goal.returns-then-points_into
returns-then-points_into c =
    any_here (λ (n : Node). PointsInto c.args.g.now n.key c.args.bucket) c.args.nodes.now c.loop-node.node-index c.node-item.result c.loop-node-test.true c.node-item.is
    (subst (λ (k : Key). PointsInto c.args.g.now k c.args.bucket) c.key.ensures c.if-points_into.ensures)

pub loop-node-preserved : goal.loop-node-preserved
loop-node-preserved c =
    any_more (λ (n : Node). PointsInto c.args.g.now n.key c.args.bucket) c.args.nodes.now c.loop-node.node-index c.node-item.result c.loop-node-test.true c.node-item.is
    (λ at. c.if-points_into.ensures (subst (λ (k : Key). PointsInto c.args.g.now k c.args.bucket) (sym c.key.ensures) at)) c.loop-node.invariant

pub returns : goal.returns
returns c = any_none (λ (n : Node). PointsInto c.args.g.now n.key c.args.bucket) c.args.nodes.now c.loop-node.node-index c.loop-node-test.false c.loop-node.invariant
