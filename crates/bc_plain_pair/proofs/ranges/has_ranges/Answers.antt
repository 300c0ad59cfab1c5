use Rattle.std.proofs.Common.{subst}
use Rattle.std.specs.Prelude.{All}
use Rattle.bc_image.specs.Sound.{KeepsRange}
use Rattle.bc_plain_pair.proofs.Alls.{all_more, all_ends}
use Rattle.bc_plain_pair.proofs.ranges.has_ranges.Goals as goal

pub loop-node-preserved : goal.loop-node-preserved
loop-node-preserved c =
    all_more KeepsRange c.nodes-nodes.result.now c.loop-node.node-index c.node-item.result c.loop-node-test.true c.node-item.is (rw c.if-not-branch.false at c.in_ok-keeps_range.ensures) c.loop-node.invariant

pub returns : goal.returns
returns c = subst (All KeepsRange) c.nodes-nodes.ensures (all_ends KeepsRange c.nodes-nodes.result.now c.loop-node.node-index c.loop-node-test.false c.loop-node.invariant)
