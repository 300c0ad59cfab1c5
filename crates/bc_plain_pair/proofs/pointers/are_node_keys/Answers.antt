use Rattle.std.proofs.Common.{sym, subst}
use Rattle.bc_image.specs.Sound.{IsNodeKey}
use Rattle.bc_image.specs.Tree.{Node}
use Rattle.bc_plain_pair.proofs.Alls.{all_fails, all_more, all_ends}
use Rattle.bc_plain_pair.proofs.pointers.are_node_keys.Goals as goal

pub returns-then-not-is_node_key : goal.returns-then-not-is_node_key
returns-then-not-is_node_key c =
    let bad = c.if-not-is_node_key.ensures in
    all_fails (λ (n : Node). IsNodeKey c.args.g.now n.key) c.args.nodes.now c.loop-node.node-index c.node-item.result c.loop-node-test.true c.node-item.is
    (λ at. bad (subst (IsNodeKey c.args.g.now) (sym c.key.ensures) at))

pub loop-node-preserved : goal.loop-node-preserved
loop-node-preserved c =
    all_more (λ (n : Node). IsNodeKey c.args.g.now n.key) c.args.nodes.now c.loop-node.node-index c.node-item.result c.loop-node-test.true c.node-item.is
    (subst (IsNodeKey c.args.g.now) c.key.ensures c.if-not-is_node_key.ensures) c.loop-node.invariant

pub returns : goal.returns
returns c = all_ends (λ (n : Node). IsNodeKey c.args.g.now n.key) c.args.nodes.now c.loop-node.node-index c.loop-node-test.false c.loop-node.invariant
