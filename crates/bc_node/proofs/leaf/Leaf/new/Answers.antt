use Rattle.bc_node.proofs.Leaves.{keeps_none}
use Rattle.bc_node.proofs.leaf.Leaf.new.Goals as goal

pub invariant_of-result : goal.invariant_of-result
invariant_of-result c = keeps_none c.args.from c.args.key.now.end c.new-keys.result.keys c.new-pending.result.keys c.new-keys.ensures.keys c.new-pending.ensures.keys
