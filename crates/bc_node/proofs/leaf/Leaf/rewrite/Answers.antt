use Rattle.bc_node.proofs.Leaves.{keeps_sent}
use Rattle.bc_node.proofs.leaf.Leaf.rewrite.Goals as goal

pub invariant_of-self : goal.invariant_of-self
invariant_of-self g c =
    let l = c.self.inside in
    keeps_sent l.from l.end l.keys.keys l.pending.keys c.clear.new.self.keys c.self.invariant c.clear.ensures.keys
