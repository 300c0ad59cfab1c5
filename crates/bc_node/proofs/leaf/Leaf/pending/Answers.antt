use Rattle.std.proofs.Common.{subst}
use Rattle.bc_node.specs.Leaf.{Leaf, AreProperKeys}
use Rattle.bc_node.proofs.Leaves.{proper_added}
use Rattle.bc_node.proofs.leaf.Leaf.pending.Goals as goal

pub returns-clause-proper : goal.returns-clause-proper
returns-clause-proper c =
    let l = c.self.inside in
    let so = c.self.invariant in
    subst (λ (x : Leaf). AreProperKeys x.from x.end x.pending) c.self.view_is (proper_added l.from l.end so.more l.pending.keys so.more_within so.added)
