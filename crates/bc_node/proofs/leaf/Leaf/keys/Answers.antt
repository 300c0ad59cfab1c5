use Rattle.std.proofs.Common.{subst}
use Rattle.bc_node.specs.Leaf.{Leaf, AreProperKeys}
use Rattle.bc_node.proofs.Leaves.{proper_last}
use Rattle.bc_node.proofs.leaf.Leaf.keys.Goals as goal

pub returns-clause-proper : goal.returns-clause-proper
returns-clause-proper c =
    let l = c.self.inside in
    let so = c.self.invariant in
    subst (λ (x : Leaf). AreProperKeys x.from x.end x.keys) c.self.view_is (proper_last l.from l.end so.list l.keys.keys so.within so.last)
