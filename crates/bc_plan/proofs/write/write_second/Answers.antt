use Rattle.std.proofs.Common.{◌≡◌, Some, refl}
use Rattle.bc_node.specs.Leaf.{IsAppended, Leaf}
use Rattle.bc_plan.proofs.Writes.{on_ok}
use Rattle.bc_plan.proofs.write.write_second.Goals as goal

pub returns-in-Some-clause-written : goal.returns-in-Some-clause-written
returns-in-Some-clause-written g c =
    let leaf = c.in-Some.leaf in
    let next = c.write_leaf.new.leaf in
    on_ok c.write_leaf.result (IsAppended c.args.g.now leaf next) ((a : Leaf) × (b : Leaf) × (c.args.second.now ≡ Some a) × (Some next ≡ Some b) × IsAppended c.args.g.now a b) (λ added. (leaf, next, c.in-Some.is, refl, added)) c.write_leaf.ensures.written
