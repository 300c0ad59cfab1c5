use Rattle.std.proofs.Common.{◌≡◌, Some, ap, ◌∙◌}
use Rattle.bc_tree.specs.declared.change.NodeChange.{NodeChange}
use Rattle.bc_tree.specs.declared.change.NodeChange.TheVariants as changes
use Rattle.bc_plan.proofs.write.write_root.Goals as goal

pub write_moved-requires-clause-unwritten : goal.write_moved-requires-clause-unwritten
write_moved-requires-clause-unwritten g c =
    let u = c.requires.unwritten in
    let was = u.1 in
    let is = c.in-Some.is in
    let same : c.in-Some.change ≡ changes.Move u.0 = cc in
    (u.0, same, u.2, u.3)

pub returns-in-Some-clause-node : goal.returns-in-Some-clause-node
returns-in-Some-clause-node g c = let n = c.write_moved.ensures.node in (n.0, c.in-Some.is ∙ ap (λ (ch : NodeChange). Some ch) n.1, n.2)
