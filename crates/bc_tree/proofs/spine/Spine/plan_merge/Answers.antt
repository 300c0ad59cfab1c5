use Rattle.std.proofs.Common.{true, length}
use Rattle.bc_disk.specs.declared.geometry.Geometry.{Geometry}
use Rattle.bc_tree.specs.Needs.{can_merge}
use Rattle.bc_tree.proofs.Choices.{test}
use Rattle.bc_tree.proofs.Joins.{some_needed}
use Rattle.bc_tree.proofs.Same.{same_tree}
use Rattle.bc_tree.proofs.spine.Spine.plan_merge.Goals as goal

pub returns-then-not-can_merge-clause-tree : goal.returns-then-not-can_merge-clause-tree
returns-then-not-can_merge-clause-tree c = same_tree c.args.self.now

pub plan_join-requires-clause-places : goal.plan_join-requires-clause-places
plan_join-requires-clause-places c =
    let s = c.args.self.now in
    let left = c.args.left.now in
    let right = c.args.right.now in
    let can = test (λ (g : Geometry). can_merge g left right) c.geometry.result.now s.geometry c.can_merge.result true c.geometry.ensures c.can_merge.ensures c.if-not-can_merge.false in
    some_needed s left right (length c.args.to.now) can c.requires.places
