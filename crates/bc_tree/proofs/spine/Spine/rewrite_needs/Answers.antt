use Rattle.std.proofs.Common.{true, false, ◌∙◌, subst}
use Rattle.bc_disk.specs.declared.geometry.Geometry.{Geometry}
use Rattle.bc_tree.specs.Needs.{takes_set}
use Rattle.bc_tree.specs.Spine.{IsParentAt}
use Rattle.bc_tree.proofs.Choices.{rewrite_moves, rewrite_set, test}
use Rattle.bc_tree.proofs.spine.Spine.rewrite_needs.Goals as goal

pub returns-then-takes_set : goal.returns-then-takes_set
returns-then-takes_set c =
    let s = c.args.self.now in
    let p = c.parent-parent.result.now in (
      p,
      subst (λ n. IsParentAt s n p) c.from.ensures c.parent-parent.ensures.parent,
      rewrite_set s p (test (λ (g : Geometry). takes_set g p 3 0) c.geometry.result.now s.geometry c.takes_set.result true c.geometry.ensures c.takes_set.ensures c.if-takes_set.true),
    )

pub returns : goal.returns
returns c =
    let s = c.args.self.now in
    let p = c.parent-parent.result.now in (
      p,
      subst (λ n. IsParentAt s n p) c.from.ensures c.parent-parent.ensures.parent,
      c.with_parent.ensures
          ∙ rewrite_moves s p (test (λ (g : Geometry). takes_set g p 3 0) c.geometry.result.now s.geometry c.takes_set.result false c.geometry.ensures c.takes_set.ensures c.if-takes_set.false),
    )
