use Rattle.std.proofs.Common.{◌<◌, true, false, Some, ap, ◌∙◌, subst, arith}
use Rattle.std.proofs.lemmas.Bool.{lt-ltb, le-ltb}
use Rattle.bc_disk.specs.declared.geometry.Geometry.{Geometry}
use Rattle.bc_tree.specs.Needs.{can_merge}
use Rattle.bc_tree.specs.Spine.{IsParentAt}
use Rattle.bc_tree.proofs.Choices.{merge_across, merge_inside, merge_none, test}
use Rattle.bc_tree.proofs.spine.Spine.merge_needs.Goals as goal

pub returns-then-not-can_merge : goal.returns-then-not-can_merge
returns-then-not-can_merge c =
    let s = c.args.self.now in
    let left = c.args.left.now in
    let right = c.args.right.now in
    let p = c.parent-parent.result.now in
    let o = c.parent-other.result.now in (
      o,
      subst (λ n. IsParentAt s n o) c.from-2.ensures c.parent-other.ensures.parent,
      (
        p,
        subst (λ n. IsParentAt s n p) c.from.ensures c.parent-parent.ensures.parent,
        merge_none s left right p o (test (λ (g : Geometry). can_merge g left right) c.geometry.result.now s.geometry c.can_merge.result false c.geometry.ensures c.can_merge.ensures c.if-not-can_merge.true),
      ),
    )

pub returns-then-from-end : goal.returns-then-from-end
returns-then-from-end c =
    let s = c.args.self.now in
    let left = c.args.left.now in
    let right = c.args.right.now in
    let p = c.parent-parent.result.now in
    let o = c.parent-other.result.now in
    let less : right.from < p.end = omega (arith, c.if-from-end.true, c.from-3.ensures, c.end.ensures) in (
      o,
      subst (λ n. IsParentAt s n o) c.from-2.ensures c.parent-other.ensures.parent,
      (
        p,
        subst (λ n. IsParentAt s n p) c.from.ensures c.parent-parent.ensures.parent,
        ap Some c.inside_needs.ensures
            ∙ merge_inside s left right p o (test (λ (g : Geometry). can_merge g left right) c.geometry.result.now s.geometry c.can_merge.result true c.geometry.ensures c.can_merge.ensures c.if-not-can_merge.false)
            (lt-ltb right.from p.end less),
      ),
    )

pub returns : goal.returns
returns c =
    let s = c.args.self.now in
    let left = c.args.left.now in
    let right = c.args.right.now in
    let p = c.parent-parent.result.now in
    let o = c.parent-other.result.now in (
      o,
      subst (λ n. IsParentAt s n o) c.from-2.ensures c.parent-other.ensures.parent,
      (
        p,
        subst (λ n. IsParentAt s n p) c.from.ensures c.parent-parent.ensures.parent,
        ap Some c.across_needs.ensures
            ∙ merge_across s left right p o (test (λ (g : Geometry). can_merge g left right) c.geometry.result.now s.geometry c.can_merge.result true c.geometry.ensures c.can_merge.ensures c.if-not-can_merge.false)
            (le-ltb right.from p.end (omega (arith, c.if-from-end.false, c.from-3.ensures, c.end.ensures))),
      ),
    )
