use Rattle.std.proofs.Common.{◌+◌, true, false, Some, ap, ◌∙◌, subst}
use Rattle.bc_disk.specs.declared.geometry.Geometry.{Geometry}
use Rattle.bc_tree.specs.Needs.{fits_node, takes_set, words}
use Rattle.bc_tree.specs.Spine.{IsParentAt}
use Rattle.bc_tree.proofs.Choices.{split_halves, split_moves, split_set, test}
use Rattle.bc_tree.proofs.spine.Spine.split_needs.Goals as goal

pub returns-then-takes_set : goal.returns-then-takes_set
returns-then-takes_set c =
    let s = c.args.self.now in
    let p = c.parent-parent.result.now in (
      p,
      subst (λ n. IsParentAt s n p) c.from.ensures c.parent-parent.ensures.parent,
      split_set s p (test (λ (g : Geometry). takes_set g p 6 3) c.geometry.result.now s.geometry c.takes_set.result true c.geometry.ensures c.takes_set.ensures c.if-takes_set.true),
    )

pub returns-then-fits_node : goal.returns-then-fits_node
returns-then-fits_node c =
    let s = c.args.self.now in
    let p = c.parent-parent.result.now in (
      p,
      subst (λ n. IsParentAt s n p) c.from.ensures c.parent-parent.ensures.parent,
      ap Some c.with_parent.ensures
          ∙ split_moves s p (test (λ (g : Geometry). takes_set g p 6 3) c.geometry.result.now s.geometry c.takes_set.result false c.geometry.ensures c.takes_set.ensures c.if-takes_set.false)
          (test (λ (g : Geometry). fits_node g (words p.children + 3)) c.geometry-2.result.now s.geometry c.fits_node.result true c.geometry-2.ensures c.fits_node.ensures c.if-fits_node.true),
    )

pub returns : goal.returns
returns c =
    let s = c.args.self.now in
    let p = c.parent-parent.result.now in (
      p,
      subst (λ n. IsParentAt s n p) c.from.ensures c.parent-parent.ensures.parent,
      c.halved_needs.ensures
          ∙ split_halves s p (test (λ (g : Geometry). takes_set g p 6 3) c.geometry.result.now s.geometry c.takes_set.result false c.geometry.ensures c.takes_set.ensures c.if-takes_set.false)
          (test (λ (g : Geometry). fits_node g (words p.children + 3)) c.geometry-2.result.now s.geometry c.fits_node.result false c.geometry-2.ensures c.fits_node.ensures c.if-fits_node.false),
    )
