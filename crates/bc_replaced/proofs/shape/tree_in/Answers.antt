use Rattle.std.proofs.Common.{sym, ◌∙◌, subst}
use Rattle.bc_by_root.specs.bc_install.bc_change.Ready.{IsTree}
use Rattle.bc_leaf_plan.proofs.Rows.{some_one}
use Rattle.bc_new_nodes.specs.bc_machine.declared.part.SpinePart.{SpinePart}
use Rattle.bc_replaced.proofs.shape.tree_in.Goals as goal

pub returns : goal.returns
returns g c spine is =
    subst (λ (p : SpinePart). IsTree p.spine) (c.get.ensures ∙ some_one (sym c.in-Some.is ∙ is))
    (record { spine_is = c.root.ensures.spine; leaves = c.len.ensures.all })
