use Rattle.std.proofs.Common.{sym, ◌∙◌, subst}
use Rattle.bc_by_root.proofs.Waiting.{same_some}
use Rattle.bc_install.specs.bc_change.Goes.{BringsRoot}
use Rattle.bc_install.specs.bc_machine.declared.part.SpinePart.{SpinePart}
use Rattle.bc_by_root.proofs.put.prepare_in.Goals as goal

pub prepare-requires-clause-root : goal.prepare-requires-clause-root
prepare-requires-clause-root g c = (
  c.requires.tree.root,
  subst (λ (s : SpinePart). BringsRoot s.spine c.args.plan.now c.requires.tree.root)
      (same_some c.args.hand.now.spine c.requires.tree.spine c.in-Some.spine
      c.requires.tree.is_spine c.in-Some.is ∙ sym c.get.ensures) c.requires.tree.brings,
)
