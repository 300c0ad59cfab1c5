use Rattle.std.proofs.Common.{subst}
use Rattle.bc_spine.specs.Leaves.{IsNumberAt}
use Rattle.bc_tree.specs.Spine.{Spine}
use Rattle.bc_tree.proofs.spine.Spine.path.Goals as goal

pub returns : goal.returns
returns c = subst (λ (v : Spine). IsNumberAt v.leaves c.args.sector c.path.result) c.self.view_is c.path.ensures
