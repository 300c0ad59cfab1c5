use Rattle.std.proofs.Common.{◌≡◌, Some, subst}
use Rattle.std.specs.Prelude.{slice_get}
use Rattle.bc_spine.specs.Leaves.{Spans}
use Rattle.bc_spine.specs.declared.leaf.LeafRange.{LeafRange}
use Rattle.bc_tree.specs.Spine.{Spine}
use Rattle.bc_tree.proofs.spine.Spine.leaf_place.Goals as goal

pub returns : goal.returns
returns c =
    subst (λ (v : Spine). (leaf : LeafRange) × (slice_get v.leaves c.place.result ≡ Some leaf) × Spans leaf c.args.sector) c.self.view_is c.place.ensures
