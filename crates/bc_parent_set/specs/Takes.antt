-- A planned change of the tree that a set of one of its nodes makes.
use Rattle.std.specs.Prelude.{◌≡◌, ℕ, suc, List, [], ◌∷◌, Option, Some, None, slice_get}
use Rattle.bc_inner.specs.Inner.{Inner}
use Rattle.bc_key.specs.declared.key.Key.{Key}
use Rattle.bc_tree.specs.Spine.{Spine}
use Rattle.bc_tree.specs.declared.change.NodeChange.{NodeChange}
use Rattle.bc_tree.specs.declared.change.NodeChange.TheVariants.{Move, Set}
use Rattle.bc_tree.specs.declared.plan.Plan.{Plan}

-- Of the root and the nodes below it, the one at this place takes a set of these keys, and each other
-- one that changes moves. It is the one above the leaves that change, or the root where that moves.
abbrev pub TakesAlone : List Inner → ℕ → NodeChange → Option NodeChange → ℕ → List Key → Type 0
TakesAlone [] place (Set set) None at keys = (at ≡ 0) × (keys ≡ set)
TakesAlone [] place (Set set) (Some change) at keys = ⊥
TakesAlone [] place (Move next) top at keys = ⊥
TakesAlone (b ∷ bs) place (Set set) None at keys = (at ≡ suc place) × (keys ≡ set)
TakesAlone (b ∷ bs) place (Set set) (Some change) at keys = ⊥
TakesAlone (b ∷ bs) place (Move next) None at keys = ⊥
TakesAlone (b ∷ bs) place (Move next) (Some (Set set)) at keys = (at ≡ 0) × (keys ≡ set)
TakesAlone (b ∷ bs) place (Move next) (Some (Move up)) at keys = ⊥

-- by the plan, this node of the tree does
pub record IsTaker (spine : Spine) (plan : Plan) (at : ℕ) (taker : Inner) (keys : List Key) :
    Type 0 where
  pub there : slice_get (spine.root ∷ spine.below) at ≡ Some taker
  pub takes : TakesAlone spine.below plan.place plan.bottom plan.top at keys
