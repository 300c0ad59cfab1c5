-- The set by which a planned change is made.
use Rattle.std.specs.Prelude.{◌≡◌, ℕ, List, ◌∷◌, Option, Result, Some, None, slice_get, slice_set}
use Rattle.bc_inner.specs.Inner.{Inner}
use Rattle.bc_key.specs.declared.key.Key.{Key}
use Rattle.bc_tree.specs.Append.{HasMoreIf}
use Rattle.bc_tree.specs.Spine.{Spine, bottom}
use Rattle.bc_tree.specs.declared.change.NodeChange.{NodeChange}
use Rattle.bc_tree.specs.declared.change.NodeChange.TheVariants.{Move, Set}
use Rattle.bc_tree.specs.declared.plan.Plan.{Plan}

-- a node takes a set of these keys: the one above leaves at a place, or the root, where that one moves
abbrev pub TakesBy : Spine → ℕ → NodeChange → Option NodeChange → Inner → List Key → Type 0
TakesBy spine place (Set set) top node keys = (slice_get (bottom spine.root spine.below) place ≡ Some node) × (keys ≡ set)
TakesBy spine place (Move next) None node keys = ⊥
TakesBy spine place (Move next) (Some (Set set)) node keys = (node ≡ spine.root) × (keys ≡ set)
TakesBy spine place (Move next) (Some (Move root)) node keys = ⊥

-- it does so by the plan
abbrev pub TakesSet : Spine → Plan → Inner → List Key → Type 0
TakesSet spine plan node keys = TakesBy spine plan.place plan.bottom plan.top node keys

-- The node has one set more, where it was written, and nothing else of the tree has changed.
pub record HasMoreIn {E : Type 0} (result : Result (Unit {0}) E) (node : Inner) (keys : List Key)
    (old new : Spine) : Type 0 where
  pub at : ℕ
  pub there : slice_get (old.root ∷ old.below) at ≡ Some node
  pub next : Inner
  pub more : HasMoreIf result old.geometry keys node next
  pub nodes : new.root ∷ new.below ≡ slice_set (old.root ∷ old.below) at next
  pub only : new ≡ record old { root = new.root; below = new.below }
