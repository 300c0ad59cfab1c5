-- A leaf in a slot of the part in hand, which somebody holds or nobody does.
use Rattle.std.specs.Prelude.{◌≡◌, ℕ, Bool, false, Some, slice_get}
use Rattle.bc_cache.specs.Fetch.{IsSetHeld}
use Rattle.bc_cache.specs.Slots.{NodeCache}
use Rattle.bc_cache.specs.declared.slots.Cached.{Cached}
use Rattle.bc_hand.specs.bc_machine.declared.part.SpinePart.{SpinePart}
use Rattle.bc_hand.specs.declared.hand.Hand.{Hand}
use Rattle.bc_hand.specs.declared.hand.LeafHand.{LeafHand}

-- a part with leaves is in hand, with a leaf in this slot, and whether it is held
pub record HasLeafAt {C B : Type 0} (h : Hand C B) (slot : ℕ) (held : Bool) : Type 0 where
  pub leaves : LeafHand
  pub are_leaves : h.leaves ≡ Some leaves
  pub cached : Cached
  pub there : slice_get leaves.cache.slots slot ≡ Some (Some cached)
  pub held_is : cached.held ≡ held

-- the tree is in hand and at rest
pub record HasTreeAtRest {C B : Type 0} (h : Hand C B) : Type 0 where
  pub spine : SpinePart
  pub is_spine : h.spine ≡ Some spine
  pub rest : spine.changing ≡ false

-- Nothing in hand has changed but whether the leaf in this slot is held.
pub record IsSetIn {C B : Type 0} (slot : ℕ) (held : Bool) (h k : Hand C B) : Type 0 where
  pub leaves : LeafHand
  pub are_leaves : h.leaves ≡ Some leaves
  pub cache : NodeCache
  pub set : IsSetHeld slot held leaves.cache cache
  pub is : k ≡ record h { leaves = Some (record leaves { cache = cache }) }
