-- What holds of a change that a set makes, whatever comes between.
use Rattle.std.specs.Prelude.{◌≡◌, ◌≢◌, ◌⊎◌, ℕ, false, List}
use Rattle.bc_change.specs.bc_machine.World.{FromEach, World, after}
use Rattle.bc_events.specs.declared.event.Change.{Change}
use Rattle.bc_events.specs.declared.event.Deed.TheVariants as deed
use Rattle.bc_events.specs.declared.event.Event.{Event}
use Rattle.bc_inner.specs.Inner.{Inner}
use Rattle.bc_key.specs.declared.key.Key.{Key}
use Rattle.bc_shares.specs.Touched.{touches_buckets, touches_spine}
use Rattle.bc_tree.specs.declared.plan.Plan.{Plan}
use Rattle.bc_parent_set.specs.BySet.{IsBySet, IsMadeSet, NamesThis}

-- Entries go on to name the root, whatever happens but to the tree.
abbrev pub LawStays : Type 0
LawStays = (x : World) (e : Event) (root : Inner) → touches_spine e.deed ≡ false
    → FromEach x (NamesThis root) → FromEach (after x e) (NamesThis root)

-- A change goes on to be made so, whatever another seat does, and whatever this one does that touches
-- neither the tree nor buckets.
pub record LawBySet : Type 0 where
  pub begun : (x : World) (e : Event) (i : ℕ) (plan : Plan) (c : Change) (slot : ℕ)
      (children : List Key) → touches_spine e.deed ≡ false
      → (e.seat ≢ i) ⊎ (touches_buckets e.deed ≡ false)
      → FromEach x (IsBySet i plan c slot children)
      → FromEach (after x e) (IsBySet i plan c slot children)
  pub made : (x : World) (e : Event) (i : ℕ) (plan : Plan) (c : Change) (slot : ℕ)
      (children : List Key) → touches_spine e.deed ≡ false
      → (e.seat ≢ i) ⊎ (touches_buckets e.deed ≡ false)
      → FromEach x (IsMadeSet i plan c slot children)
      → FromEach (after x e) (IsMadeSet i plan c slot children)
  -- a barrier makes it
  pub makes : (x : World) (i j : ℕ) (plan : Plan) (c : Change) (slot : ℕ) (children : List Key)
      → FromEach x (IsBySet i plan c slot children)
      → FromEach (after x (record { seat = j; deed = deed.CacheBarrier }))
      (IsMadeSet i plan c slot children)
