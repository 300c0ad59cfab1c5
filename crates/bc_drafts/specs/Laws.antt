-- What goes on to hold of new nodes.
use Rattle.std.specs.Prelude.{◌≡◌, ℕ, false}
use Rattle.bc_events.specs.declared.event.Deed.TheVariants as deed
use Rattle.bc_events.specs.declared.event.Event.{Event}
use Rattle.bc_events.specs.declared.event.NewNode.{NewNode}
use Rattle.bc_place.specs.bc_machine.World.{FromEach, World, after}
use Rattle.bc_meta.specs.Tree.{NodeSet}
use Rattle.bc_drafts.specs.Draft.{HasNoInner, HasNoLeaf, IsDraftInner, IsDraftLeaf, IsStableInner, IsStableLeaf}
use Rattle.bc_shares.specs.Touched.{touches_spine}

-- While nobody changes the tree, a new node stays as it was written, stable or not; and a slot
-- without a node gets none. Who has the tree in hand keeps others from that.
pub record LawStill : Type 0 where
  pub leaf : (x : World) (e : Event) (n : NewNode) (set : NodeSet) → touches_spine e.deed ≡ false
      → FromEach x (IsDraftLeaf n set) → FromEach (after x e) (IsDraftLeaf n set)
  pub inner : (x : World) (e : Event) (n : NewNode) (set : NodeSet) → touches_spine e.deed ≡ false
      → FromEach x (IsDraftInner n set) → FromEach (after x e) (IsDraftInner n set)
  pub stable_leaf : (x : World) (e : Event) (n : NewNode) (set : NodeSet)
      → touches_spine e.deed ≡ false → FromEach x (IsStableLeaf n set)
      → FromEach (after x e) (IsStableLeaf n set)
  pub stable_inner : (x : World) (e : Event) (n : NewNode) (set : NodeSet)
      → touches_spine e.deed ≡ false → FromEach x (IsStableInner n set)
      → FromEach (after x e) (IsStableInner n set)
  pub no_leaf : (x : World) (e : Event) (k : ℕ) → touches_spine e.deed ≡ false
      → FromEach x (HasNoLeaf k) → FromEach (after x e) (HasNoLeaf k)
  pub no_inner : (x : World) (e : Event) (k : ℕ) → touches_spine e.deed ≡ false
      → FromEach x (HasNoInner k) → FromEach (after x e) (HasNoInner k)

-- A barrier makes stable what was written.
pub record LawDrafts : Type 0 where
  pub leaf : (x : World) (i : ℕ) (n : NewNode) (set : NodeSet) → FromEach x (IsDraftLeaf n set)
      → FromEach (after x (record { seat = i; deed = deed.CacheBarrier })) (IsStableLeaf n set)
  pub inner : (x : World) (i : ℕ) (n : NewNode) (set : NodeSet) → FromEach x (IsDraftInner n set)
      → FromEach (after x (record { seat = i; deed = deed.CacheBarrier })) (IsStableInner n set)
