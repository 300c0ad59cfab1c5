-- What a seat knows of a change of the tree that it has begun, until it is over.
use Rattle.std.specs.Prelude.{◌≡◌, ◌≢◌, ℕ, Contains}
use Rattle.bc_events.specs.Run as core
use Rattle.bc_events.specs.declared.event.Change.{Change}
use Rattle.bc_inner.specs.Inner.{Inner}
use Rattle.bc_leaves.specs.Parts.{ByRoot, Coming, Draft, Leaving}
use Rattle.bc_leaves.specs.Parts as parts
use Rattle.bc_meta.specs.Facts.{In}
use Rattle.bc_node.specs.Leaf.{Leaf}
use Rattle.bc_nodes_known.specs.Nodes.{IsWholeChange, NamesFrom}
use Rattle.bc_entry.specs.bc_machine.Containers.{inner_slot}
use Rattle.bc_entry.specs.bc_machine.World.{Origin}
use Rattle.bc_shares.specs.Shares.{books_of, inner_share, leaf_share}
use Rattle.bc_spine.specs.declared.leaf.LeafRange.{LeafRange}
use Rattle.bc_tree.specs.declared.plan.Plan.{Plan}
use Rattle.bc_whole.specs.State.{Opening}
use Rattle.bc_change.specs.Goes.{new_leaves, new_nodes}
use Rattle.bc_change.specs.Ready.{HoldsNew, IsNewInner, IsNewLeaf, IsRangeFor}

-- Leaves and inner nodes leave and come, as the change says, and no others; what comes is the
-- plan's; and there are no other new nodes.
pub record IsUnderWay (w : Opening) (st : parts.State) (plan : Plan) (c : Change) : Type 0 where
  pub whole : IsWholeChange st c
  pub old : (x : ℕ) → In x c.old.items → (st.inner_nodes x).role ≡ Leaving
  pub only_old : (x : ℕ) → (st.inner_nodes x).role ≡ Leaving → In x c.old.items
  pub only_new : (x : ℕ) → (st.inner_nodes x).role ≡ Coming → In x c.new.items
  pub come : (range : LeafRange) (leaf : Leaf) → Contains (new_leaves plan) (range, leaf)
      → IsRangeFor range leaf × IsNewLeaf w Coming (leaf_share st range.number) leaf
  pub new : (n : Inner) → Contains (new_nodes plan) n
      → IsNewInner w Coming (inner_share st (inner_slot w n)) n
  pub no_leaf : (k : ℕ) → (st.leaves k).role ≢ Draft
  pub no_inner : (x : ℕ) → (st.inner_nodes x).role ≢ Draft

-- The entry of this number makes the change, and each entry from it on names the root in this slot.
pub record IsByRoot (i : ℕ) (plan : Plan) (c : Change) (number slot : ℕ) (o : Origin)
    (st : core.State) : Type 0 where
  pub under : IsUnderWay o.opening.machine st.machine.whole.parts plan c
  pub holds : HoldsNew o.opening.machine (books_of st.machine) i plan
  pub change : st.machine.whole.parts.change ≡ ByRoot number
  pub root : NamesFrom number slot st.machine.whole.parts.records
