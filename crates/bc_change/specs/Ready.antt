-- What a seat knows of a change of the tree that is ready to be made: its new nodes stand on the
-- cache device, and nothing names them yet.
use Rattle.std.specs.Prelude.{◌≡◌, ℕ, suc, ◌<◌, ◌≤◌, false, Contains, [], length, map, option_to_list, None}
use Rattle.bc_books.specs.Books.{Books}
use Rattle.bc_books.specs.Shelves.{Held, Tree}
use Rattle.bc_events.specs.Run as core
use Rattle.bc_inner.specs.Inner.{Inner}
use Rattle.bc_key.specs.Words.{ptr_word}
use Rattle.bc_leaves.specs.Enabled.{IsStable}
use Rattle.bc_leaves.specs.Keys.{last_said, ref_said}
use Rattle.bc_leaves.specs.Parts.{AllUpTo, Coming, Draft, Free, Leaving, NoChange, NoNode, Role, inner_node_of, node_of}
use Rattle.bc_leaves.specs.Parts as parts
use Rattle.bc_nodes_known.specs.bc_machine.Containers.{HasLists, HasSets, IsLeafFor, IsSpineOf, child_of, inner_slot}
use Rattle.bc_nodes_known.specs.bc_machine.World.{Origin}
use Rattle.bc_meta.specs.Tree.{children_of, set_keys}
use Rattle.bc_node.specs.Leaf.{HasNothingPending, Leaf}
use Rattle.bc_shares.specs.Shares.{InnerShare, LeafShare, books_of, inner_share, leaf_share}
use Rattle.bc_spine.specs.Exchange.{coming, going}
use Rattle.bc_spine.specs.Leaves.{AreLeaves}
use Rattle.bc_spine.specs.Numbers.{HasNumber}
use Rattle.bc_spine.specs.declared.leaf.LeafRange.{LeafRange}
use Rattle.bc_tree.specs.LastKeys.{LeafKeys, StandIn}
use Rattle.bc_tree.specs.Plan.{Fits}
use Rattle.bc_tree.specs.Spine.{IsSpine, Spine}
use Rattle.bc_tree.specs.declared.plan.Plan.{Plan}
use Rattle.bc_whole.specs.State.{Opening}
use Rattle.bc_change.specs.Goes.{new_leaves, new_nodes}

-- ---- new nodes

-- A leaf of a plan is the one in a slot, in a role that it has before it is of the tree: its first
-- set says what its keys do, and nothing is pending of it.
pub record IsNewLeaf (w : Opening) (role : Role) (x : LeafShare) (leaf : Leaf) : Type 0 where
  pub role_is : x.leaf.role ≡ role
  pub first : x.leaf.first ≡ leaf.from
  pub end : x.leaf.end ≡ leaf.end
  pub bucket : x.leaf.bucket ≡ w.flow.books.bucket leaf.ptr.offset
  pub word : x.leaf.word ≡ ptr_word leaf.ptr
  pub fresh : x.leaf.loaded ≡ false
  pub nothing : x.leaf.pending ≡ []
  pub own : HasSets w.layout x.node leaf.seq leaf.taken
  pub whole : x.node.lost ≡ None
  pub keys : (s : ℕ) → leaf.from ≤ s → s < leaf.end
      → ref_said (last_said leaf.keys s) ≡ ref_said (last_said (set_keys x.node.sets) s)
  pub none : HasNothingPending leaf
  pub lists : HasLists leaf

-- So is an inner node: its first set has its children.
pub record IsNewInner (w : Opening) (role : Role) (x : InnerShare) (n : Inner) : Type 0 where
  pub role_is : x.inner.role ≡ role
  pub first : x.inner.first ≡ n.from
  pub end : x.inner.end ≡ n.end
  pub bucket : x.inner.bucket ≡ w.flow.books.bucket n.ptr.offset
  pub word : x.inner.word ≡ ptr_word n.ptr
  pub level : suc x.inner.height ≡ n.level
  pub fresh : x.inner.loaded ≡ false
  pub own : HasSets w.layout x.node n.seq n.taken
  pub children : children_of x.node.sets ≡ map (child_of w) n.children

-- the range has the number of the leaf, and its sectors
pub record IsRangeFor (range : LeafRange) (leaf : Leaf) : Type 0 where
  pub from : range.from ≡ leaf.from
  pub end : range.end ≡ leaf.end
  pub ptr : range.ptr ≡ leaf.ptr

-- they are new, and stand whatever crash comes
pub record IsReadyLeaf (w : Opening) (st : parts.State) (range : LeafRange) (leaf : Leaf) :
    Type 0 where
  pub range_is : IsRangeFor range leaf
  pub new : IsNewLeaf w Draft (leaf_share st range.number) leaf
  pub stable : IsStable (node_of st range.number)

pub record IsReadyInner (w : Opening) (st : parts.State) (n : Inner) : Type 0 where
  pub new : IsNewInner w Draft (inner_share st (inner_slot w n)) n
  pub stable : IsStable (inner_node_of st (inner_slot w n))

-- ---- what goes

-- The leaf of this range is in memory with these last keys, and all that is pending of it is
-- durable.
pub record IsLeafToGo (w : Opening) (st : parts.State) (keys : LeafKeys) (range : LeafRange) :
    Type 0 where
  pub leaf : Leaf
  pub stands : IsLeafFor w (leaf_share st range.number) leaf
  pub keys_are : keys range.number ≡ leaf.keys
  pub durable : AllUpTo st.records.newest.number (st.leaves range.number).pending

-- a tree in memory is one
pub record IsTree (spine : Spine) : Type 0 where
  pub spine_is : IsSpine spine.geometry spine.root spine.below spine.leaves
  pub leaves : AreLeaves spine.leaves spine.root.end

-- of a slot that no change takes away or brings
abbrev pub IsUnchanged : Role → Type 0
IsUnchanged NoNode = Unit {0}
IsUnchanged Draft = Unit {0}
IsUnchanged Free = Unit {0}
IsUnchanged Leaving = ⊥
IsUnchanged Coming = ⊥

-- no change of the tree is under way
pub record IsCalm (st : parts.State) : Type 0 where
  pub change : st.change ≡ NoChange
  pub leaves : (k : ℕ) → IsUnchanged (st.leaves k).role
  pub inner_nodes : (x : ℕ) → IsUnchanged (st.inner_nodes x).role

-- ---- a change that is ready

-- What no part in memory says of a plan's new nodes: they stand, no other node is new, and no
-- change of the tree is under way.
pub record AreReady (w : Opening) (st : parts.State) (plan : Plan) : Type 0 where
  pub calm : IsCalm st
  pub come : (range : LeafRange) (leaf : Leaf) → Contains (new_leaves plan) (range, leaf)
      → IsReadyLeaf w st range leaf
  pub new : (n : Inner) → Contains (new_nodes plan) n → IsReadyInner w st n
  pub all_leaves : (k : ℕ) → (st.leaves k).role ≡ Draft → HasNumber (coming plan.leaves) k
  pub all_inner : (x : ℕ) → (st.inner_nodes x).role ≡ Draft
      → (n : Inner) × Contains (new_nodes plan) n × (inner_slot w n ≡ x)

-- where two ranges come, so do two leaves
abbrev pub HasBoth : Plan → Type 0
HasBoth plan = length (option_to_list plan.leaves.second) ≡ length (option_to_list plan.second)

-- The plan fits the tree in memory, its new nodes are ready, and the leaves that come have the last
-- keys of those that go.
pub record IsReadyChange (w : Opening) (st : parts.State) (spine : Spine) (plan : Plan)
    (keys : LeafKeys) : Type 0 where
  pub tree : IsTree spine
  pub stands : IsSpineOf w st spine
  pub fits : Fits spine plan
  pub both : HasBoth plan
  pub ready : AreReady w st plan
  pub gone : (range : LeafRange) → Contains (going spine.leaves plan.leaves) range
      → IsLeafToGo w st keys range
  pub same : StandIn spine.leaves keys plan

-- the seat holds the buckets of what comes
pub record HoldsNew (w : Opening) (k : Books) (i : ℕ) (plan : Plan) : Type 0 where
  pub leaves : (range : LeafRange) → Contains (coming plan.leaves) range
      → k.shelf (w.flow.books.bucket range.ptr.offset) ≡ Held i Tree
  pub inner_nodes : (n : Inner) → Contains (new_nodes plan) n
      → k.shelf (inner_slot w n) ≡ Held i Tree

-- so a seat knows of its plan, as long as it has the spine in hand
pub record IsReadyFor (i : ℕ) (plan : Plan) (o : Origin) (st : core.State) : Type 0 where
  pub ready : AreReady o.opening.machine st.machine.whole.parts plan
  pub holds : HoldsNew o.opening.machine (books_of st.machine) i plan
