-- A new node that a seat wrote and that nothing names yet, as the seat knows it while it keeps the
-- tree in hand. It is said from each opening of the core from which the run so far is one.
use Rattle.std.specs.Prelude.{◌≡◌, ℕ, [], ◌∷◌}
use Rattle.bc_events.specs.Run.{State}
use Rattle.bc_events.specs.Writes.{draft_inner, draft_leaf}
use Rattle.bc_events.specs.declared.event.NewNode.{NewNode}
use Rattle.bc_place.specs.bc_machine.World.{Origin}
use Rattle.bc_leaves.specs.Enabled.{IsStable}
use Rattle.bc_leaves.specs.Parts.{NoNode, node_of, inner_node_of}
use Rattle.bc_meta.specs.Records.{Node}
use Rattle.bc_meta.specs.Tree.{NodeSet}
use Rattle.bc_nodes_known.specs.Nodes.{IsWritten}
use Rattle.bc_shares.specs.Shares.{node_share}

-- ---- slots without a node

abbrev pub HasNoLeaf : ℕ → Origin → State → Type 0
HasNoLeaf k o st = (st.machine.whole.parts.leaves k).role ≡ NoNode

abbrev pub HasNoInner : ℕ → Origin → State → Type 0
HasNoInner x o st = (st.machine.whole.parts.inner_nodes x).role ≡ NoNode

-- ---- drafts

-- this set is the node's only one, and its write didn't fail
pub record HasFirst (set : NodeSet) (n : Node) : Type 0 where
  pub sets : (node_share n).sets ≡ set ∷ []
  pub written : IsWritten n

-- and a barrier came behind it
pub record StandsFirst (set : NodeSet) (n : Node) : Type 0 where
  pub sets : n.sets ≡ set ∷ []
  pub stable : IsStable n

-- The slot has this new node, with this first set.
pub record IsNewLeaf (P : Node → Type 0) (x : NewNode) (o : Origin) (st : State) : Type 0 where
  pub is : st.machine.whole.parts.leaves x.slot ≡ draft_leaf x
  pub node : P (node_of st.machine.whole.parts x.slot)

pub record IsNewInner (P : Node → Type 0) (x : NewNode) (o : Origin) (st : State) : Type 0 where
  pub is : st.machine.whole.parts.inner_nodes x.slot ≡ draft_inner x
  pub node : P (inner_node_of st.machine.whole.parts x.slot)

abbrev pub IsDraftLeaf : NewNode → NodeSet → Origin → State → Type 0
IsDraftLeaf x set = IsNewLeaf (HasFirst set) x

abbrev pub IsStableLeaf : NewNode → NodeSet → Origin → State → Type 0
IsStableLeaf x set = IsNewLeaf (StandsFirst set) x

abbrev pub IsDraftInner : NewNode → NodeSet → Origin → State → Type 0
IsDraftInner x set = IsNewInner (HasFirst set) x

abbrev pub IsStableInner : NewNode → NodeSet → Origin → State → Type 0
IsStableInner x set = IsNewInner (StandsFirst set) x
