-- What a seat knows of a change of the tree that a set of one of its nodes makes, until it is over.
use Rattle.std.specs.Prelude.{◌≡◌, ℕ, false, List, map}
use Rattle.bc_change.specs.Ready.{HoldsNew}
use Rattle.bc_change.specs.Under.{IsUnderWay}
use Rattle.bc_change.specs.bc_machine.Containers.{child_of, inner_slot}
use Rattle.bc_change.specs.bc_machine.World.{Origin}
use Rattle.bc_events.specs.Run as core
use Rattle.bc_events.specs.declared.event.Change.{Change}
use Rattle.bc_inner.specs.Inner.{Inner}
use Rattle.bc_key.specs.declared.key.Key.{Key}
use Rattle.bc_leaves.specs.Parts.{BySet, Free, inner_node_of}
use Rattle.bc_meta.specs.Tree.{children_of}
use Rattle.bc_append.specs.bc_nodes_known.Nodes.{NamesFrom}
use Rattle.bc_shares.specs.Shares.{books_of, inner_share}
use Rattle.bc_tree.specs.declared.plan.Plan.{Plan}

-- entries name this root, the durable one and the sealed one
abbrev pub NamesThis : Inner → Origin → core.State → Type 0
NamesThis root o st =
    NamesFrom 0 (inner_slot o.opening.machine root) st.machine.whole.parts.records

-- The set of the node in this slot was written that makes the change. The node stays, and has these
-- children from now on. The root is none that leaves.
pub record IsBySet (i : ℕ) (plan : Plan) (c : Change) (slot : ℕ) (children : List Key) (o : Origin)
    (st : core.State) : Type 0 where
  pub under : IsUnderWay o.opening.machine st.machine.whole.parts plan c
  pub holds : HoldsNew o.opening.machine (books_of st.machine) i plan
  pub change : st.machine.whole.parts.change ≡ BySet slot
  pub stays : (st.machine.whole.parts.inner_nodes slot).role ≡ Free
  pub children_are : children_of (inner_share st.machine.whole.parts slot).node.sets
      ≡ map (child_of o.opening.machine) children

-- A barrier came behind it: so the change is made.
pub record IsMadeSet (i : ℕ) (plan : Plan) (c : Change) (slot : ℕ) (children : List Key)
    (o : Origin) (st : core.State) : Type 0 where
  pub by_set : IsBySet i plan c slot children o st
  pub stable : (inner_node_of st.machine.whole.parts slot).sent ≡ false
