-- The new nodes of a plan, as they are written.
use Rattle.std.specs.Prelude.{◌≡◌, ℕ, ◌+◌, ◌≤◌, false, List, Option, Some, None, Result, OnErr, OnOk}
use Rattle.bc_disk.specs.Disk.{DiskFacts, IsCounted, IsFailedWrite, IsWritten}
use Rattle.bc_disk.specs.declared.disk.Failed.{Failed}
use Rattle.bc_disk.specs.declared.geometry.Geometry.{Geometry}
use Rattle.bc_inner.specs.Inner.{HasTaken, Inner, children_set}
use Rattle.bc_key.specs.Words.{ptr_word}
use Rattle.bc_key.specs.declared.ptr.Ptr.{Ptr}
use Rattle.bc_model.specs.Sector.{values_of}
use Rattle.bc_node.specs.Leaf.{IsAppended, IsFull, Leaf, pending_set}
use Rattle.bc_node.specs.Writing.{HasSet}
use Rattle.bc_set.specs.Records.{set_sectors}
use Rattle.bc_set.specs.declared.set.Set.{Set as NodeSet}
use Rattle.bc_tree.specs.declared.beside.Beside.{Beside}
use Rattle.bc_tree.specs.declared.beside.Beside.TheVariants.{Comes, Goes, Moves, Stays, Under}
use Rattle.bc_tree.specs.declared.change.NodeChange.{NodeChange}
use Rattle.bc_tree.specs.declared.change.NodeChange.TheVariants.{Move}
use Rattle.bc_tree.specs.declared.plan.Plan.{Plan}
use Rattle.bc_plan.specs.declared.write.NewNode.{NewNode}
use Rattle.bc_plan.specs.declared.write.NewNode.TheVariants.{Behind, First, Lowest, Parent, Root, Second}

-- the node that comes behind the one that changes
abbrev pub behind_of : Beside → Option Inner
behind_of Stays = None
behind_of (Comes node) = Some node
behind_of (Moves node) = Some node
behind_of Goes = None
behind_of (Under low high) = Some high

-- the lower one of two that come below a new root
abbrev pub lowest_of : Beside → Option Inner
lowest_of Stays = None
lowest_of (Comes node) = None
lowest_of (Moves node) = None
lowest_of Goes = None
lowest_of (Under low high) = Some low

-- the same with this one in its place
abbrev pub with_behind : Beside → Inner → Beside
with_behind Stays next = Stays
with_behind (Comes node) next = Comes next
with_behind (Moves node) next = Moves next
with_behind Goes next = Goes
with_behind (Under low high) next = Under low next

abbrev pub with_lowest : Beside → Inner → Beside
with_lowest Stays next = Stays
with_lowest (Comes node) next = Comes node
with_lowest (Moves node) next = Moves node
with_lowest Goes next = Goes
with_lowest (Under low high) next = Under next high

-- a first set, and where it goes
pub record FirstSet : Type 0 where
  pub ptr : Ptr
  pub set : NodeSet

abbrev pub leaf_set : Leaf → FirstSet
leaf_set leaf = record { ptr = leaf.ptr; set = pending_set leaf }

abbrev pub inner_set : Inner → FirstSet
inner_set node = record { ptr = node.ptr; set = children_set node }

-- the new node of the plan has this first set
abbrev pub HasFirstSet : Plan → NewNode → FirstSet → Type 0
HasFirstSet plan First set = set ≡ leaf_set plan.first
HasFirstSet plan Second set = (leaf : Leaf) × (plan.second ≡ Some leaf) × (set ≡ leaf_set leaf)
HasFirstSet plan Parent set = (node : Inner) × (plan.bottom ≡ Move node) × (set ≡ inner_set node)
HasFirstSet plan Root set = (node : Inner) × (plan.top ≡ Some (Move node)) × (set ≡ inner_set node)
HasFirstSet plan Behind set = (node : Inner) × (behind_of plan.beside ≡ Some node) × (set ≡ inner_set node)
HasFirstSet plan Lowest set = (node : Inner) × (lowest_of plan.beside ≡ Some node) × (set ≡ inner_set node)

-- nothing of the leaf was written yet, it fits in a node, and its place is within the device
pub record IsUnwritten (g : Geometry) (sectors : ℕ) (leaf : Leaf) : Type 0 where
  pub none : leaf.taken ≡ 0
  pub fresh : leaf.loaded ≡ false
  pub free : ¬ (IsFull g leaf)
  pub room : leaf.ptr.offset + g.node_sectors ≤ sectors

-- nothing of the node was, and its place is within the device
pub record IsUnwrittenInner (g : Geometry) (sectors : ℕ) (node : Inner) : Type 0 where
  pub none : node.taken ≡ 0
  pub room : node.ptr.offset + g.node_sectors ≤ sectors

-- the plan brings the node, and it can be written
abbrev pub CanWrite : Geometry → ℕ → Plan → NewNode → Type 0
CanWrite g sectors plan First = IsUnwritten g sectors plan.first
CanWrite g sectors plan Second = (leaf : Leaf) × (plan.second ≡ Some leaf) × IsUnwritten g sectors leaf
CanWrite g sectors plan Parent = (node : Inner) × (plan.bottom ≡ Move node) × IsUnwrittenInner g sectors node
CanWrite g sectors plan Root = (node : Inner) × (plan.top ≡ Some (Move node)) × IsUnwrittenInner g sectors node
CanWrite g sectors plan Behind = (node : Inner) × (behind_of plan.beside ≡ Some node) × IsUnwrittenInner g sectors node
CanWrite g sectors plan Lowest = (node : Inner) × (lowest_of plan.beside ≡ Some node) × IsUnwrittenInner g sectors node

-- what a write of a first set does: zeros follow it up to the node's end
pub record IsFirstWrite (g : Geometry) (first : FirstSet) (bytes : List ℕ) (old new : DiskFacts) (result : Result (Unit {0}) Failed) : Type 0 where
  pub has : HasSet g (ptr_word first.ptr) first.set bytes
  pub ok : OnOk result (IsWritten first.ptr.offset (values_of bytes) old new)
  pub failed : OnErr result (IsFailedWrite first.ptr.offset (values_of bytes) old new)
  pub counted : IsCounted result old new

-- the node that a change brings has its first set
abbrev pub HasMoved : Geometry → NodeChange → NodeChange → Type 0
HasMoved g old new =
    (a : Inner) × (b : Inner) × (old ≡ Move a) × (new ≡ Move b) × HasTaken (set_sectors g (children_set a)) a b

-- the new node has its first set, and nothing else of the plan has changed
abbrev pub HasNodeWritten : Geometry → NewNode → Plan → Plan → Type 0
HasNodeWritten g First old new = (new ≡ record old { first = new.first }) × IsAppended g old.first new.first
HasNodeWritten g Second old new =
    (a : Leaf) × (b : Leaf) × (old.second ≡ Some a) × (new ≡ record old { second = Some b }) × IsAppended g a b
HasNodeWritten g Parent old new = (new ≡ record old { bottom = new.bottom }) × HasMoved g old.bottom new.bottom
HasNodeWritten g Root old new =
    (a : NodeChange) × (b : NodeChange) × (old.top ≡ Some a) × (new ≡ record old { top = Some b }) × HasMoved g a b
HasNodeWritten g Behind old new =
    (a : Inner) × (b : Inner) × (behind_of old.beside ≡ Some a) × (new ≡ record old { beside = with_behind old.beside b })
    × HasTaken (set_sectors g (children_set a)) a b
HasNodeWritten g Lowest old new =
    (a : Inner) × (b : Inner) × (lowest_of old.beside ≡ Some a) × (new ≡ record old { beside = with_lowest old.beside b })
    × HasTaken (set_sectors g (children_set a)) a b
