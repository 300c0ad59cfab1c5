-- The new nodes of a plan at places, with numbers.
use Rattle.std.specs.Prelude.{◌≡◌, ℕ, ◌+◌, false, List, [], ◌∷◌, Option, Some, All}
use Rattle.bc_disk.specs.declared.geometry.Geometry.{Geometry}
use Rattle.bc_inner.specs.Inner.{Inner}
use Rattle.bc_key.specs.Key.{ptr_at}
use Rattle.bc_key.specs.declared.key.Key.{Key}
use Rattle.bc_key.specs.declared.ptr.Ptr.{Ptr}
use Rattle.bc_node.specs.Leaf.{AreLast, AreLastOfAll, IsFull, Leaf}
use Rattle.bc_plan.specs.Write.{behind_of, lowest_of}
use Rattle.bc_plan.specs.declared.write.NewNode.{NewNode}
use Rattle.bc_plan.specs.declared.write.NewNode.TheVariants.{Behind, First, Lowest, Parent, Root, Second}
use Rattle.bc_spine.specs.declared.leaf.LeafRange.{LeafRange}
use Rattle.bc_tree.specs.declared.change.NodeChange.TheVariants.{Move}
use Rattle.bc_tree.specs.declared.plan.Plan.{Plan}

-- ---- where they stand

-- A leaf comes in this range, at this place and with this number. Nothing of it is written yet: all
-- that it has is pending, and fits in a node.
pub record ComesAt (g : Geometry) (ranges : Option LeafRange) (to : Ptr) (seq : ℕ) (leaf : Leaf) :
    Type 0 where
  pub ptr : leaf.ptr ≡ to
  pub number : leaf.seq ≡ seq
  pub none : leaf.taken ≡ 0
  pub fresh : leaf.loaded ≡ false
  pub fits : ¬ (IsFull g leaf)
  pub list : List Key
  pub last : AreLast list leaf.keys
  pub added : AreLastOfAll list leaf.pending
  pub range : LeafRange
  pub its_range : ranges ≡ Some range
  pub from : range.from ≡ leaf.from
  pub end : range.end ≡ leaf.end
  pub stands : range.ptr ≡ leaf.ptr

-- so does an inner node
pub record StandsAt (to : Ptr) (seq : ℕ) (n : Inner) : Type 0 where
  pub ptr : n.ptr ≡ to
  pub number : n.seq ≡ seq
  pub none : n.taken ≡ 0

-- the plan brings the node, at this place and with this number
abbrev pub IsAt : Geometry → Plan → ℕ → NewNode → Ptr → Type 0
IsAt g p seq First to = ComesAt g (Some p.leaves.first) to seq p.first
IsAt g p seq Second to =
    (leaf : Leaf) × (p.second ≡ Some leaf) × ComesAt g p.leaves.second to seq leaf
IsAt g p seq Parent to = (n : Inner) × (p.bottom ≡ Move n) × StandsAt to seq n
IsAt g p seq Root to = (n : Inner) × (p.top ≡ Some (Move n)) × StandsAt to seq n
IsAt g p seq Behind to = (n : Inner) × (behind_of p.beside ≡ Some n) × StandsAt to seq n
IsAt g p seq Lowest to = (n : Inner) × (lowest_of p.beside ≡ Some n) × StandsAt to seq n

-- each of them at the place of its turn, with the numbers from this one on
abbrev pub AreAt : Geometry → Plan → ℕ → List NewNode → List Ptr → Type 0
AreAt g p seq [] [] = Unit {0}
AreAt g p seq [] (to ∷ tos) = ⊥
AreAt g p seq (node ∷ nodes) [] = ⊥
AreAt g p seq (node ∷ nodes) (to ∷ tos) = IsAt g p seq node to × AreAt g p (seq + 1) nodes tos

-- ---- what they name

-- such is the place that a key names
abbrev pub Names : (Ptr → Type 0) → Key → Type 0
Names Q key = Q (ptr_at key 0)

-- such are the places of all children of this node
abbrev pub NamesAll : (Ptr → Type 0) → Inner → Type 0
NamesAll Q n = All (Names Q) n.children

-- so it is with each inner node that the plan brings
pub record NameEach (Q : Ptr → Type 0) (p : Plan) : Type 0 where
  pub parent : (n : Inner) → p.bottom ≡ Move n → NamesAll Q n
  pub root : (n : Inner) → p.top ≡ Some (Move n) → NamesAll Q n
  pub behind : (n : Inner) → behind_of p.beside ≡ Some n → NamesAll Q n
  pub lowest : (n : Inner) → lowest_of p.beside ≡ Some n → NamesAll Q n
