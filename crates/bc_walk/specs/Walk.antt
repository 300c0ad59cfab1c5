-- A walk through the nodes of an index, as a reader makes it that trusts nothing: it reads no node where a key may not point to, and none twice.
use Rattle.std.specs.Prelude.{◌≡◌, ◌≢◌, ◌⊎◌, ℕ, zero, suc, ◌^◌, List, [], ◌∷◌, ◌++◌, Result, Ok, Err}
use Rattle.bc_disk.specs.declared.geometry.Geometry.{Geometry}
use Rattle.bc_model.specs.Sector.{Image}
use Rattle.bc_image.specs.Children.{children_of}
use Rattle.bc_image.specs.Pointers.{PointsInto}
use Rattle.bc_image.specs.Sound.{KeepsRange, IsNodeKey}
use Rattle.bc_image.specs.Tree.{node_of, kind_at, set_keys, data_keys, AreSetsAt}
use Rattle.bc_key.specs.Key.{ptr_at}
use Rattle.bc_key.specs.Words.{ptr_word}
use Rattle.bc_key.specs.declared.key.Key.{Key}
use Rattle.bc_node.specs.declared.error.NodeError.{NodeError}
use Rattle.bc_node.specs.declared.error.NodeError.TheVariants as nodes
use Rattle.bc_record.specs.Sectors.{bytes_in}
use Rattle.bc_set.specs.SetBytes.{IsRefused}
use Rattle.bc_set.specs.declared.set.Set.{Set}
use Rattle.bc_walk.specs.declared.error.WalkError.{WalkError}
use Rattle.bc_walk.specs.declared.error.WalkError.TheVariants as errors
use Rattle.bc_walk.specs.declared.visit.Visit.{Visit}
use Rattle.bc_walk.specs.declared.visit.Visit.TheVariants as visits

-- what a walk has found: what it did at each key, and the keys of data in the leaves that it met
pub record Found : Type 0 where
  pub visits : List Visit
  pub keys : List Key

-- how a walk goes: on, or to its end at a fault
abbrev pub Way : Type 0
Way = Result Found WalkError

-- a node was met in this bucket: by one visit, or by some
abbrev pub MeetsIn : Geometry → ℕ → Visit → Type 0
MeetsIn g bucket (visits.Met level from key) = PointsInto g key bucket
MeetsIn g bucket (visits.Barred key) = ⊥
MeetsIn g bucket (visits.Again key) = ⊥

abbrev pub IsVisited : Geometry → List Visit → ℕ → Type 0
IsVisited g [] bucket = ⊥
IsVisited g (visit ∷ seen) bucket = MeetsIn g bucket visit ⊎ IsVisited g seen bucket

-- the key is that of a node in this bucket, which was met before, or wasn't
pub record IsMetAgain (g : Geometry) (seen : List Visit) (key : Key) : Type 0 where
  pub proper : IsNodeKey g key
  pub bucket : ℕ
  pub place : PointsInto g key bucket
  pub taken : IsVisited g seen bucket

pub record IsNew (g : Geometry) (seen : List Visit) (key : Key) (bucket : ℕ) : Type 0 where
  pub proper : IsNodeKey g key
  pub place : PointsInto g key bucket
  pub free : ¬ (IsVisited g seen bucket)

-- the node of a level that a key points to, whose range begins at a sector, has this fault
abbrev pub IsNodeFault : Geometry → Image → ℕ → ℕ → Key → NodeError → Type 0
IsNodeFault g image level from key (nodes.First cause) =
    IsRefused (ptr_word (ptr_at key 0)) g.set_magic (kind_at level) (bytes_in image (ptr_at key 0).offset g.node_sectors) cause
IsNodeFault g image level from key nodes.Ranges = (sets : List Set) × AreSetsAt g image level key sets × ¬ (KeepsRange (node_of level from key sets))
IsNodeFault g image level from key nodes.Fault = ⊥
IsNodeFault g image level from key nodes.Memory = ⊥

-- it has none, and these sets
pub record IsWhole (g : Geometry) (image : Image) (level from : ℕ) (key : Key) (sets : List Set) : Type 0 where
  pub stand : AreSetsAt g image level key sets
  pub within : KeepsRange (node_of level from key sets)

-- behind what was found, one visit more, or a node with these sets
abbrev pub with_visit : Found → Visit → Found
with_visit found visit = record { visits = found.visits ++ visit ∷ []; keys = found.keys }

abbrev pub with_node : Found → ℕ → ℕ → Key → List Set → Found
with_node found level from key sets = record { visits = found.visits ++ visits.Met level from key ∷ []; keys = found.keys ++ data_keys level sets }

-- what a walk does at a key; `below` is how it goes on to the children of a node
pub data IsStep (g : Geometry) (image : Image) (level from : ℕ) (key : Key) (below : List Key → Found → Way → Type 0) (old : Found) (way : Way) : Type 0 where
  barred : ¬ (IsNodeKey g key) → way ≡ Ok (with_visit old (visits.Barred key)) → IsStep g image level from key below old way
  again : IsMetAgain g old.visits key → way ≡ Ok (with_visit old (visits.Again key)) → IsStep g image level from key below old way
  faulty : (bucket : ℕ) (why : NodeError) → IsNew g old.visits key bucket → IsNodeFault g image level from key why → way ≡ Err (errors.Node bucket why) → IsStep g image level from key below old way
  met : (bucket : ℕ) (sets : List Set) → IsNew g old.visits key bucket → IsWhole g image level from key sets → below (children_of (set_keys sets)) (with_node old level from key sets) way → IsStep g image level from key below old way

-- it goes on so, unless it has ended
abbrev pub GoesOn : (Found → Type 0) → Way → Way → Type 0
GoesOn on (Ok found) way = on found
GoesOn on (Err e) way = way ≡ Err e

-- it goes to each child in turn, each from the end of the one before on
abbrev pub AreSearches : (ℕ → Key → Found → Way → Type 0) → ℕ → List Key → Found → Way → Type 0
AreSearches search from [] old way = way ≡ Ok old
AreSearches search from (child ∷ children) old way =
    (here : Way) × search from child old here × GoesOn (λ found. AreSearches search child.end children found way) here way

-- how a walk goes from a key of a level, depth first: a node before its children, and these by their ends
abbrev pub IsSearch : Geometry → Image → ℕ → ℕ → Key → Found → Way → Type 0
IsSearch g image zero from key old way = IsStep g image zero from key (λ children found next. next ≡ Ok found) old way
IsSearch g image (suc level) from key old way = IsStep g image (suc level) from key (AreSearches (IsSearch g image level) from) old way

-- ---- of a whole index

abbrev pub nothing : Found
nothing = record { visits = []; keys = [] }

-- From its root, which ends behind the last sector that there may be.
abbrev pub IsIndexSearch : Geometry → Image → ℕ → Key → Way → Type 0
IsIndexSearch g image level root way =
    ((root.end ≢ 2 ^ 40) × (way ≡ Ok (with_visit nothing (visits.Barred root))))
    ⊎ ((root.end ≡ 2 ^ 40) × IsSearch g image level 0 root nothing way)
