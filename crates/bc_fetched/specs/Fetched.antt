-- A leaf that is read of the cache device while a run goes on.
use Rattle.std.specs.Prelude.{◌≡◌, ◌⊎◌, ℕ, true, false, List, [], ◌∷◌, ◌++◌, Some}
use Rattle.bc_disk.specs.Device.{Among}
use Rattle.bc_disk.specs.declared.geometry.Geometry.{Geometry}
use Rattle.bc_events.specs.Run.{State}
use Rattle.bc_facts.specs.Layout.{IsLayoutOf}
use Rattle.bc_image.specs.Tree.{AreSetsAt}
use Rattle.bc_key.specs.Key.{pointer_of, ptr_at}
use Rattle.bc_key.specs.declared.key.Key.{Key}
use Rattle.bc_begun.specs.bc_machine.Containers.{IsLeafFor, IsTreeLeaf}
use Rattle.bc_begun.specs.bc_machine.World.{IsCourseOf, IsOrigin, Origin, World, replay}
use Rattle.bc_meta.specs.Layout.{sets_in}
use Rattle.bc_meta.specs.Records.{Node}
use Rattle.bc_meta.specs.Tree.{NodeSet}
use Rattle.bc_model.specs.Sector.{Image}
use Rattle.bc_node.specs.Leaf.{IsLeafOf, Leaf}
use Rattle.bc_set.specs.declared.set.Set.{Set}
use Rattle.bc_shares.specs.Shares.{leaf_share, node_share, shape_of}
use Rattle.bc_whole.specs.State.{Opening}

-- What reads of the cache device may give: of each sector one of the values that a read of it may
-- give.
pub record MayBeRead (g : Geometry) (o : Origin) (st : State) (image : Image) : Type 0 where
  pub layout : IsLayoutOf g o.opening.machine.layout
  pub values : (s : ℕ) → Among (image s) (st.machine.whole.flow.cache.reads s)

-- of each image that reads may give in a state of a run, as it is from an opening
abbrev pub OfReads : (Geometry → Origin → State → Image → Type 0) → Type 0
OfReads P = (x : World) (o : Origin) → IsOrigin x o → IsCourseOf o x.log → (g : Geometry)
    (image : Image) → MayBeRead g o (replay o x.log) image → P g o (replay o x.log) image

-- ---- nodes

-- the sets that were written, or one besides whose write failed
abbrev pub AreWritten : Node → List NodeSet → Type 0
AreWritten n sets = (sets ≡ (node_share n).sets)
    ⊎ ((lost : NodeSet) × ((node_share n).lost ≡ Some lost) × (sets ≡ lost ∷ (node_share n).sets))

-- of each node of which something is known, or to which a set was sent
abbrev pub LawSets : Type 0
LawSets = OfReads (λ g o st image. (q : ℕ)
    → let n = st.machine.whole.parts.records.nodes q in
    (n.sent ≡ false → n.loose ≡ false)
    → AreWritten n (sets_in o.opening.machine.layout image n.owner q))

-- ---- leaves

-- The leaf in this slot is one of the tree, of this key and from this sector on, and has nothing
-- pending.
pub record IsIdleLeaf (o : Origin) (st : State) (k from : ℕ) (key : Key) : Type 0 where
  pub at : IsTreeLeaf o.opening.machine from key.end (ptr_at key 0)
      (shape_of (st.machine.whole.parts.leaves k))
  pub none : (st.machine.whole.parts.leaves k).pending ≡ []

-- the reader finds a node where the key of a leaf of the tree points to
abbrev pub LawFound : Type 0
LawFound = OfReads (λ g o st image. (k from : ℕ) (key : Key) → pointer_of key ≡ Some (ptr_at key 0)
    → IsTreeLeaf o.opening.machine from key.end (ptr_at key 0)
    (shape_of (st.machine.whole.parts.leaves k))
    → (sets : List Set) × AreSetsAt g image 0 key sets)

-- Such a leaf that is read stands for the one in its slot: it says of each sector what the sets that
-- are known of its node say.
abbrev pub LawFetched : Type 0
LawFetched = OfReads (λ g o st image. (k from : ℕ) (key : Key) (sets : List Set) (leaf : Leaf)
    → IsIdleLeaf o st k from key → AreSetsAt g image 0 key sets → IsLeafOf g key from sets leaf
    → IsLeafFor o.opening.machine (leaf_share st.machine.whole.parts k) leaf)
