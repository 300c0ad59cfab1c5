-- Runs that bring keys, with all that is asked of a run on a sound pair.
use Rattle.std.specs.Prelude.{◌≡◌, ◌≢◌, ℕ, ◌<◌, List, [], ◌∷◌}
use Rattle.bc_model.specs.Sector.{Value}
use Rattle.bc_disk.specs.declared.geometry.Geometry.{Geometry}
use Rattle.bc_key.specs.declared.key.Key.{Key}
use Rattle.bc_super.specs.Super.{data_sectors}
use Rattle.bc_super.specs.declared.backing.BackingSuper.{BackingSuper}
use Rattle.bc_super.specs.declared.cache.CacheSuper.{CacheSuper}
use Rattle.bc_data.specs.Data as flow
use Rattle.bc_meta.specs.Facts.{In}
use Rattle.bc_meta.specs.Tree.{NodeSet}
use Rattle.bc_leaves.specs.Parts as parts
use Rattle.bc_image.specs.Formatted.{IsFormatted}
use Rattle.bc_image.specs.NewPair.{new_pair}
use Rattle.bc_image.specs.Pair.{Pair}
use Rattle.bc_image.specs.Reading.{View}
use Rattle.bc_image.specs.Sound.{HasSuperblocks}
use Rattle.bc_whole.specs.State.{Opening, OfInner, OfLeaf}
use Rattle.bc_known.specs.Acts.{Event, Keyed, WriteCache}
use Rattle.bc_ranges.specs.Laws.{IsRunOf}

-- a run from an opening of a pair, whose last event brings a key into a leaf
pub record Inserts (p : Pair) (v : View) : Type 0 where
  pub opening : Opening
  pub held : parts.State
  pub first : Event
  pub seat : ℕ
  pub act : flow.Act
  pub slot : ℕ
  pub key : Key
  pub run : (next_seq : ℕ) → IsRunOf p v opening held next_seq (first
      ∷ record { seat = seat; act = Keyed act slot (key ∷ []) } ∷ [])

abbrev pub LawInsert : Type 0
LawInsert = (p : Pair) (b : BackingSuper) (c : CacheSuper) (g : Geometry) → IsFormatted p b c g
    → HasSuperblocks b c → 5 < data_sectors p.backing_sectors b
    → (v : View) × (v.geometry ≡ g) × Inserts p v

-- on the small pair that was made anew
abbrev pub HasInsert : Type 0
HasInsert = (v : View) × Inserts new_pair v

-- a run from an opening of a pair, whose last event writes an inner node that has a child
pub record WritesNode (p : Pair) (v : View) : Type 0 where
  pub opening : Opening
  pub held : parts.State
  pub next_seq : ℕ
  pub first : Event
  pub seat : ℕ
  pub slot : ℕ
  pub inner : parts.InnerNode
  pub set : NodeSet
  pub values : List Value
  pub some : set.children ≢ []
  pub run : IsRunOf p v opening held next_seq (first
      ∷ record { seat = seat; act = WriteCache (OfInner slot inner set) values } ∷ [])

abbrev pub HasNode : Type 0
HasNode = (v : View) × WritesNode new_pair v

-- and one that writes a leaf with a key that points to data
pub record WritesLeaf (p : Pair) (v : View) : Type 0 where
  pub opening : Opening
  pub held : parts.State
  pub next_seq : ℕ
  pub first : Event
  pub seat : ℕ
  pub slot : ℕ
  pub leaf : parts.Leaf
  pub set : NodeSet
  pub values : List Value
  pub key : Key
  pub is_key : In key set.keys
  pub pointer : 0 < key.count
  pub run : IsRunOf p v opening held next_seq (first
      ∷ record { seat = seat; act = WriteCache (OfLeaf slot leaf set) values } ∷ [])

abbrev pub HasLeaf : Type 0
HasLeaf = (v : View) × WritesLeaf new_pair v
