-- What a run puts into the tree and the journal, as far as soundness asks it. Each condition is of
-- what an act brings, and of the node that it goes to.
use Rattle.std.specs.Prelude.{◌≡◌, false, ℕ, ◌%◌, ◌^◌, ◌<◌, ◌≤◌, List, [], ◌∷◌, All}
use Rattle.bc_disk.specs.declared.geometry.Geometry.{Geometry}
use Rattle.bc_key.specs.declared.key.Key.{Key}
use Rattle.bc_jset.specs.declared.entry.JEntry.{JEntry}
use Rattle.bc_set.specs.declared.set.Set.{Set}
use Rattle.bc_meta.specs.Facts.{In}
use Rattle.bc_meta.specs.Entries.{Entry}
use Rattle.bc_meta.specs.Tree.{NodeSet}
use Rattle.bc_leaves.specs.Parts as parts
use Rattle.bc_image.specs.Sound.{IsDataKey, IsNodeKey}
use Rattle.bc_facts.specs.Seen.{seen_entry, seen_set}
use Rattle.bc_whole.specs.State.{Opening, Write, OfData, OfEntry, OfSet, OfParent, OfLeaf, OfInner, OfPriorities, Outside}
use Rattle.bc_whole.specs.Together.{entry_of}
use Rattle.bc_known.specs.Acts.{State, Act, Keyed, WriteCache, FailCache, Seal, Event, after}
use Rattle.bc_model.specs.Pieces.{piece_sectors}

-- ---- keys of data

-- some sectors of the backing device, where it has a pointer
pub record IsNewKey (g : Geometry) (size : ℕ) (key : Key) : Type 0 where
  pub lies : IsDataKey g size key
  pub some : 0 < key.size
  pub start : key.size ≤ key.end

abbrev pub AreNewKeys : Geometry → ℕ → List Key → Type 0
AreNewKeys g size keys = (key : Key) → In key keys → IsNewKey g size key

-- ---- keys of nodes

-- a key in an inner node over these sectors: of a child there, or one that takes a child away
pub record IsInnerKey (g : Geometry) (from end : ℕ) (key : Key) : Type 0 where
  pub child : 0 < key.count → IsNodeKey g key
  pub low : from < key.end
  pub high : key.end ≤ end

-- a set of an inner node over these sectors, as the formats have it
pub record IsInnerSet (g : Geometry) (from end : ℕ) (x : NodeSet) : Type 0 where
  pub set : Set
  pub seen : seen_set g false set ≡ x
  pub keys : All (IsInnerKey g from end) set.keys

-- an entry that names the pair's uuid table, and a root over all that there is
pub record IsGoodEntry (g : Geometry) (uuid : Key) (x : Entry) : Type 0 where
  pub entry : JEntry
  pub seen : seen_entry g entry ≡ x
  pub names : entry.uuid_bucket ≡ uuid
  pub root : IsNodeKey g entry.root
  pub end : entry.root.end ≡ 2 ^ 40

-- ---- acts

-- the pair: how the cache device is divided, how many sectors of data the backing device has, and
-- the key of the bucket of the uuid table
pub record Frame : Type 0 where
  pub geometry : Geometry
  pub size : ℕ
  pub uuid : Key

abbrev pub IsWellWritten : Frame → parts.State → Write → Type 0
IsWellWritten f st (OfData q place) = Unit {0}
IsWellWritten f st OfEntry = Unit {0}
IsWellWritten f st (OfSet i set) = AreNewKeys f.geometry f.size set.keys
IsWellWritten f st (OfParent i set) =
    IsInnerSet f.geometry (st.inner_nodes i).first (st.inner_nodes i).end set
IsWellWritten f st (OfLeaf i leaf set) = AreNewKeys f.geometry f.size set.keys
    × (leaf.end % piece_sectors ≡ 0)
IsWellWritten f st (OfInner i inner set) = IsInnerSet f.geometry inner.first inner.end set
    × (inner.end % piece_sectors ≡ 0)
IsWellWritten f st (OfPriorities q part set) = Unit {0}
-- nothing is written in front of the buckets or behind them
IsWellWritten f st (Outside place) = ⊥

abbrev pub IsWellMade : Frame → State → Act → Type 0
IsWellMade f st (Keyed act slot keys) = AreNewKeys f.geometry f.size keys
IsWellMade f st (WriteCache x values) = IsWellWritten f st.whole.parts x
IsWellMade f st (FailCache x values) = IsWellWritten f st.whole.parts x
IsWellMade f st (Seal last_seq rest root chain) =
    IsGoodEntry f.geometry f.uuid (entry_of st.whole last_seq rest root chain)
IsWellMade f st act = Unit {0}

-- each act of a run
abbrev pub AreWellMade : Frame → Opening → State → List Event → Type 0
AreWellMade f w st [] = Unit {0}
AreWellMade f w st (e ∷ es) = IsWellMade f st e.act × AreWellMade f w (after w st e.seat e.act) es
