-- Which pairs are sound: what a cache that serves a pair needs of it, and what it leaves of a pair at any moment, but for the journal's end.
use Rattle.std.specs.Prelude.{◌≡◌, ◌≢◌, ◌⊎◌, ℕ, zero, suc, ◌+◌, ◌-◌, ◌%◌, ◌^◌, ◌<◌, ◌≤◌, true, false, List, length, All, AllPairs, Any, Contains, Some, slice_index_or}
use Rattle.bc_disk.specs.declared.geometry.Geometry.{Geometry}
use Rattle.bc_model.specs.Sector.{Image}
use Rattle.bc_jset.specs.Entries.{FoundEntry, StandIn, StandsInJournal}
use Rattle.bc_jset.specs.Ring.{HasRoom}
use Rattle.bc_key.specs.declared.key.Key.{Key}
use Rattle.bc_key.specs.declared.ptr.Ptr.{Ptr}
use Rattle.bc_key.specs.Key.{start_of, pointer_of, place_at}
use Rattle.bc_disk.specs.Chain.{sets_in_chain}
use Rattle.bc_super.specs.Cache.{IsInitialised}
use Rattle.bc_super.specs.Super.{IsState, state_number, data_sectors}
use Rattle.bc_super.specs.Division.{IsPassThrough}
use Rattle.bc_super.specs.declared.backing.BackingSuper.{BackingSuper}
use Rattle.bc_super.specs.declared.cache.CacheSuper.{CacheSuper}
use Rattle.bc_super.specs.declared.state.BackingState.TheVariants as states
use Rattle.bc_uuid.specs.declared.entry.UuidEntry.{UuidEntry}
use Rattle.bc_uuid.specs.Table.{TableIn}
use Rattle.bc_image.specs.Pair.{Pair, HasBacking}
use Rattle.bc_image.specs.Pointers.{PointsIntoData, PointsInto}
use Rattle.bc_image.specs.Children.{children_of}
use Rattle.bc_image.specs.Tree.{Node, set_keys}
use Rattle.bc_image.specs.Reading.{Reading, View, IsView, keys_of, key_of}
use Rattle.bc_image.specs.Shown.{age_of, is_live}
use Rattle.bc_image.specs.Uses.{Use, IsUsedFor, IsSpare}
use Rattle.bc_model.specs.Pieces.{piece_sectors}

-- ---- the superblocks and the uuid table

-- the cache device was set up, both devices are of one set, and the backing device's data may be on the cache device
pub record HasSuperblocks (b : BackingSuper) (c : CacheSuper) : Type 0 where
  pub initialised : IsInitialised c
  pub same_set : b.set_uuid ≡ c.set_uuid
  pub state : IsState (state_number b.flags) states.Clean ⊎ IsState (state_number b.flags) states.Dirty

-- the first device of the uuid table is the backing device; the table fills the bucket that its key points into
pub record NamesBacking (v : View) (cache : Image) : Type 0 where
  pub bucket : ℕ
  pub place : PointsInto v.geometry v.reading.newest.item.uuid_bucket bucket
  pub entries : List UuidEntry
  pub table : TableIn v.geometry cache bucket entries
  pub first : (d : UuidEntry) → (slice_index_or entries 0 d).uuid ≡ v.backing.uuid

-- ---- the nodes

-- a key lies in the range of a node: data whole, and a child by its end
abbrev pub LiesWithin : ℕ → ℕ → ℕ → Key → Type 0
LiesWithin zero from end key = (from ≤ start_of key) × (key.end ≤ end)
LiesWithin (suc level) from end key = (from < key.end) × (key.end ≤ end)

-- the ranges of children cover the range of a node up to its end, each from the end of the one before on; they end at multiples of 256
abbrev pub CoverUpTo : ℕ → List Key → ℕ → Type 0
CoverUpTo zero children end = Unit {0}
CoverUpTo (suc level) children end = All (λ c. c.end % piece_sectors ≡ 0) children × Any (λ c. c.end ≡ end) children

-- each key of each of its sets lies in the node's range, and its children cover it
pub record KeepsRange (n : Node) : Type 0 where
  pub within : All (LiesWithin n.level n.from n.key.end) (set_keys n.sets)
  pub cover : CoverUpTo n.level (children_of (set_keys n.sets)) n.key.end

abbrev pub HasRanges : Reading → Type 0
HasRanges r = All KeepsRange r.nodes

-- ---- the pointers

-- a key of a node: it has a pointer, and by each a node's sectors lie whole in a data bucket
pub record IsNodeKey (g : Geometry) (key : Key) : Type 0 where
  pub size : key.size ≡ g.node_sectors
  pub some : 0 < key.count
  pub ptrs : PointsIntoData g key

-- a key of data: what it points to lies whole in data buckets, and is data of a sector of the backing device
pub record IsDataKey (g : Geometry) (size : ℕ) (key : Key) : Type 0 where
  pub ptrs : PointsIntoData g key
  pub end : 0 < key.count → key.end ≤ size

-- all pointers are within their ranges; the backing device has so many sectors of data
pub record HasPointers (g : Geometry) (size : ℕ) (r : Reading) : Type 0 where
  pub nodes : All (λ n. IsNodeKey g n.key) r.nodes
  pub root : r.newest.item.root.end ≡ 2 ^ 40
  pub uuid : (0 < r.newest.item.uuid_bucket.count) × PointsIntoData g r.newest.item.uuid_bucket
  pub data_keys : All (IsDataKey g size) (keys_of r)

-- ---- the buckets

-- each bucket has at most one kind of use, and no two nodes lie in one
pub record HasOneUse (g : Geometry) (r : Reading) : Type 0 where
  pub one : (bucket : ℕ) (a b : Use) → IsUsedFor g r a bucket → IsUsedFor g r b bucket → a ≡ b
  pub nodes : AllPairs (λ m n. (bucket : ℕ) → PointsInto g m.key bucket → PointsInto g n.key bucket → ⊥) r.nodes

-- different buckets that nothing uses, as many as a chain of generations takes
pub record HasSpareBuckets (g : Geometry) (r : Reading) : Type 0 where
  pub spare : List ℕ
  pub different : AllPairs (λ a b. a ≢ b) spare
  pub each : All (IsSpare g r) spare
  pub enough : sets_in_chain g ≤ length spare

-- ---- the data

-- where a sector's key is live and clean, both devices have the same value
abbrev pub AgreesWhereClean : Pair → View → Type 0
AgreesWhereClean p v =
    (sector : ℕ) (key : Key) → key_of v.reading sector ≡ Some key → is_live v.geometry v.reading.gens key ≡ true → key.dirty ≡ false
    → p.cache (place_at key 0 sector) ≡ p.backing (v.backing.data_offset + sector)

-- no sector's pointer lies further behind its bucket than 96 generations, and none of a dirty key lies behind it at all
abbrev pub IsWithinWindow : Geometry → Reading → Type 0
IsWithinWindow g r =
    (sector : ℕ) (key : Key) (ptr : Ptr) → key_of r sector ≡ Some key → pointer_of key ≡ Some ptr
    → (age_of g r.gens ptr ≤ 96) × (key.dirty ≡ true → age_of g r.gens ptr ≡ 0)

-- ---- the journal

-- each whole entry at a block of the journal that isn't one of the list has a number below those that count
abbrev pub HasNoStrayEntry : Geometry → Image → Reading → Type 0
HasNoStrayEntry g image r = (e : FoundEntry) → StandsInJournal g image e → r.newest.item.last_seq ≤ e.item.seq → Contains r.entries e

-- there are numbers left, and the ring has room for one entry without keys
pub record HasRoomForEntry (g : Geometry) (image : Image) (r : Reading) : Type 0 where
  pub number : r.newest.item.seq < 2 ^ 63 - 2
  pub all : List FoundEntry
  pub stand : StandIn g image g.journal all
  pub room : HasRoom g all r.entries r.newest

-- ---- all of it

pub record HasSoundParts (p : Pair) (v : View) : Type 0 where
  pub superblocks : HasSuperblocks v.backing v.cache
  pub backing : NamesBacking v p.cache
  pub ranges : HasRanges v.reading
  pub pointers : HasPointers v.geometry (data_sectors p.backing_sectors v.backing) v.reading
  pub uses : HasOneUse v.geometry v.reading
  pub agrees : AgreesWhereClean p v
  pub window : IsWithinWindow v.geometry v.reading
  pub spare : HasSpareBuckets v.geometry v.reading
  pub no_stray : HasNoStrayEntry v.geometry p.cache v.reading

-- the backing device alone can serve
abbrev pub ServesAlone : Pair → Type 0
ServesAlone p = (b : BackingSuper) × HasBacking p b × IsPassThrough b

-- sound but for the number of its newest entry
abbrev pub IsSoundButForItsNumber : Pair → Type 0
IsSoundButForItsNumber p = ServesAlone p ⊎ ((v : View) × IsView p v × HasSoundParts p v)

abbrev pub IsSound : Pair → Type 0
IsSound p = ServesAlone p ⊎ ((v : View) × IsView p v × HasSoundParts p v × HasRoomForEntry v.geometry p.cache v.reading)
