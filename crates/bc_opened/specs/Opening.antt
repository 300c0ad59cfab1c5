-- The machine opened on a sound pair, whatever the pair holds.
use Rattle.std.specs.Prelude.{◌≡◌, ◌≢◌, ℕ, suc, ◌+◌, ◌^◌, true, false}
use Rattle.bc_key.specs.declared.key.Key.{Key}
use Rattle.bc_disk.specs.declared.geometry.Geometry.{Geometry}
use Rattle.bc_meta.specs.Facts.{In}
use Rattle.bc_meta.specs.Layout.{node_sets}
use Rattle.bc_leaves.specs.Parts.{NoNode}
use Rattle.bc_leaves.specs.Parts as parts
use Rattle.bc_image.specs.Pair.{Pair}
use Rattle.bc_image.specs.Pointers.{PointsInto}
use Rattle.bc_image.specs.Reading.{View, IsView, keys_of}
use Rattle.bc_image.specs.Shown.{shown_by}
use Rattle.bc_image.specs.Sound.{HasSoundParts}
use Rattle.bc_image.specs.Tree.{Node}
use Rattle.bc_facts.specs.Seen.{bucket_of, counted, seen_sets, word_of}
use Rattle.bc_whole.specs.State.{Opening}
use Rattle.bc_known.specs.Laws.{IsSound}
use Rattle.bc_origin.specs.Keys.{WasThere}
use Rattle.bc_shows.specs.On.{IsMachineOf}

-- The leaf is this node, which was read of the pair, and the machine reads its sets.
pub record IsLeafOf (g : Geometry) (w : Opening) (n : Node) (x : parts.Leaf) : Type 0 where
  pub level : n.level ≡ 0
  pub first : n.from ≡ x.first
  pub end : n.key.end ≡ x.end
  pub bucket : bucket_of g n.key ≡ x.bucket
  pub word : word_of n.key ≡ x.word
  pub sets : node_sets w.layout w.store.owners w.store.image x.bucket ≡ seen_sets g true n.sets

-- So is the inner node.
pub record IsInnerOf (g : Geometry) (w : Opening) (n : Node) (x : parts.InnerNode) : Type 0 where
  pub level : n.level ≡ suc x.height
  pub first : n.from ≡ x.first
  pub end : n.key.end ≡ x.end
  pub bucket : bucket_of g n.key ≡ x.bucket
  pub word : word_of n.key ≡ x.word
  pub sets : node_sets w.layout w.store.owners w.store.image x.bucket ≡ seen_sets g false n.sets

-- A sound opening of a machine of the pair's devices; the pair is sound, but for its number.
pub record IsSoundOpeningOf (p : Pair) (v : View) (w : Opening) (x : parts.State) : Type 0 where
  pub view : IsView p v
  pub parts : HasSoundParts p v
  pub machine : IsMachineOf v.geometry w
  pub sound : IsSound w x
  pub cache : w.flow.cache ≡ p.cache
  pub backing : (s : ℕ) → w.flow.backing s ≡ p.backing (v.backing.data_offset + s)
  pub shows : (s : ℕ) → w.flow.image s ≡ shown_by p v s
  -- the machine has no keys but those that are read, and each slot with a node has one that is read
  pub keys : (key : Key) → WasThere w key → In key (keys_of v.reading)
  pub leaves : (i : ℕ) → (x.leaves i).role ≢ NoNode
      → (n : Node) × In n v.reading.nodes × IsLeafOf v.geometry w n (x.leaves i)
  pub inner_nodes : (i : ℕ) → (x.inner_nodes i).role ≢ NoNode
      → (n : Node) × In n v.reading.nodes × IsInnerOf v.geometry w n (x.inner_nodes i)
  -- where the root's range ends
  pub end : x.end ≡ 2 ^ 40
  -- nobody raises the bucket of the uuid table, or takes it
  pub table : (bucket : ℕ) → PointsInto v.geometry v.reading.newest.item.uuid_bucket bucket
      → w.flow.books.fixed (counted v.geometry bucket) ≡ true
