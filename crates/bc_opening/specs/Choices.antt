-- What a program chooses when it opens a pair, and what it may choose.
use Rattle.std.specs.Prelude.{◌≡◌, ◌≢◌, ◌⊎◌, ℕ, ◌+◌, ◌<◌, ◌≤◌, List, ◌∷◌, length, Option, Some}
use Rattle.bc_disk.specs.declared.geometry.Geometry.{Geometry}
use Rattle.bc_key.specs.declared.key.Key.{Key}
use Rattle.bc_key.specs.declared.ptr.Ptr.{Ptr}
use Rattle.bc_key.specs.Key.{pointer_of}
use Rattle.bc_disk.specs.Chain.{sets_in_chain}
use Rattle.bc_books.specs.Marks.{Mark, Dirtied, Metadata}
use Rattle.bc_books.specs.Shelves.{Purpose, Priorities}
use Rattle.bc_meta.specs.Chain.{Distinct}
use Rattle.bc_meta.specs.Entries.{Entry}
use Rattle.bc_meta.specs.Facts.{In}
use Rattle.bc_leaves.specs.Parts.{Pending}
use Rattle.bc_leaves_runs.specs.Reopen.{Replays}
use Rattle.bc_image.specs.Reading.{Reading, key_of}
use Rattle.bc_image.specs.Tree.{Node}
use Rattle.bc_image.specs.Uses.{Use, Data, IsUsedFor, IsSpare, IsLiveDirty}
use Rattle.bc_facts.specs.Reads.{back}
use Rattle.bc_facts.specs.Seen.{seen_entry, seen_entries}
use Rattle.bc_opening.specs.Read.{bucket_by, version_at, version_of}

pub record Choices : Type 0 where
  -- the node in a slot of a leaf, and in one of an inner node
  pub leaf : ℕ → Option Node
  pub inner : ℕ → Option Node
  -- the slot of the leaf that has a sector's keys
  pub slot : ℕ → ℕ
  -- the keys of the entries that a leaf gets back
  pub pending : ℕ → List Pending
  -- the reserve list that a bucket is on, and the buckets that are kept for the next chain
  pub listed : ℕ → Option Purpose
  pub kept : List ℕ
  pub mark : ℕ → Mark
  -- what is known of the oldest key of a bucket
  pub last_gc : ℕ → ℕ

abbrev pub IsLeaf : ℕ → Type 0
IsLeaf level = level ≡ 0

abbrev pub IsInner : ℕ → Type 0
IsInner level = 0 < level

-- each node of these levels is in one slot
pub record AreInSlots (nodes : List Node) (of : ℕ → Type 0) (slot : ℕ → Option Node) : Type 0 where
  pub is_node : (i : ℕ) (n : Node) → slot i ≡ Some n → In n nodes × of n.level
  pub all : (n : Node) → In n nodes → of n.level → (i : ℕ) × (slot i ≡ Some n)
  pub once : (i k : ℕ) (n : Node) → slot i ≡ Some n → slot k ≡ Some n → i ≡ k

-- a use by metadata, which data never has
abbrev pub IsMetadata : Geometry → Reading → ℕ → Type 0
IsMetadata g r bucket = (what : Use) × (what ≢ Data) × IsUsedFor g r what bucket

-- Marks that forbid what must not be raised: metadata, and what a live dirty key points into.
pub record AreMarks (g : Geometry) (r : Reading) (mark : ℕ → Mark) : Type 0 where
  pub metadata : (q : ℕ) → IsMetadata g r (back g q) ⊎ (g.nbuckets ≤ back g q) → mark q ≡ Metadata
  pub dirty : (q : ℕ) → IsLiveDirty g r (back g q) → mark q ≡ Dirtied
  pub only : (q : ℕ) → mark q ≡ Metadata → IsMetadata g r (back g q) ⊎ (g.nbuckets ≤ back g q)

-- No bucket is more than 96 generations past what is taken for its oldest key.
pub record AreOldest (g : Geometry) (r : Reading) (last_gc : ℕ → ℕ) : Type 0 where
  pub most : (q : ℕ) → last_gc q ≤ version_at g r.gens q
  pub window : (q : ℕ) → version_at g r.gens q ≤ last_gc q + 96
  pub keys : (s : ℕ) (key : Key) (ptr : Ptr) → key_of r s ≡ Some key → pointer_of key ≡ Some ptr
      → last_gc (bucket_by g ptr) ≤ version_of g r.gens ptr

pub record MayBeChosen (g : Geometry) (r : Reading) (c : Choices) : Type 0 where
  pub leaves : AreInSlots r.nodes IsLeaf c.leaf
  pub inner_nodes : AreInSlots r.nodes IsInner c.inner
  pub slots : (i : ℕ) (n : Node) (s : ℕ) → c.leaf i ≡ Some n → n.from ≤ s → s < n.key.end
      → c.slot s ≡ i
  -- a leaf's pending keys are those of the entries in its range
  pub pending : (i : ℕ) (n : Node) (older : List Entry) → c.leaf i ≡ Some n
      → seen_entries g r.entries ≡ seen_entry g r.newest.item ∷ older
      → Replays n.from n.key.end (seen_entry g r.newest.item) older (c.pending i)
  -- what is on a list is spare, and as many buckets as a chain takes are kept for the next one
  pub listed : (q : ℕ) (p : Purpose) → c.listed q ≡ Some p → IsSpare g r (back g q)
  pub kept : (q : ℕ) → In q c.kept → c.listed q ≡ Some Priorities
  pub distinct : Distinct c.kept
  pub enough : length c.kept ≡ sets_in_chain g
  pub marks : AreMarks g r c.mark
  pub oldest : AreOldest g r c.last_gc
