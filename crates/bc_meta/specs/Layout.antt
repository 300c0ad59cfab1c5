-- Where records lie on a cache device, and what a reader of an image finds of them.
use Rattle.std.specs.Prelude.{◌≡◌, ◌≢◌, ℕ, zero, suc, ◌+◌, ◌<◌, ◌≤◌, List, [], ◌∷◌, ◌++◌, Option, Some, None, if◌then◌else◌, ◌==◌, Bool, ◌&&◌, nat_le}
use Rattle.bc_model.specs.Sector.{Image}
use Rattle.bc_key.specs.declared.key.Key.{Key}
use Rattle.bc_meta.specs.Facts.{Facts, FindsNoneInZeros, scan}
use Rattle.bc_meta.specs.Entries.{Entry, all_keys}
use Rattle.bc_meta.specs.Tree.{NodeSet, Owner, NodeSets, tree_list}

-- a priority set
pub record PrioSet : Type 0 where
  -- the bucket of the next set, 0 in a chain's last one
  pub next : ℕ
  -- a byte for each bucket of its part
  pub gens : List ℕ

pub record Layout : Type 0 where
  -- how many buckets there are, the first of which are the journal's; the first sector of each, and
  -- its sectors
  pub buckets : ℕ
  pub journal : ℕ
  pub first : ℕ → ℕ
  pub bucket_sectors : ℕ
  -- the sectors of a block; each record begins at one
  pub block : ℕ
  -- how long a node is, and where one begins that is read so
  pub node_sectors : ℕ
  pub begins : Owner → ℕ
  pub journal_within : journal ≤ buckets
  pub apart : (a b t : ℕ) → a < buckets → b < buckets → a ≢ b → first a ≤ t → t < first a + bucket_sectors
      → first b ≤ t → t < first b + bucket_sectors → ⊥
  pub entries : Facts block (Unit {0}) Entry
  pub sets : Facts block Owner NodeSet
  pub blank : FindsNoneInZeros sets
  -- priority sets are read by the part of a chain that they are; each fills a bucket, and a chain
  -- has so many
  pub prios : Facts block ℕ PrioSet
  pub fills : (e : PrioSet) → prios.len e ≡ bucket_sectors
  pub chain_sets : ℕ

abbrev pub entry_len : Layout → Entry → ℕ
entry_len w e = w.entries.len e

abbrev pub set_len : Layout → NodeSet → ℕ
set_len w e = w.sets.len e

abbrev pub entry_at : Layout → Image → ℕ → ℕ → Option Entry
entry_at w image b p = w.entries.found image tt (w.first b + w.bucket_sectors) p

abbrev pub bucket_entries : Layout → Image → ℕ → List Entry
bucket_entries w image b = scan (entry_len w) (entry_at w image b) w.bucket_sectors (w.first b) []

-- all entries that are found in the first so many journal buckets
abbrev pub ring_entries : Layout → Image → ℕ → List Entry
ring_entries w image zero = []
ring_entries w image (suc n) = bucket_entries w image n ++ ring_entries w image n

-- a set of another seq ends the node
abbrev pub of_seq : ℕ → Option NodeSet → Option NodeSet
of_seq seq None = None
of_seq seq (Some x) = if x.seq == seq then Some x else None

-- where a node ends that is read so
abbrev pub node_end : Layout → Owner → ℕ
node_end w o = w.begins o + w.node_sectors

abbrev pub set_at : Layout → Image → Owner → ℕ → ℕ → Option NodeSet
set_at w image o seq p = of_seq seq (w.sets.found image o (node_end w o) p)

abbrev pub sets_from : Layout → Image → Owner → Option NodeSet → List NodeSet
sets_from w image o None = []
sets_from w image o (Some x) = scan (set_len w) (set_at w image o x.seq) w.node_sectors (w.begins o) []

-- a node that is read so lies in this bucket
abbrev pub is_within : Layout → ℕ → Owner → Bool
is_within w q o = nat_le (w.first q) (w.begins o) && nat_le (node_end w o) (w.first q + w.bucket_sectors)

-- the sets of a node that is read so, none where it doesn't lie in its bucket, and those of each node
abbrev pub sets_in : Layout → Image → Owner → ℕ → List NodeSet
sets_in w image o q = if is_within w q o then sets_from w image o (w.sets.found image o (node_end w o) (w.begins o)) else []

abbrev pub node_sets : Layout → (ℕ → Owner) → Image → NodeSets
node_sets w owners image q = sets_in w image (owners q) q

-- the keys of an image: those of its entries, and before these the tree's
abbrev pub image_keys : Layout → (ℕ → Owner) → Image → Entry → List Entry → List Key
image_keys w owners image newest older = all_keys (newest ∷ older) ++ tree_list (node_sets w owners image) newest.level newest.root
