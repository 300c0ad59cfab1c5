-- A leaf with keys of the journal.
use Rattle.std.specs.Prelude.{◌≡◌, ◌≤◌, List, [], ◌∷◌, Option, Some, map}
use Rattle.bc_key.specs.Key.{IsExtent, start_of}
use Rattle.bc_key.specs.declared.key.Key.{Key}
use Rattle.bc_node.specs.Leaf.{ArePut, AreAdded, IsSameNode, Leaf, noted}
use Rattle.bc_node.specs.declared.pending.Entries.{Entries}
use Rattle.bc_pending.specs.declared.numbered.Numbered.{Numbered}

abbrev pub keys_of : List Numbered → List Key
keys_of keys = map (λ n. n.key) keys

-- the key lies within the leaf's range
abbrev pub FitsLeaf : Leaf → Numbered → Type 0
FitsLeaf leaf n = IsExtent n.key × (leaf.from ≤ start_of n.key) × (n.key.end ≤ leaf.end)

-- with the entries that hold these keys, the oldest first
abbrev pub noted_all : List Numbered → Option Entries → Option Entries
noted_all [] entries = entries
noted_all (n ∷ ns) entries = noted_all ns (Some (noted entries n.entry))

-- the keys came behind those that the leaf had, and wait for its next set, for which their entries are noted
pub record HasAdded (more : List Numbered) (old new : Leaf) : Type 0 where
  pub node : IsSameNode old new
  pub keys : ArePut (keys_of more) old.keys new.keys
  pub pending : AreAdded (keys_of more) old.pending new.pending
  pub entries : new.entries ≡ noted_all more old.entries

-- nothing came
pub record IsUnchanged (old new : Leaf) : Type 0 where
  pub node : IsSameNode old new
  pub keys : new.keys ≡ old.keys
  pub pending : new.pending ≡ old.pending
  pub entries : new.entries ≡ old.entries
