-- Sets of keys as records in an image: which one a reader finds at a place.
use Rattle.std.specs.Prelude.{◌≡◌, ℕ, List, [], ◌∷◌}
use Rattle.bc_model.specs.Sector.{Image}
use Rattle.bc_disk.specs.declared.geometry.Geometry.{Geometry}
use Rattle.bc_record.specs.Sectors.{in_blocks}
use Rattle.bc_record.specs.Kind.{Kind, IsFound, NoneFound, AreFound}
use Rattle.bc_set.specs.declared.set.Set.{Set}
use Rattle.bc_set.specs.declared.set.SetKind.{SetKind}
use Rattle.bc_set.specs.SetBytes.{IsSet, bytes_of}

-- Sets of keys of a kind, in a node whose sets have checksums with this start.
abbrev pub set_kind : Geometry → ℕ → SetKind → Kind Set
set_kind g start kind = record { block = g.block; Begins = IsSet start g.set_magic kind; bytes = bytes_of }

-- how many sectors a set takes: whole blocks
abbrev pub set_sectors : Geometry → Set → ℕ
set_sectors g s = in_blocks g.block (bytes_of s)

-- a reader that looks no further than an end finds the set at a place, both in sectors
abbrev pub SetFound : Geometry → ℕ → SetKind → Image → ℕ → ℕ → Set → Type 0
SetFound g start kind image end place s = IsFound (set_kind g start kind) image end place s

-- ---- the sets of a node

-- sets with a number, which all sets of a node have in common
abbrev pub numbered_kind : Geometry → ℕ → SetKind → ℕ → Kind Set
numbered_kind g start kind seq = record { block = g.block; Begins = λ bytes s. IsSet start g.set_magic kind bytes s × (s.seq ≡ seq); bytes = bytes_of }

-- The sets of a node from its place up to its end: one at its first sector, and those with the same number behind it, each at the first
-- block behind the one before. A whole set with another number is left from an earlier use of the bucket, and ends the node.
abbrev pub AreNodeSets : Geometry → ℕ → SetKind → Image → ℕ → ℕ → List Set → Type 0
AreNodeSets g start kind image end place [] = NoneFound (set_kind g start kind) image end place
AreNodeSets g start kind image end place (s ∷ ss) = AreFound (numbered_kind g start kind s.seq) image end place (s ∷ ss)
