-- The parts of soundness of which metadata alone tells: what the buckets are used for, but for data
-- and the uuid table.
use Rattle.std.specs.Prelude.{◌≡◌, ◌≢◌, ℕ, ◌+◌, ◌%◌, ◌<◌, ◌≤◌, List, length, All, AllPairs}
use Rattle.bc_disk.specs.declared.geometry.Geometry.{Geometry}
use Rattle.bc_record.specs.Places.{bucket_at}
use Rattle.bc_key.specs.Key.{ptr_at}
use Rattle.bc_prio.specs.Chain.{IsPlace}
use Rattle.bc_disk.specs.Chain.{sets_in_chain}
use Rattle.bc_image.specs.Reading.{Reading}
use Rattle.bc_image.specs.Tree as tree
use Rattle.bc_image.specs.Uses.{Use, Super, Journal, Priority, Uuid, Node, Data, IsUsedFor}

abbrev pub IsMetadata : Use → Type 0
IsMetadata Super = Unit {0}
IsMetadata Journal = Unit {0}
IsMetadata Priority = Unit {0}
IsMetadata Node = Unit {0}
IsMetadata Uuid = ⊥
IsMetadata Data = ⊥

-- the node lies whole in a bucket behind those of the journal
pub record LiesWhole (g : Geometry) (n : tree.Node) : Type 0 where
  pub bucket : IsPlace g (bucket_at g (ptr_at n.key 0).offset)
  pub whole : (ptr_at n.key 0).offset % g.bucket + g.node_sectors ≤ g.bucket

-- Each bucket has one such use at most, and as many buckets as a chain takes have none.
pub record HasApartUses (g : Geometry) (r : Reading) : Type 0 where
  pub one : (bucket : ℕ) (a b : Use) → IsMetadata a → IsMetadata b → IsUsedFor g r a bucket
      → IsUsedFor g r b bucket → a ≡ b
  pub nodes : All (LiesWhole g) r.nodes
  pub spare : List ℕ
  pub different : AllPairs (λ a b. a ≢ b) spare
  pub each : All (λ s. (s < g.nbuckets)
      × ((what : Use) → IsMetadata what → IsUsedFor g r what s → ⊥)) spare
  pub enough : sets_in_chain g ≤ length spare
