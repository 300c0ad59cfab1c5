-- What holds of a sector that is read as was found.
use Rattle.std.specs.Prelude.{◌≡◌, ℕ, ◌/◌, ◌<◌, Bool, false}
use Rattle.bc_bucket.specs.Buckets.{Buckets, bucket_of}
use Rattle.bc_node.specs.Leaf.{Leaf}
use Rattle.bc_reads.specs.Reads.{IsReadFrom, IsRun}
use Rattle.bc_reads.specs.declared.runs.ReadRun.{ReadRun}
use Rattle.bc_reads.specs.declared.source.ReadFrom.TheVariants.{Backing, Cache}
use Rattle.bc_sight.specs.Sight.{IsOnBacking, IsStillLive, PointsTo}

abbrev pub LawBacking : Type 0
LawBacking = (leaf : Leaf) (b : Buckets) (s : ℕ) → IsReadFrom leaf b s Backing → IsOnBacking leaf s

-- what is read from the cache device and isn't dirty, the backing device has too
abbrev pub LawClean : Type 0
LawClean = (leaf : Leaf) (b : Buckets) (s at : ℕ) → IsReadFrom leaf b s (Cache at false)
    → IsOnBacking leaf s

-- a run that is read from the cache device is one of places to which the leaf's keys point
abbrev pub LawPoints : Type 0
LawPoints = (leaf : Leaf) (b : Buckets) (r : ReadRun) (at : ℕ) (dirty : Bool)
    → r.from ≡ Cache at dirty → IsRun leaf b r → PointsTo leaf r.first r.count at

-- and each of its sectors is live as long as its bucket isn't used anew
abbrev pub LawStill : Type 0
LawStill = (leaf : Leaf) (before now : Buckets) (s at : ℕ) (dirty : Bool) → 0 < before.size
    → IsReadFrom leaf before s (Cache at dirty)
    → (bucket_of now (at / before.size)).uses ≡ (bucket_of before (at / before.size)).uses
    → IsStillLive leaf before now s
