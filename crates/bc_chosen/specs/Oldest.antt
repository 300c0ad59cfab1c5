-- The oldest generations of keys, as the machine has them: as versions.
use Rattle.std.specs.Prelude.{◌≡◌, ℕ, length}
use Rattle.bc_bucket.specs.Buckets.{Buckets, bucket_of}
use Rattle.bc_disk.specs.Gens.{Gens}
use Rattle.bc_disk.specs.declared.geometry.Geometry.{Geometry}
use Rattle.bc_facts.specs.Reads.{back}
use Rattle.bc_image.specs.Reading.{Reading}
use Rattle.bc_image.specs.Sound.{HasPointers, IsWithinWindow}
use Rattle.bc_opening.specs.Choices.{AreOldest}
use Rattle.bc_opening.specs.Read.{version_at, version_by}
use Rattle.bc_recover.specs.Known.{AreKnown}

-- the version that the oldest generation of a key into the bucket stands for
abbrev pub last_gc_at : Geometry → Gens → Buckets → ℕ → ℕ
last_gc_at g gens buckets q =
    version_by (version_at g gens q) (bucket_of buckets (back g q)).last_gc

-- Generations that were found to be the oldest are at most those of all keys, and none lies too far
-- back.
abbrev pub LawOldest : Type 0
LawOldest =
    (g : Geometry) (size : ℕ) (r : Reading) (buckets : Buckets) → AreKnown g r buckets
    → length r.gens.records ≡ g.nbuckets → HasPointers g size r → IsWithinWindow g r
    → AreOldest g r (last_gc_at g r.gens buckets)
