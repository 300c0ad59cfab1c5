-- From what the machine says back to the device.
use Rattle.std.specs.Prelude.{ℕ, ◌+◌, List, map}
use Rattle.bc_disk.specs.declared.geometry.Geometry.{Geometry}
use Rattle.bc_meta.specs.Chain.{bytes_of}
use Rattle.bc_disk.specs.declared.gens.BucketRecord.{BucketRecord}

-- the number of a bucket that the machine counts from the journal's first one on
abbrev pub back : Geometry → ℕ → ℕ
back g q = g.first_bucket + q

-- the generations of the buckets, as bytes
abbrev pub gens_of : List BucketRecord → List ℕ
gens_of records = bytes_of (map (λ r. r.generation) records)
