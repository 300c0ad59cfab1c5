-- What a `Gens` is seen as.
use Rattle.std.specs.Prelude.{ℕ, List}
use Rattle.bc_disk.specs.declared.gens.BucketRecord.{BucketRecord}

pub record Gens : Type 0 where
  -- the record of each bucket, by its number
  pub records : List BucketRecord
  -- the buckets of the chain, in order
  pub chain : List ℕ
