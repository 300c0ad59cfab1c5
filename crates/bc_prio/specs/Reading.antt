-- What one more set of a chain says.
use Rattle.std.specs.Prelude.{◌≡◌, ℕ, ◌*◌, ◌<◌, List, [], ◌∷◌, ◌++◌, length, slice_index_or}
use Rattle.bc_disk.specs.Disk.{DiskFacts}
use Rattle.bc_disk.specs.Gens.{Gens}
use Rattle.bc_disk.specs.declared.geometry.Geometry.{Geometry}
use Rattle.bc_disk.specs.declared.gens.BucketRecord.{BucketRecord}
use Rattle.bc_disk.specs.Chain.{records_in_set}
use Rattle.bc_prio.specs.Set.{IsSet, HoldsPart, next_in}
use Rattle.bc_prio.specs.Chain.{IsInBucket}
use Rattle.bc_prio.specs.Refusal.{IsFresh}

-- the set in bucket `at` follows those of the chain so far, and names the next one; its records came in, and those of the sets before stayed
pub record ReadsNext (g : Geometry) (d : DiskFacts) (at : ℕ) (old new : Gens) (next : ℕ) : Type 0 where
  pub fresh : IsFresh g old.chain at
  pub set : (bytes : List ℕ) × IsInBucket g d at bytes × IsSet g (length old.chain) bytes × HoldsPart g new.records (length old.chain) bytes × (next ≡ next_in bytes)
  pub before : (k : ℕ) (d : BucketRecord) → k < length old.chain * records_in_set g → slice_index_or new.records k d ≡ slice_index_or old.records k d
  pub records : length new.records ≡ length old.records
  pub chain : new.chain ≡ old.chain ++ at ∷ []
