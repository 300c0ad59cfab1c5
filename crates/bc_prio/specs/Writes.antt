-- The writes of a chain of sets.
use Rattle.std.specs.Prelude.{◌≡◌, ◌⊎◌, ℕ, suc, ◌*◌, List, [], ◌∷◌, slice_index, Result, Ok, IsOk, IsErr}
use Rattle.bc_model.specs.Sector.{values_of}
use Rattle.bc_disk.specs.Disk.{DiskFacts, IsWritten, IsFailedWrite, IsCounted}
use Rattle.bc_disk.specs.declared.disk.Failed.{Failed}
use Rattle.bc_disk.specs.declared.geometry.Geometry.{Geometry}
use Rattle.bc_disk.specs.declared.gens.BucketRecord.{BucketRecord}
use Rattle.bc_prio.specs.Set.{IsWrittenSet}

-- what a good call answers
abbrev pub good : Result (Unit {0}) Failed
good = Ok tt

-- The sets from this part on are written into these buckets, one after another and each by one call, until a write fails. Each set names
-- the bucket behind its own, and the last one names none.
abbrev pub WritesSets : {D : Type 0} → (D → DiskFacts) → Geometry → List BucketRecord → Result (Unit {0}) Failed → ℕ → List ℕ → D → D → Type 0
WritesSets facts g records answer part [] old new = IsOk answer × (new ≡ old)
WritesSets {D = D} facts g records answer part (bucket ∷ into) old new =
    (bytes : List ℕ) × IsWrittenSet g records part (slice_index into 0) bytes
    × ((IsErr answer × IsFailedWrite (g.bucket * bucket) (values_of bytes) (facts old) (facts new) × IsCounted answer (facts old) (facts new))
    ⊎ ((next : D) × IsWritten (g.bucket * bucket) (values_of bytes) (facts old) (facts next) × IsCounted good (facts old) (facts next)
    × WritesSets facts g records answer (suc part) into next new))
