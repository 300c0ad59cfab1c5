-- A pair that is closed.
use Rattle.std.specs.Prelude.{◌≡◌, ◌⊎◌, Any}
use Rattle.bc_bucket.specs.Buckets.{Buckets}
use Rattle.bc_bucket.specs.declared.bucket.Mark.TheVariants as marks
use Rattle.bc_disk.specs.Device.{next_count}
use Rattle.bc_disk.specs.Disk.{DiskFacts, IsSettled}
use Rattle.bc_state.specs.State.{super_in}
use Rattle.bc_super.specs.Writing.{IsBackingStored, count_after}
use Rattle.bc_super.specs.declared.backing.BackingSuper.{BackingSuper}
use Rattle.bc_super.specs.declared.state.BackingState.{BackingState}
use Rattle.bc_super.specs.declared.state.BackingState.TheVariants as states

-- some bucket has data that is all that there is of it
abbrev pub HasDirty : Buckets → Type 0
HasDirty b = Any (λ r. r.mark ≡ marks.Dirty) b.records

-- what a closing may make the device say: that no bucket has such data, where none has
abbrev pub IsCleanOf : Buckets → BackingState → Type 0
IsCleanOf buckets state = (state ≡ states.Clean) × ¬ (HasDirty buckets)

-- What the device holds is stable. Where no bucket has such data it says so, and nothing is written
-- where some has.
abbrev pub IsClosed : BackingSuper → Buckets → DiskFacts → DiskFacts → Type 0
IsClosed b buckets old new =
    (HasDirty buckets × IsSettled old new × (new.calls ≡ next_count old.calls))
    ⊎ (¬ (HasDirty buckets) × IsBackingStored (super_in states.Clean b) old new
    × (new.calls ≡ count_after 3 old.calls))
