-- The marks of buckets in memory, as the machine has them.
use Rattle.std.specs.Prelude.{ℕ, nat_lt, if◌then◌else◌}
use Rattle.bc_books.specs.Marks as books
use Rattle.bc_bucket.specs.Buckets.{Buckets, bucket_of}
use Rattle.bc_bucket.specs.declared.bucket.Mark.{Mark}
use Rattle.bc_bucket.specs.declared.bucket.Mark.TheVariants as marks
use Rattle.bc_disk.specs.declared.geometry.Geometry.{Geometry}
use Rattle.bc_facts.specs.Reads.{back}
use Rattle.bc_image.specs.Reading.{Reading}
use Rattle.bc_image.specs.Sound.{HasOneUse, HasPointers}
use Rattle.bc_opening.specs.Choices.{AreMarks}
use Rattle.bc_recover.specs.Known.{AreKnown}

abbrev pub mark_of : Mark → books.Mark
mark_of marks.None = books.Unmarked
mark_of marks.Reclaimable = books.Reclaimable
mark_of marks.Dirty = books.Dirtied
mark_of marks.Metadata = books.Metadata

-- by the bucket's own mark; what is no bucket of the device is never raised
abbrev pub mark_at : Geometry → Buckets → ℕ → books.Mark
mark_at g buckets q =
    if nat_lt (back g q) g.nbuckets then mark_of (bucket_of buckets (back g q)).mark
    else books.Metadata

-- Marks by all keys forbid what must not be raised.
abbrev pub LawMarks : Type 0
LawMarks =
    (g : Geometry) (size : ℕ) (r : Reading) (buckets : Buckets) → AreKnown g r buckets
    → HasOneUse g r → HasPointers g size r → AreMarks g r (mark_at g buckets)
