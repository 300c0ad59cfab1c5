-- What a disk over a file tells.
use Rattle.std.specs.Prelude.{ℕ, ◌/◌, ◌^◌, min, None}
use Rattle.bc_disk.specs.Disk.{DiskFacts, IsHonest}
use Rattle.bc_file.specs.declared.counts.Counts.{Counts}
use Rattle.bc_file.specs.declared.file_disk.FileDisk.{FileDisk}

-- the whole sectors in so many bytes, of which no more are used than a disk may have
abbrev pub sectors_in : ℕ → ℕ
sectors_in bytes = min (bytes / 512) (2 ^ 41)

abbrev pub sectors : FileDisk → ℕ
sectors d = d.sectors

abbrev pub counts : FileDisk → Counts
counts d = d.counts

-- as a disk: it doesn't tell what it holds, and a crash may leave any image
abbrev pub as_disk : FileDisk → DiskFacts
as_disk d = record { sectors = d.sectors; holds = None; may_leave = λ _. Unit {0}; calls = d.counts.calls; faults = d.counts.faults }

pub as_disk_is_honest : (d : FileDisk) → IsHonest (as_disk d)
as_disk_is_honest d = record { size = d.small; possible = tt }
