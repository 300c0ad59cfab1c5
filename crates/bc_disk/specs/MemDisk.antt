-- What a `MemDisk` is seen as: by itself, and as any disk.
use Rattle.bc_disk.specs.Disk.{DiskFacts, IsHonest}
use Rattle.bc_disk.specs.Memory.{Memory, facts_of}
use Rattle.bc_disk.specs.Kept.{honest_memory}
use Rattle.bc_disk.specs.declared.mem_disk.MemDisk.{MemDisk}

abbrev pub memory : MemDisk → Memory
memory d = record { bytes = d.seen.items; stable = d.stable.items; written = d.log.items; room = d.room; calls = d.calls }

abbrev pub as_disk : MemDisk → DiskFacts
as_disk d = facts_of (memory d)

-- what it keeps makes it honest
pub as_disk_is_honest : (d : MemDisk) → IsHonest (as_disk d)
as_disk_is_honest d = honest_memory (memory d) d.small d.kept
