use Rattle.std.proofs.Common.{ℕ, ◌<◌, slice_index_or}
use Rattle.bc_uuid.specs.declared.entry.UuidEntry.{UuidEntry}
use Rattle.bc_uuid.specs.Entry.{IsWrittenEntry}
use Rattle.bc_uuid.specs.Table.{entry_bytes}
use Rattle.bc_uuid.proofs.table.encode_all.Given as goal

abbrev pub invariant-loop-i : goal.invariant-loop-i
invariant-loop-i l = (k : ℕ) → k < l.i → (d : UuidEntry) → IsWrittenEntry (entry_bytes l.bytes k) (slice_index_or l.entries k d)
