use Rattle.std.proofs.Common.{◌≡◌, ◌<◌, length}
use Rattle.bc_jset.specs.declared.entry.JEntry.{JEntry}
use Rattle.bc_jset.specs.EntryBytes.{IsEntry}
use Rattle.bc_records_bench.proofs.records.read_entries.Given as goal

abbrev pub invariant-loop-round : goal.invariant-loop-round
invariant-loop-round l = 0 < l._round → (e : JEntry) × IsEntry 1 l.bytes e × (l.keys ≡ length e.keys)
