use Rattle.std.proofs.Common.{◌≡◌, length}
use Rattle.bc_uuid.specs.Table.{HoldsEntries}
use Rattle.bc_uuid.proofs.table.decode_all.Given as goal

abbrev pub invariant-loop-i : goal.invariant-loop-i
invariant-loop-i l = record {
  many : length l.entries.items ≡ l.i;
  holds : HoldsEntries l.bytes l.entries.items;
}
