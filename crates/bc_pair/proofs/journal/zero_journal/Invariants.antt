use Rattle.std.proofs.Common.{◌≡◌, ◌*◌}
use Rattle.bc_super.specs.Writing.{count_after}
use Rattle.bc_pair.specs.Runs.{over, zeros}
use Rattle.bc_pair.specs.Found.{IsJournalSector}
use Rattle.bc_pair.specs.Steps.{Becomes, WritesOnly}
use Rattle.bc_pair.proofs.journal.zero_journal.Given as goal

abbrev pub invariant-loop-i : goal.invariant-loop-i
invariant-loop-i g l = record {
  becomes : Becomes (over (l.g.bucket * l.g.first_bucket) (zeros (l.g.bucket * l.i))) (g.C.Disk.facts l.initial.cache) (g.C.Disk.facts l.cache);
  others : WritesOnly (IsJournalSector l.g) (g.C.Disk.facts l.initial.cache) (g.C.Disk.facts l.cache);
  calls : (g.C.Disk.facts l.cache).calls ≡ count_after l.i (g.C.Disk.facts l.initial.cache).calls;
  faults : (g.C.Disk.facts l.cache).faults ≡ (g.C.Disk.facts l.initial.cache).faults;
}
